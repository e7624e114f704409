-- What the code keeps, as the machine's definitions see it.
use Rattle.std.specs.Prelude.{List, Option}
use Rattle.nb_base.specs.declared.mac.Mac.{Mac}
use Rattle.nb_base.specs.declared.nud.Nud.{Nud}
use Rattle.nb_queues.specs.Queue.{Packet}
use Rattle.nud_machine.specs.declared.entry.Entry.{Entry}
use Rattle.nud_machine.specs.declared.act.Act.{Act}
use Rattle.nud_machine.specs.declared.news.News.{News}
use Rattle.nud_machine.specs.declared.news.Rule as code
use Rattle.nud_machine.specs.declared.news.Rule.TheVariants as code_rule
use Rattle.nud_machine.specs.State.{State, Stepped}
use Rattle.nud_machine.specs.Update.{Manner, Rule, SetByHand, NoAddress, MayNotReplace, NothingNew, IsTaken}

-- an entry beside its queue
abbrev pub state_of : Entry → List Packet → State
state_of entry waiting = record { entry = entry; waiting = waiting }

-- an entry, its queue and the list of acts
abbrev pub stepped : Entry → List Packet → List Act → Stepped
stepped entry waiting acts = record { state = state_of entry waiting; acts = acts }

-- news of an address and a state, meant so
abbrev pub news_of : Option Mac → Nud → Manner → News
news_of mac nud how = record { mac = mac; nud = nud; overrides = how.overrides; weak = how.weak; admin = how.admin }

-- how news are meant
abbrev pub manner_of : News → Manner
manner_of news = record { overrides = news.overrides; weak = news.weak; admin = news.admin }

-- the rule of an update that the code names so
abbrev pub rule_named : code.Rule → Rule
rule_named code_rule.SetByHand = SetByHand
rule_named code_rule.NoAddress = NoAddress
rule_named code_rule.MayNotReplace = MayNotReplace
rule_named code_rule.NothingNew = NothingNew
rule_named code_rule.IsTaken = IsTaken
