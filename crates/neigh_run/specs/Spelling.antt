-- How a report spells the parts of its lines.
use Rattle.std.specs.Prelude.{ℕ, Bool, ◌==◌, if◌then◌else◌, List, [], ◌∷◌, ◌++◌, Option, Some, None, codes, decimal}
use Rattle.nb_base.specs.declared.mac.Mac.{Mac}
use Rattle.nb_base.specs.declared.key.Key.TheVariants.{V6}
use Rattle.nb_base.specs.declared.host.Host.{Host}
use Rattle.nb_base.specs.declared.time.OpId.{OpId}
use Rattle.nb_base.specs.declared.nud.Nud.{Nud}
use Rattle.nb_base.specs.declared.nud.Nud.TheVariants as nud
use Rattle.nb_base.specs.declared.op.Op.{Op}
use Rattle.nb_base.specs.declared.op.Op.TheVariants as op
use Rattle.nb_base.specs.declared.line.Reply.{Reply}
use Rattle.nb_base.specs.declared.line.Reply.TheVariants as reply
use Rattle.nb_base.specs.declared.plan.Mode.{Mode}
use Rattle.nb_base.specs.declared.plan.Mode.TheVariants as mode
use Rattle.nb_base.specs.declared.host_line.Class.{Class}
use Rattle.nb_base.specs.declared.host_line.Class.TheVariants as class
use Rattle.nb_base.specs.declared.host_line.Placed.{Placed}
use Rattle.nb_base.specs.Address.{mac_text, ip4_text, key_text}
use Rattle.nud_machine.specs.declared.act.Cause.{Cause}
use Rattle.nud_machine.specs.declared.act.Cause.TheVariants as cause
use Rattle.text_codes.specs.Lines.{Words}

abbrev pub dash : List ℕ
dash = codes "-"

abbrev pub mode_word : Mode → List ℕ
mode_word mode.Inline = codes "inline"
mode_word mode.Threads = codes "threads"

abbrev pub inet_words : Option ℕ → Words
inet_words None = []
inet_words (Some n) = codes "inet" ∷ ip4_text n ∷ []

abbrev pub inet6_words : Option ℕ → Words
inet6_words None = []
inet6_words (Some n) = codes "inet6" ∷ key_text (V6 n) ∷ []

-- the host's line, as in the script
abbrev pub host_words : Host → Words
host_words h = codes "host" ∷ codes "dev" ∷ h.dev ∷ codes "lladdr" ∷ mac_text h.mac ∷ (inet_words h.ip4 ++ inet6_words h.ip6)

-- a state in an operation
abbrev pub state_word : Nud → List ℕ
state_word nud.None = codes "none"
state_word nud.Incomplete = codes "incomplete"
state_word nud.Reachable = codes "reachable"
state_word nud.Stale = codes "stale"
state_word nud.Delay = codes "delay"
state_word nud.Probe = codes "probe"
state_word nud.Failed = codes "failed"
state_word nud.Noarp = codes "noarp"
state_word nud.Permanent = codes "permanent"

-- a state of an entry
abbrev pub state_name : Nud → List ℕ
state_name nud.None = codes "NONE"
state_name nud.Incomplete = codes "INCOMPLETE"
state_name nud.Reachable = codes "REACHABLE"
state_name nud.Stale = codes "STALE"
state_name nud.Delay = codes "DELAY"
state_name nud.Probe = codes "PROBE"
state_name nud.Failed = codes "FAILED"
state_name nud.Noarp = codes "NOARP"
state_name nud.Permanent = codes "PERMANENT"

-- an address, or `-` where there is none
abbrev pub mac_word : Option Mac → List ℕ
mac_word None = dash
mac_word (Some mac) = mac_text mac

-- a flag's letter, or `-` where it is clear
abbrev pub flag : Bool → ℕ → ℕ
flag set letter = if set then letter else 45

abbrev pub op_words : Op → Words
op_words (op.Send key len) = codes "send" ∷ key_text key ∷ []
op_words (op.Arp key mac make solicited) = codes "arp" ∷ key_text key ∷ mac_text mac ∷ (if make then codes "make" else codes "keep") ∷ (if solicited then codes "reachable" else codes "stale") ∷ []
op_words (op.Ns key mac) = codes "ns" ∷ key_text key ∷ mac_text mac ∷ []
op_words (op.Na key mac router solicited overrides) = codes "na" ∷ key_text key ∷ mac_word mac ∷ (flag router 114 ∷ flag solicited 115 ∷ flag overrides 111 ∷ []) ∷ []
op_words (op.Add key mac nud) = codes "add" ∷ key_text key ∷ mac_word mac ∷ state_word nud ∷ []
op_words (op.Change key mac nud) = codes "change" ∷ key_text key ∷ mac_word mac ∷ state_word nud ∷ []
op_words (op.Replace key mac nud) = codes "replace" ∷ key_text key ∷ mac_word mac ∷ state_word nud ∷ []
op_words (op.Del key) = codes "del" ∷ key_text key ∷ []
op_words (op.Confirm key) = codes "confirm" ∷ key_text key ∷ []
op_words op.Show = codes "show" ∷ []
op_words op.Flush = codes "flush" ∷ []
op_words (op.Timer key) = codes "timer" ∷ key_text key ∷ []
op_words op.Sweep = codes "sweep" ∷ []
op_words (op.Collect key) = codes "collect" ∷ key_text key ∷ []

abbrev pub id_text : OpId → List ℕ
id_text id = decimal id.0

-- an id, or `-` for a bucket's own line
abbrev pub id_word : Option OpId → List ℕ
id_word None = dash
id_word (Some id) = id_text id

-- how many packets were dropped for the one that waits, where any were
abbrev pub dropping_words : ℕ → Words
dropping_words dropped = if dropped == 0 then [] else codes "dropping" ∷ decimal dropped ∷ []

abbrev pub reply_words : Reply → Words
reply_words reply.Sent = codes "sent" ∷ []
reply_words (reply.Waits dropped) = codes "waits" ∷ dropping_words dropped
reply_words reply.NoProbes = codes "noprobes" ∷ []
reply_words (reply.Full seen) = codes "full" ∷ decimal seen ∷ []
reply_words reply.Done = codes "done" ∷ []
reply_words reply.Exists = codes "exists" ∷ []
reply_words reply.Missing = codes "missing" ∷ []
reply_words reply.NoAddress = codes "noaddress" ∷ []
reply_words reply.Ignored = codes "ignored" ∷ []
reply_words (reply.Counted n) = codes "counted" ∷ decimal n ∷ []

-- a reply, or `-` for a bucket's own line
abbrev pub reply_part : Option Reply → Words
reply_part None = dash ∷ []
reply_part (Some r) = reply_words r

abbrev pub cause_word : Cause → List ℕ
cause_word cause.QueueFull = codes "queuefull"
cause_word cause.NoProbes = codes "noprobes"
cause_word cause.Unresolved = codes "unresolved"
cause_word cause.Removed = codes "removed"
cause_word cause.TableFull = codes "tablefull"

abbrev pub class_word : Class → List ℕ
class_word class.Short = codes "short"
class_word class.Own = codes "own"
class_word class.Foreign = codes "foreign"
class_word class.BadArp = codes "badarp"
class_word class.Arp = codes "arp"
class_word (class.NdBad check) = codes "ndbad" ++ decimal check
class_word class.Nd = codes "nd"
class_word class.Other = codes "other"

-- where an operation stands, and its reply
abbrev pub placed_words : Placed → Words
placed_words p = codes "op" ∷ decimal p.bucket ∷ decimal p.place ∷ reply_words p.reply
