use Rattle.std.proofs.Common.{sym, ap}
use Rattle.nud_machine.specs.State.{State}
use Rattle.nb_journal.proofs.Counts.{state_of-unknown}
use Rattle.nb_bucket.proofs.order.is_present.Goals as goal

pub returns-in-None : goal.returns-in-None
returns-in-None c = sym (ap (λ (s : State). s.entry.present) (state_of-unknown c.args.fold.now.params c.args.fold.now.lines c.args.key.now (sym c.in-None.ensures.known)))
