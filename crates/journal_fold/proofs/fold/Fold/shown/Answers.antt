use Rattle.std.proofs.Common.{sym, ap}
use Rattle.nud_machine.specs.State.{State}
use Rattle.nb_journal.proofs.Counts.{state_of-unknown}
use Rattle.journal_fold.specs.Touched.{shown_of}
use Rattle.journal_fold.proofs.fold.Fold.shown.Goals as goal

pub returns-in-None : goal.returns-in-None
returns-in-None c = ap (λ (s : State). shown_of s) (sym (state_of-unknown c.args.self.now.params c.args.self.now.lines c.args.key.now (sym c.in-None.ensures.known)))
