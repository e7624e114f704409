use Rattle.std.proofs.Common.{◌≡◌, take}
use Rattle.nb_journal.specs.Fold.{state_of}
use Rattle.nb_journal.specs.Steps.{IsKept, state_in}
use Rattle.journal_check.proofs.states.state_behind.Given as goal

abbrev pub invariant-loop-line : goal.invariant-loop-line
invariant-loop-line l = record {
  kept : IsKept l.params l.kept;
  state : state_in l.kept ≡ state_of l.params (take l.line-index l.lines) l.key;
}
