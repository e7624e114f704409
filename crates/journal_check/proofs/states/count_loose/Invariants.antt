use Rattle.std.proofs.Common.{◌≡◌, ◌≤◌, take, length}
use Rattle.std.specs.Prelude.{filter}
use Rattle.nb_journal.specs.Fold.{is_loose, state_of}
use Rattle.journal_check.proofs.states.count_loose.Given as goal

abbrev pub invariant-loop-key : goal.invariant-loop-key
invariant-loop-key l = record {
  few : l.count ≤ l.key-index;
  counts : l.count ≡ length (filter (λ key. is_loose (state_of l.params l.lines key)) (take l.key-index l.keys));
}
