use Rattle.std.proofs.Common.{◌≡◌, ◌≤◌, take, length}
use Rattle.std.specs.Prelude.{filter}
use Rattle.nb_journal.specs.Fold.{is_present}
use Rattle.journal_check.proofs.states.count_present.Given as goal

abbrev pub invariant-loop-key : goal.invariant-loop-key
invariant-loop-key l = record {
  few : l.count ≤ l.key-index;
  counts : l.count ≡ length (filter (is_present l.params l.lines) (take l.key-index l.keys));
}
