use Rattle.std.proofs.Common.{◌≡◌, ◌≤◌, take, length}
use Rattle.std.specs.Prelude.{filter}
use Rattle.journal_fold.specs.Kept.{is_loose}
use Rattle.journal_fold.proofs.counts.count_loose.Given as goal

abbrev pub invariant-loop-one : goal.invariant-loop-one
invariant-loop-one l = record {
  few : l.count ≤ l.one-index;
  counts : l.count ≡ length (filter is_loose (take l.one-index l.kept));
}
