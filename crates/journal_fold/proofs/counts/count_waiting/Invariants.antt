use Rattle.std.proofs.Common.{◌≡◌, ◌*◌, ◌≤◌, take}
use Rattle.journal_fold.specs.Removing.{number_waiting}
use Rattle.journal_fold.proofs.counts.count_waiting.Given as goal

abbrev pub invariant-loop-one : goal.invariant-loop-one
invariant-loop-one l = record {
  few : l.count ≤ 64 * l.one-index;
  counts : l.count ≡ number_waiting (take l.one-index l.kept);
}
