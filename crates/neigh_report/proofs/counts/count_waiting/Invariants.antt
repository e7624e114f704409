use Rattle.std.proofs.Common.{◌≡◌, ◌≤◌, ◌*◌, ◌^◌, take, length}
use Rattle.neigh_report.specs.Left.{waits}
use Rattle.neigh_report.proofs.counts.count_waiting.Given as goal

abbrev pub invariant-loop-number : goal.invariant-loop-number
invariant-loop-number l = record {
  few : l.count ≤ l.number * 2 ^ 64;
  counts : l.count ≡ length (waits (take l.number l.folds));
}
