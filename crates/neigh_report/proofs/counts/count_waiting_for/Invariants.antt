use Rattle.std.proofs.Common.{◌≡◌, ◌≤◌, ◌*◌, ◌^◌, take, length}
use Rattle.neigh_report.specs.Left.{waiting_for}
use Rattle.neigh_report.proofs.counts.count_waiting_for.Given as goal

abbrev pub invariant-loop-one : goal.invariant-loop-one
invariant-loop-one l = record {
  few : l.count ≤ l.one-index * 2 ^ 32;
  counts : l.count ≡ length (waiting_for (take l.one-index l.kept));
}
