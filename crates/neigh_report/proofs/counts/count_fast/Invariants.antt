use Rattle.std.proofs.Common.{◌≡◌, ◌≤◌, take, length}
use Rattle.std.specs.Prelude.{filter}
use Rattle.neigh_run.specs.Report.{is_fast}
use Rattle.neigh_report.proofs.counts.count_fast.Given as goal

abbrev pub invariant-loop-outcome : goal.invariant-loop-outcome
invariant-loop-outcome l = record {
  few : l.count ≤ l.outcome-index;
  counts : l.count ≡ length (filter is_fast (take l.outcome-index l.log));
}
