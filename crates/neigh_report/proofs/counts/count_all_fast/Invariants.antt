use Rattle.std.proofs.Common.{◌≡◌, ◌≤◌, ◌*◌, ◌^◌, take, length}
use Rattle.std.specs.Prelude.{filter}
use Rattle.std.specs.List.{flat_map}
use Rattle.neigh_run.specs.Report.{is_fast}
use Rattle.neigh_report.proofs.counts.count_all_fast.Given as goal

abbrev pub invariant-loop-number : goal.invariant-loop-number
invariant-loop-number l = record {
  few : l.count ≤ l.number * 2 ^ 64;
  counts : l.count ≡ length (flat_map (filter is_fast) (take l.number l.logs));
}
