-- The items so far are counted.
use Rattle.std.proofs.Common.{◌≡◌, ◌≤◌, take, length}
use Rattle.neigh_run.specs.Control.{host_start}
use Rattle.neigh_run.specs.Merged.{control_ops}
use Rattle.neigh_plan.proofs.bound.given_count.Given as goal

abbrev pub invariant-loop-item : goal.invariant-loop-item
invariant-loop-item l = record {
  counted : l.count ≡ length (control_ops l.plan host_start 1 (take l.item-index l.items));
  few : l.count ≤ l.item-index;
}
