-- The items so far have their lines.
use Rattle.std.proofs.Common.{◌≡◌, take}
use Rattle.neigh_run.specs.Control.{host_start}
use Rattle.neigh_run.specs.Merged.{control_ops}
use Rattle.neigh_plan.specs.Merging.{lines_of}
use Rattle.neigh_plan.proofs.merging.control_lines.Given as goal

abbrev pub invariant-loop-place : goal.invariant-loop-place
invariant-loop-place l = l.lines ≡ lines_of (control_ops l.plan host_start 1 (take l.place l.items))
