-- The packets so far have their lines.
use Rattle.std.proofs.Common.{◌≡◌, take}
use Rattle.neigh_run.specs.Merged.{sender_ops}
use Rattle.neigh_plan.specs.Merging.{lines_of}
use Rattle.neigh_plan.proofs.merging.sender_lines.Given as goal

abbrev pub invariant-loop-place : goal.invariant-loop-place
invariant-loop-place l = l.lines ≡ lines_of (sender_ops l.participant 1 (take l.place l.items))
