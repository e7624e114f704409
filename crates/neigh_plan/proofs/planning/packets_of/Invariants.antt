-- What has been gone over is taken.
use Rattle.std.proofs.Common.{◌≡◌, take}
use Rattle.neigh_run.specs.Plan.{sends_of}
use Rattle.neigh_plan.proofs.planning.packets_of.Given as goal

abbrev pub invariant-loop-item : goal.invariant-loop-item
invariant-loop-item l = l.items ≡ sends_of l.number (take l.item-index l.script)
