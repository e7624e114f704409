-- The greatest moment so far.
use Rattle.std.proofs.Common.{◌≡◌, take, map}
use Rattle.neigh_run.specs.Plan.{control_at}
use Rattle.neigh_plan.specs.Inline.{greatest_of}
use Rattle.neigh_plan.proofs.bound.last_given_at.Given as goal

abbrev pub invariant-loop-item : goal.invariant-loop-item
invariant-loop-item l = l.last ≡ greatest_of (map control_at (take l.item-index l.items))
