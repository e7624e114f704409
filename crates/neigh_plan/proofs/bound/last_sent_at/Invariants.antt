-- The greatest moment so far.
use Rattle.std.proofs.Common.{◌≡◌, take, map}
use Rattle.std.specs.Prelude.{flat_map}
use Rattle.neigh_run.specs.Plan.{send_at}
use Rattle.neigh_plan.specs.Inline.{greatest_of}
use Rattle.neigh_plan.proofs.bound.last_sent_at.Given as goal

abbrev pub invariant-loop-items : goal.invariant-loop-items
invariant-loop-items l = l.last ≡ greatest_of (flat_map (map send_at) (take l.items-index l.senders))
