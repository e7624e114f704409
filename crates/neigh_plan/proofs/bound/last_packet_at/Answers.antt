use Rattle.std.proofs.Common.{ℕ, max, ◌∙◌, ap}
use Rattle.neigh_run.specs.Plan.{send_at}
use Rattle.neigh_plan.proofs.Bounds.{greatest_more}
use Rattle.neigh_plan.proofs.bound.last_packet_at.Goals as goal

pub loop-item-preserved : goal.loop-item-preserved
loop-item-preserved c =
    c.max-last.ensures ∙ ap (λ (m : ℕ). max m c.loop-item.last) c.millis.ensures
    ∙ greatest_more send_at c.args.items.now c.loop-item.item-index c.loop-item.last c.item-item.result c.loop-item-test.true c.item-item.is c.loop-item.invariant
