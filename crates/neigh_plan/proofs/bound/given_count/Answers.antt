use Rattle.std.proofs.Common.{arith}
use Rattle.neigh_plan.proofs.Bounds.{given_more}
use Rattle.neigh_plan.proofs.bound.given_count.Goals as goal

pub loop-item-preserved : goal.loop-item-preserved
loop-item-preserved c =
    let few = c.loop-item.invariant.few in
    let one = c.count_of-count.ensures.one in
    record {
      counted = given_more c.args.plan.now c.args.items.now c.loop-item.item-index c.loop-item.count c.count_of-count.result c.item-item.result c.loop-item-test.true c.item-item.is c.loop-item.invariant.counted c.count_of-count.ensures.count;
      few = omega (arith, few, one);
    }
