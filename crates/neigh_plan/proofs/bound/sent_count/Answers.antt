use Rattle.std.proofs.Common.{ℕ, ◌+◌, ◌∙◌, ap, arith}
use Rattle.neigh_plan.proofs.Bounds.{sent_more, list_short}
use Rattle.neigh_plan.proofs.bound.sent_count.Goals as goal

pub loop-items-preserved : goal.loop-items-preserved
loop-items-preserved c =
    let short = list_short c.args.senders.now c.loop-items.items-index c.items-item.result c.requires.lists c.loop-items-test.true c.items-item.is in
    let few = c.loop-items.invariant.few in
    let long = c.len.ensures in
    record {
      counted = ap (λ (n : ℕ). c.loop-items.count + n) c.len.ensures ∙ sent_more c.args.senders.now c.loop-items.items-index c.loop-items.count c.items-item.result c.loop-items-test.true c.items-item.is c.loop-items.invariant.counted;
      few = omega (arith, short, few, long);
    }

pub overflow_add-count : goal.overflow_add-count
overflow_add-count c =
    let short = list_short c.args.senders.now c.loop-items.items-index c.items-item.result c.requires.lists c.loop-items-test.true c.items-item.is in
    let few = c.loop-items.invariant.few in
    let long = c.len.ensures in
    let last = c.loop-items-test.true in
    let most = c.requires.few in
    omega (arith, short, few, long, last, most)
