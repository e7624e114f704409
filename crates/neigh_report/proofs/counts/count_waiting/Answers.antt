use Rattle.std.proofs.Common.{arith}
use Rattle.neigh_report.proofs.LeftBehind.{short_at, waits_more, waits_fit}
use Rattle.neigh_report.proofs.counts.count_waiting.Goals as goal

pub overflow_add-count : goal.overflow_add-count
overflow_add-count c =
    let fold = c.index-folds-number.result in
    let few = short_at c.args.folds.now c.loop-number.number fold (omega arith) c.index-folds-number.is c.requires in
    let fits = waits_fit fold c.kept.result.now c.count_waiting_for-count.result few c.kept.ensures.states c.count_waiting_for-count.ensures.small in
    omega (arith, c.loop-number.invariant.few, fits, c.loop-number-test.true)

pub loop-number-preserved : goal.loop-number-preserved
loop-number-preserved c =
    let fold = c.index-folds-number.result in
    let few = short_at c.args.folds.now c.loop-number.number fold (omega arith) c.index-folds-number.is c.requires in
    let fits = waits_fit fold c.kept.result.now c.count_waiting_for-count.result few c.kept.ensures.states c.count_waiting_for-count.ensures.small in
    record {
      few = omega (arith, c.loop-number.invariant.few, fits);
      counts = waits_more c.args.folds.now c.loop-number.number fold c.kept.result.now c.loop-number.count c.count_waiting_for-count.result (omega arith) c.index-folds-number.is c.kept.ensures.states c.loop-number.invariant.counts c.count_waiting_for-count.ensures.value;
    }
