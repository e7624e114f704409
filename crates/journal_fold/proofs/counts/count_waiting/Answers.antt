use Rattle.std.proofs.Common.{arith}
use Rattle.journal_fold.proofs.Removed.{waiting_next}
use Rattle.journal_fold.proofs.counts.count_waiting.Goals as goal

pub loop-one-preserved : goal.loop-one-preserved
loop-one-preserved c =
    let next = waiting_next c.args.kept.now c.loop-one.one-index c.one-item.result c.one-item.is c.loop-one-test.true in
    let within = c.len.ensures.within in
    let few = c.loop-one.invariant.few in
    record { few = omega (arith, within, few); counts = omega (arith, next, c.loop-one.invariant.counts, c.len.ensures.len) }
