use Rattle.std.proofs.Common.{arith}
use Rattle.neigh_report.proofs.LeftBehind.{present_more}
use Rattle.neigh_report.proofs.counts.count_present.Goals as goal

pub loop-number-preserved : goal.loop-number-preserved
loop-number-preserved c = record {
  few = omega (arith, c.loop-number.invariant.few, c.present.type_inv);
  counts = λ host. present_more host c.args.folds.now c.loop-number.number c.index-folds-number.result c.loop-number.count c.present.result (omega arith) c.index-folds-number.is (c.loop-number.invariant.counts host) c.present.ensures;
}
