use Rattle.std.proofs.Common.{arith}
use Rattle.nb_journal.proofs.Folds.{present_count-within}
use Rattle.nb_bucket.proofs.bucket.Bucket.present.Goals as goal

pub overflow_cast-result : goal.overflow_cast-result
overflow_cast-result c = let b = c.self.inside in let within = present_count-within b.fold.params b.fold.lines in omega (arith, within, c.present.ensures, c.self.invariant.follows.few, c.self.invariant.follows.most)

pub returns-clause-few : goal.returns-clause-few
returns-clause-few c = let b = c.self.inside in let within = present_count-within b.fold.params b.fold.lines in omega (arith, within, c.present.ensures, c.self.invariant.follows.few, c.self.invariant.follows.most)
