use Rattle.std.proofs.Common.{subst}
use Rattle.nb_bucket.specs.Bucket.{Journal}
use Rattle.nb_bucket.specs.Keeps.{IsNextSweep}
use Rattle.nb_bucket.proofs.bucket.Bucket.next_sweep.Goals as goal

pub returns : goal.returns
returns c = subst (λ (j : Journal). IsNextSweep j.params j.lines j.clock c.self.inside.next_sweep) c.self.view_is c.self.invariant.follows.next
