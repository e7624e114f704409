use Rattle.neigh_run.proofs.OneBucket.{sees-one}
use Rattle.neigh_run.proofs.laws.one_bucket_sees_itself.Goals as goal

pub returns : goal.returns
returns c = sees-one
