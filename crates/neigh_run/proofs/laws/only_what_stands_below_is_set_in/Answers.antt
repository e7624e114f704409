use Rattle.neigh_run.proofs.SetIn.{only_below}
use Rattle.neigh_run.proofs.laws.only_what_stands_below_is_set_in.Goals as goal

pub returns : goal.returns
returns c = only_below
