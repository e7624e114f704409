use Rattle.hh_core.proofs.GoodTries.{try_of_a_run}
use Rattle.hh_core.proofs.laws.try_of_a_run.Goals as goal

pub returns : goal.returns
returns c = try_of_a_run
