use Rattle.hh_core.proofs.Orders.{safe_run}
use Rattle.hh_core.proofs.laws.safe_run.Goals as goal

pub returns : goal.returns
returns c = safe_run
