use Rattle.hh_core.proofs.Orders.{safe_step}
use Rattle.hh_core.proofs.laws.safe_step.Goals as goal

pub returns : goal.returns
returns c = safe_step
