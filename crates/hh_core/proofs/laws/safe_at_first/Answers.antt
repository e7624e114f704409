use Rattle.hh_core.proofs.Orders.{safe_at_first}
use Rattle.hh_core.proofs.laws.safe_at_first.Goals as goal

pub returns : goal.returns
returns c = safe_at_first
