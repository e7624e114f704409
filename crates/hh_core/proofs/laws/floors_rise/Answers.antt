use Rattle.hh_core.proofs.Orders.{floors_rise}
use Rattle.hh_core.proofs.laws.floors_rise.Goals as goal

pub returns : goal.returns
returns c = floors_rise
