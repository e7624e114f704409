use Rattle.hh_core.proofs.Orders.{good_try}
use Rattle.hh_core.proofs.laws.good_try.Goals as goal

pub returns : goal.returns
returns c = good_try
