use Rattle.hh_core.proofs.Orders.{published_stays}
use Rattle.hh_core.proofs.laws.published_stays.Goals as goal

pub returns : goal.returns
returns c = published_stays
