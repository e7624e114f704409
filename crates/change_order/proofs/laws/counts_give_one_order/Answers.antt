use Rattle.change_order.proofs.Placed.{one_order_of}
use Rattle.change_order.proofs.laws.counts_give_one_order.Goals as goal

pub returns : goal.returns
returns c = one_order_of
