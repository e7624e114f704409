use Rattle.change_order.proofs.Calls.{calls_give_order as law}
use Rattle.change_order.proofs.laws.calls_give_one_order.Goals as goal

pub returns : goal.returns
returns c = law
