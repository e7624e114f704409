use Rattle.nud_machine.proofs.Order.{step_keeps_the_order}
use Rattle.nud_machine.proofs.laws.every_step_keeps_the_order.Goals as goal

pub returns : goal.returns
returns c = step_keeps_the_order
