use Rattle.nud_machine.proofs.Rises.{timer_moves_the_due}
use Rattle.nud_machine.proofs.laws.every_timer_moves_the_due.Goals as goal

pub returns : goal.returns
returns c = timer_moves_the_due
