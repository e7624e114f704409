use Rattle.nud_machine.proofs.Rises.{new_due_is_ahead}
use Rattle.nud_machine.proofs.laws.every_new_due_is_ahead.Goals as goal

pub returns : goal.returns
returns c = new_due_is_ahead
