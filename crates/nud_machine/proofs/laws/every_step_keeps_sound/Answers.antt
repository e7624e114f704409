use Rattle.nud_machine.proofs.Keeps.{step_keeps_sound}
use Rattle.nud_machine.proofs.laws.every_step_keeps_sound.Goals as goal

pub returns : goal.returns
returns c = step_keeps_sound
