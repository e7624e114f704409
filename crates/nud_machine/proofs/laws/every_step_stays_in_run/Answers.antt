use Rattle.nud_machine.proofs.Rises.{step_stays_in_run}
use Rattle.nud_machine.proofs.laws.every_step_stays_in_run.Goals as goal

pub returns : goal.returns
returns c = step_stays_in_run
