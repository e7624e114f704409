use Rattle.hh_core.proofs.Resting.{tries_go_on}
use Rattle.hh_core.proofs.laws.tries_go_on.Goals as goal

pub returns : goal.returns
returns c = tries_go_on
