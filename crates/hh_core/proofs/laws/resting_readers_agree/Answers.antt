use Rattle.hh_core.proofs.Resting.{resting_readers_agree}
use Rattle.hh_core.proofs.laws.resting_readers_agree.Goals as goal

pub returns : goal.returns
returns c = resting_readers_agree
