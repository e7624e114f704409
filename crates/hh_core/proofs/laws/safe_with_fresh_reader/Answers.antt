use Rattle.hh_core.proofs.Resting.{safe_with_fresh_reader}
use Rattle.hh_core.proofs.laws.safe_with_fresh_reader.Goals as goal

pub returns : goal.returns
returns c = safe_with_fresh_reader
