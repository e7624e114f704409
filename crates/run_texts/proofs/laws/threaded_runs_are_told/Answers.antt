use Rattle.run_texts.proofs.Threaded.{threaded_told}
use Rattle.run_texts.proofs.laws.threaded_runs_are_told.Goals as goal

pub returns : goal.returns
returns c = threaded_told
