use Rattle.run_texts.proofs.Texts.{threaded_runs_tell}
use Rattle.run_texts.proofs.laws.texts_tell_threaded_runs.Goals as goal

pub returns : goal.returns
returns c = threaded_runs_tell
