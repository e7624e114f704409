use Rattle.run_texts.proofs.ThreadedWritable.{threaded_writable}
use Rattle.run_texts.proofs.laws.threaded_runs_are_writable.Goals as goal

pub returns : goal.returns
returns c = threaded_writable
