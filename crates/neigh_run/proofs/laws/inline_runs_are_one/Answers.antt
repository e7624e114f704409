use Rattle.neigh_run.proofs.OneRun.{runs_are_one}
use Rattle.neigh_run.proofs.laws.inline_runs_are_one.Goals as goal

pub returns : goal.returns
returns c = runs_are_one
