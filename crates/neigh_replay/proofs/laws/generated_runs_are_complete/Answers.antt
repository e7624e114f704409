use Rattle.neigh_replay.proofs.GeneratedRuns.{generated_complete}
use Rattle.neigh_replay.proofs.laws.generated_runs_are_complete.Goals as goal

pub returns : goal.returns
returns c = generated_complete
