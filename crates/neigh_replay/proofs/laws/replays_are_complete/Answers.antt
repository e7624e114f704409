use Rattle.neigh_replay.proofs.Replays.{replays_complete, scripts_complete}
use Rattle.neigh_replay.proofs.laws.replays_are_complete.Goals as goal

pub returns-clause-bound : goal.returns-clause-bound
returns-clause-bound c = replays_complete

pub returns-clause-scripts : goal.returns-clause-scripts
returns-clause-scripts c = scripts_complete
