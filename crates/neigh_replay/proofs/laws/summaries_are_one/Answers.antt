use Rattle.neigh_replay.proofs.GeneratedPlans.{one_summary}
use Rattle.neigh_replay.proofs.laws.summaries_are_one.Goals as goal

pub returns : goal.returns
returns c = one_summary
