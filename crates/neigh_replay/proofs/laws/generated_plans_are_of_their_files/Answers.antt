use Rattle.neigh_replay.proofs.GeneratedPlans.{plans_of_files}
use Rattle.neigh_replay.proofs.laws.generated_plans_are_of_their_files.Goals as goal

pub returns : goal.returns
returns c = plans_of_files
