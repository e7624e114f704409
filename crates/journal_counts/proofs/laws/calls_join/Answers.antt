use Rattle.journal_counts.proofs.Joins.{calls_join_as}
use Rattle.journal_counts.proofs.laws.calls_join.Goals as goal

pub returns : goal.returns
returns c = calls_join_as
