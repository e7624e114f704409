use Rattle.journal_counts.proofs.Joins.{counts_grow}
use Rattle.journal_counts.proofs.laws.counts_grow_by_calls.Goals as goal

pub returns : goal.returns
returns c = counts_grow
