use Rattle.run_evidence.proofs.Whole.{shows_order}
use Rattle.run_evidence.proofs.laws.evidence_shows_order.Goals as goal

pub returns : goal.returns
returns c = shows_order c.counts_give_one_order.ensures
