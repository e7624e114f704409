use Rattle.run_evidence.proofs.Whole.{shows_run}
use Rattle.run_evidence.proofs.laws.evidence_shows_a_run.Goals as goal

pub returns : goal.returns
returns c = shows_run c.evidence_shows_order.ensures
