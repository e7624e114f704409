use Rattle.run_evidence.proofs.Ended.{shows_ends}
use Rattle.run_evidence.proofs.laws.evidence_shows_ends.Goals as goal

pub returns : goal.returns
returns c = shows_ends
