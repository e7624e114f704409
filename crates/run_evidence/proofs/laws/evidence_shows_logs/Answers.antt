use Rattle.run_evidence.proofs.SenderRuns.{shows_logs}
use Rattle.run_evidence.proofs.laws.evidence_shows_logs.Goals as goal

pub returns : goal.returns
returns c = shows_logs
