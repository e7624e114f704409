use Rattle.run_evidence.proofs.Closing.{gathered_is_a_run}
use Rattle.run_evidence.proofs.laws.gathered_tokens_show_a_run.Goals as goal

pub returns : goal.returns
returns c = gathered_is_a_run c.evidence_shows_a_run.ensures
