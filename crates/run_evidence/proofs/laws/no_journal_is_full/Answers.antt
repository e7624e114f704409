use Rattle.run_evidence.proofs.Refused.{shown_go_on, no_journal_is_full}
use Rattle.run_evidence.proofs.laws.no_journal_is_full.Goals as goal

pub returns-clause-counted : goal.returns-clause-counted
returns-clause-counted c = shown_go_on

pub returns-clause-never : goal.returns-clause-never
returns-clause-never c = no_journal_is_full
