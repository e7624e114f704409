use Rattle.run_evidence.proofs.FromTokens.{calls_are_evidence, meetings_are_evidence, meetings_join, agreement_is_evidence, passes_are_evidence}
use Rattle.run_evidence.proofs.laws.tokens_tell_evidence.Goals as goal

pub returns-clause-calls : goal.returns-clause-calls
returns-clause-calls c = calls_are_evidence

pub returns-clause-meetings : goal.returns-clause-meetings
returns-clause-meetings c = meetings_are_evidence

pub returns-clause-join : goal.returns-clause-join
returns-clause-join c = meetings_join

pub returns-clause-agreement : goal.returns-clause-agreement
returns-clause-agreement c = agreement_is_evidence

pub returns-clause-passes : goal.returns-clause-passes
returns-clause-passes c = passes_are_evidence
