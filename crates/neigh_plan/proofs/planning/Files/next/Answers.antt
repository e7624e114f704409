-- The next step by what stands first on the two sides.
use Rattle.std.proofs.Common.{sym, ◌∙◌}
use Rattle.neigh_plan.proofs.Items.{next_record_alone, next_is_line, next_is_record}
use Rattle.neigh_plan.proofs.planning.Files.next.Goals as goal

pub returns-in_default-split_first-clause-value : goal.returns-in_default-split_first-clause-value
returns-in_default-split_first-clause-value c = next_record_alone _ _ _ _ _ _ c.in_default-split_first.ensures.cases c.in-Some.ensures.cases.0 c.requires

pub returns-then-goes_first-clause-value : goal.returns-then-goes_first-clause-value
returns-then-goes_first-clause-value c = next_is_line _ _ _ _ _ _ _ _ c.in-Some-split_first.ensures.cases.0 c.in-Some.ensures.cases.0 (sym c.goes_first.ensures ∙ c.if-goes_first.true) c.requires

pub returns-else-goes_first-clause-value : goal.returns-else-goes_first-clause-value
returns-else-goes_first-clause-value c = next_is_record _ _ _ _ _ _ _ _ c.in-Some-split_first.ensures.cases.0 c.in-Some.ensures.cases.0 (sym c.goes_first.ensures ∙ c.if-goes_first.false) c.requires
