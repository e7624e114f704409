-- What the report's text asks of the plan's run.
use Rattle.neigh_replay.proofs.Steps.{run_has_text}
use Rattle.neigh_replay.proofs.replay.report_of_plan.Goals as goal

pub text-requires-clause-params : goal.text-requires-clause-params
text-requires-clause-params c = (run_has_text c.args.plan c.in_ok-run.run' c.requires c.in_ok-run.ensures.run c.in_ok-run.ensures.short).params

pub text-requires-clause-few : goal.text-requires-clause-few
text-requires-clause-few c = (run_has_text c.args.plan c.in_ok-run.run' c.requires c.in_ok-run.ensures.run c.in_ok-run.ensures.short).few

pub text-requires-clause-steps : goal.text-requires-clause-steps
text-requires-clause-steps c = (run_has_text c.args.plan c.in_ok-run.run' c.requires c.in_ok-run.ensures.run c.in_ok-run.ensures.short).steps
