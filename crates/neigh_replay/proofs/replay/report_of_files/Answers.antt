use Rattle.neigh_replay.proofs.ScriptRuns.{plan_gives}
use Rattle.neigh_replay.proofs.replay.report_of_files.Goals as goal

pub returns : goal.returns
returns c = plan_gives c.args.window c.args.buckets c.args.text.now c.args.capture.now c.in_ok-plan.plan c.report_of_plan.result c.in_ok-plan.ensures c.report_of_plan.ensures
