-- A script within its limits and a capture have a plan within its limits.
use Rattle.std.proofs.Common.{length}
use Rattle.neigh_run.specs.Plan.{plan_of}
use Rattle.neigh_plan.proofs.Items.{made_within}
use Rattle.neigh_plan.proofs.planning.plan.Goals as goal

pub returns-clause-within : goal.returns-clause-within
unfolding plan_of
returns-clause-within c = λ h. rw (c.in_ok-control_of_files.ensures, c.in_ok-senders_of.ensures, c.as_slice.ensures, c.as_slice-2.ensures, c.as_slice-3.ensures) (made_within (length c.args.bytes.now) c.args.bytes.now c.args.capture.now c.args.script.now c.args.window c.args.buckets c.requires h)
