-- Participant 0's lines are in order, and behind the last sender all are merged.
use Rattle.std.proofs.Common.{List, length, ◌∙◌, ap, arith}
use Rattle.nb_base.specs.declared.plan.ControlItem.{ControlItem}
use Rattle.nb_base.specs.declared.plan.SendItem.{SendItem}
use Rattle.neigh_run.specs.Control.{host_start}
use Rattle.neigh_run.specs.Merged.{control_ops}
use Rattle.neigh_plan.specs.Merging.{lines_of}
use Rattle.neigh_plan.proofs.Participants.{merged_first, merged_last, merged_short}
use Rattle.neigh_plan.proofs.merging.merged_lines.Goals as goal

pub loop-before-init : goal.loop-before-init
loop-before-init c =
    c.in_ok-lines.ensures ∙ ap (λ (xs : List ControlItem). lines_of (control_ops c.args.plan.now host_start 1 xs)) c.as_slice.ensures
    ∙ merged_first c.args.plan.now c.args.plan.now.control c.args.plan.now.senders c.requires.control.rises

abbrev all_merged : goal.returns-clause-value
all_merged c =
    let long = ap (λ (xs : List (List SendItem)). length xs) c.as_slice-senders.ensures in
    c.loop-before.invariant ∙ merged_last c.args.plan.now c.loop-before.before (omega (arith, long))

pub returns-clause-value : goal.returns-clause-value
returns-clause-value c = all_merged c

pub returns-clause-few : goal.returns-clause-few
returns-clause-few c = merged_short c.args.plan.now c.loop-before.lines c.requires (all_merged c)
