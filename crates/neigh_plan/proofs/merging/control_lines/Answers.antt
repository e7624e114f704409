-- The item's operation is that of the state behind the items before it.
use Rattle.std.proofs.Common.{List, ◌+◌, ◌++◌, take, sym, ◌∙◌, ap}
use Rattle.std.specs.Option.{option_to_list}
use Rattle.nb_base.specs.declared.line.Line.{Line}
use Rattle.neigh_run.specs.Control.{host_start, state_behind}
use Rattle.neigh_run.specs.Merged.{control_op}
use Rattle.neigh_plan.specs.Merging.{lines_of}
use Rattle.neigh_plan.proofs.Participants.{control_ops_more}
use Rattle.neigh_plan.proofs.merging.control_lines.Goals as goal

pub loop-place-preserved : goal.loop-place-preserved
loop-place-preserved c =
    let plan = c.args.plan.now in
    let items = c.args.items.now in
    let place = c.loop-place.place in
    let behind = state_behind plan host_start 1 (take place items) in
    c.in_ok-take_control.ensures behind
    ∙ (ap (λ (lines : List Line). lines ++ lines_of (option_to_list (control_op plan behind (place + 1) c.index-items-place.result))) c.loop-place.invariant
    ∙ sym (control_ops_more plan items place c.index-items-place.result c.loop-place-test.true c.index-items-place.is))
