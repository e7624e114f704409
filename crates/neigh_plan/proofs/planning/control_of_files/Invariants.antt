-- The items taken and those that are left, in order, are the items in order.
use Rattle.std.proofs.Common.{◌≡◌, ◌+◌, ◌++◌, length}
use Rattle.neigh_run.specs.Plan.{control_items}
use Rattle.neigh_plan.specs.Planning.{AreFit, frames_of, insert_items}
use Rattle.neigh_plan.proofs.planning.control_of_files.Given as goal

abbrev pub invariant-loop-step : goal.invariant-loop-step
invariant-loop-step l =
    (l.items ++ insert_items (control_items l.files.lines.now) (frames_of l.bytes l.files.records.now) ≡ insert_items (control_items l.fn.script) (frames_of l.fn.bytes l.fn.records))
    × (l.files.bytes.now ≡ l.bytes) × AreFit (length l.bytes) 0 l.files.records.now

abbrev pub decreases-loop-step : goal.decreases-loop-step
decreases-loop-step l = length l.files.lines.now + length l.files.records.now
