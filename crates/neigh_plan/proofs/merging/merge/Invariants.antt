-- The lines taken and those that are left, in order, are the lines in order.
use Rattle.std.proofs.Common.{◌≡◌, ◌+◌, ◌++◌, length}
use Rattle.neigh_plan.specs.Merging.{insert_lines, AreByMoment}
use Rattle.neigh_plan.proofs.merging.merge.Given as goal

abbrev pub invariant-loop-line : goal.invariant-loop-line
invariant-loop-line l =
    (l.lines ++ insert_lines l.merging.left.now l.merging.right.now ≡ insert_lines l.fn.left l.fn.right) × AreByMoment l.merging.right.now

abbrev pub decreases-loop-line : goal.decreases-loop-line
decreases-loop-line l = length l.merging.left.now + length l.merging.right.now
