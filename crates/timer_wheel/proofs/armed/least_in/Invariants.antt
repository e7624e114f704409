use Rattle.slot_links.specs.Lists.{list_at}
use Rattle.timer_wheel.proofs.Visiting.{Visits, left_of}
use Rattle.timer_wheel.proofs.armed.least_in.Given as goal

abbrev pub invariant-loop-at : goal.invariant-loop-at
invariant-loop-at l = Visits l.dues (list_at l.slots.lists l.slot) l.at l.least

abbrev pub decreases-loop-at : goal.decreases-loop-at
decreases-loop-at l = left_of (list_at l.slots.lists l.slot) l.at
