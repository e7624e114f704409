use Rattle.std.proofs.Common.{length}
use Rattle.slot_links.specs.Lists.{list_at}
use Rattle.timer_wheel.proofs.Settling.{Spreads}
use Rattle.timer_wheel.proofs.armed.spread.Given as goal

abbrev pub invariant-loop-node : goal.invariant-loop-node
invariant-loop-node l = Spreads l.now l.to l.slot l.dues l.slots

abbrev pub decreases-loop-node : goal.decreases-loop-node
decreases-loop-node l = length (list_at l.slots.lists l.slot)
