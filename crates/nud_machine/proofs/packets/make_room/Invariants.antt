use Rattle.std.proofs.Common.{◌≡◌, ◌+◌, ◌≤◌, ◌++◌, length}
use Rattle.nud_machine.specs.declared.act.Cause.TheVariants.{QueueFull}
use Rattle.nud_machine.specs.State.{drops}
use Rattle.nud_machine.specs.Send.{pushed_out, left_waiting}
use Rattle.nud_machine.proofs.packets.make_room.Given as goal

abbrev pub invariant-loop-packet : goal.invariant-loop-packet
invariant-loop-packet l = record {
  room : length l.acts + length l.waiting ≤ length l.initial.acts + length l.initial.waiting;
  out : l.acts ++ drops QueueFull (pushed_out l.params l.size l.waiting) ≡ l.initial.acts ++ drops QueueFull (pushed_out l.params l.size l.initial.waiting);
  left : left_waiting l.params l.size l.waiting ≡ left_waiting l.params l.size l.initial.waiting;
}

abbrev pub decreases-loop-packet : goal.decreases-loop-packet
decreases-loop-packet l = length l.waiting
