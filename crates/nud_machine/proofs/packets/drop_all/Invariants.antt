use Rattle.std.proofs.Common.{◌≡◌, ◌+◌, ◌≤◌, ◌++◌, length}
use Rattle.nud_machine.specs.State.{drops}
use Rattle.nud_machine.proofs.packets.drop_all.Given as goal

abbrev pub invariant-loop-packet : goal.invariant-loop-packet
invariant-loop-packet l = record {
  room : length l.acts + length l.waiting ≤ 66;
  all : l.acts ++ drops l.cause l.waiting ≡ l.initial.acts ++ drops l.cause l.initial.waiting;
}

abbrev pub decreases-loop-packet : goal.decreases-loop-packet
decreases-loop-packet l = length l.waiting
