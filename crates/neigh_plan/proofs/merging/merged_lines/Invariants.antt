-- Participant 0 and the senders so far are merged.
use Rattle.std.proofs.Common.{◌≡◌, take}
use Rattle.neigh_plan.proofs.Participants.{merged_so_far}
use Rattle.neigh_plan.proofs.merging.merged_lines.Given as goal

abbrev pub invariant-loop-before : goal.invariant-loop-before
invariant-loop-before l = l.lines ≡ merged_so_far l.plan l.plan.control (take l.before l.plan.senders)
