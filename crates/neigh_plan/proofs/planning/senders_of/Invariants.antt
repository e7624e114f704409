-- The senders so far have their packets.
use Rattle.std.proofs.Common.{◌≡◌}
use Rattle.neigh_run.specs.Plan.{senders_from}
use Rattle.neigh_plan.proofs.planning.senders_of.Given as goal

abbrev pub invariant-loop-before : goal.invariant-loop-before
invariant-loop-before l = l.senders ≡ senders_from 1 l.before l.script
