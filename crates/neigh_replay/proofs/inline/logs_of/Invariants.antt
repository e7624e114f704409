-- The senders so far have their logs.
use Rattle.std.proofs.Common.{◌≡◌}
use Rattle.neigh_replay.specs.Answered.{logs_by}
use Rattle.neigh_replay.proofs.inline.logs_of.Given as goal

abbrev pub invariant-loop-before : goal.invariant-loop-before
invariant-loop-before l = l.logs ≡ logs_by 1 l.before l.answers
