-- The answers so far are taken.
use Rattle.std.proofs.Common.{◌≡◌, take}
use Rattle.neigh_replay.specs.Answered.{log_by}
use Rattle.neigh_replay.proofs.inline.log_of.Given as goal

abbrev pub invariant-loop-answer : goal.invariant-loop-answer
invariant-loop-answer l = l.log ≡ log_by l.participant (take l.answer-index l.answers)
