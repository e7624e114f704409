-- The answers so far are taken.
use Rattle.std.proofs.Common.{◌≡◌, take}
use Rattle.neigh_replay.specs.Answered as by
use Rattle.neigh_replay.proofs.inline.own_answers.Given as goal

abbrev pub invariant-loop-answer : goal.invariant-loop-answer
invariant-loop-answer l = l.own ≡ by.own_answers l.participant (take l.answer-index l.answers)
