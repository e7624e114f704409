-- The places of the answers so far are taken.
use Rattle.std.proofs.Common.{◌≡◌, take}
use Rattle.neigh_replay.specs.Hosting as by
use Rattle.neigh_replay.proofs.host.places.Given as goal

abbrev pub invariant-loop-answer : goal.invariant-loop-answer
invariant-loop-answer l = l.all ≡ by.places (take l.answer-index l.answers)
