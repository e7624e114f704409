use Rattle.std.proofs.Common.{◌≡◌, ◌+◌, drop}
use Rattle.nb_journal.specs.Keys.{place_among}
use Rattle.journal_check.proofs.states.place_among.Given as goal

abbrev pub invariant-loop-place : goal.invariant-loop-place
invariant-loop-place l = l.place + place_among (drop l.place l.keys) l.key ≡ place_among l.keys l.key
