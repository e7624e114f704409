use Rattle.std.proofs.Common.{◌≡◌, drop}
use Rattle.journal_check.specs.Evaluated.{are_collects}
use Rattle.journal_check.proofs.forcing.are_collects.Given as goal

abbrev pub invariant-loop-place : goal.invariant-loop-place
invariant-loop-place l = are_collects l.at (drop l.place l.lines) (drop l.place l.keys) ≡ are_collects l.at l.lines l.keys
