use Rattle.std.proofs.Common.{◌≡◌}
use Rattle.token_tests.proofs.cells.reads_what_was_published.Given as goal

abbrev pub invariant-loop-turn : goal.invariant-loop-turn
invariant-loop-turn l = l.pass.cell ≡ l.fn.pass.cell
