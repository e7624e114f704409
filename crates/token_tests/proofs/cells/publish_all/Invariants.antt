use Rattle.std.proofs.Common.{◌≡◌, ◌+◌, length}
use Rattle.token_tests.proofs.cells.publish_all.Given as goal

abbrev pub invariant-loop-number : goal.invariant-loop-number
invariant-loop-number l = record {
  same : l.writer.cell ≡ l.fn.writer.cell;
  published : length l.writer.published ≡ 1 + l.number;
}
