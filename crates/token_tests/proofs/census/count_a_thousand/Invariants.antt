use Rattle.std.proofs.Common.{◌≡◌, ◌+◌, ◌*◌, length}
use Rattle.change_order.specs.Ticks.{share_of}
use Rattle.token_tests.proofs.census.count_a_thousand.Given as goal

abbrev pub invariant-loop-turn : goal.invariant-loop-turn
invariant-loop-turn l = record {
  headcount : l.seat.headcount ≡ l.fn.seat.headcount;
  bucket : l.seat.bucket ≡ l.fn.seat.bucket;
  share : share_of l.seat.changes ≡ l._turn;
  changes : length l.seat.changes ≡ length l.fn.seat.changes + 2 * l._turn;
  looks : length l.seat.looks ≡ length l.fn.seat.looks + 2 * l._turn;
}
