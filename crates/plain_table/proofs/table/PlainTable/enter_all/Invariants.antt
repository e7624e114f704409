-- The operations of the lines so far were entered, one after the other.
use Rattle.std.proofs.Common.{◌≡◌, [], length, take}
use Rattle.plain_table.specs.Calls.{calls_on}
use Rattle.plain_table.specs.Calling.{CallsEach}
use Rattle.plain_table.proofs.table.PlainTable.enter_all.Given as goal

abbrev pub invariant-loop-line : goal.invariant-loop-line
invariant-loop-line l = record {
  buckets : length l.self ≡ length l.fn.self;
  called : CallsEach (calls_on (length l.fn.self) (take l.line-index l.lines)) l.fn.self l.self [] l.answers;
}
