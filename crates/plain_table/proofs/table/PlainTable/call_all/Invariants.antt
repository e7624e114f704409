-- The buckets of the numbers so far were called, in this order, and the others are as they were.
use Rattle.std.proofs.Common.{◌≡◌, ℕ, ◌≤◌, length, map}
use Rattle.neigh_run.specs.Seen.{buckets_from}
use Rattle.neigh_run.specs.Inline.{entered_line}
use Rattle.plain_table.specs.Calls.{call_to}
use Rattle.plain_table.specs.Table.{bucket_at}
use Rattle.plain_table.specs.Calling.{CallsEach}
use Rattle.plain_table.proofs.table.PlainTable.call_all.Given as goal

abbrev pub invariant-loop-number : goal.invariant-loop-number
invariant-loop-number l = record {
  buckets : length l.self ≡ length l.fn.self;
  called : CallsEach (map (call_to (entered_line l.line)) (buckets_from (length l.fn.self) 0 l.number l.line.op)) l.fn.self l.self l.fn.answers l.answers;
  rest : (b : ℕ) → l.number ≤ b → bucket_at l.self b ≡ bucket_at l.fn.self b;
}
