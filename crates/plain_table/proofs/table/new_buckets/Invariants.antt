use Rattle.std.proofs.Common.{◌≡◌, replicate}
use Rattle.plain_table.specs.Table.{new_journal}
use Rattle.plain_table.proofs.table.new_buckets.Given as goal

abbrev pub invariant-loop-number : goal.invariant-loop-number
invariant-loop-number l = l.buckets.items ≡ replicate l._number (new_journal l.params)
