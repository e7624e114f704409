-- A new table has no entry.
use Rattle.std.proofs.Common.{sym}
use Rattle.std.proofs.lemmas.List.{length-replicate}
use Rattle.plain_table.specs.Table.{new_journal}
use Rattle.plain_table.proofs.Shares.{bucket_count_few, none_in_all, shares-new}
use Rattle.plain_table.proofs.table.PlainTable.new.Goals as goal

pub invariant_of-result : goal.invariant_of-result
invariant_of-result c = record {
  few = rw c.in_ok-buckets.ensures.made (rw (length-replicate c.args.buckets (new_journal c.args.params.now)) (bucket_count_few c.args.buckets c.requires.buckets));
  shares = rw c.in_ok-buckets.ensures.made (shares-new c.args.params.now c.args.buckets);
  present = rw c.in_ok-buckets.ensures.made (sym (none_in_all c.args.params.now c.args.buckets));
}
