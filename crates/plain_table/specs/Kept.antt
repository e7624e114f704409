-- What a table keeps beside its buckets (this project's own).
use Rattle.std.specs.Prelude.{◌≡◌, ◌≤◌, length}
use Rattle.std.specs.List.{AllByRecursion}
use Rattle.nb_journal.specs.Accounts.{most_lines}
use Rattle.nb_bucket.specs.Bucket.{Journal}
use Rattle.plain_table.specs.Table.{present_in, present_in_all}
use Rattle.plain_table.specs.declared.table.PlainTable.TheInside.{Inside}

-- no bucket has more entries than a journal has lines
abbrev pub IsShare : Journal → Type 0
IsShare j = present_in j ≤ most_lines

-- there are at most 64 buckets, and the number of entries that are present in all of them is kept
pub record IsTable (t : Inside) : Type 0 where
  pub few : length t.buckets.items ≤ 64
  pub shares : AllByRecursion IsShare t.buckets.items
  pub present : t.present ≡ present_in_all t.buckets.items
