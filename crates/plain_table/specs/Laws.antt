-- What is promised of tables in the laws of src/laws.rt.
use Rattle.std.specs.Prelude.{◌≡◌, List, length}
use Rattle.nb_base.specs.declared.plan.Plan.{Plan}
use Rattle.nb_bucket.specs.Bucket.{Journal}
use Rattle.neigh_run.specs.Merged.{merged}
use Rattle.neigh_run.specs.Seen.{calls}
use Rattle.neigh_run.specs.Inline.{AreInlineJournals}
use Rattle.plain_table.specs.declared.answer.Answer.{Answer}
use Rattle.plain_table.specs.Calls.{calls_of}
use Rattle.plain_table.specs.Table.{journals_of, AreCalled}

-- all calls of the plan are done, in a table of its number of buckets
pub record AreDone (plan : Plan) (answers : List Answer) (table : List Journal) : Type 0 where
  pub buckets : length table ≡ plan.buckets
  pub called : AreCalled plan.params (calls plan) (calls_of plan.buckets (merged plan)) answers table

-- the journals of its buckets are then those of the plan's inline run
abbrev pub CalledTablesAreInline : Type 0
CalledTablesAreInline = (plan : Plan) (answers : List Answer) (table : List Journal) → AreDone plan answers table → AreInlineJournals plan (journals_of table) 0 (journals_of table)
