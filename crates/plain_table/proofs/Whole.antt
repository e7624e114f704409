-- All calls of a plan are done: each bucket's journal is the one of the plan's inline run.
use Rattle.std.proofs.Common.{◌≡◌, ℕ, suc, ◌<◌, ◌+◌, List, [], ◌∷◌, length, sym, ◌∙◌, subst, arith}
use Rattle.nb_base.specs.declared.line.Line.{Line}
use Rattle.nb_base.specs.declared.plan.Plan.{Plan}
use Rattle.nb_journal.specs.Lawful.{EachLine, IsLawful}
use Rattle.nb_journal.specs.Laws.{Saw}
use Rattle.nb_bucket.specs.Bucket.{Journal}
use Rattle.neigh_run.specs.Merged.{merged}
use Rattle.neigh_run.specs.Seen.{calls, standing, table_count, sees}
use Rattle.neigh_run.specs.Inline.{IsInlineJournal, AreInlineJournals}
use Rattle.plain_table.specs.declared.answer.Answer.{Answer}
use Rattle.plain_table.specs.Calls.{calls_of, buckets_called}
use Rattle.plain_table.specs.Table.{journals_of, bucket_at}
use Rattle.plain_table.specs.Laws.{AreDone, CalledTablesAreInline}
use Rattle.plain_table.proofs.CallsOf.{called-all, entered-all}

pub calls-are : (plan : Plan) → calls plan ≡ buckets_called (calls_of plan.buckets (merged plan))
unfolding calls
calls-are plan = sym (called-all plan.buckets (merged plan))

seen_is : (plan : Plan) (all : List (List Line)) (b : ℕ) (lines : List Line) → EachLine (Saw (λ ls. table_count plan.params (standing (calls plan) all b ls))) lines → EachLine (Saw (sees plan all b)) lines
unfolding sees
seen_is plan all b lines h = h

inline_one : (plan : Plan) (answers : List Answer) (table : List Journal) (b : ℕ) → b < length table → AreDone plan answers table → IsInlineJournal plan (journals_of table) b (bucket_at table b).lines
inline_one plan answers table b lt done =
    let it = done.called.each b lt in
    record {
      lawful = subst (λ (m : ℕ). IsLawful plan.params (bucket_at table b).lines m) it.clock it.lawful;
      ends = it.ends;
      entered = it.entered ∙ entered-all plan.buckets b (merged plan) (subst (λ (m : ℕ). b < m) done.buckets lt);
      seen = seen_is plan (journals_of table) b (bucket_at table b).lines it.saw;
    }

pub inline_journals : CalledTablesAreInline
inline_journals plan answers table done = go 0 table (λ k lt. let same : k ≡ 0 + k = omega arith in subst (λ (m : ℕ). IsInlineJournal plan (journals_of table) m (bucket_at table k).lines) same (inline_one plan answers table k lt done)) where
  go : (b : ℕ) (js : List Journal) → ((k : ℕ) → k < length js → IsInlineJournal plan (journals_of table) (b + k) (bucket_at js k).lines) → AreInlineJournals plan (journals_of table) b (journals_of js)
  go b [] each = tt
  go b (j ∷ js) each =
      let here : b + 0 ≡ b = omega arith in (
        subst (λ (m : ℕ). IsInlineJournal plan (journals_of table) m j.lines) here (each 0 (omega arith)),
        go (b + 1) js (λ k lt. let next : b + suc k ≡ b + 1 + k = omega arith in subst (λ (m : ℕ). IsInlineJournal plan (journals_of table) m (bucket_at js k).lines) next (each (suc k) (omega (arith, lt)))),
      )
