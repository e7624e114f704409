-- The machine can step over the lines of an inline run, as a report's text asks.
use Rattle.std.proofs.Common.{◌≡◌, ℕ, ◌+◌, ◌≤◌, Bool, true, false, if◌then◌else◌, List, [], ◌∷◌, map, refl, sym, subst, arith}
use Rattle.std.specs.Prelude.{filter}
use Rattle.std.specs.List.{AllByRecursion}
use Rattle.nb_base.specs.declared.line.Line.{Line}
use Rattle.nb_base.specs.declared.plan.Plan.{Plan}
use Rattle.nb_base.specs.Params.{InRange}
use Rattle.nb_journal.specs.Keys.{is_own, may_be_asked, may_all_be_asked}
use Rattle.nb_journal.specs.Accounts.{own_lines}
use Rattle.nb_journal.specs.Lawful.{last_moment}
use Rattle.nb_journal.specs.Steps.{IsShort, IsStepped}
use Rattle.nb_journal.proofs.Tests.{and_both}
use Rattle.nb_journal.proofs.Stepped.{orderly_stepped}
use Rattle.neigh_run.specs.Inline.{ends_own, entered_line, IsInlineJournal, AreInlineJournals, IsInlineRun}
use Rattle.neigh_run.specs.declared.run.Run.{Run}
use Rattle.neigh_run.specs.Merged.{Entered, goes_to, merged}
use Rattle.neigh_plan.specs.Inline.{last_item_at, IsEnterable}
use Rattle.neigh_plan.proofs.Orders.{Each}
use Rattle.neigh_replay.specs.Verdict.{HasFewLines}
use Rattle.neigh_replay.proofs.Placed.{operations}
use Rattle.neigh_replay.proofs.Tasks.{IsUpTo, IsTaken, early_merged, taken_merged}

-- ---- the last moment

-- a journal that ends with an operation ends no later than its operations
last_upto : (m : ℕ) (lines : List Line) → ends_own lines ≡ true → Each (IsUpTo m) (operations lines) → last_moment lines ≤ m
last_upto m [] e all = omega arith
last_upto m (l ∷ []) e all = (subst (λ (b : Bool). Each (IsUpTo m) (map entered_line (if b then l ∷ [] else []))) e all).0
last_upto m (l ∷ next ∷ ls) e all = by_test (is_own l.op) all (λ rest. last_upto m (next ∷ ls) e rest) where
  by_test : (b : Bool) → Each (IsUpTo m) (map entered_line (if b then l ∷ own_lines (next ∷ ls) else own_lines (next ∷ ls))) → (Each (IsUpTo m) (operations (next ∷ ls)) → last_moment (next ∷ ls) ≤ m) → last_moment (next ∷ ls) ≤ m
  by_test true h rest = rest h.1
  by_test false h rest = rest h

-- ---- the operations

taken_asked : (lines : List Line) → Each IsTaken (operations lines) → may_all_be_asked (own_lines lines) ≡ true
taken_asked [] all = refl
taken_asked (l ∷ ls) all = by_test (is_own l.op) all (λ rest. taken_asked ls rest) where
  by_test : (b : Bool) → Each IsTaken (map entered_line (if b then l ∷ own_lines ls else own_lines ls)) → (Each IsTaken (operations ls) → may_all_be_asked (own_lines ls) ≡ true) → may_all_be_asked (if b then l ∷ own_lines ls else own_lines ls) ≡ true
  by_test true h rest = and_both (may_be_asked l.op) (may_all_be_asked (own_lines ls)) h.0.1 (rest h.1)
  by_test false h rest = rest h

-- ---- the run

-- what a report's text asks of a run
pub record HasText (run : Run) : Type 0 where
  pub params : InRange run.plan.params
  pub few : AllByRecursion IsShort run.journals
  pub steps : AllByRecursion (IsStepped run.plan.params) run.journals

abbrev is_for : Plan → ℕ → Entered → Bool
is_for plan b x = goes_to plan.buckets b x.op

each_filter : (P : Entered → Type 0) (test : Entered → Bool) (xs : List Entered) → Each P xs → Each P (filter test xs)
each_filter P test [] h = tt
each_filter P test (x ∷ xs) h = by_test (test x) (each_filter P test xs h.1) where
  by_test : (t : Bool) → Each P (filter test xs) → Each P (if t then x ∷ filter test xs else filter test xs)
  by_test true rest = (h.0, rest)
  by_test false rest = rest

journal_steps : (plan : Plan) (all : List (List Line)) (b : ℕ) (journal : List Line) → IsEnterable plan → IsInlineJournal plan all b journal → IsStepped plan.params journal
journal_steps plan others b journal e h =
    let le = e.moments in
    let last = last_upto (last_item_at plan) journal h.ends (subst (Each (IsUpTo (last_item_at plan))) (sym h.entered) (each_filter (IsUpTo (last_item_at plan)) (is_for plan b) (merged plan) (early_merged plan))) in
    orderly_stepped plan.params journal h.lawful.orderly (omega (arith, last, le)) (taken_asked journal (subst (Each IsTaken) (sym h.entered) (each_filter IsTaken (is_for plan b) (merged plan) (taken_merged plan e.within e.operations))))

all_steps : (plan : Plan) (all : List (List Line)) (b : ℕ) (journals : List (List Line)) → IsEnterable plan → AreInlineJournals plan all b journals → AllByRecursion (IsStepped plan.params) journals
all_steps plan all b [] e h = tt
all_steps plan all b (journal ∷ journals) e h = (journal_steps plan all b journal e h.0, all_steps plan all (b + 1) journals e h.1)

all_short : (journals : List (List Line)) → AllByRecursion HasFewLines journals → AllByRecursion IsShort journals
all_short [] few = tt
all_short (journal ∷ journals) few = (let here = few.0 in omega (arith, here), all_short journals few.1)

pub run_has_text : (plan : Plan) (run : Run) → IsEnterable plan → IsInlineRun plan run → AllByRecursion HasFewLines run.journals → HasText run
run_has_text plan run e inline few = record {
  params = subst (λ (p : Plan). InRange p.params) (sym inline.plan) e.params;
  few = all_short run.journals few;
  steps = subst (λ (p : Plan). AllByRecursion (IsStepped p.params) run.journals) (sym inline.plan) (all_steps plan run.journals 0 run.journals e inline.journals);
}
