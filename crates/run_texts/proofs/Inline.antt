-- An inline run is told by its text: its lines' operations follow from their numbers, and in a table of one bucket what they saw from the lines before them.
use Rattle.std.proofs.Common.{◌≡◌, ℕ, ◌+◌, ◌<◌, ◌≤◌, max, Bool, true, false, is_some, if◌then◌else◌, List, [], ◌∷◌, length, map, refl, sym, ◌∙◌, ap, subst, arith}
use Rattle.std.specs.Prelude.{Option, Some, None, IfSome, filter, unwrap_or}
use Rattle.std.specs.List.{AllByRecursion}
use Rattle.std.proofs.lemmas.Bool.{false≢true}
use Rattle.nb_base.specs.declared.time.OpId.{OpId}
use Rattle.nb_base.specs.declared.line.Line.{Line}
use Rattle.nb_base.specs.declared.outcome.Outcome.{Outcome}
use Rattle.nb_base.specs.declared.host_line.Mark.{Mark}
use Rattle.nb_base.specs.declared.plan.Plan.{Plan}
use Rattle.nb_base.specs.declared.plan.SendItem.{SendItem}
use Rattle.nb_journal.specs.Keys.{is_own}
use Rattle.nb_journal.specs.Fold.{present_count}
use Rattle.nb_journal.specs.Lawful.{EachLine, IsLawful, last_moment, base_of}
use Rattle.nb_journal.specs.Accounts.{own_lines}
use Rattle.nb_journal.specs.Laws.{Saw}
use Rattle.nb_journal.proofs.Lines.{each-map}
use Rattle.neigh_run.specs.Merged.{Entered, goes_to, merged, merged_for}
use Rattle.neigh_run.specs.Seen.{sees}
use Rattle.neigh_run.specs.Inline.{entered_line, IsInlineJournal, AreInlineJournals, log_of, logs_of}
use Rattle.neigh_run.specs.Plan.{IsWithinLimits}
use Rattle.neigh_run.proofs.Counting.{Each, each_all}
use Rattle.neigh_run.proofs.OneBucket.{sees-one}
use Rattle.run_texts.specs.Told.{Small, plan_ops, ops_numbered, IsNamedLine, IsToldJournal, IsToldOutcome, EachOutcome, AreToldLogs}
use Rattle.run_texts.specs.Laws.{InlineRunsAreTold}
use Rattle.run_texts.proofs.Lists.{each_line-all}
use Rattle.run_texts.proofs.Named.{IsNamed, ops-named, AreNumbered}

-- ---- the plan's operations in merged order

pub each-filter : (P : Entered → Type 0) (t : Entered → Bool) (xs : List Entered) → Each P xs → Each P (filter t xs)
each-filter P t [] h = tt
each-filter P t (x ∷ xs) h = by_test (t x) (each-filter P t xs h.1) where
  by_test : (b : Bool) → Each P (filter t xs) → Each P (if b then x ∷ filter t xs else filter t xs)
  by_test true rest = (h.0, rest)
  by_test false rest = rest

-- what holds of each operation of a plan holds of a bucket's
pub each-merged : (P : Entered → Type 0) (plan : Plan) (b : ℕ) → Each P (plan_ops plan) → Each P (merged_for plan b)
each-merged P plan b h = each-filter P (λ (x : Entered). goes_to plan.buckets b x.op) (merged plan) (each_all P [] (plan_ops plan) tt h)

-- ---- lines that keep to the plan

-- the lines into which these operations were entered
entered-named : (plan : Plan) (lines : List Line) (xs : List Entered) → AreNumbered lines → Each (IsNamed plan) xs → map entered_line (own_lines lines) ≡ xs → AllByRecursion (IsNamedLine plan) lines
entered-named plan [] xs ids h e = tt
entered-named plan (l ∷ ls) xs ids h e = by_test (is_own l.op) refl xs h e (entered-named plan ls) where
  by_id : (o : Option OpId) → is_some o ≡ true → ops_numbered plan (unwrap_or o (record { 0 = 0 })) ≡ l.op ∷ [] → Small (unwrap_or o (record { 0 = 0 })).0 → IfSome o (λ id. (ops_numbered plan id ≡ l.op ∷ []) × Small id.0)
  by_id None k named small = absurd (false≢true k)
  by_id (Some id) k named small = (named, small)

  no_id : (o : Option OpId) → is_some o ≡ false → IfSome o (λ id. (ops_numbered plan id ≡ l.op ∷ []) × Small id.0)
  no_id None k = tt
  no_id (Some id) k = absurd (false≢true (sym k))

  by_test : (own : Bool) → is_own l.op ≡ own → (xs : List Entered) → Each (IsNamed plan) xs → map entered_line (if own then l ∷ own_lines ls else own_lines ls) ≡ xs
      → ((xs : List Entered) → AreNumbered ls → Each (IsNamed plan) xs → map entered_line (own_lines ls) ≡ xs → AllByRecursion (IsNamedLine plan) ls)
      → IsNamedLine plan l × AllByRecursion (IsNamedLine plan) ls
  by_test false k xs h e rest = (no_id l.id (ids.0 ∙ k), rest xs ids.1 h e)
  by_test true k xs h e rest =
      let all = subst (Each (IsNamed plan)) (sym e) h in
      (by_id l.id (ids.0 ∙ k) all.0.named all.0.small, rest (map entered_line (own_lines ls)) ids.1 all.1 refl)

-- ---- one bucket

saw_by : (seen : Option ℕ) (m n : ℕ) → m ≡ n → IfSome seen (λ s. s ≡ m) → IfSome seen (λ s. s ≡ n)
saw_by None m n e h = h
saw_by (Some s) m n e h = h ∙ e

alone-saw : (plan : Plan) (all : List (List Line)) (b : ℕ) (journal : List Line) → length all ≤ 1 → b < length all → IsInlineJournal plan all b journal → EachLine (Saw (present_count plan.params)) journal
alone-saw plan [] b journal le lt h = absurd (omega (arith, lt))
alone-saw plan (j ∷ k ∷ js) b journal le lt h = absurd (omega (arith, le))
alone-saw plan (j ∷ []) b journal le lt h = each-map (Saw (sees plan (j ∷ []) b)) (Saw (present_count plan.params)) journal saw h.seen where
  saw : (past : List Line) (l : Line) → Saw (sees plan (j ∷ []) b) past l → Saw (present_count plan.params) past l
  saw past l g =
      let first : b ≡ 0 = omega (arith, lt) in
      saw_by l.seen (sees plan (j ∷ []) b (base_of past)) (present_count plan.params (base_of past)) (ap (λ (n : ℕ). sees plan (j ∷ []) n (base_of past)) first ∙ sees-one plan j (base_of past)) g

-- ---- journals

journals-told : (plan : Plan) (all : List (List Line)) (b : ℕ) (js : List (List Line)) → IsWithinLimits plan → length all ≡ plan.buckets → b + length js ≡ length all → AreInlineJournals plan all b js → AllByRecursion (IsToldJournal plan 0) js
journals-told plan all b [] limits whole long h = tt
journals-told plan all b (j ∷ js) limits whole long h = (
  record {
    lawful = subst (IsLawful plan.params j) (none (last_moment j)) h.0.lawful;
    named = entered-named plan j (merged_for plan b)
        (each_line-all (λ past line. is_some line.id ≡ is_own line.op) (λ (l : Line). is_some l.id ≡ is_own l.op) [] j (λ past line e. e) h.0.lawful.orderly.ids)
        (each-merged (IsNamed plan) plan b (ops-named plan limits)) h.0.entered;
    alone = λ one. alone-saw plan all b j (omega (arith, one, whole)) (omega (arith, long)) h.0;
  },
  journals-told plan all (b + 1) js limits whole (omega (arith, long)) h.1,
) where
  none : (m : ℕ) → m ≡ max 0 m
  none m = omega arith

-- ---- logs

log-told : (plan : Plan) (journals : List (List Line)) (p n : ℕ) (items : List SendItem) → EachOutcome (IsToldOutcome plan journals p) n items (log_of plan journals p n items)
log-told plan journals p n [] = tt
log-told plan journals p n (item ∷ items) = ((tt, refl), log-told plan journals p (n + 1) items)

logs-told : (plan : Plan) (journals : List (List Line)) (p : ℕ) (senders : List (List SendItem)) → AreToldLogs plan journals p senders (logs_of plan journals p senders)
logs-told plan journals p [] = tt
logs-told plan journals p (items ∷ senders) = (log-told plan journals p 1 items, logs-told plan journals (p + 1) senders)

pub inline_told : InlineRunsAreTold
inline_told plan run limits h = record {
  mode_is = h.mode;
  plan = h.plan;
  buckets = h.buckets;
  journals = journals-told plan run.journals 0 run.journals limits h.buckets (omega arith) h.journals;
  logs = λ few. subst (λ (logs : List (List Outcome)). AreToldLogs plan run.journals 1 plan.senders logs) (sym h.logs) (logs-told plan run.journals 1 plan.senders);
  host_lines = h.host_lines;
  marks = ap (map (λ (mark : Mark). mark.start)) h.marks;
  lengths = λ few. subst (AllByRecursion (λ (mark : Mark). AllByRecursion Small mark.lengths)) (sym h.marks) tt;
}
