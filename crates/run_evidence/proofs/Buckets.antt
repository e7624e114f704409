-- What a bucket's tokens tell together: every turn answered Ok, the last length is the journal's, and the journal and its lines up to each mark are lawful.
use Rattle.std.proofs.Common.{◌≡◌, ℕ, zero, suc, ◌+◌, ◌-◌, ◌*◌, ◌<◌, ◌≤◌, max, true, List, [], ◌∷◌, ◌++◌, length, take, refl, sym, ◌∙◌, ap, subst, arith}
use Rattle.std.specs.List.{AllByRecursion}
use Rattle.std.specs.Prelude.{map, fold, Option, Some, None, unwrap_or, IfSome}
use Rattle.std.proofs.Math.Nat.{le-max_right, max-le}
use Rattle.nb_base.specs.declared.line.Line.{Line}
use Rattle.nb_base.specs.declared.plan.Plan.{Plan}
use Rattle.nb_journal.specs.Lawful.{IsLawful, last_moment}
use Rattle.nb_journal.proofs.Appends.{lawful-lesser}
use Rattle.neigh_run.specs.Plan.{RisesFrom}
use Rattle.neigh_run.specs.Threaded.{IsLawfulFrom}
use Rattle.run_evidence.specs.Tokens.{AllOk, greatest_of, Shown, nothing_shown, turn_by, IsGivenUp}
use Rattle.bucket_stamps.specs.declared.view.Turn.{Turn}
use Rattle.bucket_stamps.specs.Own.{turns_of}
use Rattle.run_evidence.specs.Stamps.{StampWindow, advances, StampHistory, AreStampWindows, IsStampHistory, IsOpening, marks_in, BucketEvidence, AreStampHistories, OpensEach, IsBucketEvidence}
use Rattle.run_evidence.proofs.Lists.{begins_trans, begins_length, begins_take, all_map, all_front, all_back}
use Rattle.run_evidence.proofs.Turns.{each_turn, all_turns_of, greatest-above, length_behind-within}
use Rattle.run_evidence.proofs.Histories.{calls_past, span_rises, spans_past, lengths_of, spans_rise, spans_ended, made_in, spans_turns, made_ok, made_within}

-- ---- the turns of all participants

-- what a participant's stamp shows in the end of its turns are those that it made, and there are no others
pub own_made : (p : ℕ) (plan : Plan) (journal : List Line) (turns : List Turn) (history : StampHistory) → IsStampHistory p plan history → IsGivenUp p journal turns history.after → turns_of p turns ≡ made_in p plan history.windows
own_made p plan journal turns history h g = g.own_turns ∙ spans_turns p plan nothing_shown history.windows history.ended history.after h

-- what holds of the turns that each participant made
abbrev pub HoldsOfMade : (Turn → Type 0) → Plan → List (Option ℕ × ℕ) → List Line → List Turn → Type 0
HoldsOfMade Q plan told journal turns = (p : ℕ) (history : StampHistory) → IsStampHistory p plan history → IsGivenUp p journal turns history.after → marks_in plan history ≡ told → AllByRecursion Q (made_in p plan history.windows)

histories_turns : (Q : Turn → Type 0) (plan : Plan) (told : List (Option ℕ × ℕ)) (journal : List Line) (turns : List Turn) (first : ℕ) (histories : List StampHistory)
    → AreStampHistories plan journal turns first histories → AllByRecursion (λ (history : StampHistory). marks_in plan history ≡ told) histories → HoldsOfMade Q plan told journal turns
    → (p : ℕ) → first ≤ p → p < first + length histories → AllByRecursion Q (turns_of p turns)
histories_turns Q plan told journal turns first [] h marks made p from to = absurd (omega (arith, from, to))
histories_turns Q plan told journal turns first (history ∷ histories) h marks made p from to = by_number (p - first) refl (histories_turns Q plan told journal turns (first + 1) histories h.1 marks.1 made p) where
  by_number : (k : ℕ) → p - first ≡ k → (first + 1 ≤ p → p < first + 1 + length histories → AllByRecursion Q (turns_of p turns)) → AllByRecursion Q (turns_of p turns)
  by_number zero e rest = let same : p ≡ first = omega (arith, e, from) in
      subst (λ q. AllByRecursion Q (turns_of q turns)) (sym same) (subst (AllByRecursion Q) (sym (own_made first plan journal turns history h.0.0 h.0.1)) (made first history h.0.0 h.0.1 marks.0))
  by_number (suc k) e rest = rest (omega (arith, e, from)) (omega (arith, to))

-- what holds of the turns that each participant made holds of all
pub kept_turns : (Q : Turn → Type 0) (plan : Plan) (told : List (Option ℕ × ℕ)) (kept : BucketEvidence) → IsBucketEvidence plan told kept → HoldsOfMade Q plan told kept.journal kept.turns → AllByRecursion Q kept.turns
kept_turns Q plan told kept h made =
    let n = h.participants in
    each_turn Q (length plan.senders + 1) kept.turns h.whole.only_turns (λ p lt. histories_turns Q plan told kept.journal kept.turns 0 kept.histories h.histories h.marks made p (omega arith) (omega (arith, n, lt)))

pub kept_ok : (plan : Plan) (told : List (Option ℕ × ℕ)) (kept : BucketEvidence) → IsBucketEvidence plan told kept → AllOk kept.turns
kept_ok plan told kept h = kept_turns (λ (t : Turn). t.ok ≡ true) plan told kept h (λ p history is g m. made_ok p plan history.windows)

-- ---- the last length

abbrev pub last_told : List (Option ℕ × ℕ) → ℕ
last_told told = fold (λ (n : ℕ) (m : Option ℕ × ℕ). m.1) 0 told

last_of : (n : ℕ) (told : List (Option ℕ × ℕ)) (m : Option ℕ × ℕ) → fold (λ (n : ℕ) (m : Option ℕ × ℕ). m.1) n (told ++ m ∷ []) ≡ m.1
last_of n [] m = refl
last_of n (x ∷ xs) m = last_of x.1 xs m

pub last_told-is : (plan : Plan) (history : StampHistory) (told : List (Option ℕ × ℕ)) → marks_in plan history ≡ told → last_told told ≡ history.ended
last_told-is plan history told e = ap last_told (sym e) ∙ last_of 0 (map (λ (span : StampWindow). (Some (span.number * plan.window), span.mark)) history.windows) (None, history.ended)

-- participant 0's history, with what it tells
pub record First (plan : Plan) (told : List (Option ℕ × ℕ)) (kept : BucketEvidence) : Type 0 where
  pub history : StampHistory
  pub is : IsStampHistory 0 plan history
  pub given : IsGivenUp 0 kept.journal kept.turns history.after
  pub opens : AllByRecursion (IsOpening plan) history.windows
  pub marks : marks_in plan history ≡ told

pub kept_first : (plan : Plan) (told : List (Option ℕ × ℕ)) (kept : BucketEvidence) → IsBucketEvidence plan told kept → First plan told kept
kept_first plan told kept h = go kept.histories h.histories h.opens h.marks where
  go : (histories : List StampHistory) → AreStampHistories plan kept.journal kept.turns 0 histories → OpensEach plan histories → AllByRecursion (λ (history : StampHistory). marks_in plan history ≡ told) histories → First plan told kept
  go [] t o m = absurd o
  go (history ∷ histories) t o m = record { history = history; is = t.0.0; given = t.0.1; opens = o; marks = m.0 }

-- the last length that was told is the journal's
pub kept_ends : (plan : Plan) (told : List (Option ℕ × ℕ)) (kept : BucketEvidence) → IsBucketEvidence plan told kept → last_told told ≡ length kept.journal
kept_ends plan told kept h =
    let f = kept_first plan told kept h in
    let told_is = last_told-is plan f.history told f.marks in
    let some = (spans_ended 0 plan nothing_shown f.history.windows f.history.ended f.history.after f.is).1 in
    let within = begins_length f.history.after.past kept.journal f.given.past in
    let all = kept_turns (λ (t : Turn). t.length ≤ last_told told) plan told kept h (λ p history is g m.
    all_map (λ (t : Turn). t.length ≤ history.ended) (λ (t : Turn). t.length ≤ last_told told) (made_in p plan history.windows) (λ t le. let e = last_told-is plan history told m in omega (arith, le, e))
    (made_within p plan nothing_shown history.windows history.ended history.after is)) in
    let last = length_behind-within (last_told told) 0 kept.turns (omega arith) all in
    let ends = h.whole.settled in
    omega (arith, told_is, some, within, last, ends)

-- ---- the lengths never fall

numbers_of : (plan : Plan) (spans : List StampWindow) (ended : ℕ) → map (λ (m : Option ℕ × ℕ). m.1) (map (λ (span : StampWindow). (Some (span.number * plan.window), span.mark)) spans ++ (None, ended) ∷ []) ≡ lengths_of spans ended
numbers_of plan [] ended = refl
numbers_of plan (span ∷ spans) ended = ap (λ ns. span.mark ∷ ns) (numbers_of plan spans ended)

pub kept_rises : (plan : Plan) (told : List (Option ℕ × ℕ)) (kept : BucketEvidence) → IsBucketEvidence plan told kept → RisesFrom 0 (map (λ (m : Option ℕ × ℕ). m.1) told)
kept_rises plan told kept h =
    let f = kept_first plan told kept h in
    subst (RisesFrom 0) (sym (numbers_of plan f.history.windows f.history.ended) ∙ ap (map (λ (m : Option ℕ × ℕ). m.1)) f.marks) (spans_rise 0 plan nothing_shown f.history.windows f.history.ended f.history.after f.is)

-- ---- lawful lines

pub kept_lawful : (plan : Plan) (told : List (Option ℕ × ℕ)) (kept : BucketEvidence) → IsBucketEvidence plan told kept → IsLawful plan.params kept.journal (greatest_of kept.turns)
kept_lawful plan told kept h = h.whole.lawful (kept_ok plan told kept h)

-- the lines up to a mark
abbrev pub IsMarkedLawful : Plan → List Line → Option ℕ × ℕ → Type 0
IsMarkedLawful plan journal m = IfSome m.0 (λ start. IsLawfulFrom plan.params start (take m.1 journal))

pub kept_marked : (plan : Plan) (told : List (Option ℕ × ℕ)) (kept : BucketEvidence) → IsBucketEvidence plan told kept → AllByRecursion (IsMarkedLawful plan kept.journal) told
kept_marked plan told kept h = subst (AllByRecursion (IsMarkedLawful plan kept.journal)) f.marks (go nothing_shown f.history.windows f.is f.opens) where
  f : First plan told kept
  f = kept_first plan told kept h

  go : (old : Shown) (spans : List StampWindow) → AreStampWindows 0 plan old spans f.history.ended f.history.after → AllByRecursion (IsOpening plan) spans
      → AllByRecursion (IsMarkedLawful plan kept.journal) (map (λ (span : StampWindow). (Some (span.number * plan.window), span.mark)) spans ++ (None, f.history.ended) ∷ [])
  go old [] is opens = (tt, tt)
  go old (span ∷ spans) is opens =
      let r = span_rises 0 plan old span is.0 in
      let whole = begins_trans span.opened.past span.closed.past kept.journal
      (calls_past 0 plan.params span.opened span.calls span.met span.closed is.0.calls)
      (begins_trans span.closed.past f.history.after.past kept.journal (spans_past 0 plan span.closed spans f.history.ended f.history.after is.1) f.given.past) in
      let front = begins_take span.mark span.opened.past kept.journal whole r.1 in
      (subst (IsLawfulFrom plan.params (span.number * plan.window)) (sym front) opens.0, go span.closed spans is.1 opens.1)

-- P holds of what each window's mark made for participant 0
made_advances : (P : Turn → Type 0) (plan : Plan) (spans : List StampWindow) → AllByRecursion P (made_in 0 plan spans) → AllByRecursion (λ (span : StampWindow). AllByRecursion P (advances 0 plan span)) spans
made_advances P plan [] h = tt
made_advances P plan (span ∷ spans) h =
    let parts = all_front P (advances 0 plan span ++ map (turn_by 0) span.calls) (made_in 0 plan spans) h in
    (all_front P (advances 0 plan span) (map (turn_by 0) span.calls) parts, made_advances P plan spans (all_back P (advances 0 plan span ++ map (turn_by 0) span.calls) (made_in 0 plan spans) h))

-- the first moment of the last window, or 0
abbrev pub last_opened : List (Option ℕ × ℕ) → ℕ
last_opened told = fold (λ (at : ℕ) (m : Option ℕ × ℕ). unwrap_or m.0 at) 0 told

opened_from : (plan : Plan) (n ended at : ℕ) (spans : List StampWindow) → at ≤ n → AllByRecursion (λ (span : StampWindow). span.number * plan.window ≤ n) spans
    → fold (λ (at : ℕ) (m : Option ℕ × ℕ). unwrap_or m.0 at) at (map (λ (span : StampWindow). (Some (span.number * plan.window), span.mark)) spans ++ (None, ended) ∷ []) ≤ n
opened_from plan n ended at [] le all = le
opened_from plan n ended at (span ∷ spans) le all = opened_from plan n ended (span.number * plan.window) spans all.0 all.1

-- the journal is lawful from the last window's first moment on
pub kept_whole : (plan : Plan) (told : List (Option ℕ × ℕ)) (kept : BucketEvidence) → IsBucketEvidence plan told kept → IsLawfulFrom plan.params (last_opened told) kept.journal
kept_whole plan told kept h = lawful-lesser plan.params kept.journal clock (max (last_opened told) (last_moment kept.journal)) (max-le opened lawful.within) (le-max_right (last_opened told) (last_moment kept.journal)) lawful where
  clock : ℕ
  clock = greatest_of kept.turns

  lawful : IsLawful plan.params kept.journal (greatest_of kept.turns)
  lawful = kept_lawful plan told kept h

  f : First plan told kept
  f = kept_first plan told kept h

  at_spans : (spans : List StampWindow) → AllByRecursion (λ (span : StampWindow). AllByRecursion (λ (t : Turn). t.at ≤ greatest_of kept.turns) (advances 0 plan span)) spans → AllByRecursion (λ (span : StampWindow). span.number * plan.window ≤ greatest_of kept.turns) spans
  at_spans [] a = tt
  at_spans (span ∷ spans) a = (a.0.0, at_spans spans a.1)

  opened : last_opened told ≤ greatest_of kept.turns
  opened =
      let all = all_turns_of (λ (t : Turn). t.at ≤ greatest_of kept.turns) 0 kept.turns (greatest-above kept.turns) in
      let made = subst (AllByRecursion (λ (t : Turn). t.at ≤ greatest_of kept.turns)) (own_made 0 plan kept.journal kept.turns f.history f.is f.given) all in
      subst (λ ms. last_opened ms ≤ greatest_of kept.turns) f.marks
      (opened_from plan (greatest_of kept.turns) f.history.ended 0 f.history.windows (omega arith) (at_spans f.history.windows (made_advances (λ (t : Turn). t.at ≤ greatest_of kept.turns) plan f.history.windows made)))
