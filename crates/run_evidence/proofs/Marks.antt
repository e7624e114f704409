-- The marks round a call: its window's own mark and the next, and that no window which begins later has a mark that counts only lines before the call's.
use Rattle.std.proofs.Common.{◌≡◌, ℕ, ◌*◌, ◌<◌, ◌≤◌, Bool, true, false, if◌then◌else◌, List, [], ◌∷◌, ◌++◌, length, refl, sym, ◌∙◌, ap, subst, append_assoc, arith, eq-eqb}
use Rattle.std.specs.List.{AllByRecursion}
use Rattle.std.specs.Option.{option_map_or}
use Rattle.std.specs.Prelude.{map, ◌==◌, Option, Some, None, IfSome}
use Rattle.std.proofs.lemmas.Bool.{eqb-true}
use Rattle.std.proofs.Math.Nat.{div-mul-le_self}
use Rattle.nb_base.specs.declared.plan.Plan.{Plan}
use Rattle.nb_base.specs.declared.host_line.Mark.{Mark}
use Rattle.neigh_run.specs.Plan.{RisesFrom}
use Rattle.neigh_run.specs.Windows.{window_of, length_at, marks_from, first_length, second_length, own_length, next_length}
use Rattle.run_evidence.specs.Tokens.{Shown, Call}
use Rattle.run_evidence.specs.Stamps.{StampWindow, AreStampWindows}
use Rattle.run_evidence.specs.Evidence.{column}
use Rattle.run_evidence.proofs.Lists.{all_map, all_append}
use Rattle.run_evidence.proofs.Histories.{calls_places, span_rises, lengths_of, spans_rise}

-- ---- marks as pairs

abbrev pub pairs_from : ℕ → List (Option ℕ × ℕ) → List (Option ℕ × ℕ)
pairs_from start [] = []
pairs_from start (m ∷ ms) = if option_map_or (λ at. at == start) m.0 false then m ∷ ms else pairs_from start ms

abbrev pub first_told : List (Option ℕ × ℕ) → ℕ
first_told [] = 0
first_told (m ∷ ms) = m.1

abbrev pub second_told : List (Option ℕ × ℕ) → ℕ
second_told [] = 0
second_told (m ∷ ms) = first_told ms

first-column : (b : ℕ) (marks : List Mark) → first_length b marks ≡ first_told (column b marks)
first-column b [] = refl
first-column b (mark ∷ marks) = refl

second-column : (b : ℕ) (marks : List Mark) → second_length b marks ≡ second_told (column b marks)
second-column b [] = refl
second-column b (mark ∷ marks) = first-column b marks

column-from : (b start : ℕ) (marks : List Mark) → column b (marks_from start marks) ≡ pairs_from start (column b marks)
column-from b start [] = refl
column-from b start (mark ∷ marks) = by_test (option_map_or (λ at. at == start) mark.start false) (column-from b start marks) where
  by_test : (t : Bool) → column b (marks_from start marks) ≡ pairs_from start (column b marks)
      → column b (if t then mark ∷ marks else marks_from start marks) ≡ (if t then (mark.start, length_at b mark) ∷ column b marks else pairs_from start (column b marks))
  by_test true e = refl
  by_test false e = e

-- the own mark and the next, by the pairs
pub own_length-told : (plan : Plan) (marks : List Mark) (b at : ℕ) → own_length plan marks b at ≡ first_told (pairs_from (window_of plan at * plan.window) (column b marks))
own_length-told plan marks b at = first-column b (marks_from (window_of plan at * plan.window) marks) ∙ ap first_told (column-from b (window_of plan at * plan.window) marks)

pub next_length-told : (plan : Plan) (marks : List Mark) (b at : ℕ) → next_length plan marks b at ≡ second_told (pairs_from (window_of plan at * plan.window) (column b marks))
next_length-told plan marks b at = second-column b (marks_from (window_of plan at * plan.window) marks) ∙ ap second_told (column-from b (window_of plan at * plan.window) marks)

-- ---- rising starts

abbrev pub Climbs : List ℕ → Type 0
Climbs [] = Unit {0}
Climbs (x ∷ xs) = AllByRecursion (λ y. x < y) xs × Climbs xs

abbrev pub starts_of : Plan → List StampWindow → List ℕ
starts_of plan spans = map (λ (span : StampWindow). span.number * plan.window) spans

abbrev pub marks_of : Plan → List StampWindow → ℕ → List (Option ℕ × ℕ)
marks_of plan spans ended = map (λ (span : StampWindow). (Some (span.number * plan.window), span.mark)) spans ++ (None, ended) ∷ []

-- marks whose moments lie before all of these
abbrev pub AreBefore : List ℕ → List (Option ℕ × ℕ) → Type 0
AreBefore starts done = AllByRecursion (λ (m : Option ℕ × ℕ). IfSome m.0 (λ s. AllByRecursion (λ y. s < y) starts)) done

pub less_before : (x : ℕ) (xs : List ℕ) (o : Option ℕ) → IfSome o (λ s. AllByRecursion (λ y. s < y) (x ∷ xs)) → IfSome o (λ s. AllByRecursion (λ y. s < y) xs)
less_before x xs None h = tt
less_before x xs (Some s) h = h.1

pub first_before : (x : ℕ) (xs : List ℕ) (o : Option ℕ) → IfSome o (λ s. AllByRecursion (λ y. s < y) (x ∷ xs)) → IfSome o (λ s. s < x)
first_before x xs None h = tt
first_before x xs (Some s) h = h.0

pub next_before : (start told : ℕ) (starts : List ℕ) (done : List (Option ℕ × ℕ)) → Climbs (start ∷ starts) → AreBefore (start ∷ starts) done → AreBefore starts (done ++ (Some start, told) ∷ [])
next_before start told starts done climbs h =
    all_append (λ (m : Option ℕ × ℕ). IfSome m.0 (λ s. AllByRecursion (λ y. s < y) starts)) done ((Some start, told) ∷ [])
    (all_map (λ (m : Option ℕ × ℕ). IfSome m.0 (λ s. AllByRecursion (λ y. s < y) (start ∷ starts))) (λ (m : Option ℕ × ℕ). IfSome m.0 (λ s. AllByRecursion (λ y. s < y) starts)) done (λ m. less_before start starts m.0) h)
    (climbs.0, tt)

-- the marks before a window are passed over
pub skips : (start : ℕ) (done ms : List (Option ℕ × ℕ)) → AllByRecursion (λ (m : Option ℕ × ℕ). IfSome m.0 (λ s. s < start)) done → pairs_from start (done ++ ms) ≡ pairs_from start ms
skips start [] ms h = refl
skips start (m ∷ done) ms h = rw (differs m.0 h.0) (skips start done ms h.1) where
  differs : (o : Option ℕ) → IfSome o (λ s. s < start) → option_map_or (λ at. at == start) o false ≡ false
  differs None le = refl
  differs (Some s) le = by_test (s == start) refl where
    by_test : (t : Bool) → (s == start) ≡ t → (s == start) ≡ false
    by_test false e = e
    by_test true e = absurd (let same : s ≡ start = eqb-true s start e in omega (arith, same, le))

pub here : (start told : ℕ) (ms : List (Option ℕ × ℕ)) → pairs_from start ((Some start, told) ∷ ms) ≡ (Some start, told) ∷ ms
here start told ms = rw (eq-eqb start start refl) refl

-- ---- a call between its marks

-- a mark with no more lines than stand before the place has a moment that isn't behind this one
abbrev pub IsEarly : ℕ → ℕ → Option ℕ × ℕ → Type 0
IsEarly place at m = IfSome m.0 (λ s. m.1 ≤ place → s ≤ at)

pub record IsBetween (plan : Plan) (told : List (Option ℕ × ℕ)) (call : Call) : Type 0 where
  pub own : first_told (pairs_from (window_of plan call.entered.at * plan.window) told) ≤ call.place
  pub next : call.place < second_told (pairs_from (window_of plan call.entered.at * plan.window) told)
  pub early : AllByRecursion (IsEarly call.place call.entered.at) told

-- a window's first moment isn't behind the moment
pub window_from : (plan : Plan) (at : ℕ) → window_of plan at * plan.window ≤ at
window_from plan at = div-mul-le_self at plan.window

late : (plan : Plan) (place at n ended : ℕ) (spans : List StampWindow) → place < n → RisesFrom n (lengths_of spans ended) → AllByRecursion (IsEarly place at) (marks_of plan spans ended)
late plan place at n ended [] lt r = (tt, tt)
late plan place at n ended (span ∷ spans) lt r =
    let first = r.0 in
    ((λ le. absurd (omega (arith, lt, first, le))), late plan place at span.mark ended spans (omega (arith, lt, first)) r.1)

pub first_late : (plan : Plan) (n ended : ℕ) (spans : List StampWindow) → RisesFrom n (lengths_of spans ended) → n ≤ first_told (marks_of plan spans ended)
first_late plan n ended [] r = r.0
first_late plan n ended (span ∷ spans) r = r.0

earlier_early : (start place at : ℕ) (done : List (Option ℕ × ℕ)) → start ≤ at → AllByRecursion (λ (m : Option ℕ × ℕ). IfSome m.0 (λ s. s < start)) done → AllByRecursion (IsEarly place at) done
earlier_early start place at [] le h = tt
earlier_early start place at (m ∷ done) le h = (one m.0 h.0, earlier_early start place at done le h.1) where
  one : (o : Option ℕ) → IfSome o (λ s. s < start) → IfSome o (λ s. m.1 ≤ place → s ≤ at)
  one None lt = tt
  one (Some s) lt = λ t. omega (arith, lt, le)

pub calls_between : (p : ℕ) (plan : Plan) (told done : List (Option ℕ × ℕ)) (old : Shown) (spans : List StampWindow) (ended : ℕ) (left : Shown)
    → AreStampWindows p plan old spans ended left → told ≡ done ++ marks_of plan spans ended → AreBefore (starts_of plan spans) done → Climbs (starts_of plan spans)
    → AllByRecursion (λ (span : StampWindow). AllByRecursion (IsBetween plan told) span.calls) spans
calls_between p plan told done old [] ended left h e before climbs = tt
calls_between p plan told done old (span ∷ spans) ended left h e before climbs = (
  each span.calls places.1 h.0.items,
  calls_between p plan told (done ++ (Some start, span.mark) ∷ []) span.closed spans ended left h.1 (e ∙ sym (append_assoc done ((Some start, span.mark) ∷ []) (marks_of plan spans ended)))
      (next_before start span.mark (starts_of plan spans) done climbs before) climbs.1,
) where
  start : ℕ
  start = span.number * plan.window

  places : (length span.opened.past ≤ span.met) × AllByRecursion (λ (call : Call). (span.mark ≤ call.place) × (call.place < span.met)) span.calls
  places = calls_places p plan.params span.opened span.calls span.met span.closed span.mark (span_rises p plan old span h.0).1 h.0.calls

  all_before : AllByRecursion (λ (m : Option ℕ × ℕ). IfSome m.0 (λ s. s < start)) done
  all_before = all_map (λ (m : Option ℕ × ℕ). IfSome m.0 (λ s. AllByRecursion (λ y. s < y) (start ∷ starts_of plan spans))) (λ (m : Option ℕ × ℕ). IfSome m.0 (λ s. s < start)) done (λ m. first_before start (starts_of plan spans) m.0) before

  rising : RisesFrom (length span.closed.past) (lengths_of spans ended)
  rising = spans_rise p plan span.closed spans ended left h.1

  seen : span.met ≤ length span.closed.past
  seen = (span_rises p plan old span h.0).3

  from : pairs_from start told ≡ (Some start, span.mark) ∷ marks_of plan spans ended
  from = ap (pairs_from start) e ∙ skips start done ((Some start, span.mark) ∷ marks_of plan spans ended) all_before ∙ here start span.mark (marks_of plan spans ended)

  one : (call : Call) → (span.mark ≤ call.place) × (call.place < span.met) → window_of plan call.entered.at ≡ span.number → IsBetween plan told call
  one call at item =
      let w : window_of plan call.entered.at * plan.window ≡ start = ap (λ w. w * plan.window) item in
      let is = ap (λ s. pairs_from s told) w ∙ from in
      let own = ap first_told is in
      let next = ap second_told is in
      let later = first_late plan (length span.closed.past) ended spans rising in
      let mark = at.0 in
      let met = at.1 in
      let begins = window_from plan call.entered.at in
      let begun : start ≤ call.entered.at = omega (arith, w, begins) in
      let past : call.place < length span.closed.past = omega (arith, met, seen) in
      record {
        own = omega (arith, own, mark);
        next = omega (arith, next, later, past);
        early = subst (AllByRecursion (IsEarly call.place call.entered.at)) (sym e)
            (all_append (IsEarly call.place call.entered.at) done ((Some start, span.mark) ∷ marks_of plan spans ended) (earlier_early start call.place call.entered.at done begun all_before)
            ((λ t. begun), late plan call.place call.entered.at (length span.closed.past) ended spans past rising));
      }

  each : (calls : List Call) → AllByRecursion (λ (call : Call). (span.mark ≤ call.place) × (call.place < span.met)) calls → AllByRecursion (λ (call : Call). window_of plan call.entered.at ≡ span.number) calls → AllByRecursion (IsBetween plan told) calls
  each [] a i = tt
  each (call ∷ calls) a i = (one call a.0 i.0, each calls a.1 i.1)
