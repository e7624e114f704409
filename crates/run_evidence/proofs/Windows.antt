-- The windows of a plan rise, so their first moments do, and a participant's windows are those of the marks.
use Rattle.std.proofs.Common.{◌≡◌, ⊎_elim, ℕ, ◌*◌, ◌<◌, ◌≤◌, Bool, true, false, if◌then◌else◌, List, [], ◌∷◌, ◌++◌, refl, sym, ◌∙◌, ap, subst, arith}
use Rattle.std.specs.List.{AllByRecursion}
use Rattle.std.specs.Prelude.{map, fold, ◌==◌, nat_lt, Option, Some, None}
use Rattle.std.proofs.lemmas.Bool.{ltb-true, ltb-false, eq-eqb, cases_lt, false≢true}
use Rattle.std.proofs.Math.Nat.{mul-lt-mul_of_pos_right}
use Rattle.nb_base.specs.declared.plan.Plan.{Plan}
use Rattle.nb_base.specs.declared.host_line.Mark.{Mark}
use Rattle.neigh_run.specs.Windows.{window_of, insert_once, item_moments, windows, starts}
use Rattle.run_evidence.specs.Stamps.{StampWindow, StampHistory, marks_in}
use Rattle.run_evidence.specs.Evidence.{column}
use Rattle.run_evidence.proofs.Lists.{all_map}
use Rattle.run_evidence.proofs.Marks.{Climbs, starts_of}

-- ---- rising windows

above_insert : (z x : ℕ) (xs : List ℕ) → z < x → AllByRecursion (λ y. z < y) xs → AllByRecursion (λ y. z < y) (insert_once x xs)
above_insert z x [] lt all = (lt, tt)
above_insert z x (y ∷ ys) lt all = by_test (x == y) (nat_lt x y) (above_insert z x ys lt all.1) where
  by_test : (same less : Bool) → AllByRecursion (λ y. z < y) (insert_once x ys) → AllByRecursion (λ y. z < y) (if same then y ∷ ys else (if less then x ∷ y ∷ ys else y ∷ insert_once x ys))
  by_test true less rest = all
  by_test false true rest = (lt, all)
  by_test false false rest = (all.0, rest)

climbs_insert : (x : ℕ) (xs : List ℕ) → Climbs xs → Climbs (insert_once x xs)
climbs_insert x [] c = (tt, tt)
climbs_insert x (y ∷ ys) c = by_test (x == y) (nat_lt x y) refl refl (climbs_insert x ys c.1) where
  differs : (x == y) ≡ false → (nat_lt x y) ≡ false → y < x
  differs e l = ⊎_elim (λ (lt : y < x). lt) (λ (le : x ≤ y). let ge = ltb-false x y l in let same : x ≡ y = omega (arith, le, ge) in absurd (false≢true (sym e ∙ eq-eqb x y same))) (cases_lt y x)

  by_test : (same less : Bool) → (x == y) ≡ same → nat_lt x y ≡ less → Climbs (insert_once x ys) → Climbs (if same then y ∷ ys else (if less then x ∷ y ∷ ys else y ∷ insert_once x ys))
  by_test true less e l rest = c
  by_test false true e l rest = ((ltb-true x y l, all_map (λ z. y < z) (λ z. x < z) ys (λ z h. let lt = ltb-true x y l in omega (arith, lt, h)) c.0), c)
  by_test false false e l rest = (above_insert y x ys (differs e l) c.0, rest)

climbs_from : (plan : Plan) (ws : List ℕ) (moments : List ℕ) → Climbs ws → Climbs (fold (λ (ws : List ℕ) (at : ℕ). insert_once (window_of plan at) ws) ws moments)
climbs_from plan ws [] c = c
climbs_from plan ws (at ∷ moments) c = climbs_from plan (insert_once (window_of plan at) ws) moments (climbs_insert (window_of plan at) ws c)

pub windows_climb : (plan : Plan) → Climbs (windows plan)
unfolding windows
windows_climb plan = climbs_from plan [] (item_moments plan) tt

times_above : (w z : ℕ) (xs : List ℕ) → 0 < w → AllByRecursion (λ y. z < y) xs → AllByRecursion (λ y. z * w < y) (map (λ x. x * w) xs)
times_above w z [] some all = tt
times_above w z (x ∷ xs) some all = (mul-lt-mul_of_pos_right all.0 some, times_above w z xs some all.1)

times_climb : (w : ℕ) (xs : List ℕ) → 0 < w → Climbs xs → Climbs (map (λ x. x * w) xs)
times_climb w [] some c = tt
times_climb w (x ∷ xs) some c = (times_above w x xs some c.0, times_climb w xs some c.1)

-- the windows' first moments rise
pub starts_climb : (plan : Plan) → 0 < plan.window → Climbs (starts plan)
starts_climb plan some = times_climb plan.window (windows plan) some (windows_climb plan)

-- ---- a participant's windows

same_starts : (xs ys : List ℕ) → map (λ (x : ℕ). Some x) xs ++ None ∷ [] ≡ map (λ (x : ℕ). Some x) ys ++ None ∷ [] → xs ≡ ys
same_starts [] [] e = refl
same_starts [] (y ∷ ys) e = cc
same_starts (x ∷ xs) [] e = cc
same_starts (x ∷ xs) (y ∷ ys) e =
    let head : x ≡ y = cc in
    let tail : map (λ (x : ℕ). Some x) xs ++ None ∷ [] ≡ map (λ (x : ℕ). Some x) ys ++ None ∷ [] = cc in
    let rest = same_starts xs ys tail in
    cc

starts_marks : (plan : Plan) (spans : List StampWindow) (ended : ℕ) → map (λ (m : Option ℕ × ℕ). m.0) (map (λ (span : StampWindow). (Some (span.number * plan.window), span.mark)) spans ++ (None, ended) ∷ []) ≡ map (λ (x : ℕ). Some x) (starts_of plan spans) ++ None ∷ []
starts_marks plan [] ended = refl
starts_marks plan (span ∷ spans) ended = ap (λ os. Some (span.number * plan.window) ∷ os) (starts_marks plan spans ended)

starts_column : (b : ℕ) (marks : List Mark) → map (λ (m : Option ℕ × ℕ). m.0) (column b marks) ≡ map (λ (mark : Mark). mark.start) marks
starts_column b [] = refl
starts_column b (mark ∷ marks) = ap (λ os. mark.start ∷ os) (starts_column b marks)

-- a history with the run's marks has the plan's windows
pub history_starts : (plan : Plan) (b : ℕ) (marks : List Mark) (history : StampHistory) → map (λ (mark : Mark). mark.start) marks ≡ map Some (starts plan) ++ None ∷ [] → marks_in plan history ≡ column b marks → starts_of plan history.windows ≡ starts plan
history_starts plan b marks history e m = same_starts (starts_of plan history.windows) (starts plan) (sym (starts_marks plan history.windows history.ended) ∙ ap (map (λ (m : Option ℕ × ℕ). m.0)) m ∙ starts_column b marks ∙ e)

pub history_climbs : (plan : Plan) (b : ℕ) (marks : List Mark) (history : StampHistory) → 0 < plan.window → map (λ (mark : Mark). mark.start) marks ≡ map Some (starts plan) ++ None ∷ [] → marks_in plan history ≡ column b marks → Climbs (starts_of plan history.windows)
history_climbs plan b marks history some e m = subst Climbs (sym (history_starts plan b marks history e m)) (starts_climb plan some)
