-- Turns: whose they are, the greatest moment, and how many lines stand behind the last.
use Rattle.std.proofs.Common.{◌≡◌, ℕ, ◌<◌, ◌≤◌, max, Bool, true, false, if◌then◌else◌, List, [], ◌∷◌, ◌++◌, refl, ◌∙◌, ap, subst, arith, eq-eqb}
use Rattle.std.specs.List.{AllByRecursion}
use Rattle.std.specs.Prelude.{fold, ◌==◌}
use Rattle.std.proofs.lemmas.List.Sums.{fold-append}
use Rattle.std.proofs.Math.Nat.{le-max_left, le-max_right, max-le}
use Rattle.run_evidence.specs.Tokens.{greatest_of, Adds}
use Rattle.bucket_stamps.specs.declared.view.Turn.{Turn}
use Rattle.bucket_stamps.specs.Own.{turns_of, length_behind, IsTurnOfOne}

-- ---- a participant's turns

pub turns_of-append : (p : ℕ) (xs ys : List Turn) → turns_of p (xs ++ ys) ≡ turns_of p xs ++ turns_of p ys
turns_of-append p [] ys = refl
turns_of-append p (t ∷ ts) ys = by_test (t.participant == p) (turns_of-append p ts ys) where
  by_test : (b : Bool) → turns_of p (ts ++ ys) ≡ turns_of p ts ++ turns_of p ys → (if b then t ∷ turns_of p (ts ++ ys) else turns_of p (ts ++ ys)) ≡ (if b then t ∷ turns_of p ts else turns_of p ts) ++ turns_of p ys
  by_test true e = ap (λ us. t ∷ us) e
  by_test false e = e

pub turns_of-one : (p : ℕ) (t : Turn) → t.participant ≡ p → turns_of p (t ∷ []) ≡ t ∷ []
turns_of-one p t e = rw (eq-eqb t.participant p e) refl

pub adds_turns : (p : ℕ) (old new mine : List Turn) → Adds p old new mine → turns_of p new ≡ turns_of p old ++ mine
adds_turns p old new mine h = ap (turns_of p) h.1 ∙ turns_of-append p old h.0 ∙ ap (λ ts. turns_of p old ++ ts) h.2

-- what holds of each participant's turns holds of all
pub each_turn : (P : Turn → Type 0) (n : ℕ) (turns : List Turn) → AllByRecursion (IsTurnOfOne n) turns → ((p : ℕ) → p < n → AllByRecursion P (turns_of p turns)) → AllByRecursion P turns
each_turn P n [] only each = tt
each_turn P n (t ∷ ts) only each = (first, each_turn P n ts only.1 (λ p le. rest p (each p le))) where
  first : P t
  first = (subst (AllByRecursion P) (mine t ts) (each t.participant only.0)).0 where
    mine : (t : Turn) (ts : List Turn) → turns_of t.participant (t ∷ ts) ≡ t ∷ turns_of t.participant ts
    mine t ts = rw (eq-eqb t.participant t.participant refl) refl

  rest : (p : ℕ) → AllByRecursion P (turns_of p (t ∷ ts)) → AllByRecursion P (turns_of p ts)
  rest p = by_test (t.participant == p) where
    by_test : (b : Bool) → AllByRecursion P (if b then t ∷ turns_of p ts else turns_of p ts) → AllByRecursion P (turns_of p ts)
    by_test true h = h.1
    by_test false h = h

pub all_turns_of : (P : Turn → Type 0) (p : ℕ) (turns : List Turn) → AllByRecursion P turns → AllByRecursion P (turns_of p turns)
all_turns_of P p [] all = tt
all_turns_of P p (t ∷ ts) all = by_test (t.participant == p) (all_turns_of P p ts all.1) where
  by_test : (b : Bool) → AllByRecursion P (turns_of p ts) → AllByRecursion P (if b then t ∷ turns_of p ts else turns_of p ts)
  by_test true h = (all.0, h)
  by_test false h = h

-- ---- the greatest moment

pub greatest-snoc : (turns : List Turn) (t : Turn) → greatest_of (turns ++ t ∷ []) ≡ max (greatest_of turns) t.at
greatest-snoc turns t = fold-append (λ (m : ℕ) (x : Turn). max m x.at) 0 turns (t ∷ [])

greatest_from : (m : ℕ) (turns : List Turn) → (m ≤ fold (λ (n : ℕ) (x : Turn). max n x.at) m turns) × AllByRecursion (λ (t : Turn). t.at ≤ fold (λ (n : ℕ) (x : Turn). max n x.at) m turns) turns
greatest_from m [] = (omega arith, tt)
greatest_from m (t ∷ ts) =
    let rest = greatest_from (max m t.at) ts in
    let above = rest.0 in
    let left = le-max_left m t.at in
    let right = le-max_right m t.at in
    (omega (arith, above, left), (omega (arith, above, right), rest.1))

-- it is at least each moment
pub greatest-above : (turns : List Turn) → AllByRecursion (λ (t : Turn). t.at ≤ greatest_of turns) turns
greatest-above turns = (greatest_from 0 turns).1

greatest_below : (m n : ℕ) (turns : List Turn) → m ≤ n → AllByRecursion (λ (t : Turn). t.at ≤ n) turns → fold (λ (k : ℕ) (x : Turn). max k x.at) m turns ≤ n
greatest_below m n [] le all = le
greatest_below m n (t ∷ ts) le all = greatest_below (max m t.at) n ts (max-le le all.0) all.1

-- and at most what each moment is
pub greatest-within : (n : ℕ) (turns : List Turn) → AllByRecursion (λ (t : Turn). t.at ≤ n) turns → greatest_of turns ≤ n
greatest-within n turns all = greatest_below 0 n turns (omega arith) all

-- ---- the last turn

pub length_behind-within : (n m : ℕ) (turns : List Turn) → m ≤ n → AllByRecursion (λ (t : Turn). t.length ≤ n) turns → length_behind m turns ≤ n
length_behind-within n m [] le all = le
length_behind-within n m (t ∷ ts) le all = length_behind-within n t.length ts all.0 all.1
