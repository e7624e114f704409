-- Sums over lists.
use Rattle.std.proofs.Common.{◌≡◌, ℕ, zero, suc, ◌+◌, ◌*◌, ◌≤◌, Bool, cond, List, [], ◌∷◌, ◌++◌, length, set, refl, sym, ap, arith}
use mathlib.Core.Option.{some, some-injective, some-ne-none}
use lib.ListN.{get_elem?}
use Rattle.change_order.specs.Ticks.{total_by, how_many}

pub total-set : {A : Type 0} (f : A → ℕ) (xs : List A) (i : ℕ) (p q : A) → get_elem? xs i ≡ some p → total_by f (set xs i q) + f p ≡ total_by f xs + f q
total-set f [] i p q e = absurd (some-ne-none p (sym e))
total-set f (x ∷ xs) zero p q e = let same = ap f (some-injective x p e) in omega (arith, same)
total-set f (x ∷ xs) (suc i) p q e = let h = total-set f xs i p q e in omega (arith, h)

pub total-snoc : {A : Type 0} (f : A → ℕ) (xs : List A) (y : A) → total_by f (xs ++ y ∷ []) ≡ total_by f xs + f y
total-snoc f [] y = omega arith
total-snoc f (x ∷ xs) y = let h = total-snoc f xs y in omega (arith, h)

pub total-same : {A : Type 0} (f g : A → ℕ) (xs : List A) → ((i : ℕ) (x : A) → get_elem? xs i ≡ some x → f x ≡ g x) → total_by f xs ≡ total_by g xs
total-same f g [] h = refl
total-same f g (x ∷ xs) h = let a = h 0 x refl in let b = total-same f g xs (λ i y e. h (suc i) y e) in omega (arith, a, b)

-- where one changes and its number doesn't
pub total-set_same : {A : Type 0} (f : A → ℕ) (xs : List A) (i : ℕ) (p q : A) → get_elem? xs i ≡ some p → f q ≡ f p → total_by f (set xs i q) ≡ total_by f xs
total-set_same f xs i p q e same = let h = total-set f xs i p q e in omega (arith, h, same)

pub total-most : {A : Type 0} (f : A → ℕ) (xs : List A) → ((i : ℕ) (x : A) → get_elem? xs i ≡ some x → f x ≤ 4194304) → total_by f xs ≤ 4194304 * length xs
total-most f [] h = omega arith
total-most f (x ∷ xs) h = let a = h 0 x refl in let b = total-most f xs (λ i y e. h (suc i) y e) in omega (arith, a, b)

pub total-one : {A : Type 0} (f : A → ℕ) (xs : List A) (i : ℕ) (p : A) → get_elem? xs i ≡ some p → f p ≤ total_by f xs
total-one f [] i p e = absurd (some-ne-none p (sym e))
total-one f (x ∷ xs) zero p e = let same = ap f (some-injective x p e) in omega (arith, same)
total-one f (x ∷ xs) (suc i) p e = let h = total-one f xs i p e in omega (arith, h)

pub total-none : {A : Type 0} (f : A → ℕ) (xs : List A) → ((i : ℕ) (x : A) → get_elem? xs i ≡ some x → f x ≡ 0) → total_by f xs ≡ 0
total-none f [] h = refl
total-none f (x ∷ xs) h = let a = h 0 x refl in let b = total-none f xs (λ i y e. h (suc i) y e) in omega (arith, a, b)

pub how_many-snoc : {A : Type 0} (p : A → Bool) (xs : List A) (y : A) → how_many p (xs ++ y ∷ []) ≡ how_many p xs + cond (p y) 1 0
how_many-snoc p [] y = omega arith
how_many-snoc p (x ∷ xs) y = let h = how_many-snoc p xs y in omega (arith, h)
