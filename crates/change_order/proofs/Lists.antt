-- Lists read by place, and facts of each element.
use Rattle.std.proofs.Common.{◌≡◌, ◌≢◌, ◌⊎◌, ℕ, zero, suc, ◌<◌, List, [], ◌∷◌, ◌++◌, length, set, refl, sym, ap, subst, ⊎_elim, inl, inr, arith}
use Rattle.std.specs.List.{AllByRecursion as Each}
use mathlib.Core.Option.{some, some-injective, some-ne-none}
use lib.ListN.{get_elem?}

-- a place of a list of which one changed: that one, or another
pub at_set : {A : Type 0} (xs : List A) (i j : ℕ) (a b : A) → get_elem? (set xs i a) j ≡ some b → ((j ≡ i) × (a ≡ b)) ⊎ ((j ≢ i) × (get_elem? xs j ≡ some b))
at_set [] i j a b e = absurd (some-ne-none b (sym e))
at_set (x ∷ xs) zero zero a b e = inl (refl, some-injective a b e)
at_set (x ∷ xs) zero (suc j) a b e = inr ((λ h. omega arith), e)
at_set (x ∷ xs) (suc i) zero a b e = inr ((λ h. omega arith), e)
at_set (x ∷ xs) (suc i) (suc j) a b e = ⊎_elim (λ t. inl (ap suc t.0, t.1)) (λ t. let n = t.0 in inr ((λ h. n (omega arith)), t.1)) (at_set xs i j a b e)

pub set_here : {A : Type 0} (xs : List A) (i : ℕ) (a : A) → i < length xs → get_elem? (set xs i a) i ≡ some a
set_here [] i a h = absurd (omega arith)
set_here (x ∷ xs) zero a h = refl
set_here (x ∷ xs) (suc i) a h = set_here xs i a (omega arith)

pub set_else : {A : Type 0} (xs : List A) (i j : ℕ) (a : A) → j ≢ i → get_elem? (set xs i a) j ≡ get_elem? xs j
set_else [] i j a n = refl
set_else (x ∷ xs) zero zero a n = absurd (n refl)
set_else (x ∷ xs) zero (suc j) a n = refl
set_else (x ∷ xs) (suc i) zero a n = refl
set_else (x ∷ xs) (suc i) (suc j) a n = set_else xs i j a (λ e. n (ap suc e))

-- a fact of each place, where one changes
pub each_set : {A : Type 0} (P : ℕ → A → Type 0) (xs : List A) (at : ℕ) (w : A) → ((j : ℕ) (u : A) → j ≢ at → get_elem? xs j ≡ some u → P j u) → P at w → (j : ℕ) (u : A) → get_elem? (set xs at w) j ≡ some u → P j u
each_set {A = A} P xs at w others mine j u e =
    ⊎_elim
    (λ (t : (j ≡ at) × (w ≡ u)). subst (λ (y : ℕ × A). P y.0 y.1) (λ i. (sym t.0 i, t.1 i)) mine)
    (λ (t : (j ≢ at) × (get_elem? xs j ≡ some u)). others j u t.0 t.1)
    (at_set xs at j w u e)

pub within_at : {A : Type 0} (xs : List A) (i : ℕ) (x : A) → get_elem? xs i ≡ some x → i < length xs
within_at [] i x e = absurd (some-ne-none x (sym e))
within_at (y ∷ ys) zero x e = omega arith
within_at (y ∷ ys) (suc i) x e = let h = within_at ys i x e in omega arith

pub length-set_at : {A : Type 0} (xs : List A) (at : ℕ) (w : A) → length (set xs at w) ≡ length xs
length-set_at [] at w = refl
length-set_at (x ∷ xs) zero w = refl
length-set_at (x ∷ xs) (suc at) w = ap suc (length-set_at xs at w)

pub length-snoc : {A : Type 0} (xs : List A) (x : A) → length (xs ++ x ∷ []) ≡ suc (length xs)
length-snoc [] x = refl
length-snoc (y ∷ ys) x = ap suc (length-snoc ys x)

pub each_more : {A : Type 0} (P Q : A → Type 0) (xs : List A) → ((x : A) → P x → Q x) → Each P xs → Each Q xs
each_more P Q [] f h = tt
each_more P Q (x ∷ xs) f h = (f x h.0, each_more P Q xs f h.1)

pub each_snoc : {A : Type 0} (P : A → Type 0) (xs : List A) (x : A) → Each P xs → P x → Each P (xs ++ x ∷ [])
each_snoc P [] x h p = (p, tt)
each_snoc P (y ∷ ys) x h p = (h.0, each_snoc P ys x h.1 p)

pub each_append : {A : Type 0} (P : A → Type 0) (xs ys : List A) → Each P xs → Each P ys → Each P (xs ++ ys)
each_append P [] ys h g = g
each_append P (x ∷ xs) ys h g = (h.0, each_append P xs ys h.1 g)
