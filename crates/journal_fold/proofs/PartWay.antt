-- Entries by rank of which the first have taken a line.
use Rattle.std.proofs.Common.{◌≡◌, ℕ, ◌+◌, ◌≤◌, zero, suc, List, [], ◌∷◌, ◌++◌, map, set, take, drop, length, slice_get, Some, refl, sym, ap, ◌∙◌, arith}
use Rattle.nb_base.specs.declared.key.Key.{Key}

-- the first so many of the keys are at g, the others at f
abbrev pub part_way : {X : Type 0} → (Key → X) → (Key → X) → ℕ → List Key → List X
part_way g f n keys = map g (take n keys) ++ map f (drop n keys)

-- what stands behind those that are at g is at f
pub next_at : {X : Type 0} (g f : Key → X) (n : ℕ) (keys : List Key) (key : Key) → slice_get keys n ≡ Some key → slice_get (part_way g f n keys) n ≡ Some (f key)
next_at g f n [] key e = cc
next_at g f zero (k ∷ ks) key e = let same : k ≡ key = cc in ap (λ (x : Key). Some (f x)) same
next_at g f (suc n) (k ∷ ks) key e = next_at g f n ks key e

set_suc : {X : Type 0} (g f : Key → X) (n : ℕ) (keys : List Key) (key : Key) → slice_get keys n ≡ Some key → set (part_way g f n keys) n (g key) ≡ part_way g f (suc n) keys
set_suc g f n [] key e = cc
set_suc g f zero (k ∷ ks) key e = let same : k ≡ key = cc in ap (λ (x : Key). g x ∷ map f ks) (sym same)
set_suc g f (suc n) (k ∷ ks) key e = ap (λ (xs : List _). g k ∷ xs) (set_suc g f n ks key e)

-- and goes to g next
pub next_set : {X : Type 0} (g f : Key → X) (n : ℕ) (keys : List Key) (key : Key) → slice_get keys n ≡ Some key → set (part_way g f n keys) n (g key) ≡ part_way g f (n + 1) keys
next_set g f n keys key e = let next : n + 1 ≡ suc n = omega arith in set_suc g f n keys key e ∙ ap (λ (m : ℕ). part_way g f m keys) (sym next)

-- at last each is at g
pub all_done : {X : Type 0} (g f : Key → X) (n : ℕ) (keys : List Key) → length keys ≤ n → part_way g f n keys ≡ map g keys
all_done g f zero [] le = refl
all_done g f (suc n) [] le = refl
all_done g f zero (k ∷ ks) le = absurd (omega (arith, le))
all_done g f (suc n) (k ∷ ks) le = ap (λ (xs : List _). g k ∷ xs) (all_done g f n ks (omega (arith, le)))
