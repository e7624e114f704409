-- Lists whose one element changes, and numbers that rise.
use Rattle.std.proofs.Common.{◌≡◌, ◌≢◌, ℕ, zero, suc, ◌-◌, ◌≤◌, List, [], ◌∷◌, ◌++◌, length, get_or, Some, refl, ap, subst, arith}
use Rattle.std.specs.Option.{option_map}
use Rattle.std.specs.List.{All, slice_get}
use Rattle.std.proofs.lemmas.List.Elements.{All-cons, All-head, All-tail, All-push, All-weaker}
use Rattle.std.proofs.lemmas.List.Sorted.{IsNonDecreasingBy-push}
use Rattle.std.proofs.lemmas.Option.{slice_get_within, get_or_from_slice_get}
use Rattle.hh_core.specs.State.{ReaderState, change_at}
use Rattle.hh_core.specs.Safe.{RisesTo}

-- what holds of each holds of the one that is found
pub All-found : {X : Type 0} (P : X → Type 0) (xs : List X) (r : ℕ) (x : X) → slice_get xs r ≡ Some x → All P xs → P x
All-found P xs r x e h = subst P (get_or_from_slice_get xs r x x e) (h r x (slice_get_within xs r x e))

-- the others keep what holds of each; the one that changes has to have it
pub All-change_at : (P : ReaderState → Type 0) (f : ReaderState → ReaderState) (xs : List ReaderState) (r : ℕ) → ((x : ReaderState) → slice_get xs r ≡ Some x → P x → P (f x)) → All P xs → All P (change_at f xs r)
All-change_at P f [] r g h = h
All-change_at P f (x ∷ xs) zero g h = All-cons P (f x) xs (g x refl (All-head P x xs h)) (All-tail P x xs h)
All-change_at P f (x ∷ xs) (suc r) g h = All-cons P x (change_at f xs r) (All-head P x xs h) (All-change_at P f xs r g (All-tail P x xs h))

-- what is found stays where the list grows
pub slice_get-grown : {X : Type 0} (xs ys : List X) (k : ℕ) (x : X) → slice_get xs k ≡ Some x → slice_get (xs ++ ys) k ≡ Some x
slice_get-grown [] ys k x e = cc
slice_get-grown (y ∷ xs) ys zero x e = e
slice_get-grown (y ∷ xs) ys (suc k) x e = slice_get-grown xs ys k x e

-- the last of a grown list
pub slice_get-last : {X : Type 0} (xs : List X) (x : X) → slice_get (xs ++ x ∷ []) (length xs) ≡ Some x
slice_get-last [] x = refl
slice_get-last (y ∷ xs) x = slice_get-last xs x

-- one more number, which isn't below the others
pub RisesTo-push : (most : ℕ) (xs : List ℕ) (n : ℕ) → most ≤ n → RisesTo most xs → RisesTo n (xs ++ n ∷ [])
RisesTo-push most xs n up h = record {
  rises = IsNonDecreasingBy-push (λ k. k) xs n h.rises (λ d some. let last : get_or xs (length xs - 1) d ≤ most = h.within (length xs - 1) d (omega arith) in omega arith);
  within = All-push (λ k. k ≤ n) xs n (All-weaker (λ k. k ≤ most) (λ k. k ≤ n) (λ k small. omega arith) xs h.within) (omega arith);
}

-- a greater bound
pub RisesTo-more : (most n : ℕ) (xs : List ℕ) → most ≤ n → RisesTo most xs → RisesTo n xs
RisesTo-more most n xs up h = record {
  rises = h.rises;
  within = All-weaker (λ k. k ≤ most) (λ k. k ≤ n) (λ k small. omega arith) xs h.within;
}

-- the reader that changes
pub change_here : (f : ReaderState → ReaderState) (xs : List ReaderState) (r : ℕ) (x : ReaderState) → slice_get xs r ≡ Some x → slice_get (change_at f xs r) r ≡ Some (f x)
change_here f [] r x e = cc
change_here f (y ∷ ys) zero x e = ap (option_map f) e
change_here f (y ∷ ys) (suc r) x e = change_here f ys r x e

-- the others
pub change_else : (f : ReaderState → ReaderState) (xs : List ReaderState) (r k : ℕ) → k ≢ r → slice_get (change_at f xs r) k ≡ slice_get xs k
change_else f [] r k n = refl
change_else f (y ∷ ys) zero zero n = absurd (n refl)
change_else f (y ∷ ys) zero (suc k) n = refl
change_else f (y ∷ ys) (suc r) zero n = refl
change_else f (y ∷ ys) (suc r) (suc k) n = change_else f ys r k (λ e. n (ap suc e))

-- how many there are
pub length-change_at : (f : ReaderState → ReaderState) (xs : List ReaderState) (r : ℕ) → length (change_at f xs r) ≡ length xs
length-change_at f [] r = refl
length-change_at f (y ∷ ys) zero = refl
length-change_at f (y ∷ ys) (suc r) = ap suc (length-change_at f ys r)
