-- Lists read by place, and options.
use Rattle.std.proofs.Common.{◌≡◌, ◌≢◌, ◌⊎◌, ℕ, zero, suc, ◌+◌, cond, eqb, Bool, List, [], ◌∷◌, ◌++◌, length, Option, Some, None, IfSome, refl, sym, ap, ◌∙◌, subst, ⊎_elim, inl, inr, arith}
use Rattle.std.proofs.lemmas.Bool.{eq-eqb, ne_eqb}
use mathlib.Core.Option.{some, some-injective, some-ne-none}
use lib.ListN.{get_elem?}

-- a list of one more: an old place, or the new one
pub at_snoc_place : {A : Type 0} (l : List A) (a b : A) (j : ℕ) → get_elem? (l ++ a ∷ []) j ≡ some b → (get_elem? l j ≡ some b) ⊎ ((j ≡ length l) × (a ≡ b))
at_snoc_place [] a b zero e = inr (refl, some-injective a b e)
at_snoc_place [] a b (suc j) e = absurd (some-ne-none b (sym e))
at_snoc_place (x ∷ xs) a b zero e = inl e
at_snoc_place (x ∷ xs) a b (suc j) e = ⊎_elim inl (λ t. inr (ap suc t.0, t.1)) (at_snoc_place xs a b j e)

-- a fact of each place, where one more comes
pub each_snoc_place : {A : Type 0} (P : ℕ → A → Type 0) (xs : List A) (w : A) → ((j : ℕ) (u : A) → get_elem? xs j ≡ some u → P j u) → P (length xs) w → (j : ℕ) (u : A) → get_elem? (xs ++ w ∷ []) j ≡ some u → P j u
each_snoc_place {A = A} P xs w others mine j u e =
    ⊎_elim
    (λ (t : get_elem? xs j ≡ some u). others j u t)
    (λ (t : (j ≡ length xs) × (w ≡ u)). subst (λ (y : ℕ × A). P y.0 y.1) (λ i. (sym t.0 i, t.1 i)) mine)
    (at_snoc_place xs w u j e)

-- what holds of a value that is there
pub if_some_at : {X : Type 0} (P : X → Type 0) (o : Option X) (x : X) → o ≡ Some x → IfSome o P → P x
if_some_at {X = X} P o x e h = let F : Option X → Type 0 = λ v. IfSome v P in subst F e h

pub if_some_is : {X : Type 0} (P : X → Type 0) (o : Option X) (x : X) → o ≡ Some x → P x → IfSome o P
if_some_is {X = X} P o x e h = let F : Option X → Type 0 = λ v. IfSome v P in subst F (sym e) h

pub if_some_more : {X : Type 0} (P Q : X → Type 0) (o : Option X) → ((x : X) → o ≡ Some x → P x → Q x) → IfSome o P → IfSome o Q
if_some_more P Q None f h = h
if_some_more P Q (Some x) f h = f x refl h

-- one part goes to another seat
abbrev pub moved : (ℕ → ℕ) → ℕ → ℕ → ℕ → ℕ
moved seat_of r at k = cond (eqb k r) at (seat_of k)

pub moved_here : (seat_of : ℕ → ℕ) (r at : ℕ) → moved seat_of r at r ≡ at
moved_here seat_of r at = ap (λ (b : Bool). cond b at (seat_of r)) (eq-eqb r r refl)

pub moved_else : (seat_of : ℕ → ℕ) (r at k : ℕ) → k ≢ r → moved seat_of r at k ≡ seat_of k
moved_else seat_of r at k n = ap (λ (b : Bool). cond b at (seat_of k)) (ne_eqb k r n)

-- lists of one length with the same elements
pub same_places : {A : Type 0} (xs ys : List A) → length xs ≡ length ys → ((j : ℕ) (p : A) → get_elem? xs j ≡ some p → get_elem? ys j ≡ some p) → xs ≡ ys
same_places [] [] e h = refl
same_places [] (y ∷ ys) e h = absurd (omega arith)
same_places (x ∷ xs) [] e h = absurd (omega arith)
same_places (x ∷ xs) (y ∷ ys) e h = λ k. sym (some-injective y x (h 0 x refl)) k ∷ same_places xs ys (omega arith) (λ j p there. h (suc j) p there) k

-- all that is at one seat goes to another
abbrev pub redirected : (ℕ → ℕ) → ℕ → ℕ → ℕ → ℕ
redirected seat_of other at k = cond (eqb (seat_of k) other) at (seat_of k)

pub redirected_here : (seat_of : ℕ → ℕ) (other at k : ℕ) → seat_of k ≡ other → redirected seat_of other at k ≡ at
redirected_here seat_of other at k e = ap (λ (b : Bool). cond b at (seat_of k)) (eq-eqb (seat_of k) other e)

pub redirected_else : (seat_of : ℕ → ℕ) (other at k : ℕ) → seat_of k ≢ other → redirected seat_of other at k ≡ seat_of k
redirected_else seat_of other at k n = ap (λ (b : Bool). cond b at (seat_of k)) (ne_eqb (seat_of k) other n)

pub at_behind : {A : Type 0} (xs ys : List A) (j : ℕ) → get_elem? (xs ++ ys) (length xs + j) ≡ get_elem? ys j
at_behind [] ys j = (let e : 0 + j ≡ j = omega arith in ap (λ (n : ℕ). get_elem? ys n) e)
at_behind (x ∷ xs) ys j = (let e : suc (length xs) + j ≡ suc (length xs + j) = omega arith in ap (λ (n : ℕ). get_elem? (x ∷ (xs ++ ys)) n) e) ∙ at_behind xs ys j
