-- Lists of views, beginnings, and options.
use Rattle.std.proofs.Common.{◌≡◌, ◌≢◌, ◌⊎◌, ℕ, zero, suc, cond, eqb, Bool, true, false, true≢false, List, [], ◌∷◌, ◌++◌, set, length, Option, Some, None, IfSome, refl, sym, ap, ◌∙◌, subst, ⊎_elim, inl, inr, append_assoc, append-nil}
use Rattle.std.specs.Prelude.{IsSome}
use Rattle.std.proofs.lemmas.Bool.{eq-eqb, ne_eqb}
use mathlib.Core.Option.{some, some-injective, some-ne-none}
use mathlib.Core.List.{IsPrefix}
use lib.ListN.{get_elem?}

pub off : false ≡ true → ⊥
off e = true≢false (sym e)

-- a list of one more: an old place, or the new one
pub at_snoc_place : {A : Type 0} (l : List A) (a b : A) (j : ℕ) → get_elem? (l ++ a ∷ []) j ≡ some b → (get_elem? l j ≡ some b) ⊎ ((j ≡ length l) × (a ≡ b))
at_snoc_place [] a b zero e = inr (refl, some-injective a b e)
at_snoc_place [] a b (suc j) e = absurd (some-ne-none b (sym e))
at_snoc_place (x ∷ xs) a b zero e = inl e
at_snoc_place (x ∷ xs) a b (suc j) e = ⊎_elim inl (λ t. inr (ap suc t.0, t.1)) (at_snoc_place xs a b j e)

-- what is put where something stands is there
pub set_there : {A : Type 0} (l : List A) (i : ℕ) (a b : A) → get_elem? l i ≡ some a → get_elem? (set l i b) i ≡ some b
set_there [] i a b e = absurd (some-ne-none a (sym e))
set_there (x ∷ xs) zero a b e = refl
set_there (x ∷ xs) (suc i) a b e = set_there xs i a b e

-- what holds of a value that is there
pub if_some_at : {X : Type 0} (P : X → Type 0) (o : Option X) (x : X) → o ≡ Some x → IfSome o P → P x
if_some_at {X = X} P o x e h = let F : Option X → Type 0 = λ v. IfSome v P in subst F e h

pub if_some_is : {X : Type 0} (P : X → Type 0) (o : Option X) (x : X) → o ≡ Some x → P x → IfSome o P
if_some_is {X = X} P o x e h = let F : Option X → Type 0 = λ v. IfSome v P in subst F (sym e) h

pub if_some_more : {X : Type 0} (P Q : X → Type 0) (o : Option X) → ((x : X) → o ≡ Some x → P x → Q x) → IfSome o P → IfSome o Q
if_some_more P Q None f h = h
if_some_more P Q (Some x) f h = f x refl h

pub the_some : {X : Type 0} (o : Option X) → IsSome o → (x : X) × (o ≡ Some x)
the_some None h = absurd (off h)
the_some (Some x) h = (x, refl)

pub none_some : {X : Type 0} (o : Option X) (x : X) → o ≡ None → o ≡ Some x → ⊥
none_some {X = X} o x e f = let bad : None ≡ Some x = sym e ∙ f in cc

-- beginnings
pub begins_self : {A : Type 0} (xs ys : List A) → xs ≡ ys → IsPrefix xs ys
begins_self xs ys e = ([], append-nil xs ∙ e)

pub begins_longer : {A : Type 0} (xs history more new : List A) → new ≡ history ++ more → IsPrefix xs history → IsPrefix xs new
begins_longer {A = A} xs history more new e p = (p.0 ++ more, sym (append_assoc xs p.0 more) ∙ (ap (λ (l : List A). l ++ more) p.1 ∙ sym e))

-- one participant goes to another seat
abbrev pub moved : (ℕ → ℕ) → ℕ → ℕ → ℕ → ℕ
moved seat_of p at k = cond (eqb k p) at (seat_of k)

pub moved_here : (seat_of : ℕ → ℕ) (p at : ℕ) → moved seat_of p at p ≡ at
moved_here seat_of p at = ap (λ (b : Bool). cond b at (seat_of p)) (eq-eqb p p refl)

pub moved_else : (seat_of : ℕ → ℕ) (p at k : ℕ) → k ≢ p → moved seat_of p at k ≡ seat_of k
moved_else seat_of p at k n = ap (λ (b : Bool). cond b at (seat_of k)) (ne_eqb k p n)
