-- Known bytes over several reads and writes.
use Rattle.std.proofs.Common.{◌≡◌, ℕ, ◌<◌, List, [], ◌++◌, length, drop, Option, Some, None, refl, sym, ap, ◌∙◌, append_assoc, arith}
use Rattle.std.specs.Prelude.{IfSome}
use Rattle.std.proofs.Math.Seq.{drop-append_seam}
use Rattle.std.specs.Io.KnownBytes.{Appends, Consumes, IsAtEnd}
use Rattle.std.proofs.lemmas.List.{append-nil, length-append}

pub Appends-none : (old : Option (List ℕ)) → Appends old old []
Appends-none None = tt
Appends-none (Some xs) = sym (append-nil xs)

pub Appends-then : (a b c : Option (List ℕ)) (xs ys zs : List ℕ) → Appends a b xs → Appends b c ys → zs ≡ xs ++ ys → Appends a c zs
Appends-then None b c xs ys zs p q e = tt
Appends-then (Some u) None c xs ys zs p q e = absurd p
Appends-then (Some u) (Some v) None xs ys zs p q e = absurd q
Appends-then (Some u) (Some v) (Some w) xs ys zs p q e = q ∙ ap (λ t. t ++ ys) p ∙ append_assoc u xs ys ∙ ap (λ t. u ++ t) (sym e)

pub Consumes-none : (old : Option (List ℕ)) → Consumes old old []
Consumes-none None = tt
Consumes-none (Some xs) = refl

pub Consumes-then : (a b c : Option (List ℕ)) (xs ys : List ℕ) → Consumes a b xs → Consumes b c ys → Consumes a c (xs ++ ys)
Consumes-then None b c xs ys p q = tt
Consumes-then (Some u) None c xs ys p q = absurd p
Consumes-then (Some u) (Some v) None xs ys p q = absurd q
Consumes-then (Some u) (Some v) (Some w) xs ys p q = p ∙ ap (λ t. xs ++ t) q ∙ sym (append_assoc xs ys w)

-- at the end all was consumed
pub Consumes-end : (a b : Option (List ℕ)) (xs : List ℕ) → Consumes a b xs → IsAtEnd b → IfSome a (λ all. xs ≡ all)
Consumes-end None b xs p h = tt
Consumes-end (Some u) None xs p h = absurd p
Consumes-end (Some u) (Some v) xs p h = sym (p ∙ ap (λ t. xs ++ t) h ∙ append-nil xs)

-- what was consumed is no longer than all
pub Consumes-length : (a b : Option (List ℕ)) (xs : List ℕ) (limit : ℕ) → Consumes a b xs → limit < length xs → IfSome a (λ all. limit < length all)
Consumes-length None b xs limit p h = tt
Consumes-length (Some u) None xs limit p h = absurd p
Consumes-length (Some u) (Some v) xs limit p h = omega (arith, ap length p, length-append xs v)

-- behind what was consumed stands what is left
pub Consumes-left : (a b : Option (List ℕ)) (xs : List ℕ) (n : ℕ) → Consumes a b xs → length xs ≡ n → IfSome a (λ all. b ≡ Some (drop n all))
Consumes-left None b xs n p e = tt
Consumes-left (Some u) None xs n p e = absurd p
Consumes-left (Some u) (Some v) xs n p e = rw (p, ← e, drop-append_seam) refl
