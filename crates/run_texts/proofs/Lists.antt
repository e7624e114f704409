-- What holds of each element of a list, and of each line of a journal.
use Rattle.std.proofs.Common.{◌≡◌, ℕ, zero, suc, ◌≤◌, Bool, true, false, if◌then◌else◌, List, [], ◌∷◌, ◌++◌, length, take, refl, arith}
use Rattle.std.specs.Prelude.{filter}
use Rattle.std.specs.List.{AllByRecursion, list_all}
use mathlib.Core.Option.{some}
use lib.ListN.{get_elem?}
use Rattle.std.proofs.lemmas.Bool.{and_from}
use Rattle.nb_base.specs.declared.line.Line.{Line}
use Rattle.nb_journal.specs.Lawful.{each_line}

pub all_pass : {A : Type 0} (t : A → Bool) (xs : List A) → AllByRecursion (λ x. t x ≡ true) xs → list_all t xs ≡ true
all_pass t [] h = refl
all_pass t (x ∷ xs) h = and_from (t x) (list_all t xs) h.0 (all_pass t xs h.1)

-- what holds of each holds of each of the first
pub all-take : {A : Type 0} (P : A → Type 0) (n : ℕ) (xs : List A) → AllByRecursion P xs → AllByRecursion P (take n xs)
all-take P zero xs h = tt
all-take P (suc n) [] h = tt
all-take P (suc n) (x ∷ xs) h = (h.0, all-take P n xs h.1)

pub all-append : {A : Type 0} (P : A → Type 0) (xs ys : List A) → AllByRecursion P xs → AllByRecursion P ys → AllByRecursion P (xs ++ ys)
all-append P [] ys h g = g
all-append P (x ∷ xs) ys h g = (h.0, all-append P xs ys h.1 g)

-- what holds of the element at each place holds of each
pub at-each : {A : Type 0} (P : A → Type 0) (xs : List A) → ((i : ℕ) (x : A) → get_elem? xs i ≡ some x → P x) → AllByRecursion P xs
at-each P [] h = tt
at-each P (x ∷ xs) h = (h 0 x refl, at-each P xs (λ i y e. h (suc i) y e))

-- what holds of each line with the lines before it, of the lines alone
pub each_line-all : (P : List Line → Line → Type 0) (Q : Line → Type 0) (past lines : List Line) → ((past : List Line) (line : Line) → P past line → Q line) → each_line P past lines → AllByRecursion Q lines
each_line-all P Q past [] h each = tt
each_line-all P Q past (line ∷ lines) h each = (h past line each.0, each_line-all P Q (past ++ line ∷ []) lines h each.1)

-- no more pass a test than there are
pub filter-few : {A : Type 0} (t : A → Bool) (xs : List A) → length (filter t xs) ≤ length xs
filter-few t [] = omega arith
filter-few {A} t (x ∷ xs) = by_test (t x) (filter-few t xs) where
  by_test : (b : Bool) → length (filter t xs) ≤ length xs → length (if b then x ∷ filter t xs else filter t xs) ≤ length (x ∷ xs)
  by_test true rest = omega (arith, rest)
  by_test false rest = omega (arith, rest)

pub heads : {A : Type 0} (x y : A) (xs ys : List A) → x ∷ xs ≡ y ∷ ys → (x ≡ y) × (xs ≡ ys)
heads x y xs ys e = (cc, cc)
