-- What the order by moment keeps of operations: their properties and how many pass a test.
use Rattle.std.proofs.Common.{◌≡◌, ℕ, ◌+◌, Bool, true, false, if◌then◌else◌, List, [], ◌∷◌, ◌++◌, length, arith}
use Rattle.std.specs.Prelude.{filter, nat_le, fold}
use Rattle.neigh_run.specs.Merged.{Entered, insert}

abbrev pub insert_all : List Entered → List Entered → List Entered
insert_all sorted xs = fold (λ (s : List Entered) (x : Entered). insert x s) sorted xs

-- P holds of each
abbrev pub Each : (Entered → Type 0) → List Entered → Type 0
Each P [] = Unit {0}
Each P (x ∷ xs) = P x × Each P xs

pub each_append : (P : Entered → Type 0) (xs ys : List Entered) → Each P xs → Each P ys → Each P (xs ++ ys)
each_append P [] ys a b = b
each_append P (x ∷ xs) ys a b = (a.0, each_append P xs ys a.1 b)

each_insert : (P : Entered → Type 0) (x : Entered) (ys : List Entered) → P x → Each P ys → Each P (insert x ys)
each_insert P x [] h all = (h, tt)
each_insert P x (y ∷ ys) h all = by_test (nat_le y.at x.at) (each_insert P x ys h all.1) where
  by_test : (b : Bool) → Each P (insert x ys) → Each P (if b then y ∷ insert x ys else x ∷ y ∷ ys)
  by_test true rest = (all.0, rest)
  by_test false rest = (h, all)

pub each_all : (P : Entered → Type 0) (sorted xs : List Entered) → Each P sorted → Each P xs → Each P (insert_all sorted xs)
each_all P sorted [] a b = a
each_all P sorted (x ∷ xs) a b = each_all P (insert x sorted) xs (each_insert P x sorted b.0 a) b.1

-- ---- how many pass a test

abbrev pub count : (Entered → Bool) → List Entered → ℕ
count test xs = length (filter test xs)

count_cons : (test : Entered → Bool) (x : Entered) (xs : List Entered) → count test (x ∷ xs) ≡ count test (x ∷ []) + count test xs
count_cons test x xs = by_test (test x) where
  by_test : (b : Bool) → length (if b then x ∷ filter test xs else filter test xs) ≡ length (if b then x ∷ [] else []) + count test xs
  by_test true = omega arith
  by_test false = omega arith

pub count_append : (test : Entered → Bool) (xs ys : List Entered) → count test (xs ++ ys) ≡ count test xs + count test ys
count_append test [] ys = omega arith
count_append test (x ∷ xs) ys =
    let rest = count_append test xs ys in
    let whole = count_cons test x (xs ++ ys) in
    let front = count_cons test x xs in
    omega (arith, rest, whole, front)

count_insert : (test : Entered → Bool) (x : Entered) (ys : List Entered) → count test (insert x ys) ≡ count test (x ∷ []) + count test ys
count_insert test x [] = omega arith
count_insert test x (y ∷ ys) = by_test (nat_le y.at x.at) (count_insert test x ys) where
  by_test : (b : Bool) → count test (insert x ys) ≡ count test (x ∷ []) + count test ys → count test (if b then y ∷ insert x ys else x ∷ y ∷ ys) ≡ count test (x ∷ []) + count test (y ∷ ys)
  by_test true rest = let front = count_cons test y (insert x ys) in let back = count_cons test y ys in omega (arith, rest, front, back)
  by_test false rest = count_cons test x (y ∷ ys)

pub count_all : (test : Entered → Bool) (sorted xs : List Entered) → count test (insert_all sorted xs) ≡ count test sorted + count test xs
count_all test sorted [] = omega arith
count_all test sorted (x ∷ xs) =
    let rest = count_all test (insert x sorted) xs in
    let one = count_insert test x sorted in
    let front = count_cons test x xs in
    omega (arith, rest, one, front)
