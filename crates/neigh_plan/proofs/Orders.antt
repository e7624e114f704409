-- What the order by moment keeps of operations: their number, their moments, and the order of those that pass a test.
use Rattle.std.proofs.Common.{◌≡◌, ⊎_elim, ℕ, ◌+◌, ◌<◌, ◌≤◌, Bool, true, false, if◌then◌else◌, List, [], ◌∷◌, length, map, refl, sym, ◌∙◌, ap, subst, arith}
use Rattle.std.specs.Prelude.{filter, nat_le}
use Rattle.std.proofs.lemmas.Bool.{lt-leb, cases_lt, true≢false}
use Rattle.nb_journal.proofs.Tests.{le_from, le_to}
use Rattle.neigh_run.specs.Merged.{Entered, insert, by_moment}
use Rattle.neigh_run.specs.Inline.{entered_line}
use Rattle.neigh_run.specs.Plan.{RisesFrom}
pub use Rattle.neigh_run.proofs.Counting.{insert_all, Each, each_append, each_all, count, count_append, count_all}
use Rattle.neigh_plan.specs.Merging.{lines_of, line_at}
use Rattle.neigh_plan.proofs.Planned.{rises-lower}
use Rattle.neigh_plan.proofs.Merges.{insert_lines-sorted, lines_of-by_moment}

abbrev pub entered_at : Entered → ℕ
entered_at x = x.at

pub le_not : (m n : ℕ) → nat_le m n ≡ false → n < m
le_not m n e = ⊎_elim (λ (lt : n < m). lt) (λ (le : m ≤ n). absurd (true≢false (sym (le_to m n le) ∙ e))) (cases_lt n m)

length_insert : (x : Entered) (ys : List Entered) → length (insert x ys) ≡ length ys + 1
length_insert x [] = omega arith
length_insert x (y ∷ ys) = by_test (nat_le y.at x.at) (length_insert x ys) where
  by_test : (b : Bool) → length (insert x ys) ≡ length ys + 1 → length (if b then y ∷ insert x ys else x ∷ y ∷ ys) ≡ length (y ∷ ys) + 1
  by_test true rest = omega (arith, rest)
  by_test false rest = omega arith

pub length_all : (sorted xs : List Entered) → length (insert_all sorted xs) ≡ length sorted + length xs
length_all sorted [] = omega arith
length_all sorted (x ∷ xs) = let rest = length_all (insert x sorted) xs in let one = length_insert x sorted in omega (arith, rest, one)

-- ---- the moments

pub rises_insert : (m : ℕ) (x : Entered) (ys : List Entered) → m ≤ x.at → RisesFrom m (map entered_at ys) → RisesFrom m (map entered_at (insert x ys))
rises_insert m x [] le h = (le, tt)
rises_insert m x (y ∷ ys) le h = by_test (nat_le y.at x.at) refl (λ at. rises_insert y.at x ys at h.1) where
  by_test : (b : Bool) → nat_le y.at x.at ≡ b → (y.at ≤ x.at → RisesFrom y.at (map entered_at (insert x ys))) → RisesFrom m (map entered_at (if b then y ∷ insert x ys else x ∷ y ∷ ys))
  by_test true e rest = (h.0, rest (le_from y.at x.at e))
  by_test false e rest = (le, (later e, h.1)) where
    later : nat_le y.at x.at ≡ false → x.at ≤ y.at
    later f = let lt = le_not y.at x.at f in omega (arith, lt)

pub rises_all : (sorted xs : List Entered) → RisesFrom 0 (map entered_at sorted) → RisesFrom 0 (map entered_at (insert_all sorted xs))
rises_all sorted [] h = h
rises_all sorted (x ∷ xs) h = rises_all (insert x sorted) xs (rises_insert 0 x sorted (omega arith) h)

rises_filter : (test : Entered → Bool) (m : ℕ) (xs : List Entered) → RisesFrom m (map entered_at xs) → RisesFrom m (map entered_at (filter test xs))
rises_filter test m [] h = tt
rises_filter test m (x ∷ xs) h = by_test (test x) (rises_filter test x.at xs h.1) where
  by_test : (b : Bool) → RisesFrom x.at (map entered_at (filter test xs)) → RisesFrom m (map entered_at (if b then x ∷ filter test xs else filter test xs))
  by_test true rest = (h.0, rest)
  by_test false rest = rises-lower x.at m (map entered_at (filter test xs)) h.0 rest

insert_first : (x : Entered) (zs : List Entered) (m : ℕ) → x.at < m → RisesFrom m (map entered_at zs) → insert x zs ≡ x ∷ zs
insert_first x [] m lt h = refl
insert_first x (z ∷ zs) m lt h = let le = h.0 in ap (λ (b : Bool). if b then z ∷ insert x zs else x ∷ z ∷ zs) (lt-leb z.at x.at (omega (arith, lt, le)))

-- ---- those that pass a test

filter_insert : (test : Entered → Bool) (m : ℕ) (x : Entered) (ys : List Entered) → RisesFrom m (map entered_at ys) → filter test (insert x ys) ≡ (if test x then insert x (filter test ys) else filter test ys)
filter_insert test m x [] h = refl
filter_insert test m x (y ∷ ys) h = by_tests (nat_le y.at x.at) (test y) (test x) refl refl refl (filter_insert test y.at x ys h.1) where
  later : nat_le y.at x.at ≡ false → insert x (filter test ys) ≡ x ∷ filter test ys
  later e = insert_first x (filter test ys) y.at (le_not y.at x.at e) (rises_filter test y.at ys h.1)

  by_tests : (b t s : Bool) → nat_le y.at x.at ≡ b → test y ≡ t → test x ≡ s → filter test (insert x ys) ≡ (if test x then insert x (filter test ys) else filter test ys)
      → filter test (if b then y ∷ insert x ys else x ∷ y ∷ ys) ≡ (if s then insert x (if t then y ∷ filter test ys else filter test ys) else (if t then y ∷ filter test ys else filter test ys))
  by_tests true true true e f g rest = rw (f, rest, g, e) refl
  by_tests true true false e f g rest = rw (f, rest, g) refl
  by_tests true false true e f g rest = rw (f, rest, g) refl
  by_tests true false false e f g rest = rw (f, rest, g) refl
  by_tests false true true e f g rest = rw (g, f, e) refl
  by_tests false true false e f g rest = rw (g, f) refl
  by_tests false false true e f g rest = rw (g, f, later e) refl
  by_tests false false false e f g rest = rw (g, f) refl

pub filter_all : (test : Entered → Bool) (sorted xs : List Entered) → RisesFrom 0 (map entered_at sorted) → filter test (insert_all sorted xs) ≡ insert_all (filter test sorted) (filter test xs)
filter_all test sorted [] h = refl
filter_all test sorted (x ∷ xs) h =
    filter_all test (insert x sorted) xs (rises_insert 0 x sorted (omega arith) h)
    ∙ ap (λ (s : List Entered). insert_all s (filter test xs)) (filter_insert test 0 x sorted h)
    ∙ by_test (test x) where
      by_test : (b : Bool) → insert_all (if b then insert x (filter test sorted) else filter test sorted) (filter test xs) ≡ insert_all (filter test sorted) (if b then x ∷ filter test xs else filter test xs)
      by_test true = refl
      by_test false = refl

pub entered_again : (xs : List Entered) → map entered_line (lines_of xs) ≡ xs
entered_again [] = refl
entered_again (x ∷ xs) = ap (λ (ys : List Entered). x ∷ ys) (entered_again xs)

pub line_moments : (xs : List Entered) → map line_at (lines_of xs) ≡ map entered_at xs
line_moments [] = refl
line_moments (x ∷ xs) = ap (λ (ys : List ℕ). x.at ∷ ys) (line_moments xs)

-- operations by moment stay as they are
pub by_moment-sorted : (xs : List Entered) → RisesFrom 0 (map entered_at xs) → by_moment xs ≡ xs
by_moment-sorted xs h =
    sym (entered_again (by_moment xs))
    ∙ ap (map entered_line) (lines_of-by_moment xs ∙ insert_lines-sorted 0 (lines_of xs) (subst (RisesFrom 0) (sym (line_moments xs)) h))
    ∙ entered_again xs
