-- How many calls stand before a call, and the table as they have left it.
use Rattle.std.proofs.Common.{◌≡◌, ℕ, zero, suc, ◌+◌, ◌<◌, ◌≤◌, Bool, true, false, ◌==◌, if◌then◌else◌, List, [], ◌∷◌, ◌++◌, length, refl, ◌∙◌, ap, subst, arith}
use Rattle.std.specs.Prelude.{slice_index_or}
use Rattle.std.proofs.Math.ListN.{set}
use Rattle.std.proofs.lemmas.Bool.Decides.{nat_tests}
use Rattle.nb_base.specs.declared.line.Line.{Line}
use Rattle.nb_journal.specs.Accounts.{own_lines}
use Rattle.neigh_run.specs.Seen.{called, calls_before, front_of, standing_from}

pub same_number : (b : ℕ) → (b == b) ≡ true
same_number b = grind (arith, nat_tests)

-- before a call that is done stand no more calls of any bucket than are done
pub before-within : (done more : List ℕ) (b m c : ℕ) → m < called b done → calls_before (done ++ more) b m c ≤ called c done
before-within [] more b m c lt = absurd (omega (arith, lt))
before-within (d ∷ ds) more b zero c lt = by_test (d == b) lt (λ few. before-within ds more b zero c few) where
  by_test : (t : Bool) → zero < (if t then 1 else 0) + called b ds → (zero < called b ds → calls_before (ds ++ more) b zero c ≤ called c ds)
      → (if t then 0 else (if d == c then 1 else 0) + calls_before (ds ++ more) b zero c) ≤ (if d == c then 1 else 0) + called c ds
  by_test true few rest = omega arith
  by_test false few rest = let le = rest (omega (arith, few)) in omega (arith, le)
before-within (d ∷ ds) more b (suc m) c lt = by_test (d == b) lt (λ k few. before-within ds more b k c few) where
  by_test : (t : Bool) → suc m < (if t then 1 else 0) + called b ds → ((k : ℕ) → k < called b ds → calls_before (ds ++ more) b k c ≤ called c ds)
      → (if d == c then 1 else 0) + calls_before (ds ++ more) b (if t then m else suc m) c ≤ (if d == c then 1 else 0) + called c ds
  by_test true few rest = let le = rest m (omega (arith, few)) in omega (arith, le)
  by_test false few rest = let le = rest (suc m) (omega (arith, few)) in omega (arith, le)

-- before a bucket's next call stand exactly those that are done
before_next : (d : ℕ) (rest : List ℕ) (b m n c : ℕ) (t : Bool) → (d == b) ≡ t → m ≡ (if t then 1 else 0) + n → calls_before (d ∷ rest) b m c ≡ (if d == c then 1 else 0) + calls_before rest b n c
before_next d rest b m n c true e is =
    let next : m ≡ suc n = omega (arith, is) in
    ap (λ (k : ℕ). calls_before (d ∷ rest) b k c) next ∙ ap (λ (t : Bool). (if d == c then 1 else 0) + calls_before rest b (if t then n else suc n) c) e
before_next d rest b m n c false e is =
    let same : m ≡ n = omega (arith, is) in
    ap (λ (k : ℕ). calls_before (d ∷ rest) b k c) same ∙ stays n where
      stays : (k : ℕ) → calls_before (d ∷ rest) b k c ≡ (if d == c then 1 else 0) + calls_before rest b k c
      stays zero = ap (λ (t : Bool). if t then 0 else (if d == c then 1 else 0) + calls_before rest b zero c) e
      stays (suc k) = ap (λ (t : Bool). (if d == c then 1 else 0) + calls_before rest b (if t then k else suc k) c) e

pub before-at : (done more : List ℕ) (b c : ℕ) → calls_before (done ++ b ∷ more) b (called b done) c ≡ called c done
before-at [] more b c = ap (λ (t : Bool). if t then 0 else (if b == c then 1 else 0) + calls_before more b zero c) (same_number b)
before-at (d ∷ ds) more b c =
    before_next d (ds ++ b ∷ more) b (called b (d ∷ ds)) (called b ds) c (d == b) refl refl
    ∙ ap (λ (n : ℕ). (if d == c then 1 else 0) + n) (before-at ds more b c)

-- ---- the table at a line

-- two tables whose other buckets have the same fronts are one there
pub standing-same : (order : List ℕ) (b : ℕ) (lines : List Line) (c : ℕ) (js ks : List (List Line)) → length js ≡ length ks
    → ((k : ℕ) → (c + k == b) ≡ false → front_of (calls_before order b (length (own_lines lines)) (c + k)) (slice_index_or js k []) ≡ front_of (calls_before order b (length (own_lines lines)) (c + k)) (slice_index_or ks k []))
    → standing_from order b lines c js ≡ standing_from order b lines c ks
standing-same order b lines c [] [] long fronts = refl
standing-same order b lines c [] (k ∷ ks) long fronts = absurd (omega (arith, long))
standing-same order b lines c (j ∷ js) [] long fronts = absurd (omega (arith, long))
standing-same order b lines c (j ∷ js) (k ∷ ks) long fronts =
    let here : c + 0 ≡ c = omega arith in
    let rest = standing-same order b lines (c + 1) js ks (omega (arith, long))
    (λ n other. let next : c + suc n ≡ c + 1 + n = omega arith in
    subst (λ (d : ℕ). front_of (calls_before order b (length (own_lines lines)) d) (slice_index_or js n []) ≡ front_of (calls_before order b (length (own_lines lines)) d) (slice_index_or ks n [])) next
    (fronts (suc n) (ap (λ (d : ℕ). d == b) next ∙ other))) in
    by_test (c == b) refl (λ other. subst (λ (d : ℕ). front_of (calls_before order b (length (own_lines lines)) d) j ≡ front_of (calls_before order b (length (own_lines lines)) d) k) here (fronts 0 (ap (λ (d : ℕ). d == b) here ∙ other)))
    ∙ ap (λ (xs : List (List Line)). (if c == b then lines else front_of (calls_before order b (length (own_lines lines)) c) k) ∷ xs) rest where
      by_test : (t : Bool) → (c == b) ≡ t → ((c == b) ≡ false → front_of (calls_before order b (length (own_lines lines)) c) j ≡ front_of (calls_before order b (length (own_lines lines)) c) k)
          → (if t then lines else front_of (calls_before order b (length (own_lines lines)) c) j) ∷ standing_from order b lines (c + 1) js
          ≡ (if t then lines else front_of (calls_before order b (length (own_lines lines)) c) k) ∷ standing_from order b lines (c + 1) js
      by_test true e front = refl
      by_test false e front = ap (λ (xs : List Line). xs ∷ standing_from order b lines (c + 1) js) (front e)

-- where every other bucket stands whole, the table is this one with the bucket's own lines
pub standing-set : (order : List ℕ) (b : ℕ) (lines : List Line) (c n : ℕ) (js : List (List Line)) → c + n ≡ b → n < length js
    → ((k : ℕ) → (c + k == b) ≡ false → front_of (calls_before order b (length (own_lines lines)) (c + k)) (slice_index_or js k []) ≡ slice_index_or js k [])
    → standing_from order b lines c js ≡ set js n lines
standing-set order b lines c n [] at lt whole = absurd (omega (arith, lt))
standing-set order b lines c zero (j ∷ js) at lt whole =
    let same : c ≡ b = omega (arith, at) in
    let here : (c == b) ≡ true = grind (arith, nat_tests, same) in
    ap (λ (t : Bool). (if t then lines else front_of (calls_before order b (length (own_lines lines)) c) j) ∷ standing_from order b lines (c + 1) js) here
    ∙ ap (λ (xs : List (List Line)). lines ∷ xs) (others (c + 1) js (omega (arith, same)) (λ k. whole_at k)) where
      whole_at : (k : ℕ) → front_of (calls_before order b (length (own_lines lines)) (c + 1 + k)) (slice_index_or js k []) ≡ slice_index_or js k []
      whole_at k =
          let next : c + suc k ≡ c + 1 + k = omega arith in
          let other : (c + suc k == b) ≡ false = grind (arith, nat_tests, at) in
          subst (λ (d : ℕ). front_of (calls_before order b (length (own_lines lines)) d) (slice_index_or js k []) ≡ slice_index_or js k []) next (whole (suc k) other)

      others : (d : ℕ) (ks : List (List Line)) → b < d → ((k : ℕ) → front_of (calls_before order b (length (own_lines lines)) (d + k)) (slice_index_or ks k []) ≡ slice_index_or ks k []) → standing_from order b lines d ks ≡ ks
      others d [] behind each = refl
      others d (k ∷ ks) behind each =
          let other : (d == b) ≡ false = grind (arith, nat_tests, behind) in
          let here : d + 0 ≡ d = omega arith in
          ap (λ (t : Bool). (if t then lines else front_of (calls_before order b (length (own_lines lines)) d) k) ∷ standing_from order b lines (d + 1) ks) other
          ∙ ap (λ (xs : List Line). xs ∷ standing_from order b lines (d + 1) ks) (subst (λ (n : ℕ). front_of (calls_before order b (length (own_lines lines)) n) k ≡ k) here (each 0))
          ∙ ap (λ (xs : List (List Line)). k ∷ xs) (others (d + 1) ks (omega (arith, behind)) (λ n. let next : d + suc n ≡ d + 1 + n = omega arith in subst (λ (m : ℕ). front_of (calls_before order b (length (own_lines lines)) m) (slice_index_or ks n []) ≡ slice_index_or ks n []) next (each (suc n))))
standing-set order b lines c (suc n) (j ∷ js) at lt whole =
    let other : (c == b) ≡ false = grind (arith, nat_tests, at) in
    let here : c + 0 ≡ c = omega arith in
    ap (λ (t : Bool). (if t then lines else front_of (calls_before order b (length (own_lines lines)) c) j) ∷ standing_from order b lines (c + 1) js) other
    ∙ ap (λ (xs : List Line). xs ∷ standing_from order b lines (c + 1) js) (subst (λ (m : ℕ). front_of (calls_before order b (length (own_lines lines)) m) j ≡ j) here (whole 0 (ap (λ (d : ℕ). d == b) here ∙ other)))
    ∙ ap (λ (xs : List (List Line)). j ∷ xs) (standing-set order b lines (c + 1) n js (omega (arith, at)) (omega (arith, lt))
    (λ k apart. let next : c + suc k ≡ c + 1 + k = omega arith in subst (λ (d : ℕ). front_of (calls_before order b (length (own_lines lines)) d) (slice_index_or js k []) ≡ slice_index_or js k []) next (whole (suc k) (ap (λ (d : ℕ). d == b) next ∙ apart))))
