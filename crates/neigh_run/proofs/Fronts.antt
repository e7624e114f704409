-- The fronts of a journal: the lines up to its n-th operation's.
use Rattle.std.proofs.Common.{◌≡◌, ℕ, zero, suc, ◌+◌, ◌≤◌, Bool, true, false, if◌then◌else◌, List, [], ◌∷◌, ◌++◌, length, map, take, refl, sym, ◌∙◌, ap, subst, arith}
use Rattle.std.proofs.lemmas.List.{length-append}
use Rattle.std.proofs.lemmas.List.Elements.{filter-append}
use Rattle.nb_base.specs.declared.line.Line.{Line}
use Rattle.nb_journal.specs.Keys.{is_own}
use Rattle.nb_journal.specs.Lawful.{is_collect, base_of}
use Rattle.nb_journal.specs.Accounts.{own_lines}
use Rattle.nb_journal.proofs.Lines.{by_last, base_of-collect, base_of-other}
use Rattle.neigh_run.specs.Merged.{Entered}
use Rattle.neigh_run.specs.Seen.{front_of}
use Rattle.neigh_run.specs.Inline.{entered_line, ends_own}

-- the operations of a journal, as they were entered
abbrev pub entered_in : List Line → List Entered
entered_in journal = map entered_line (own_lines journal)

-- a front is the first lines
pub front-first : (n : ℕ) (journal : List Line) → (rest : List Line) × (journal ≡ front_of n journal ++ rest)
front-first zero journal = (journal, refl)
front-first (suc n) [] = ([], refl)
front-first (suc n) (l ∷ ls) = let more = front-first (if is_own l.op then n else suc n) ls in (more.0, ap (λ (xs : List Line). l ∷ xs) more.1)

-- its operations are the first ones
pub front-operations : (n : ℕ) (journal : List Line) → entered_in (front_of n journal) ≡ take n (entered_in journal)
front-operations zero journal = refl
front-operations (suc n) [] = refl
front-operations (suc n) (l ∷ ls) = by_test (is_own l.op) (λ k. front-operations k ls) where
  by_test : (own : Bool) → ((k : ℕ) → entered_in (front_of k ls) ≡ take k (entered_in ls))
      → map entered_line (if own then l ∷ own_lines (front_of (if own then n else suc n) ls) else own_lines (front_of (if own then n else suc n) ls)) ≡ take (suc n) (map entered_line (if own then l ∷ own_lines ls else own_lines ls))
  by_test true rest = ap (λ (xs : List Entered). entered_line l ∷ xs) (rest n)
  by_test false rest = rest (suc n)

-- it ends with an operation, where the journal does
ends-behind : (l : Line) (ls : List Line) → (ls ≡ [] → is_own l.op ≡ true) → ends_own ls ≡ true → ends_own (l ∷ ls) ≡ true
ends-behind l [] own ends = own refl
ends-behind l (x ∷ xs) own ends = ends

ends-rest : (l : Line) (ls : List Line) → ends_own (l ∷ ls) ≡ true → ends_own ls ≡ true
ends-rest l [] ends = refl
ends-rest l (x ∷ xs) ends = ends

pub front-ends : (n : ℕ) (journal : List Line) → ends_own journal ≡ true → ends_own (front_of n journal) ≡ true
front-ends zero journal ends = refl
front-ends (suc n) [] ends = refl
front-ends (suc n) (l ∷ ls) ends = by_test (is_own l.op) refl (λ k. front-ends k ls (ends-rest l ls ends)) where
  -- the last line is of an operation, and a front that goes on isn't empty
  last : (xs : List Line) → xs ≡ ls → front_of (suc n) xs ≡ [] → is_own l.op ≡ true
  last [] e none = subst (λ (ys : List Line). ends_own (l ∷ ys) ≡ true) (sym e) ends
  last (x ∷ xs) e none = cc

  by_test : (own : Bool) → is_own l.op ≡ own → ((k : ℕ) → ends_own (front_of k ls) ≡ true) → ends_own (l ∷ front_of (if own then n else suc n) ls) ≡ true
  by_test true e rest = ends-behind l (front_of n ls) (λ none. e) (rest n)
  by_test false e rest = ends-behind l (front_of (suc n) ls) (λ none. last ls refl none) (rest (suc n))

-- ---- how many operations

pub own-append : (xs ys : List Line) → length (own_lines (xs ++ ys)) ≡ length (own_lines xs) + length (own_lines ys)
own-append xs ys = ap length (filter-append (λ (l : Line). is_own l.op) xs ys) ∙ length-append (own_lines xs) (own_lines ys)

abbrev own_if : Bool → ℕ
own_if own = if own then 1 else 0

own-first : (l : Line) (ls : List Line) → length (own_lines (l ∷ ls)) ≡ own_if (is_own l.op) + length (own_lines ls)
own-first l ls = by_test (is_own l.op) where
  by_test : (own : Bool) → length (if own then l ∷ own_lines ls else own_lines ls) ≡ own_if own + length (own_lines ls)
  by_test true = omega arith
  by_test false = omega arith

-- lines that end with an operation have one
pub some-own : (l : Line) (ls : List Line) → ends_own (l ∷ ls) ≡ true → 1 ≤ length (own_lines (l ∷ ls))
some-own l [] ends = let one : length (own_lines (l ∷ [])) ≡ 1 = rw ends refl in omega (arith, one)
some-own l (x ∷ xs) ends = let more = some-own x xs ends in let first = own-first l (x ∷ xs) in omega (arith, more, first)

-- a lesser front is a front of a greater one
pub front-less : (k n : ℕ) (journal : List Line) → k ≤ n → front_of k journal ≡ front_of k (front_of n journal)
front-less zero n journal le = refl
front-less (suc k) zero journal le = absurd (omega (arith, le))
front-less (suc k) (suc n) [] le = refl
front-less (suc k) (suc n) (l ∷ ls) le = ap (λ (xs : List Line). l ∷ xs) (by_test (is_own l.op) (front-less k n ls (omega (arith, le))) (front-less (suc k) (suc n) ls le)) where
  by_test : (own : Bool) → front_of k ls ≡ front_of k (front_of n ls) → front_of (suc k) ls ≡ front_of (suc k) (front_of (suc n) ls) → front_of (if own then k else suc k) ls ≡ front_of (if own then k else suc k) (front_of (if own then n else suc n) ls)
  by_test true less same = less
  by_test false less same = same

-- a front of all operations is the journal, where it ends with one
pub front-whole : (n : ℕ) (journal : List Line) → ends_own journal ≡ true → length (own_lines journal) ≤ n → front_of n journal ≡ journal
front-whole zero [] ends le = refl
front-whole zero (l ∷ ls) ends le = absurd (let some = some-own l ls ends in omega (arith, le, some))
front-whole (suc n) [] ends le = refl
front-whole (suc n) (l ∷ ls) ends le = ap (λ (xs : List Line). l ∷ xs) (by_test (is_own l.op) le (λ k few. front-whole k ls (ends-rest l ls ends) few)) where
  by_test : (own : Bool) → length (if own then l ∷ own_lines ls else own_lines ls) ≤ suc n → ((k : ℕ) → length (own_lines ls) ≤ k → front_of k ls ≡ ls) → front_of (if own then n else suc n) ls ≡ ls
  by_test true le rest = rest n (omega (arith, le))
  by_test false le rest = rest (suc n) le

-- a front has at most so many
front-few : (n : ℕ) (journal : List Line) → length (own_lines (front_of n journal)) ≤ n
front-few zero journal = omega arith
front-few (suc n) [] = omega arith
front-few (suc n) (l ∷ ls) = by_test (is_own l.op) (λ k. front-few k ls) where
  by_test : (own : Bool) → ((k : ℕ) → length (own_lines (front_of k ls)) ≤ k) → length (if own then l ∷ own_lines (front_of (if own then n else suc n) ls) else own_lines (front_of (if own then n else suc n) ls)) ≤ suc n
  by_test true rest = let few = rest n in omega (arith, few)
  by_test false rest = rest (suc n)

pub ends-part : (past : List Line) (l : Line) (rest : List Line) → ends_own (past ++ l ∷ rest) ≡ true → ends_own (l ∷ rest) ≡ true
ends-part [] l rest ends = ends
ends-part (x ∷ xs) l rest ends = ends-part xs l rest (ends-rest x (xs ++ l ∷ rest) ends)

-- fewer stand before a line of a front that ends with one
pub front-before : (n : ℕ) (journal past rest : List Line) (l : Line) → ends_own journal ≡ true → front_of (suc n) journal ≡ past ++ l ∷ rest → length (own_lines past) ≤ n
front-before n journal past rest l ends e =
    let few = front-few (suc n) journal in
    let parts = ap (λ (xs : List Line). length (own_lines xs)) e ∙ own-append past (l ∷ rest) in
    let some = some-own l rest (ends-part past l rest (sym (ap ends_own e) ∙ front-ends (suc n) journal ends)) in
    omega (arith, few, parts, some)

-- the lines without the collects at their end have no more
pub base-few : (lines : List Line) → length (own_lines (base_of lines)) ≤ length (own_lines lines)
base-few lines = by_last (λ (xs : List Line). length (own_lines (base_of xs)) ≤ length (own_lines xs)) (omega arith) more lines where
  more : (xs : List Line) (x : Line) → length (own_lines (base_of xs)) ≤ length (own_lines xs) → length (own_lines (base_of (xs ++ x ∷ []))) ≤ length (own_lines (xs ++ x ∷ []))
  more xs x rest = by_test (is_collect x.op) refl where
    by_test : (t : Bool) → is_collect x.op ≡ t → length (own_lines (base_of (xs ++ x ∷ []))) ≤ length (own_lines (xs ++ x ∷ []))
    by_test true e = let parts = own-append xs (x ∷ []) in let same = ap (λ (ys : List Line). length (own_lines ys)) (base_of-collect xs x e) in omega (arith, rest, parts, same)
    by_test false e = let same = ap (λ (ys : List Line). length (own_lines ys)) (base_of-other xs x e) in omega (arith, same)
