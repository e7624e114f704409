-- Taking the next line of two lists, and the lists of a plan one after the other.
use Rattle.std.proofs.Common.{◌≡◌, ℕ, Bool, true, false, if◌then◌else◌, List, [], ◌∷◌, ◌++◌, length, map, refl, sym, ◌∙◌, ap, subst, arith, append-nil}
use Rattle.std.specs.Prelude.{nat_le, fold}
use Rattle.std.proofs.lemmas.Bool.{le-leb}
use Rattle.std.proofs.lemmas.List.Sums.{fold-append}
use Rattle.nb_base.specs.declared.line.Line.{Line}
use Rattle.nb_journal.proofs.Tests.{le_from}
use Rattle.neigh_run.specs.Merged.{Entered, insert, by_moment}
use Rattle.neigh_run.specs.Plan.{RisesFrom}
use Rattle.neigh_plan.specs.Merging.{line_of, lines_of, line_at, insert_line, insert_lines, AreByMoment}
use Rattle.neigh_plan.proofs.Planned.{rises-lower}

pub insert_lines-nil : (lines : List Line) → insert_lines lines [] ≡ lines
unfolding insert_lines
insert_lines-nil lines = refl

pub insert_lines-cons : (lines more : List Line) (x : Line) → insert_lines lines (x ∷ more) ≡ insert_lines (insert_line x lines) more
unfolding insert_lines
insert_lines-cons lines more x = refl

-- a first line stays the first where none of the others lies before it
pub stays_first : (x : Line) (lines more : List Line) → RisesFrom x.at (map line_at more) → insert_lines (x ∷ lines) more ≡ x ∷ insert_lines lines more
stays_first x lines [] h = insert_lines-nil (x ∷ lines) ∙ ap (λ (ys : List Line). x ∷ ys) (sym (insert_lines-nil lines))
stays_first x lines (y ∷ ys) h =
    insert_lines-cons (x ∷ lines) ys y
    ∙ ap (λ (b : Bool). insert_lines (if b then x ∷ insert_line y lines else y ∷ x ∷ lines) ys) (le-leb x.at y.at h.0)
    ∙ stays_first x (insert_line y lines) ys (rises-lower y.at x.at (map line_at ys) h.0 h.1)
    ∙ ap (λ (zs : List Line). x ∷ zs) (sym (insert_lines-cons lines ys y))

-- what stands behind the first of lines by moment is by moment
pub rest_by_moment : (lines rest : List Line) (x : Line) → lines ≡ x ∷ rest → AreByMoment lines → AreByMoment rest
rest_by_moment lines rest x e h = let parts = subst AreByMoment e h in rises-lower x.at 0 (map line_at rest) (omega arith) parts.1

-- the next line is the left one where it doesn't lie behind the right one
pub next_is_left : (left right xs ys : List Line) (x y : Line) → left ≡ x ∷ xs → right ≡ y ∷ ys → nat_le x.at y.at ≡ true → AreByMoment right → insert_lines left right ≡ x ∷ insert_lines xs right
next_is_left left right xs ys x y e f le h = let parts = subst AreByMoment f h in rw (e, f) (stays_first x xs (y ∷ ys) (le_from x.at y.at le, parts.1))

-- else it is the right one
pub next_is_right : (left right xs ys : List Line) (x y : Line) → left ≡ x ∷ xs → right ≡ y ∷ ys → nat_le x.at y.at ≡ false → AreByMoment right → insert_lines left right ≡ y ∷ insert_lines left ys
next_is_right left right xs ys x y e f lt h =
    let parts = subst AreByMoment f h in
    rw (e, f)
    (insert_lines-cons (x ∷ xs) ys y
    ∙ ap (λ (b : Bool). insert_lines (if b then x ∷ insert_line y xs else y ∷ x ∷ xs) ys) lt
    ∙ stays_first y (x ∷ xs) ys parts.1)

pub next_alone : (left right ys : List Line) (y : Line) → length left ≡ 0 → right ≡ y ∷ ys → AreByMoment right → insert_lines left right ≡ y ∷ insert_lines left ys
next_alone [] right ys y e f h = let parts = subst AreByMoment f h in rw f (insert_lines-cons [] ys y ∙ stays_first y [] ys parts.1)
next_alone (x ∷ xs) right ys y e f h = absurd (omega (arith, e))

pub next_left_alone : (left right xs : List Line) (x : Line) → left ≡ x ∷ xs → right ≡ [] → insert_lines left right ≡ x ∷ insert_lines xs right
next_left_alone left right xs x e f = rw (e, f) (insert_lines-nil (x ∷ xs) ∙ ap (λ (ys : List Line). x ∷ ys) (sym (insert_lines-nil xs)))

pub nothing_left : (lines left right : List Line) → left ≡ [] → right ≡ [] → lines ++ insert_lines left right ≡ lines
nothing_left lines left right e f = rw (e, f) (ap (λ (ys : List Line). lines ++ ys) (insert_lines-nil []) ∙ append-nil lines)

-- lines by moment stay as they are
pub insert_lines-sorted : (m : ℕ) (lines : List Line) → RisesFrom m (map line_at lines) → insert_lines [] lines ≡ lines
insert_lines-sorted m [] h = insert_lines-nil []
insert_lines-sorted m (x ∷ xs) h = insert_lines-cons [] xs x ∙ stays_first x [] xs h.1 ∙ ap (λ (ys : List Line). x ∷ ys) (insert_lines-sorted x.at xs h.1)

pub insert_lines-append : (lines more rest : List Line) → insert_lines lines (more ++ rest) ≡ insert_lines (insert_lines lines more) rest
unfolding insert_lines
insert_lines-append lines more rest = fold-append (λ (sorted : List Line) (x : Line). insert_line x sorted) lines more rest

-- ---- the lines of operations in order are the lines in order

lines_of-insert : (x : Entered) (xs : List Entered) → lines_of (insert x xs) ≡ insert_line (line_of x) (lines_of xs)
lines_of-insert x [] = refl
lines_of-insert x (y ∷ ys) = by_test (nat_le y.at x.at) (lines_of-insert x ys) where
  by_test : (b : Bool) → lines_of (insert x ys) ≡ insert_line (line_of x) (lines_of ys) → lines_of (if b then y ∷ insert x ys else x ∷ y ∷ ys) ≡ (if b then line_of y ∷ insert_line (line_of x) (lines_of ys) else line_of x ∷ line_of y ∷ lines_of ys)
  by_test true rest = ap (λ (zs : List Line). line_of y ∷ zs) rest
  by_test false rest = refl

lines_of-fold : (sorted xs : List Entered) → lines_of (fold (λ (s : List Entered) (x : Entered). insert x s) sorted xs) ≡ insert_lines (lines_of sorted) (lines_of xs)
lines_of-fold sorted [] = sym (insert_lines-nil (lines_of sorted))
lines_of-fold sorted (x ∷ xs) =
    lines_of-fold (insert x sorted) xs
    ∙ ap (λ (ys : List Line). insert_lines ys (lines_of xs)) (lines_of-insert x sorted)
    ∙ sym (insert_lines-cons (lines_of sorted) (lines_of xs) (line_of x))

pub lines_of-by_moment : (xs : List Entered) → lines_of (by_moment xs) ≡ insert_lines [] (lines_of xs)
lines_of-by_moment xs = lines_of-fold [] xs
