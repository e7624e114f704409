-- What lines say of counts, in two parts.
use Rattle.std.proofs.Common.{◌≡◌, ℕ, ◌+◌, Bool, true, false, List, [], ◌∷◌, ◌++◌, length, Option, Some, None, refl, sym, ◌∙◌, ap, arith, append_assoc, append-nil}
use Rattle.std.specs.Prelude.{map}
use Rattle.std.proofs.lemmas.List.{length-append, map-append}
use Rattle.nb_base.specs.declared.params.Params.{Params}
use Rattle.nb_base.specs.declared.line.Line.{Line}
use Rattle.nb_journal.specs.Lawful.{base_of, is_collect}
use Rattle.nb_journal.proofs.Lines.{by_last, base_of-collect, base_of-other}
use Rattle.change_order.specs.Orders.{LookingLine, JournalCounts}
use Rattle.change_order.specs.Calls.{later_by}
use Rattle.journal_counts.specs.Counts.{behind_line, behind_lines, looked_at, looked_in}
use Rattle.journal_counts.specs.Laws.{CountsGrowByCalls, CallsJoin}

-- the base of lines behind others that end with no collect line
pub base_of-behind : (xs ys : List Line) → base_of xs ≡ xs → base_of (xs ++ ys) ≡ xs ++ base_of ys
base_of-behind xs ys bare = by_last (λ (zs : List Line). base_of (xs ++ zs) ≡ xs ++ base_of zs) none more ys where
  none : base_of (xs ++ []) ≡ xs ++ []
  none = ap base_of (append-nil xs) ∙ bare ∙ sym (append-nil xs)

  more : (zs : List Line) (z : Line) → base_of (xs ++ zs) ≡ xs ++ base_of zs → base_of (xs ++ (zs ++ z ∷ [])) ≡ xs ++ base_of (zs ++ z ∷ [])
  more zs z rest = ap base_of (sym (append_assoc xs zs (z ∷ []))) ∙ by_op (is_collect z.op) refl where
    by_op : (t : Bool) → is_collect z.op ≡ t → base_of ((xs ++ zs) ++ z ∷ []) ≡ xs ++ base_of (zs ++ z ∷ [])
    by_op true e = base_of-collect (xs ++ zs) z e ∙ rest ∙ ap (λ (ws : List Line). xs ++ ws) (sym (base_of-collect zs z e))
    by_op false e = base_of-other (xs ++ zs) z e ∙ append_assoc xs zs (z ∷ []) ∙ ap (λ (ws : List Line). xs ++ ws) (sym (base_of-other zs z e))

-- ---- changing lines

pub behind_lines-append : (p : Params) (past xs ys : List Line) → behind_lines p past (xs ++ ys) ≡ behind_lines p past xs ++ behind_lines p (past ++ xs) ys
behind_lines-append p past [] ys = ap (λ (zs : List Line). behind_lines p zs ys) (sym (append-nil past))
behind_lines-append p past (x ∷ xs) ys =
    ap (λ (ns : List ℕ). behind_line p past x ++ ns)
    (behind_lines-append p (past ++ x ∷ []) xs ys ∙ ap (λ (zs : List Line). behind_lines p (past ++ x ∷ []) xs ++ behind_lines p zs ys) (append_assoc past (x ∷ []) xs))
    ∙ sym (append_assoc (behind_line p past x) (behind_lines p (past ++ x ∷ []) xs) (behind_lines p (past ++ x ∷ xs) ys))

-- ---- lines that looked

pub looked_in-append : (p : Params) (past front xs ys : List Line) → looked_in p past front (xs ++ ys) ≡ looked_in p past front xs ++ looked_in p past (front ++ xs) ys
looked_in-append p past front [] ys = ap (λ (zs : List Line). looked_in p past zs ys) (sym (append-nil front))
looked_in-append p past front (x ∷ xs) ys =
    let one = looked_at (length (behind_lines p past (base_of front))) x.seen in
    ap (λ (ns : List LookingLine). one ++ ns)
    (looked_in-append p past (front ++ x ∷ []) xs ys ∙ ap (λ (zs : List Line). looked_in p past (front ++ x ∷ []) xs ++ looked_in p past zs ys) (append_assoc front (x ∷ []) xs))
    ∙ sym (append_assoc one (looked_in p past (front ++ x ∷ []) xs) (looked_in p past (front ++ x ∷ xs) ys))

pub looked_at-later : (n m : ℕ) (seen : Option ℕ) → looked_at (n + m) seen ≡ map (later_by n) (looked_at m seen)
looked_at-later n m None = refl
looked_at-later n m (Some seen) = refl

-- counted from the first of a front, they stand behind the front's changing lines
looked_in-later : (p : Params) (past front xs ys : List Line) → base_of front ≡ front → looked_in p past (front ++ xs) ys ≡ map (later_by (length (behind_lines p past front))) (looked_in p (past ++ front) xs ys)
looked_in-later p past front xs [] bare = refl
looked_in-later p past front xs (y ∷ ys) bare =
    let n = length (behind_lines p past front) in
    let m = length (behind_lines p (past ++ front) (base_of xs)) in
    let count : length (behind_lines p past (base_of (front ++ xs))) ≡ n + m =
    ap (λ (zs : List Line). length (behind_lines p past zs)) (base_of-behind front xs bare)
    ∙ ap (λ (ns : List ℕ). length ns) (behind_lines-append p past front (base_of xs))
    ∙ length-append (behind_lines p past front) (behind_lines p (past ++ front) (base_of xs)) in
    let here : looked_at (length (behind_lines p past (base_of (front ++ xs)))) y.seen ≡ map (later_by n) (looked_at m y.seen) =
    ap (λ (k : ℕ). looked_at k y.seen) count ∙ looked_at-later n m y.seen in
    let rest : looked_in p past ((front ++ xs) ++ y ∷ []) ys ≡ map (later_by n) (looked_in p (past ++ front) (xs ++ y ∷ []) ys) =
    ap (λ (zs : List Line). looked_in p past zs ys) (append_assoc front xs (y ∷ [])) ∙ looked_in-later p past front (xs ++ y ∷ []) ys bare in
    ap (λ (ls : List LookingLine). ls ++ looked_in p past ((front ++ xs) ++ y ∷ []) ys) here
    ∙ ap (λ (ls : List LookingLine). map (later_by n) (looked_at m y.seen) ++ ls) rest
    ∙ sym (map-append (later_by n) (looked_at m y.seen) (looked_in p (past ++ front) (xs ++ y ∷ []) ys))

-- ---- calls

-- journals with the same lists are one
same_counts : (a b : List ℕ) (x y : List LookingLine) → a ≡ b → x ≡ y → (let one : JournalCounts = record { behind = a; looked = x } in one) ≡ (let two : JournalCounts = record { behind = b; looked = y } in two)
same_counts a b x y e f = ap (λ (z : List ℕ × List LookingLine). (let one : JournalCounts = record { behind = z.0; looked = z.1 } in one)) (λ i. (e i, f i))

later_twice : (n m : ℕ) (xs : List LookingLine) → map (later_by (n + m)) xs ≡ map (later_by n) (map (later_by m) xs)
later_twice n m [] = refl
later_twice n m (x ∷ xs) =
    let same : later_by (n + m) x ≡ later_by n (later_by m x) = ap (λ (k : ℕ). (let line : LookingLine = record { before = k; seen = x.seen } in line)) (let e : (n + m) + x.before ≡ n + (m + x.before) = omega arith in e) in
    ap (λ (y : LookingLine). y ∷ map (later_by (n + m)) xs) same ∙ ap (λ (ys : List LookingLine). later_by n (later_by m x) ∷ ys) (later_twice n m xs)

-- the lines of two parts that looked, behind n changing lines, where m stand before the second part
pub looked-join : (p : Params) (past first next : List Line) (n m : ℕ) → base_of first ≡ first → m ≡ n + length (behind_lines p past first)
    → map (later_by n) (looked_in p past [] first) ++ map (later_by m) (looked_in p (past ++ first) [] next) ≡ map (later_by n) (looked_in p past [] (first ++ next))
looked-join p past first next n m bare e =
    let k = length (behind_lines p past first) in
    let mine = looked_in p past [] first in
    let theirs = looked_in p (past ++ first) [] next in
    ap (λ (i : ℕ). map (later_by n) mine ++ map (later_by i) theirs) e
    ∙ ap (λ (ls : List LookingLine). map (later_by n) mine ++ ls) (later_twice n k theirs)
    ∙ sym (map-append (later_by n) mine (map (later_by k) theirs))
    ∙ ap (λ (ls : List LookingLine). map (later_by n) (mine ++ ls)) (sym (ap (λ (zs : List Line). looked_in p past zs next) (sym (append-nil first)) ∙ looked_in-later p past first [] next bare))
    ∙ ap (λ (ls : List LookingLine). map (later_by n) ls) (sym (looked_in-append p past [] first next))

pub calls_join_as : CallsJoin
calls_join_as b p past first next j bare =
    let n = length j.behind in
    let m = length (j.behind ++ behind_lines p past first) in
    let mine = looked_in p past [] first in
    let theirs = looked_in p (past ++ first) [] next in
    same_counts ((j.behind ++ behind_lines p past first) ++ behind_lines p (past ++ first) next) (j.behind ++ behind_lines p past (first ++ next))
    ((j.looked ++ map (later_by n) mine) ++ map (later_by m) theirs) (j.looked ++ map (later_by n) (looked_in p past [] (first ++ next)))
    (append_assoc j.behind (behind_lines p past first) (behind_lines p (past ++ first) next) ∙ ap (λ (ns : List ℕ). j.behind ++ ns) (sym (behind_lines-append p past first next)))
    (append_assoc j.looked (map (later_by n) mine) (map (later_by m) theirs)
    ∙ ap (λ (ls : List LookingLine). j.looked ++ ls) (looked-join p past first next n m bare (length-append j.behind (behind_lines p past first))))

pub counts_grow : CountsGrowByCalls
counts_grow b p past lines bare =
    let n = length (behind_lines p [] past) in
    same_counts (behind_lines p [] (past ++ lines)) (behind_lines p [] past ++ behind_lines p past lines) (looked_in p [] [] (past ++ lines)) (looked_in p [] [] past ++ map (later_by n) (looked_in p past [] lines))
    (behind_lines-append p [] past lines)
    (looked_in-append p [] [] past lines
    ∙ ap (λ (ls : List LookingLine). looked_in p [] [] past ++ ls) (ap (λ (zs : List Line). looked_in p [] zs lines) (sym (append-nil past)) ∙ looked_in-later p [] past [] lines bare))
