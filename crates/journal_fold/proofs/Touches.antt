-- What a line changes of what is shown, by one key or by what it removes.
use Rattle.std.proofs.Common.{◌≡◌, ◌==◌, ℕ, ◌+◌, zero, suc, take, get_or, slice_get, length, append_assoc, append-nil, Bool, true, false, not, if◌then◌else◌, List, [], ◌∷◌, ◌++◌, map, Option, Some, None, refl, sym, ap, ◌∙◌, arith}
use Rattle.std.specs.List.{flat_map}
use Rattle.std.proofs.lemmas.Bool.{or_parts}
use Rattle.nb_base.specs.declared.key.Key.{Key}
use Rattle.nb_base.specs.declared.params.Params.{Params}
use Rattle.nb_base.specs.declared.line.Line.{Line}
use Rattle.nb_base.specs.Nud.{bits}
use Rattle.nud_machine.specs.State.{State, Stepped, stays}
use Rattle.nud_machine.proofs.Same.{same_mac-same}
use Rattle.nb_journal.specs.declared.kept.Kept.{Kept}
use Rattle.nb_journal.specs.Steps.{state_in}
use Rattle.nb_journal.specs.Keys.{is_key, has_key, key_of}
use Rattle.nb_journal.specs.Fold.{state_of, known_keys}
use Rattle.nb_journal.proofs.Folds.{state_of-snoc}
use Rattle.nb_journal.proofs.Counts.{known_keys-distinct, state_of-unknown}
use Rattle.nb_journal.proofs.Grows.{known_keys-grow}
use Rattle.journal_fold.specs.declared.touched.Shown.{Shown}
use Rattle.journal_fold.specs.declared.touched.Touch.{Touch}
use Rattle.journal_fold.specs.Touched.{shown_of, same_shown, touch_of, touch_by, touched_by}
use Rattle.journal_fold.specs.Removing.{removes, gone, gone_rows}
use Rattle.journal_fold.proofs.Places.{none_among, one_among}
use Rattle.journal_fold.proofs.Named.{other_stays}
use Rattle.journal_fold.proofs.Whole.{same_keys}
use Rattle.journal_fold.proofs.Removed.{removed, removes_present, change_unnamed}

same_number : (n : ℕ) → (n == n) ≡ true
same_number n = grind arith

same_flag : (b : Bool) → (if b then b else not b) ≡ true
same_flag true = refl
same_flag false = refl

-- what is shown alike is no change
shown_same : (shown : Option Shown) → same_shown shown shown ≡ true
shown_same None = refl
shown_same (Some a) = rw (same_mac-same a.mac, same_number (bits a.nud), same_flag a.router) refl

pub none_touched : (key : Key) (shown : Option Shown) → touch_of key shown shown ≡ []
none_touched key shown = rw (shown_same shown) refl

-- ---- a line that names a key

apart : (p : Params) (past : List Line) (line : Line) (key other : Key) → key_of line.op ≡ Some key → is_key other key ≡ false → touch_by p past line other ≡ []
apart p past line key other names off = ap (λ (s : State). touch_of other (shown_of (state_of p past other)) (shown_of s)) (other_stays p past line key other names off) ∙ none_touched other (shown_of (state_of p past other))

off_front : (xs ys : List Key) (key : Key) → has_key (xs ++ ys) key ≡ false → has_key xs key ≡ false
off_front [] ys key h = refl
off_front (x ∷ xs) ys key h =
    let apart = or_parts (is_key x key) (has_key (xs ++ ys) key) h in
    let rest = off_front xs ys key apart.1 in
    rw (apart.0, rest) refl

-- a key that isn't known behind the line isn't known before it
unknown_before : (past : List Line) (line : Line) (key : Key) → has_key (known_keys (past ++ line ∷ [])) key ≡ false → has_key (known_keys past) key ≡ false
unknown_before past line key off =
    let grown = known_keys-grow past (line ∷ []) in
    off_front (known_keys past) grown.0 key (ap (λ (keys : List Key). has_key keys key) (sym grown.1) ∙ off)

unknown : (p : Params) (past : List Line) (line : Line) (key : Key) → has_key (known_keys (past ++ line ∷ [])) key ≡ false → touch_by p past line key ≡ []
unknown p past line key off =
    ap (λ (s : State). touch_of key (shown_of s) (shown_of (state_of p (past ++ line ∷ []) key))) (state_of-unknown p past key (unknown_before past line key off))
    ∙ ap (λ (s : State). touch_of key None (shown_of s)) (state_of-unknown p (past ++ line ∷ []) key off)

-- changes what is shown of that key alone
pub touched_one : (p : Params) (past : List Line) (line : Line) (key : Key) → key_of line.op ≡ Some key → touched_by p past line ≡ touch_by p past line key
touched_one p past line key names = by_test (has_key (known_keys (past ++ line ∷ [])) key) refl where
  none : (other : Key) → is_key other key ≡ false → touch_by p past line other ≡ []
  none other off = apart p past line key other names off

  by_test : (t : Bool) → has_key (known_keys (past ++ line ∷ [])) key ≡ t → touched_by p past line ≡ touch_by p past line key
  by_test true there = one_among (touch_by p past line) (known_keys (past ++ line ∷ [])) key none (known_keys-distinct (past ++ line ∷ [])) there
  by_test false off = none_among (touch_by p past line) (known_keys (past ++ line ∷ [])) key none off ∙ sym (unknown p past line key off)

-- ---- a line that names none

gone_row : (key : Key) (s : State) (b : Bool) → (b ≡ true → s.entry.present ≡ true)
    → touch_of key (shown_of s) (shown_of (if b then removed s else stays s).state) ≡ (let one : Touch = record { key = key; shown = None } in if b then one ∷ [] else [])
gone_row key s true there = rw (there refl) refl
gone_row key s false there = none_touched key (shown_of s)

gone_by : (p : Params) (past : List Line) (line : Line) (key : Key) → key_of line.op ≡ None → touch_by p past line key ≡ gone p line key (state_of p past key)
gone_by p past line key e =
    let s = state_of p past key in
    ap (λ (t : State). touch_of key (shown_of s) (shown_of t)) (state_of-snoc p past line key ∙ ap (λ (x : Stepped). x.state) (change_unnamed p line key s e))
    ∙ gone_row key s (removes p line s) (removes_present p line s e)

rows_are : (p : Params) (past : List Line) (line : Line) (keys : List Key) → key_of line.op ≡ None → gone_rows p line keys (map (state_of p past) keys) ≡ flat_map (touch_by p past line) keys
rows_are p past line [] e = refl
rows_are p past line (key ∷ keys) e = rw (gone_by p past line key e, rows_are p past line keys e) refl

-- changes what is shown of those that it removes
pub touched_gone : (p : Params) (past : List Line) (line : Line) → key_of line.op ≡ None → gone_rows p line (known_keys past) (map (state_of p past) (known_keys past)) ≡ touched_by p past line
touched_gone p past line e = rows_are p past line (known_keys past) e ∙ ap (flat_map (touch_by p past line)) (sym (same_keys past line e))

-- ---- the first so many rows, and one more

rows_suc : (p : Params) (line : Line) (keys : List Key) (kept : List Kept) (rank : ℕ) (key : Key) (one : Kept) → length kept ≡ length keys → slice_get keys rank ≡ Some key → one ≡ get_or kept rank one
    → gone_rows p line (take (suc rank) keys) (take (suc rank) (map state_in kept)) ≡ gone_rows p line (take rank keys) (take rank (map state_in kept)) ++ gone p line key (state_in one)
rows_suc p line [] kept rank key one both at here = cc
rows_suc p line (k ∷ ks) [] rank key one both at here = absurd (omega (arith, both))
rows_suc p line (k ∷ ks) (x ∷ xs) zero key one both at here =
    let same : k ≡ key = cc in
    append-nil (gone p line k (state_in x)) ∙ ap (λ (other : Kept). gone p line k (state_in other)) (sym here) ∙ ap (λ (other : Key). gone p line other (state_in one)) same
rows_suc p line (k ∷ ks) (x ∷ xs) (suc rank) key one both at here =
    let rest = rows_suc p line ks xs rank key one (omega (arith, both)) at here in
    ap (λ (rows : List Touch). gone p line k (state_in x) ++ rows) rest
    ∙ sym (append_assoc (gone p line k (state_in x)) (gone_rows p line (take rank ks) (take rank (map state_in xs))) (gone p line key (state_in one)))

pub rows_next : (p : Params) (line : Line) (keys : List Key) (kept : List Kept) (rank : ℕ) (key : Key) (one : Kept) → length kept ≡ length keys → slice_get keys rank ≡ Some key → one ≡ get_or kept rank one
    → gone_rows p line (take (rank + 1) keys) (take (rank + 1) (map state_in kept)) ≡ gone_rows p line (take rank keys) (take rank (map state_in kept)) ++ gone p line key (state_in one)
rows_next p line keys kept rank key one both at here =
    let next : rank + 1 ≡ suc rank = omega arith in
    ap (λ (n : ℕ). gone_rows p line (take n keys) (take n (map state_in kept))) next ∙ rows_suc p line keys kept rank key one both at here
