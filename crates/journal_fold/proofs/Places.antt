-- Entries by rank: one at a place, one more behind the others, and one that is changed.
use Rattle.std.proofs.Common.{◌≡◌, ⊎_elim, ℕ, ◌+◌, ◌-◌, ◌≤◌, zero, suc, Bool, true, false, ◌||◌, if◌then◌else◌, List, [], ◌∷◌, ◌++◌, map, set, length, get_or, slice_get, Option, Some, None, IfSome, is_some, refl, sym, ap, subst, ◌∙◌, arith, append-nil}
use mir.Val.{bool_byte}
use Rattle.std.specs.Prelude.{filter}
use Rattle.std.specs.List.{AllByRecursion, flat_map}
use Rattle.std.proofs.lemmas.Bool.{false≢true, or_parts}
use Rattle.std.proofs.lemmas.List.{map-append, length-set}
use Rattle.nb_base.specs.declared.key.Key.{Key}
use Rattle.nb_base.specs.declared.params.Params.{Params}
use Rattle.nb_base.specs.declared.line.Line.{Line}
use Rattle.nud_machine.specs.State.{State}
use Rattle.nb_journal.specs.declared.kept.Kept.{Kept}
use Rattle.nb_journal.specs.Keys.{is_key, place_among}
use Rattle.nb_journal.specs.Fold.{state_of, known_keys}
use Rattle.nb_journal.specs.Steps.{IsKept, state_in}
use Rattle.nb_journal.specs.Keys.{has_key}
use Rattle.nb_journal.proofs.Folds.{filter_within}
use Rattle.nb_journal.proofs.Changes.{is_key-same}
use Rattle.nb_journal.proofs.Counts.{AreDistinct, key_cases, is_key-flip, state_of-unknown}
use Rattle.journal_fold.specs.Kept.{AreKept, IsReady, is_present, number_present}

-- ---- each of a list

pub each_more : {X : Type 0} (P : X → Type 0) (xs : List X) (x : X) → AllByRecursion P xs → P x → AllByRecursion P (xs ++ x ∷ [])
each_more P [] x h here = (here, tt)
each_more P (y ∷ ys) x h here = (h.0, each_more P ys x h.1 here)

pub each_at : {X : Type 0} (P : X → Type 0) (xs : List X) (i : ℕ) (x : X) → slice_get xs i ≡ Some x → AllByRecursion P xs → P x
each_at P [] i x e h = cc
each_at P (y ∷ ys) zero x e h = let same : y ≡ x = cc in subst P same h.0
each_at P (y ∷ ys) (suc i) x e h = each_at P ys i x e h.1

-- ---- one of a list is changed

pub has_at : (keys : List Key) (rank : ℕ) (key : Key) → slice_get keys rank ≡ Some key → has_key keys key ≡ true
has_at [] rank key e = cc
has_at (k ∷ ks) zero key e = let same : k ≡ key = cc in rw (same, is_key-same key) refl
has_at (k ∷ ks) (suc rank) key e = let there = has_at ks rank key e in grind arith

-- the place of a key that stands once
pub place_at : (keys : List Key) (rank : ℕ) (key : Key) → AreDistinct keys → slice_get keys rank ≡ Some key → place_among keys key ≡ rank
place_at [] rank key d at = cc
place_at (k ∷ ks) zero key d at = let same : k ≡ key = cc in rw (same, is_key-same key) refl
place_at (k ∷ ks) (suc rank) key d at =
    let there = has_at ks rank key at in
    let rest = place_at ks rank key d.1 at in
    ⊎_elim
    (λ (one : k ≡ key). absurd (false≢true (sym d.0 ∙ rw one there)))
    (λ (off : is_key k key ≡ false). rw off (omega (arith, rest)))
    (key_cases k key)

pub map_same : {X : Type 0} (f g : Key → X) (keys : List Key) (key : Key) → has_key keys key ≡ false → ((other : Key) → is_key other key ≡ false → g other ≡ f other) → map g keys ≡ map f keys
map_same f g [] key h same = refl
map_same f g (k ∷ ks) key h same =
    let apart = or_parts (is_key k key) (has_key ks key) h in
    let here = same k apart.0 in
    let rest = map_same f g ks key apart.1 same in
    cc

-- a map that changes at one key is changed at one place
pub map_but_one : {X : Type 0} (f g : Key → X) (keys : List Key) (rank : ℕ) (key : Key) → AreDistinct keys → slice_get keys rank ≡ Some key → ((other : Key) → is_key other key ≡ false → g other ≡ f other) → map g keys ≡ set (map f keys) rank (g key)
map_but_one f g [] rank key d at same = refl
map_but_one f g (k ∷ ks) zero key d at same =
    let here : k ≡ key = cc in
    let off : has_key ks key ≡ false = rw (← here) d.0 in
    let rest = map_same f g ks key off same in
    cc
map_but_one f g (k ∷ ks) (suc rank) key d at same =
    let there = has_at ks rank key at in
    let rest = map_but_one f g ks rank key d.1 at same in
    ⊎_elim
    (λ (one : k ≡ key). absurd (false≢true (sym d.0 ∙ rw one there)))
    (λ (off : is_key k key ≡ false). let here = same k off in cc)
    (key_cases k key)

-- ---- lists of one key among others that have none

pub none_among : {X : Type 0} (f : Key → List X) (keys : List Key) (key : Key) → ((other : Key) → is_key other key ≡ false → f other ≡ []) → has_key keys key ≡ false → flat_map f keys ≡ []
none_among f [] key none h = refl
none_among f (k ∷ ks) key none h =
    let apart = or_parts (is_key k key) (has_key ks key) h in
    rw (none k apart.0, none_among f ks key none apart.1) refl

pub one_among : {X : Type 0} (f : Key → List X) (keys : List Key) (key : Key) → ((other : Key) → is_key other key ≡ false → f other ≡ []) → AreDistinct keys → has_key keys key ≡ true → flat_map f keys ≡ f key
one_among f [] key none d there = cc
one_among f (k ∷ ks) key none d there = ⊎_elim
    (λ (same : key ≡ k).
    let rest = none_among f ks key none (ap (has_key ks) same ∙ d.0) in
    ap (λ (xs : List _). f k ++ xs) rest ∙ append-nil (f k) ∙ ap f (sym same))
    (λ (off : is_key key k ≡ false).
    let turned = is_key-flip key k off in
    let more : has_key ks key ≡ true = ap (λ (b : Bool). b || has_key ks key) (sym turned) ∙ there in
    ap (λ (xs : List _). xs ++ flat_map f ks) (none k turned) ∙ one_among f ks key none d.1 more)
    (key_cases key k)

pub size_one : {X : Type 0} (b : Bool) (x : X) (xs : List X) → length (if b then x ∷ xs else xs) ≡ length xs + (if b then 1 else 0)
size_one true x xs = omega arith
size_one false x xs = omega arith

-- how many pass a test, with one changed
pub count_set : {X : Type 0} (test : X → Bool) (xs : List X) (i : ℕ) (old new : X) → slice_get xs i ≡ Some old
    → length (filter test (set xs i new)) + (if test old then 1 else 0) ≡ length (filter test xs) + (if test new then 1 else 0)
count_set test [] i old new e = cc
count_set test (x ∷ xs) zero old new e =
    let same : x ≡ old = cc in
    let after = size_one (test new) new (filter test xs) in
    let before = size_one (test old) old (filter test xs) in
    rw same (omega (arith, after, before))
count_set test (x ∷ xs) (suc i) old new e =
    let after = size_one (test x) x (filter test (set xs i new)) in
    let before = size_one (test x) x (filter test xs) in
    let rest = count_set test xs i old new e in
    omega (arith, after, before, rest)

-- one that stands there is counted
pub count_there : {X : Type 0} (test : X → Bool) (xs : List X) (i : ℕ) (x : X) → slice_get xs i ≡ Some x → (if test x then 1 else 0) ≤ length (filter test xs)
count_there test [] i x e = cc
count_there test (y ∷ ys) zero x e =
    let same : y ≡ x = cc in
    let size = size_one (test x) x (filter test ys) in
    rw same (omega (arith, size))
count_there test (y ∷ ys) (suc i) x e =
    let size = size_one (test y) y (filter test ys) in
    let rest = count_there test ys i x e in
    omega (arith, size, rest)

-- ---- the entry at a place

pub stood : (items : List Kept) (rank : ℕ) (one : Kept) (s : State) → one ≡ get_or items rank one → slice_get (map state_in items) rank ≡ Some s → (slice_get items rank ≡ Some one) × (state_in one ≡ s)
stood [] rank one s is e = cc
stood (x ∷ xs) zero one s is e = let here : state_in x ≡ s = cc in (ap Some (sym is), ap state_in is ∙ here)
stood (x ∷ xs) (suc rank) one s is e = stood xs rank one s is e

byte_is : (b : Bool) → bool_byte b ≡ (if b then 1 else 0)
byte_is true = refl
byte_is false = refl

pub present_before : (items : List Kept) (rank : ℕ) (one : Kept) → slice_get items rank ≡ Some one → bool_byte one.entry.present ≤ number_present items
present_before items rank one here = rw (byte_is one.entry.present) (count_there is_present items rank one here)

-- how many are present once the entry is another
pub present_after : (items : List Kept) (rank : ℕ) (one new : Kept) → slice_get items rank ≡ Some one → number_present items - bool_byte one.entry.present + bool_byte new.entry.present ≡ number_present (set items rank new)
present_after items rank one new here =
    let one_is = byte_is one.entry.present in
    let new_is = byte_is new.entry.present in
    let before = count_there is_present items rank one here in
    let both = count_set is_present items rank one new here in
    omega (arith, one_is, new_is, before, both)

pub present_within : (items : List Kept) (rank : ℕ) (new : Kept) → number_present (set items rank new) ≤ length items
present_within items rank new = let within = filter_within is_present (set items rank new) in let size = length-set items rank new in omega (arith, within, size)

-- ---- one key more

pub kept_more : (p : Params) (past : List Line) (keys : List Key) (kept : List Kept) (key : Key) (one : Kept) → keys ≡ known_keys past → has_key keys key ≡ false → IsReady p one → AreKept p past keys kept
    → AreKept p past (keys ++ key ∷ []) (kept ++ one ∷ [])
kept_more p past keys kept key one known off ready are = record {
  states =
      map-append state_in kept (one ∷ [])
      ∙ ap (λ (x : List State). x ++ state_in one ∷ []) are.states
      ∙ ap (λ (s : State). map (state_of p past) keys ++ s ∷ []) (ready.1 ∙ sym (state_of-unknown p past key (ap (λ (ks : List Key). has_key ks key) (sym known) ∙ off)))
      ∙ sym (map-append (state_of p past) keys (key ∷ []));
  each = each_more (IsKept p) kept one are.each ready.0;
}

-- and its parts are those that lay ready
pub kept_next : (p : Params) (past : List Line) (keys more_keys : List Key) (kept more : List Kept) (key : Key) (next : Option Kept) → is_some next ≡ true → IfSome next (λ one. more ≡ kept ++ one ∷ [])
    → more_keys ≡ keys ++ key ∷ [] → has_key keys key ≡ false → keys ≡ known_keys past → IfSome next (IsReady p) → AreKept p past keys kept → AreKept p past more_keys more
kept_next p past keys more_keys kept more key None there put added off known ready are = cc
kept_next p past keys more_keys kept more key (Some one) there put added off known ready are = rw (added, put) (kept_more p past keys kept key one known off ready are)
