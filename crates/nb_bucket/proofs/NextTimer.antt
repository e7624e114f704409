-- The next timer is the least of those that are armed for the known keys.
use Rattle.std.proofs.Common.{◌≡◌, ◌<◌, ◌≤◌, ⊎_elim, ℕ, zero, suc, ◌+◌, Bool, true, false, if◌then◌else◌, List, [], ◌∷◌, length, map, get_or, slice_get, Option, Some, None, add-one, refl, sym, ◌∙◌, ap, subst, arith}
use Rattle.std.specs.Option.{option_map}
use Rattle.std.proofs.lemmas.Bool.{false≢true}
use Rattle.std.proofs.lemmas.Option.{slice_get-map, slice_get-get_or}
use Rattle.std.proofs.lemmas.List.{length-map}
use Rattle.nb_base.specs.declared.key.Key.{Key}
use Rattle.nb_base.specs.declared.params.Params.{Params}
use Rattle.nb_base.specs.declared.line.Line.{Line}
use Rattle.nud_machine.specs.State.{State, absent}
use Rattle.nb_journal.specs.declared.kept.Kept.{Kept}
use Rattle.nb_journal.specs.Keys.{is_key, place_among}
use Rattle.nb_journal.specs.Fold.{state_of, known_keys}
use Rattle.nb_journal.specs.Lawful.{due_of, NothingDue, NothingOverdue, IsNextDue}
use Rattle.nb_journal.specs.Steps.{state_in}
use Rattle.nb_journal.specs.Keys.{has_key}
use Rattle.nb_journal.proofs.Changes.{is_key-same}
use Rattle.nb_journal.proofs.Dues.{nothing_due-from, nothing_overdue-from, dues_from-nothing_overdue}
use Rattle.nb_journal.proofs.Counts.{AreDistinct, key_cases, known_keys-distinct, state_of-unknown}
use Rattle.timer_wheel.specs.Map.{Timers, NoneArmed, IsLeast}
use Rattle.timer_wheel.specs.Map as timers
use Rattle.nb_bucket.specs.Dues.{AreArmed}

-- ---- keys and their places

-- what is there has its place within the list
pub within_length : {A : Type 0} (xs : List A) (k : ℕ) (y : A) → slice_get xs k ≡ Some y → k < length xs
within_length [] k y e = cc
within_length (x ∷ xs) zero y e = omega arith
within_length (x ∷ xs) (suc k) y e = let h = within_length xs k y e in omega arith

beyond_length : {A : Type 0} (xs : List A) (k : ℕ) → slice_get xs k ≡ None → length xs ≤ k
beyond_length [] k e = omega arith
beyond_length (x ∷ xs) zero e = cc
beyond_length (x ∷ xs) (suc k) e = let h = beyond_length xs k e in omega arith

pub key_at : (keys : List Key) (key : Key) → has_key keys key ≡ true → slice_get keys (place_among keys key) ≡ Some key
key_at [] key h = cc
key_at (k ∷ ks) key h = ⊎_elim
    (λ (one : k ≡ key). rw (subst (λ (x : Key). is_key x key ≡ true) (sym one) (is_key-same key)) (ap Some one))
    (λ (off : is_key k key ≡ false).
    let rest : has_key ks key ≡ true = grind arith in
    subst (λ (t : Bool). slice_get (k ∷ ks) (if t then 0 else place_among ks key + 1) ≡ Some key) (sym off)
    (subst (λ (n : ℕ). slice_get (k ∷ ks) n ≡ Some key) (sym (add-one (place_among ks key))) (key_at ks key rest)))
    (key_cases k key)

pub has_at : (keys : List Key) (rank : ℕ) (key : Key) → slice_get keys rank ≡ Some key → has_key keys key ≡ true
has_at [] rank key e = cc
has_at (k ∷ ks) zero key e = let one : k ≡ key = cc in rw (subst (λ (x : Key). is_key x key ≡ true) (sym one) (is_key-same key)) refl
has_at (k ∷ ks) (suc rank) key e = let there = has_at ks rank key e in grind (arith, there)

pub place_of_at : (keys : List Key) (rank : ℕ) (key : Key) → AreDistinct keys → slice_get keys rank ≡ Some key → place_among keys key ≡ rank
place_of_at [] rank key d e = cc
place_of_at (k ∷ ks) zero key d e = let one : k ≡ key = cc in rw (subst (λ (x : Key). is_key x key ≡ true) (sym one) (is_key-same key)) refl
place_of_at (k ∷ ks) (suc rank) key d e = ⊎_elim
    (λ (one : k ≡ key). absurd (false≢true (sym d.0 ∙ subst (λ (x : Key). has_key ks x ≡ true) (sym one) (has_at ks rank key e))))
    (λ (off : is_key k key ≡ false). let rest = place_of_at ks rank key d.1 e in rw off (omega arith))
    (key_cases k key)

-- ---- dues and their places

-- what is kept of the known keys
abbrev pub IsKeptOf : Params → List Line → List Kept → Type 0
IsKeptOf p lines kept = map state_in kept ≡ map (state_of p lines) (known_keys lines)

-- there are as many keys as is kept of them
pub same_length : (p : Params) (lines : List Line) (kept : List Kept) → IsKeptOf p lines kept → length kept ≡ length (known_keys lines)
same_length p lines kept f = sym (length-map kept state_in) ∙ ap length f ∙ length-map (known_keys lines) (state_of p lines)

-- what is kept at a key's rank has the key's due
pub kept_due : (p : Params) (lines : List Line) (kept : List Kept) (rank : ℕ) (one : Kept) (key : Key) → IsKeptOf p lines kept → slice_get kept rank ≡ Some one → slice_get (known_keys lines) rank ≡ Some key → one.entry.due ≡ due_of p lines key
kept_due p lines kept rank one key f h e =
    let both : option_map state_in (slice_get kept rank) ≡ Some (state_of p lines key) =
    sym (slice_get-map state_in kept rank) ∙ ap (λ (xs : List State). slice_get xs rank) f ∙ slice_get-map (state_of p lines) (known_keys lines) rank ∙ ap (option_map (state_of p lines)) e in
    let good : Some (state_in one) ≡ Some (state_of p lines key) = ap (option_map state_in) (sym h) ∙ both in
    let same : state_in one ≡ state_of p lines key = cc in
    ap (λ (s : State). s.entry.due) same

no_due : (d : ℕ) → absent.entry.due ≡ Some d → ⊥
no_due d e = cc

none_some : (o : Option ℕ) (d : ℕ) → o ≡ None → o ≡ Some d → ⊥
none_some o d none some = cc

-- an armed node is a known key's
pub armed_within : (p : Params) (lines : List Line) (t : Timers) (node d : ℕ) → AreArmed p lines t → timers.due_of t.dues node ≡ Some d → node < length (known_keys lines)
armed_within p lines t node d a e = by_key (slice_get (known_keys lines) node) refl where
  by_key : (o : Option Key) → slice_get (known_keys lines) node ≡ o → node < length (known_keys lines)
  by_key None h = absurd (none_some (timers.due_of t.dues node) d (a.spare node (beyond_length (known_keys lines) node h)) e)
  by_key (Some key) h = within_length (known_keys lines) node key h

-- the key's due is armed at its rank
armed_at : (p : Params) (lines : List Line) (t : Timers) (key : Key) (d : ℕ) → AreArmed p lines t → due_of p lines key ≡ Some d → timers.due_of t.dues (place_among (known_keys lines) key) ≡ Some d
armed_at p lines t key d a e = by_test (has_key (known_keys lines) key) refl where
  by_test : (b : Bool) → has_key (known_keys lines) key ≡ b → timers.due_of t.dues (place_among (known_keys lines) key) ≡ Some d
  by_test true h = a.each (place_among (known_keys lines) key) key (key_at (known_keys lines) key h) ∙ e
  by_test false h = absurd (no_due d (ap (λ (s : State). s.entry.due) (sym (state_of-unknown p lines key h)) ∙ e))

-- no armed due lies before a moment, where no key's does
pub none_before : (p : Params) (lines : List Line) (t : Timers) (at : ℕ) → AreArmed p lines t → NothingOverdue p lines at → (node d : ℕ) → timers.due_of t.dues node ≡ Some d → at ≤ d
none_before p lines t at a none node d e = by_key (slice_get (known_keys lines) node) refl where
  by_key : (o : Option Key) → slice_get (known_keys lines) node ≡ o → at ≤ d
  by_key None h = absurd (none_some (timers.due_of t.dues node) d (a.spare node (beyond_length (known_keys lines) node h)) e)
  by_key (Some key) h = dues_from-nothing_overdue p lines at none key d (sym (a.each node key h) ∙ e)

-- ---- the next timer

-- where nothing is armed, nothing is due up to any moment
pub none_due : (p : Params) (lines : List Line) (t : Timers) (moment : ℕ) → AreArmed p lines t → NoneArmed t.dues → NothingDue p lines moment
none_due p lines t moment a none = nothing_due-from p lines moment (λ key d e. absurd (none_some (timers.due_of t.dues (place_among (known_keys lines) key)) d (none (place_among (known_keys lines) key)) (armed_at p lines t key d a e)))

-- nothing is due before the least due
pub none_before_least : (p : Params) (lines : List Line) (t : Timers) (node at moment : ℕ) → moment < at → AreArmed p lines t → IsLeast t.dues at node → NothingDue p lines moment
none_before_least p lines t node at moment lt a least = nothing_due-from p lines moment (λ key d e. let low = least.least (place_among (known_keys lines) key) d (armed_at p lines t key d a e) in omega (arith, low, lt))

-- the least is the next timer's
least_is_next : (p : Params) (lines : List Line) (t : Timers) (node at : ℕ) (key : Key) → AreArmed p lines t → IsLeast t.dues at node → slice_get (known_keys lines) node ≡ Some key → IsNextDue p lines key at
least_is_next p lines t node at key a least e = record {
  due = sym (a.each node key e) ∙ least.armed;
  least = nothing_overdue-from p lines at (λ other d f. least.least (place_among (known_keys lines) other) d (armed_at p lines t other d a f));
  first = λ other f.
      let mine = place_of_at (known_keys lines) node key (known_keys-distinct lines) e in
      let below = least.first (place_among (known_keys lines) other) (armed_at p lines t other at a f) in
      omega (arith, mine, below);
}

-- the same for the key that stands at the rank
pub least_is_next_at : (p : Params) (lines : List Line) (t : Timers) (keys : List Key) (key : Key) (node at : ℕ) → AreArmed p lines t → keys ≡ known_keys lines → IsLeast t.dues at node → IsNextDue p lines (get_or keys node key) at
least_is_next_at p lines t keys key node at a e least =
    let within = armed_within p lines t node at a least.armed in
    least_is_next p lines t node at (get_or keys node key) a least (ap (λ (ks : List Key). slice_get ks node) (sym e) ∙ slice_get-get_or keys node key (rw e within))
