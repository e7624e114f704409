-- A line that names a key: its acts, and the states behind it.
use Rattle.std.proofs.Common.{◌≡◌, ℕ, Bool, true, false, if◌then◌else◌, List, [], ◌∷◌, ◌++◌, map, set, slice_get, Some, refl, sym, ap, subst, ◌∙◌}
use Rattle.std.specs.List.{flat_map, AllByRecursion}
use Rattle.std.proofs.lemmas.Option.{slice_get-map}
use Rattle.std.specs.Option.{option_map}
use Rattle.nb_base.specs.declared.key.Key.{Key}
use Rattle.nb_base.specs.declared.params.Params.{Params}
use Rattle.nb_base.specs.declared.line.Line.{Line}
use Rattle.nud_machine.specs.State.{State, Stepped}
use Rattle.nb_journal.specs.declared.kept.Kept.{Kept}
use Rattle.nb_journal.specs.Keys.{is_key, key_of}
use Rattle.nb_journal.specs.Fold.{state_of, acts_of, with_key, known_keys}
use Rattle.nb_journal.specs.Accounts.{acts_at}
use Rattle.nb_journal.specs.Steps.{IsKept, state_in}
use Rattle.nb_journal.specs.Keys.{has_key}
use Rattle.nb_journal.proofs.Changes.{is_key-same, change-other}
use Rattle.nb_journal.proofs.Folds.{state_of-snoc}
use Rattle.nb_journal.proofs.Counts.{AreDistinct, is_key-flip, has_key-snoc, known_keys-distinct}
use Rattle.journal_fold.specs.Kept.{AreKept}
use Rattle.journal_fold.proofs.Places.{has_at, map_same, map_but_one, none_among, one_among}

pub has_with : (keys : List Key) (key : Key) → has_key (with_key keys (Some key)) key ≡ true
has_with keys key = by_test (has_key keys key) refl where
  by_test : (t : Bool) → has_key keys key ≡ t → has_key (if t then keys else keys ++ key ∷ []) key ≡ true
  by_test true e = e
  by_test false e = rw (has_key-snoc keys key key, e, is_key-same key) refl

-- a line that names a key has no acts for another
none_of : (p : Params) (past : List Line) (line : Line) (key other : Key) → key_of line.op ≡ Some key → is_key key other ≡ false → acts_of p past line other ≡ []
none_of p past line key other names off = ap (λ (d : Stepped). d.acts) (change-other p line key other (state_of p past other) names off)

pub none_at : (p : Params) (past : List Line) (line : Line) (key : Key) (keys : List Key) → key_of line.op ≡ Some key → has_key keys key ≡ false → flat_map (acts_of p past line) keys ≡ []
none_at p past line key keys names off = none_among (acts_of p past line) keys key (λ other apart. none_of p past line key other names (is_key-flip other key apart)) off

-- so the acts of the line are those of its key
pub acts_one : (p : Params) (past : List Line) (line : Line) (key : Key) (keys : List Key) → key_of line.op ≡ Some key → AreDistinct keys → has_key keys key ≡ true → flat_map (acts_of p past line) keys ≡ acts_of p past line key
acts_one p past line key keys names d there = one_among (acts_of p past line) keys key (λ other apart. none_of p past line key other names (is_key-flip other key apart)) d there

-- a key that the line doesn't name keeps its state
pub other_stays : (p : Params) (past : List Line) (line : Line) (key other : Key) → key_of line.op ≡ Some key → is_key other key ≡ false → state_of p (past ++ line ∷ []) other ≡ state_of p past other
other_stays p past line key other names off = state_of-snoc p past line other ∙ ap (λ (s : Stepped). s.state) (change-other p line key other (state_of p past other) names (is_key-flip other key off))

-- so a line changes the entry of its key alone
pub named_there : (p : Params) (past : List Line) (line : Line) (key : Key) (rank : ℕ) (keys : List Key) (kept new : List Kept) → keys ≡ known_keys (past ++ line ∷ []) → key_of line.op ≡ Some key → slice_get keys rank ≡ Some key
    → AreKept p past keys kept → map state_in new ≡ set (map state_in kept) rank (state_of p (past ++ line ∷ []) key) → AllByRecursion (IsKept p) new → AreKept p (past ++ line ∷ []) keys new
named_there p past line key rank keys kept new known names at are done each = record {
  states =
      done
      ∙ ap (λ (x : List State). set x rank (state_of p (past ++ line ∷ []) key)) are.states
      ∙ sym (map_but_one (state_of p past) (state_of p (past ++ line ∷ [])) keys rank key (subst AreDistinct (sym known) (known_keys-distinct (past ++ line ∷ []))) at (λ other off. other_stays p past line key other names off));
  each = each;
}

-- and none where its key isn't known
pub named_unknown : (p : Params) (past : List Line) (line : Line) (key : Key) (keys : List Key) (kept : List Kept) → key_of line.op ≡ Some key → has_key keys key ≡ false → AreKept p past keys kept → AreKept p (past ++ line ∷ []) keys kept
named_unknown p past line key keys kept names off are = record {
  states = are.states ∙ sym (map_same (state_of p past) (state_of p (past ++ line ∷ [])) keys key off (λ other apart. other_stays p past line key other names apart));
  each = are.each;
}

-- the state at a key's rank
pub state_at : (p : Params) (past : List Line) (keys : List Key) (kept : List Kept) (rank : ℕ) (key : Key) → slice_get keys rank ≡ Some key → AreKept p past keys kept → slice_get (map state_in kept) rank ≡ Some (state_of p past key)
state_at p past keys kept rank key at are =
    ap (λ (x : List State). slice_get x rank) are.states ∙ slice_get-map (state_of p past) keys rank ∙ ap (option_map (state_of p past)) at

pub acts_there : (p : Params) (past : List Line) (line : Line) (key : Key) (rank : ℕ) (keys : List Key) → keys ≡ known_keys (past ++ line ∷ []) → key_of line.op ≡ Some key → slice_get keys rank ≡ Some key → acts_at p past line ≡ acts_of p past line key
acts_there p past line key rank keys known names at =
    ap (flat_map (acts_of p past line)) (sym known) ∙ acts_one p past line key keys names (subst AreDistinct (sym known) (known_keys-distinct (past ++ line ∷ []))) (has_at keys rank key at)

pub acts_nowhere : (p : Params) (past : List Line) (line : Line) (key : Key) (keys : List Key) → keys ≡ known_keys (past ++ line ∷ []) → key_of line.op ≡ Some key → has_key keys key ≡ false → acts_at p past line ≡ []
acts_nowhere p past line key keys known names off = ap (flat_map (acts_of p past line)) (sym known) ∙ none_at p past line key keys names off
