-- The derived equality of keys is the one that journals tell keys by, so a set of keys knows what a journal knows.
use Rattle.std.proofs.Common.{◌≡◌, ℕ, Bool, true, false, not, if◌then◌else◌, List, [], ◌∷◌, ◌++◌, Option, Some, None, IfSome, slice_get, position, get_or, refl, sym, ap, ◌∙◌}
use Rattle.std.specs.List.{list_any}
use Rattle.std.proofs.lemmas.List.Quantifiers.{position-Some}
use Rattle.std.proofs.lemmas.Option.{slice_get-get_or}
use Rattle.nb_base.specs.declared.key.Key.{Key}
use Rattle.nb_base.specs.declared.key.Key.TheVariants.{V4, V6}
use Rattle.nb_base.specs.contracts.key.KeyPartialEq.TheImpl.{eq-value}
use Rattle.indexmap.specs.IndexSet.{insert_key}
use Rattle.nb_journal.specs.Keys.{is_key}
use Rattle.nb_journal.specs.Fold.{with_key}
use Rattle.nb_journal.specs.Keys.{has_key}
use Rattle.nb_journal.proofs.Changes.{is_key-same}
use Rattle.nb_journal.proofs.Grows.{is_key-one}
use Rattle.nb_journal.proofs.Counts.{is_key-flip}

equal_is : (a b : Key) → eq-value.it a b ≡ is_key a b
unfolding is_key
equal_is (V4 a) (V4 b) = refl
equal_is (V6 a) (V6 b) = refl
equal_is (V4 a) (V6 b) = refl
equal_is (V6 a) (V4 b) = refl

is_key-turned : (a b : Key) → is_key a b ≡ is_key b a
is_key-turned a b = by_test (is_key a b) refl where
  by_test : (t : Bool) → is_key a b ≡ t → is_key a b ≡ is_key b a
  by_test true e = let same = is_key-one a b e in e ∙ sym (is_key-same b) ∙ ap (is_key b) (sym same)
  by_test false e = e ∙ sym (is_key-flip a b e)

equal_turned : (a b : Key) → eq-value.it a b ≡ is_key b a
equal_turned a b = equal_is a b ∙ is_key-turned a b

-- a key stands among keys by either
pub has_equal : (keys : List Key) (key : Key) → list_any (eq-value.it key) keys ≡ has_key keys key
has_equal keys key = ap (λ (test : Key → Bool). list_any test keys) (λ i. λ other. equal_turned key other i)

not_there : (b : Bool) → not b ≡ true → b ≡ false
not_there true e = cc
not_there false e = refl

pub new_among : (keys : List Key) (key : Key) → not (list_any (eq-value.it key) keys) ≡ true → has_key keys key ≡ false
new_among keys key e = sym (has_equal keys key) ∙ not_there (list_any (eq-value.it key) keys) e

-- a key that is inserted goes behind the others unless it is there
pub insert_is : (keys : List Key) (key : Key) → insert_key eq-value.it keys key ≡ with_key keys (Some key)
insert_is keys key = ap (λ (there : Bool). if there then keys else keys ++ key ∷ []) (has_equal keys key)

rank_there : (keys : List Key) (key : Key) (rank : ℕ) → position (eq-value.it key) keys ≡ Some rank → slice_get keys rank ≡ Some key
rank_there keys key rank e =
    let found = position-Some (eq-value.it key) keys rank key e in
    slice_get-get_or keys rank key found.0 ∙ ap Some (sym (is_key-one key (get_or keys rank key) (sym (equal_is key (get_or keys rank key)) ∙ found.1)))

-- the key stands at the place that was found
pub rank_found : (keys : List Key) (key : Key) (found : Option ℕ) → found ≡ position (eq-value.it key) keys → IfSome found (λ rank. slice_get keys rank ≡ Some key)
rank_found keys key None e = tt
rank_found keys key (Some rank) e = rank_there keys key rank (sym e)
