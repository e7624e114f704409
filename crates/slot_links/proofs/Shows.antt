-- What the places show: the lists that they hold, and which list has a node.
use Rattle.std.proofs.Common.{◌≡◌, ℕ, ◌+◌, ◌<◌, ◌≤◌, true, true≢false, List, [], length, map, Option, Some, None, is_some, unwrap_or, refl, sym, ap, ◌∙◌, subst, arith, ext_get_or}
use Rattle.std.specs.List.{range_with_len}
use Rattle.std.proofs.lemmas.Bool.{false_from_ne_true}
use Rattle.std.proofs.lemmas.List.FromFn.{length-map-range_with_len, get_or-map-range_with_len}
use Rattle.std.proofs.lemmas.Map.Steps.{length-le_from_distinct_below}
use Rattle.slot_links.specs.declared.places.Place.{Place}
use Rattle.slot_links.specs.Lists.{has, list_at, holder, StandOnce}
use Rattle.slot_links.specs.Places.{next_at, number_at, walk, lists_in, Holds}
use Rattle.slot_links.proofs.Chains.{walk_chain}
use Rattle.slot_links.proofs.Members.{holder_is, holder_none}

-- no number is none
pub none_some : (o : Option ℕ) (k : ℕ) → o ≡ None → o ≡ Some k → ⊥
none_some o k e m = true≢false (ap is_some (sym m ∙ e))

-- one place has one number
pub some_same : (o : Option ℕ) (k l : ℕ) → o ≡ Some k → o ≡ Some l → k ≡ l
some_same o k l e m = ap (λ (x : Option ℕ). unwrap_or x 0) (sym e ∙ m)

-- the walks give the lists
pub lists_shown : (ends nodes : ℕ) (places : List Place) (lists : List (List ℕ)) → Holds ends nodes places lists → lists_in ends places ≡ lists
unfolding lists_in
lists_shown ends nodes places lists h =
    let f : ℕ → List ℕ = λ list. walk (next_at places) ends (length places) (next_at places list) in
    let len : length (map f (range_with_len 0 ends)) ≡ ends = length-map-range_with_len f 0 ends in
    ext_get_or [] (map f (range_with_len 0 ends)) lists (len ∙ sym h.lists_len) (λ list small.
    let within : list < ends = omega arith in
    let short : length (list_at lists list) ≤ nodes = length-le_from_distinct_below (list_at lists list) nodes (h.once list) (λ n m. (h.held list n m).0) in
    let size : length places ≡ ends + nodes = h.places_len in
    get_or-map-range_with_len f 0 ends list list [] within (omega arith) ∙ walk_chain (next_at places) ends list (list_at lists list) list (length places) within (omega arith) (h.chained list within))

-- so the places hold the lists that they show
pub holds_shown : (ends nodes : ℕ) (places : List Place) (lists : List (List ℕ)) → Holds ends nodes places lists → Holds ends nodes places (lists_in ends places)
holds_shown ends nodes places lists h = let F : List (List ℕ) → Type 0 = λ ls. Holds ends nodes places ls in subst F (sym (lists_shown ends nodes places lists h)) h

-- a node's place has the number of its list
pub number_shown : (ends nodes : ℕ) (places : List Place) (lists : List (List ℕ)) (node : ℕ) → node < nodes → Holds ends nodes places lists → number_at places (ends + node) ≡ holder lists node
number_shown ends nodes places lists node small h = by_number (number_at places (ends + node)) refl
  where
    by_number : (o : Option ℕ) → number_at places (ends + node) ≡ o → o ≡ holder lists node
    by_number None e = sym (holder_none lists node (λ k. false_from_ne_true (has node (list_at lists k)) (λ m. none_some (number_at places (ends + node)) k e (h.held k node m).1)))
    by_number (Some list) e =
        let listed : (list < ends) × (has node (list_at lists list) ≡ true) = h.listed list node small e in
        let len : length lists ≡ ends = h.lists_len in
        sym (holder_is lists list node (omega (arith, listed.0)) listed.1 (λ k below. false_from_ne_true (has node (list_at lists k)) (λ m.
        let same : k ≡ list = some_same (number_at places (ends + node)) k list (h.held k node m).1 e in
        absurd (omega arith))))

-- each node stands once
pub stand_once : (ends nodes : ℕ) (places : List Place) (lists : List (List ℕ)) → Holds ends nodes places lists → StandOnce (record { lists = lists; nodes = nodes })
stand_once ends nodes places lists h = record {
  held = λ list node m. ((h.held list node m).0, sym (number_shown ends nodes places lists node (h.held list node m).0 h) ∙ (h.held list node m).1);
  once = h.once;
}
