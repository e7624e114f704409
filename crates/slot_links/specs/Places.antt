-- The vector behind the lists: a place for each list, which is its end, and behind those a place for each node. From a list's end `next` goes round through the nodes of the list, from its front, back to that end, and `previous` goes the other way.
use Rattle.std.specs.Prelude.{◌≡◌, ℕ, zero, suc, ◌+◌, ◌-◌, ◌^◌, ◌<◌, true, eqb, ltb, cond, List, [], ◌∷◌, length, map, Option, Some, None, slice_index_or}
use Rattle.std.specs.List.{range_with_len, IsDistinct}
use Rattle.slot_links.specs.declared.places.Place.{Place}
use Rattle.slot_links.specs.Lists.{has, list_at}

-- a place that is linked to itself and is in no list
abbrev pub apart : ℕ → Place
apart at = record { previous = at; next = at; list = None }

-- what is read at a place
abbrev pub place_at : List Place → ℕ → Place
place_at places at = slice_index_or places at (apart at)

abbrev pub next_at : List Place → ℕ → ℕ
next_at places at = (place_at places at).next

abbrev pub previous_at : List Place → ℕ → ℕ
previous_at places at = (place_at places at).previous

abbrev pub number_at : List Place → ℕ → Option ℕ
number_at places at = (place_at places at).list

-- one place comes to stand right behind another
pub record Joins (before after : ℕ) (old new : List Place) : Type 0 where
  pub length : length new ≡ length old
  pub next : (i : ℕ) → next_at new i ≡ cond (eqb i before) after (next_at old i)
  pub previous : (i : ℕ) → previous_at new i ≡ cond (eqb i after) before (previous_at old i)
  pub list : (i : ℕ) → number_at new i ≡ number_at old i

-- a place comes to stand in front of a list's end
pub record Appends (end at : ℕ) (old new : List Place) : Type 0 where
  pub length : length new ≡ length old
  pub next : (i : ℕ) → next_at new i ≡ cond (eqb i at) end (cond (eqb i (previous_at old end)) at (next_at old i))
  pub previous : (i : ℕ) → previous_at new i ≡ cond (eqb i end) at (cond (eqb i at) (previous_at old end) (previous_at old i))
  pub list : (i : ℕ) → number_at new i ≡ cond (eqb i at) (Some end) (number_at old i)

-- the places on both sides of a place come to stand beside each other, and that place is by itself
pub record Removes (at : ℕ) (old new : List Place) : Type 0 where
  pub length : length new ≡ length old
  pub next : (i : ℕ) → next_at new i ≡ cond (eqb i at) at (cond (eqb i (previous_at old at)) (next_at old at) (next_at old i))
  pub previous : (i : ℕ) → previous_at new i ≡ cond (eqb i at) at (cond (eqb i (next_at old at)) (previous_at old at) (previous_at old i))
  pub list : (i : ℕ) → number_at new i ≡ cond (eqb i at) None (number_at old i)

-- further places come, each by itself
pub record Extends (len : ℕ) (old new : List Place) : Type 0 where
  pub length : length new ≡ len
  pub place : (i : ℕ) → place_at new i ≡ place_at old i

-- Below a size each place leads to one below the size, whose way back leads here.
pub record Rounds (size : ℕ) (next previous : ℕ → ℕ) : Type 0 where
  pub behind : (i : ℕ) → i < size → (next i < size) × (previous (next i) ≡ i)
  pub before : (i : ℕ) → i < size → (previous i < size) × (next (previous i) ≡ i)

-- from one place through the nodes of a list to an end
unfoldable pub Chain : (ℕ → ℕ) → ℕ → ℕ → List ℕ → ℕ → Type 0
Chain next ends from [] end = next from ≡ end
Chain next ends from (node ∷ nodes) end = (next from ≡ ends + node) × Chain next ends (ends + node) nodes end

-- the nodes met from a place on, up to an end or to so many
unfoldable pub walk : (ℕ → ℕ) → ℕ → ℕ → ℕ → List ℕ
walk next ends zero at = []
walk next ends (suc most) at = cond (ltb at ends) [] ((at - ends) ∷ walk next ends most (next at))

-- the lists that the places hold
unfoldable pub lists_in : ℕ → List Place → List (List ℕ)
lists_in ends places = map (λ list. walk (next_at places) ends (length places) (next_at places list)) (range_with_len 0 ends)

-- The places hold these lists.
pub record Holds (ends nodes : ℕ) (places : List Place) (lists : List (List ℕ)) : Type 0 where
  pub lists_len : length lists ≡ ends
  pub places_len : length places ≡ ends + nodes
  pub few : nodes < 2 ^ 32
  -- the links lead there and back
  pub rounds : Rounds (ends + nodes) (next_at places) (previous_at places)
  -- from the end of each list round through its nodes to that end again
  pub chained : (list : ℕ) → list < ends → Chain (next_at places) ends list (list_at lists list) list
  -- a node has the number of a list exactly where that list has the node
  pub held : (list node : ℕ) → has node (list_at lists list) ≡ true → (node < nodes) × (number_at places (ends + node) ≡ Some list)
  pub listed : (list node : ℕ) → node < nodes → number_at places (ends + node) ≡ Some list → (list < ends) × (has node (list_at lists list) ≡ true)
  -- a node that is in no list is linked to itself
  pub apart : (node : ℕ) → node < nodes → number_at places (ends + node) ≡ None → next_at places (ends + node) ≡ ends + node
  -- no list has a node twice
  pub once : (list : ℕ) → IsDistinct eqb (list_at lists list)
