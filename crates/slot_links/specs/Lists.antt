-- Lists of node numbers, each node in at most one list (this project's own).
use Rattle.std.specs.Prelude.{◌≡◌, ℕ, ◌<◌, Bool, true, cond, not, eqb, List, [], ◌∷◌, ◌++◌, Option, Some, None, slice_get, slice_index_or, slice_set, map, position, option_and_then}
use Rattle.std.specs.List.{filter, list_any, IsDistinct}

-- the lists by their numbers, each from its front, and how many nodes there are
pub record Linked : Type 0 where
  pub lists : List (List ℕ)
  pub nodes : ℕ

-- whether a list has the node
abbrev pub has : ℕ → List ℕ → Bool
has node xs = list_any (eqb node) xs

-- the list of this number
abbrev pub list_at : List (List ℕ) → ℕ → List ℕ
list_at lists list = slice_index_or lists list []

-- the number of the list that has the node, or none
abbrev pub holder : List (List ℕ) → ℕ → Option ℕ
holder lists node = position (has node) lists

-- what stands right behind the node in a list
abbrev pub behind : ℕ → List ℕ → Option ℕ
behind node [] = None
behind node (x ∷ xs) = cond (eqb node x) (slice_get xs 0) (behind node xs)

-- what stands right behind the node in the list that has it
abbrev pub next_of : List (List ℕ) → ℕ → Option ℕ
next_of lists node = option_and_then (λ list. behind node (list_at lists list)) (holder lists node)

-- a list without the node
abbrev pub without : ℕ → List ℕ → List ℕ
without node xs = filter (λ x. not (eqb node x)) xs

-- the node is put at the end of one list, and the other lists stay
abbrev pub put_back : List (List ℕ) → ℕ → ℕ → List (List ℕ)
put_back lists list node = slice_set lists list (list_at lists list ++ node ∷ [])

-- the node is taken out of its list, and all else stays in its order
abbrev pub take_out : List (List ℕ) → ℕ → List (List ℕ)
take_out lists node = map (without node) lists

-- the node is one of the nodes, and this is the list that has it, or none
pub record StandsIn (linked : Linked) (list : Option ℕ) (node : ℕ) : Type 0 where
  pub within : node < linked.nodes
  pub held : holder linked.lists node ≡ list

-- Each node of a list is one of the nodes, stands in that list alone, and stands there once.
pub record StandOnce (linked : Linked) : Type 0 where
  pub held : (list node : ℕ) → has node (list_at linked.lists list) ≡ true → (node < linked.nodes) × (holder linked.lists node ≡ Some list)
  pub once : (list : ℕ) → IsDistinct eqb (list_at linked.lists list)
