-- The lists of nodes in the slots, and the marks of the slots, for the proofs alone (this project's own).
use Rattle.std.specs.Prelude.{◌≡◌, ℕ, ◌+◌, ◌*◌, ◌≤◌, ◌<◌, ◌^◌, Bool, true, ◌==◌, ◌&&◌, ◌||◌, ltb, List, [], ◌∷◌, length, Option, Some, IfSome}
use Rattle.std.specs.Option.{option_map, unwrap_or, MatchOption}
use Rattle.slot_links.specs.Lists.{Linked, has, list_at, holder, StandOnce}
use Rattle.timer_wheel.specs.Map.{Timers, due_of, NoneArmed, IsLeast}
use Rattle.timer_wheel.specs.Marked.{mark_of}
use Rattle.timer_wheel.specs.Places.{slot_of}

-- 1 where the list has a node, and 0 where it has none
abbrev pub some_of : List ℕ → ℕ
some_of [] = 0
some_of (node ∷ nodes) = 1

-- exactly the slots that have a node are marked
pub record AreMarked (lists : List (List ℕ)) (words : List ℕ) : Type 0 where
  pub slots : length lists ≡ 704
  pub marked : (slot : ℕ) → slot < 704 → mark_of words slot ≡ some_of (list_at lists slot)

-- the first slot that has a node
pub record IsFirstSlot (lists : List (List ℕ)) (slot : ℕ) : Type 0 where
  pub within : slot < 704
  pub here : some_of (list_at lists slot) ≡ 1
  pub none : (other : ℕ) → other < slot → list_at lists other ≡ []

-- each node stands in the slot of its due, if it has one, and no due is below now
pub record Keeps (now : ℕ) (dues : List (Option ℕ)) (slots : Linked) : Type 0 where
  pub many : length slots.lists ≡ 704
  pub few : length dues < 2 ^ 32
  pub nodes : length dues ≤ slots.nodes
  pub once : StandOnce slots
  pub stands : (node : ℕ) → holder slots.lists node ≡ option_map (slot_of now) (due_of dues node)
  pub ahead : (node due : ℕ) → due_of dues node ≡ Some due → now ≤ due
  pub fits : (node due : ℕ) → due_of dues node ≡ Some due → due < 2 ^ 64

-- a node's due, or 0, and behind it the node: as one number
abbrev pub rank_of : List (Option ℕ) → ℕ → ℕ
rank_of dues node = unwrap_or (due_of dues node) 0 * 2 ^ 32 + node

-- the node of a list that has the least rank
pub record IsLeastOf (dues : List (Option ℕ)) (nodes : List ℕ) (node : ℕ) : Type 0 where
  pub there : has node nodes ≡ true
  pub least : (other : ℕ) → has other nodes ≡ true → rank_of dues node ≤ rank_of dues other

-- ---- the least at hand

-- the first of the pairs of due and node comes before the other: by its due, and at equal dues by its node
abbrev pub is_earlier : ℕ × ℕ → ℕ × ℕ → Bool
is_earlier one other = ltb one.0 other.0 || (one.0 == other.0 && ltb one.1 other.1)

-- the least due with its node, or that no node is armed
pub record KnowsLeast (timers : Timers) (known : Option (ℕ × ℕ)) : Type 0 where
  pub least : MatchOption known (NoneArmed timers.dues) (λ r. IsLeast timers.dues r.0 r.1)
  pub ahead : IfSome known (λ r. timers.now ≤ r.0)
