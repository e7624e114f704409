-- Timers as a finite map from node to due, and its least (this project's own).
use Rattle.std.specs.Prelude.{◌≡◌, ℕ, ◌≤◌, List, Option, Some, None, slice_index_or}

-- a moment that no due is below, and each usable node's due, where it is armed
pub record Timers : Type 0 where
  pub now : ℕ
  pub dues : List (Option ℕ)

-- a node's due, or none where it isn't armed
abbrev pub due_of : List (Option ℕ) → ℕ → Option ℕ
due_of dues node = slice_index_or dues node None

-- no node is armed
abbrev pub NoneArmed : List (Option ℕ) → Type 0
NoneArmed dues = (node : ℕ) → due_of dues node ≡ None

-- the least due, and among the nodes that have it the least
pub record IsLeast (dues : List (Option ℕ)) (due node : ℕ) : Type 0 where
  pub armed : due_of dues node ≡ Some due
  pub least : (other later : ℕ) → due_of dues other ≡ Some later → due ≤ later
  pub first : (other : ℕ) → due_of dues other ≡ Some due → node ≤ other
