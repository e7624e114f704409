-- Who hears the acts of a line (this project's own).
use Rattle.std.specs.Prelude.{◌≡◌, ◌≤◌, ◌+◌, ℕ, List, ◌++◌, length, Option, Some, None}
use Rattle.nud_machine.specs.declared.act.Act.{Act}

-- one that keeps what it hears has these acts behind the others, where it had room for as many, and still has the rest of the room
abbrev pub Hears : Option (List Act) → ℕ → Option (List Act) → ℕ → List Act → Type 0
Hears None room after left acts = Unit {0}
Hears (Some before) room after left acts = length acts ≤ room → (after ≡ Some (before ++ acts)) × (room ≤ left + length acts)
