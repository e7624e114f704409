-- How a bucket's journal and its changes and looks grow together, line by line (this project's own).
use Rattle.std.specs.Prelude.{◌≡◌, ℕ, List, [], ◌∷◌, ◌++◌, length}
use Rattle.change_order.specs.declared.part.Part.{Part}
use Rattle.change_order.specs.Ticks.{IsNext}
use Rattle.change_order.specs.Orders.{LookingLine, JournalCounts, IsLookOf, HasCounts}

-- a part by its lists
abbrev pub part_of : ℕ → List (ℕ × ℕ) → List (ℕ × ℕ) → Part
part_of b changes looks = record { bucket = b; changes = changes; looks = looks }

-- a bucket's part before it has done anything
abbrev pub blank : ℕ → Part
blank b = part_of b [] []

-- the part with one more change
abbrev pub with_change : ℕ → ℕ → Part → Part
with_change tick share p = record p { changes = p.changes ++ (tick, share) ∷ [] }

-- an empty journal
abbrev pub no_counts : JournalCounts
no_counts = record { behind = []; looked = [] }

-- one more changing line, behind which this many entries are present
abbrev pub with_changing_line : ℕ → JournalCounts → JournalCounts
with_changing_line present j = record j { behind = j.behind ++ present ∷ [] }

-- one more line that looked
abbrev pub with_looking_line : LookingLine → JournalCounts → JournalCounts
with_looking_line line j = record j { looked = j.looked ++ line ∷ [] }

-- the last look waits for this line: the journal has all changes and the looks before it, and it will be the line's look
pub record AwaitsLine (p : Part) (j : JournalCounts) (line : LookingLine) : Type 0 where
  pub look : ℕ × ℕ
  pub front : List (ℕ × ℕ)
  pub split : p.looks ≡ front ++ look ∷ []
  pub counts : HasCounts (record p { looks = front }) j
  pub is : IsLookOf p.changes look line

-- an empty journal has the counts of a blank part; each changing line comes with a change; a look awaits its line, also while collected entries go; the line comes, or never does, as in a refused call
pub record JournalsGrowLineByLine : Type 0 where
  pub start : (b : ℕ) → HasCounts (blank b) no_counts
  pub change : (b : ℕ) (j : JournalCounts) (old new looks after : List (ℕ × ℕ)) (share : ℕ) → IsNext old new old looks share → after ≡ looks → HasCounts (part_of b old looks) j → HasCounts (part_of b new after) (with_changing_line share j)
  pub look : (b : ℕ) (j : JournalCounts) (changes after old new : List (ℕ × ℕ)) (value : ℕ) → IsNext old new changes old value → after ≡ changes → HasCounts (part_of b changes old) j → AwaitsLine (part_of b after new) j (record { before = length changes; seen = value })
  pub change_behind : (b : ℕ) (j : JournalCounts) (old new looks after : List (ℕ × ℕ)) (share : ℕ) (line : LookingLine) → IsNext old new old looks share → after ≡ looks → AwaitsLine (part_of b old looks) j line → AwaitsLine (part_of b new after) (with_changing_line share j) line
  pub line : (p : Part) (j : JournalCounts) (line : LookingLine) → AwaitsLine p j line → HasCounts p (with_looking_line line j)
  pub none : (p : Part) (j : JournalCounts) (line : LookingLine) → AwaitsLine p j line → HasCounts p j
