-- One order of all changes, in which each line that looked has its place (this project's own).
use Rattle.std.specs.Prelude.{◌≡◌, ℕ, suc, ◌+◌, ◌<◌, ◌≤◌, eqb, List, [], ◌∷◌, ◌++◌, length, map, take, drop}
use Rattle.std.specs.List.{AllByRecursion as Each, AllZip}
use mathlib.Core.Option.{some}
use lib.ListN.{get_elem?}
use Rattle.change_order.specs.declared.part.Part.{Part}
use Rattle.change_order.specs.Ticks.{last_or, how_many, second}
use Rattle.change_order.specs.Counted.{AreCounted}

-- ---- journals as far as the counting goes

-- a line that looked: how many changing lines of its bucket stand before it and the lines of the entries collected for it, and what it saw
pub record LookingLine : Type 0 where
  pub before : ℕ
  pub seen : ℕ

-- what a bucket's journal says of counts: the number present behind each changing line, which is a line behind which another number of entries is present than before it, and the lines that looked
pub record JournalCounts : Type 0 where
  pub behind : List ℕ
  pub looked : List LookingLine

-- ---- one order of all changes

-- how often this bucket stands in the list
abbrev pub how_often : ℕ → List ℕ → ℕ
how_often b order = how_many (λ o. eqb o b) order

-- the number present behind the first k changing lines
abbrev pub present_behind : ℕ → List ℕ → ℕ
present_behind k behind = last_or 0 (take k behind)

-- the sum over these buckets, of which the first has this number, of the number present behind the bucket's first k changing lines, with k the number of the list's entries of the bucket
abbrev pub present_in : List ℕ → ℕ → List JournalCounts → ℕ
present_in front b [] = 0
present_in front b (j ∷ js) = present_behind (how_often b front) j.behind + present_in front (suc b) js

-- a line of bucket b that looked has this length n of the order: the first n entries have as many of b as changing lines stand before the line and its collected entries, and what it saw is the sum of the numbers present behind these n changes
pub record IsSeenAt (all : List JournalCounts) (order : List ℕ) (b : ℕ) (n : ℕ) (line : LookingLine) : Type 0 where
  pub within : n ≤ length order
  pub mine : how_often b (take n order) ≡ line.before
  pub sum : line.seen ≡ present_in (take n order) 0 all

-- each number is at least this one, and at least the one before
abbrev pub NeverLess : ℕ → List ℕ → Type 0
NeverLess low [] = Unit {0}
NeverLess low (n ∷ ns) = (low ≤ n) × NeverLess n ns

-- a bucket stands in the order as often as its journal has changing lines, and each of its lines that looked has a length of the order; these lengths never fall from one such line to the next
pub record HasPlaces (all : List JournalCounts) (order : List ℕ) (b : ℕ) (j : JournalCounts) : Type 0 where
  pub often : how_often b order ≡ length j.behind
  pub lengths : List ℕ
  pub rising : NeverLess 0 lengths
  pub lines : AllZip (IsSeenAt all order b) lengths j.looked

-- there is one order of all changes: a list of bucket numbers in which each bucket has its places
pub record HaveOneOrder (all : List JournalCounts) : Type 0 where
  pub order : List ℕ
  pub buckets : Each (λ b. b < length all) order
  pub each : (b : ℕ) (j : JournalCounts) → get_elem? all b ≡ some j → HasPlaces all order b j

-- ---- journals and their buckets' changes and looks

-- the first list's elements stand in the second one, in order
abbrev pub AreAmong : {A : Type 0} → List A → List A → Type 0
AreAmong [] ys = Unit {0}
AreAmong {A} (x ∷ xs) ys = (skipped : List A) × (rest : List A) × (ys ≡ skipped ++ x ∷ rest) × AreAmong xs rest

-- a line's look: it has the value that the line saw, and stands behind the changes of the lines before and before the changes of the line's collected entries and of all that comes later
pub record IsLookOf (changes : List (ℕ × ℕ)) (look : ℕ × ℕ) (line : LookingLine) : Type 0 where
  pub value : look.1 ≡ line.seen
  pub many : line.before ≤ length changes
  pub behind : Each (λ c. c.0 < look.0) (take line.before changes)
  pub ahead : Each (λ c. look.0 ≤ c.0) (drop line.before changes)

-- a bucket's changes are those of its journal's changing lines, and each line that looked has a look among the bucket's looks, in order
pub record HasCounts (p : Part) (j : JournalCounts) : Type 0 where
  pub changes : map second p.changes ≡ j.behind
  pub chosen : List (ℕ × ℕ)
  pub among : AreAmong chosen p.looks
  pub lines : AllZip (IsLookOf p.changes) chosen j.looked

-- journals that have the changes and looks of counted parts have one order of all changes
abbrev pub CountsGiveOneOrder : Type 0
CountsGiveOneOrder = (parts : List Part) (all : List JournalCounts) → AreCounted parts → AllZip HasCounts parts all → HaveOneOrder all
