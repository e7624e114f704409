-- One order of all changes where one bucket is called at a time and each look tells the sum exactly (this project's own).
use Rattle.std.specs.Prelude.{◌≡◌, ℕ, ◌+◌, ◌<◌, ◌≤◌, cond, eqb, List, [], ◌∷◌, ◌++◌, length, map, take, replicate, slice_set}
use Rattle.std.specs.List.{AllByRecursion as Each, AllZip}
use mathlib.Core.Option.{some}
use lib.ListN.{get_elem?}
use Rattle.change_order.specs.Ticks.{last_or, total_by}
use Rattle.change_order.specs.Orders.{LookingLine, JournalCounts, how_often, IsSeenAt, NeverLess, HaveOneOrder}
use Rattle.change_order.specs.Growing.{no_counts}

-- a call of one bucket: the number present behind each changing line that it appends, and its lines that looked, each with the number of this call's changing lines before it and its collected entries
pub record Call : Type 0 where
  pub bucket : ℕ
  pub behind : List ℕ
  pub looked : List LookingLine

-- a line behind this many more changing lines
abbrev pub later_by : ℕ → LookingLine → LookingLine
later_by n line = record line { before = n + line.before }

-- the journal behind a call
abbrev pub with_call : Call → JournalCounts → JournalCounts
with_call c j = record { behind = j.behind ++ c.behind; looked = j.looked ++ map (later_by (length j.behind)) c.looked }

-- the number present at the end
abbrev pub present_of : JournalCounts → ℕ
present_of j = last_or 0 j.behind

-- how many changing lines stand before the line
abbrev pub before_of : LookingLine → ℕ
before_of line = line.before

-- a line saw the sum of the numbers present before the call, less that of its bucket, plus the number present there before the line and its collected entries
pub record IsSeenAlone (all : List JournalCounts) (j : JournalCounts) (c : Call) (line : LookingLine) : Type 0 where
  pub within : line.before ≤ length c.behind
  pub sum : line.seen + present_of j ≡ total_by present_of all + last_or (present_of j) (take line.before c.behind)

-- a call of a bucket with this journal, whose lines looked in order
pub record IsCall (all : List JournalCounts) (c : Call) : Type 0 where
  pub journal : JournalCounts
  pub there : get_elem? all c.bucket ≡ some journal
  pub rising : NeverLess 0 (map before_of c.looked)
  pub lines : Each (IsSeenAlone all journal c) c.looked

-- calls one after another lead from these journals to those
abbrev pub AreCalls : List JournalCounts → List Call → List JournalCounts → Type 0
AreCalls all [] end = all ≡ end
AreCalls all (c ∷ cs) end = (is : IsCall all c) × AreCalls (slice_set all c.bucket (with_call c is.journal)) cs end

-- the buckets of all changing lines, in the order of the calls
abbrev pub order_by : List Call → List ℕ
order_by [] = []
order_by (c ∷ cs) = replicate (length c.behind) c.bucket ++ order_by cs

-- where a call of this bucket has its lines that looked, behind this many changing lines of all buckets
abbrev pub places_in : ℕ → ℕ → Call → List ℕ
places_in b from c = cond (eqb c.bucket b) (map (λ line. from + line.before) c.looked) []

-- for each line of a bucket that looked, the number of changing lines of all buckets before it and its collected entries
abbrev pub places_by : ℕ → ℕ → List Call → List ℕ
places_by b from [] = []
places_by b from (c ∷ cs) = places_in b from c ++ places_by b (from + length c.behind) cs

-- the lines of one bucket that looked have these lengths of the order, which never fall
pub record HasPlacesAt (all : List JournalCounts) (order : List ℕ) (b : ℕ) (j : JournalCounts) (lengths : List ℕ) : Type 0 where
  pub often : how_often b order ≡ length j.behind
  pub rising : NeverLess 0 lengths
  pub lines : AllZip (IsSeenAt all order b) lengths j.looked

-- this is an order of all changes, with these lengths for each bucket
pub record IsOrderBy (all : List JournalCounts) (order : List ℕ) (places : ℕ → List ℕ) : Type 0 where
  pub buckets : Each (λ b. b < length all) order
  pub each : (b : ℕ) (j : JournalCounts) → get_elem? all b ≡ some j → HasPlacesAt all order b j (places b)

-- calls one after another, from empty journals on, give the order in which they are made, and so one order of all changes
pub record CallsGiveOneOrder : Type 0 where
  pub calls : (size : ℕ) (cs : List Call) (end : List JournalCounts) → AreCalls (replicate size no_counts) cs end → IsOrderBy end (order_by cs) (λ b. places_by b 0 cs)
  pub one : (all : List JournalCounts) (order : List ℕ) (places : ℕ → List ℕ) → IsOrderBy all order places → HaveOneOrder all
