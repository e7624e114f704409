-- How a bucket's calls count at a census, which counts the present entries of all buckets (this project's own).
use Rattle.std.specs.Prelude.{◌≡◌, ℕ, ◌+◌, ◌≤◌, List, [], ◌++◌, length, map, Option, Some, None, IfSome}
use Rattle.std.specs.List.{AllByRecursion as Each, AllZip}
use Rattle.nb_base.specs.declared.params.Params.{Params}
use Rattle.nb_base.specs.declared.line.Line.{Line}
use Rattle.nb_journal.specs.Fold.{present_count}
use Rattle.nb_journal.specs.Lawful.{each_line, base_of}
use Rattle.nb_journal.specs.Laws.{Saw}
use Rattle.change_order.specs.Ticks.{second, IsNext}
use Rattle.change_order.specs.Orders.{LookingLine, IsLookOf}
use Rattle.change_order.specs.Calls.{later_by}
use Rattle.nb_census.specs.Shown.{SeatName}
use Rattle.journal_counts.specs.Counts.{behind_lines, looked_in}

-- a census as contracts see it: which seat it is, where it is one; the bucket's share; its changes and its looks; what the other buckets hold, where that is told
pub record CensusShown : Type 0 where
  pub name : Option SeatName
  pub share : ℕ
  pub changes : List (ℕ × ℕ)
  pub looks : List (ℕ × ℕ)
  pub others : Option ℕ

abbrev pub shown : {S : Type 0} → (S → Option SeatName) → (S → ℕ) → (S → List (ℕ × ℕ)) → (S → List (ℕ × ℕ)) → (S → Option ℕ) → S → CensusShown
shown name share changes looks others s = record { name = name s; share = share s; changes = changes s; looks = looks s; others = others s }

-- the census counts the bucket of this journal: its share is the number of present entries, and it has at most as many changes as the journal has lines
pub record IsCensusOf (p : Params) (lines : List Line) (s : CensusShown) : Type 0 where
  pub share : s.share ≡ present_count p lines
  pub few : length s.changes ≤ length lines

-- changes with these numbers came to a census, in this order, each with a tick of at least that of each look that was there before
pub record ChangesBy (numbers : List ℕ) (old new : CensusShown) : Type 0 where
  pub made : List (ℕ × ℕ)
  pub grown : new.changes ≡ old.changes ++ made
  pub numbers_are : map second made ≡ numbers
  pub behind : Each (λ (l : ℕ × ℕ). Each (λ (c : ℕ × ℕ). l.0 ≤ c.0) made) old.looks

-- looks came to a census, one for each of these lines, in order
pub record LooksBy (lines : List LookingLine) (old new : CensusShown) : Type 0 where
  pub made : List (ℕ × ℕ)
  pub grown : new.looks ≡ old.looks ++ made
  pub each : AllZip (IsLookOf new.changes) made lines

-- while a journal grows, its census counts along:
-- * each line behind which another number of entries is present than before it is one change, with that number; the changes stand in the order of these lines, and there are no others;
-- * each line that has what it saw is one look, of that value; the looks stand in the order of these lines, and there are no others; a look stands behind the changes of all lines before its line, the line's own collect lines aside, and before the changes of these and of the line itself;
-- * where the census tells what the others hold, each such line saw that number and the number present before the line and its collect lines
pub record CountsAlong (p : Params) (before after : List Line) (old new : CensusShown) : Type 0 where
  pub more : List Line
  pub grown : after ≡ before ++ more
  pub whole : base_of more ≡ more
  pub name : new.name ≡ old.name
  pub others : new.others ≡ old.others
  pub is : IsCensusOf p after new
  pub changes : ChangesBy (behind_lines p before more) old new
  pub looks : LooksBy (map (later_by (length old.changes)) (looked_in p before [] more)) old new
  pub told : IfSome old.others (λ n. each_line (Saw (λ lines. present_count p lines + n)) before more)

-- ---- refused calls

-- one look, of this value
pub record LooksOnce (old new : CensusShown) (value : ℕ) : Type 0 where
  pub name : new.name ≡ old.name
  pub others : new.others ≡ old.others
  pub share : new.share ≡ old.share
  pub changes : new.changes ≡ old.changes
  pub look : IsNext old.looks new.looks old.changes old.looks value
  pub least : old.share ≤ value
  pub told : IfSome old.others (λ n. value ≡ old.share + n)

-- one look, or none
abbrev pub LooksFor : CensusShown → CensusShown → Option ℕ → Type 0
LooksFor old new None = new ≡ old
LooksFor old new (Some value) = LooksOnce old new value

-- a refused call counts its lines along, and may then have looked for a line that doesn't come
pub record CountsRefused (p : Params) (before after : List Line) (old new : CensusShown) : Type 0 where
  pub between : CensusShown
  pub counts : CountsAlong p before after old between
  pub seen : Option ℕ
  pub looked : LooksFor between new seen
  pub is : IsCensusOf p after new

-- ---- what a bucket's helpers promise one another

-- behind so many present entries there are so many: one change, where that is another number
pub record CountsLine (was now : ℕ) (old new : CensusShown) : Type 0 where
  pub name : new.name ≡ old.name
  pub others : new.others ≡ old.others
  pub looks : new.looks ≡ old.looks
  pub share : new.share ≡ now
  pub same : was ≡ now → new.changes ≡ old.changes
  pub other : (was ≡ now → ⊥) → IsNext old.changes new.changes old.changes old.looks now

-- the changes of collect lines behind a base
pub record CountsCollects (p : Params) (base lines : List Line) (old new : CensusShown) : Type 0 where
  pub name : new.name ≡ old.name
  pub others : new.others ≡ old.others
  pub looks : new.looks ≡ old.looks
  pub is : IsCensusOf p (base ++ lines) new
  pub changes : ChangesBy (behind_lines p base lines) old new

-- the changes of a forced pass's collect lines behind a base, and that of the line behind them, which ends the lines
pub record CountsBrought (p : Params) (base collected after : List Line) (old new : CensusShown) : Type 0 where
  pub between : CensusShown
  pub collects : CountsCollects p base collected old between
  pub line : CountsLine (present_count p (base ++ collected)) (present_count p after) between new
