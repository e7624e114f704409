-- The rule of a cell: its three words and all views show one state of the sequence lock, which is safe, and each published pair spells a record (this project's own).
use Rattle.std.specs.Prelude.{◌≡◌, ℕ, true, List, [], ◌∷◌, length, slice_get, Some, IfSome}
use Rattle.std.specs.List.{All}
use mathlib.Core.Option.{some}
use lib.ListN.{get_elem?}
use Rattle.nb_base.specs.declared.record.Record.{Record}
use Rattle.nb_base.specs.Words.{AreWords}
use Rattle.hh_core.specs.declared.reader.ReaderPhase.{ReaderPhase}
use Rattle.hh_core.specs.declared.reader.ReaderPhase.TheVariants.{Rest, HasFirst, HasA, HasB}
use Rattle.hh_core.specs.State.{State}
use Rattle.hh_core.specs.Step.{is_good}
use Rattle.hh_core.specs.Safe.{IsSafe}
use Rattle.hh_core.specs.Laws.{AgreesWithPublished, IsNextTry}
use Rattle.hh_cell.specs.declared.view.View.{View}
use Rattle.hh_cell.specs.declared.view.Reading.{Reading}
use Rattle.hh_cell.specs.Views.{state_of}

-- a record has these two words
abbrev pub IsSpelled : ℕ × ℕ → Type 0
IsSpelled pair = (r : Record) × AreWords pair.0 pair.1 r

-- the writer's token shows what was published, how far the publication is, and how many readers there are
pub record IsWriting (core : State) (desk : ℕ) (at : ℕ) (v : View) : Type 0 where
  pub seat : at ≡ desk
  pub published : v.published ≡ core.published
  pub phase : v.phase ≡ core.writer
  pub readers : v.readers ≡ length core.readers

-- a token shows its reader, and no other token has that one
pub record IsReadingAs (core : State) (seat_of : ℕ → ℕ) (at : ℕ) (r : Reading) : Type 0 where
  pub seat : seat_of r.number ≡ at
  pub state : slice_get core.readers r.number ≡ Some (state_of r)

-- what the token of this seat shows of the lock
pub record Shows (core : State) (desk : ℕ) (seat_of : ℕ → ℕ) (at : ℕ) (v : View) : Type 0 where
  pub writing : v.writes ≡ true → IsWriting core desk at v
  pub reading : IfSome v.reader (IsReadingAs core seat_of at)

-- the rule
pub record Kept (cells : List ℕ) (views : List View) : Type 0 where
  pub core : State
  pub desk : ℕ
  pub seat_of : ℕ → ℕ
  pub words : cells ≡ core.number ∷ core.a ∷ core.b ∷ []
  pub safe : IsSafe core
  pub spelled : All IsSpelled core.published
  pub shown : (at : ℕ) (v : View) → get_elem? views at ≡ some v → Shows core desk seat_of at v

-- what the second load of a try tells: its numbers are at least twice the floor, those of all tries rise, and a good try's words spell a record
pub record TryTells (floor : ℕ) (tries : List (ℕ × ℕ)) (n x y second : ℕ) : Type 0 where
  pub numbers : IsNextTry floor tries n second
  pub spells : is_good (n, second) ≡ true → IsSpelled (x, y)

-- by what the reader has in hand
abbrev pub tells_by : ReaderPhase → ℕ → List (ℕ × ℕ) → ℕ → Type 0
tells_by Rest floor tries second = Unit {0}
tells_by (HasFirst n) floor tries second = Unit {0}
tells_by (HasA n x) floor tries second = Unit {0}
tells_by (HasB n x y) floor tries second = TryTells floor tries n x y second

abbrev pub SecondTells : ℕ → Reading → Type 0
SecondTells second r = tells_by r.phase r.floor r.tries second

-- what the writer's look tells of the reader that it has taken in
abbrev pub LookTells : List (ℕ × ℕ) → Reading → Type 0
LookTells published r = AgreesWithPublished published (state_of r)

-- a step leads to a state that keeps the rule, of which this is the lock
pub record Leads (core : State) (cells : List ℕ) (views : List View) : Type 0 where
  pub kept : Kept cells views
  pub same : kept.core ≡ core
