-- The rule of a header cell whose three words are read and exchanged whole, and what each kind of step tells (this project's own, over the header cell's rule and the sequence lock).
use Rattle.std.specs.Prelude.{◌≡◌, ℕ, Bool, true, false, List, [], ◌∷◌, slice_index, IfSome}
use Rattle.hh_core.specs.declared.step.WriterPhase.TheVariants.{Idle}
use Rattle.hh_core.specs.declared.reader.ReaderPhase.TheVariants.{HasB}
use Rattle.hh_core.specs.Step.{is_good, ends_try}
use Rattle.hh_cell.specs.declared.view.View.{View}
use Rattle.hh_cell.specs.Views.{spent, first_view, ended, reads}
use Rattle.hh_cell.specs.Kept.{Kept, IsSpelled, TryTells, LookTells}

-- the one token of a cell that has no record yet
abbrev pub unopened : View
unopened = record spent { writes = true }

-- the words and all views show one state of the sequence lock, which is safe and whose published pairs spell records, and the writer rests in it
pub record KeptAtRest (cells : List ℕ) (views : List View) : Type 0 where
  pub kept : Kept cells views
  pub idle : kept.core.writer ≡ Idle

-- by whether there is a record
abbrev pub HeldBy : Bool → List ℕ → List View → Type 0
HeldBy true cells views = KeptAtRest cells views
HeldBy false cells views = views ≡ unopened ∷ []

-- the rule
pub record Held (cells : List ℕ) (views : List View) : Type 0 where
  pub opened : Bool
  pub state : HeldBy opened cells views

-- the two words behind the number
abbrev pub pair_in : List ℕ → ℕ × ℕ
pair_in cells = (slice_index cells 1, slice_index cells 2)

-- the first record is stored
abbrev pub Opened : View → List ℕ → List ℕ → View → Type 0
Opened v before after w = w ≡ first_view (pair_in after)

-- one more record is stored: what the lock's four stores of it make of the writer's view
abbrev pub Published : View → List ℕ → List ℕ → View → Type 0
Published v before after w = w ≡ ended (pair_in after) v

-- what the lock's four loads make of a reader's view, where the number stays between them
abbrev pub tried_whole : List ℕ → View → View
tried_whole cells v = reads (ends_try (slice_index cells 0) (HasB (slice_index cells 0) (slice_index cells 1) (slice_index cells 2))) v

-- a reader's try, in one step: it is good, its words spell a record, and its numbers go on from those of the tries before
pub record Tried (v : View) (found after : List ℕ) (w : View) : Type 0 where
  pub became : w ≡ tried_whole found v
  pub good : is_good (slice_index found 0, slice_index found 0) ≡ true
  pub spelled : IsSpelled (pair_in found)
  pub tells : IfSome v.reader (λ r. TryTells r.floor r.tries (slice_index found 0) (slice_index found 1) (slice_index found 2) (slice_index found 0))

-- the writer's look at the reader that it has taken in
abbrev pub Looked : View → List ℕ → List ℕ → View → Type 0
Looked v before after w = (w ≡ v) × IfSome v.reader (LookTells v.published)
