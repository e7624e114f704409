-- Each step of a token is a step of the sequence lock.
use Rattle.std.specs.Prelude.{◌≡◌, ℕ, ◌+◌, ◌-◌, ◌*◌, true, List, [], ◌∷◌, ◌++◌, length, slice_set, slice_index, Option, None, Some, IfSome}
use mathlib.Core.Option.{some}
use lib.ListN.{get_elem?}
use Rattle.hh_core.specs.declared.step.Step.TheVariants as step
use Rattle.hh_core.specs.declared.step.WriterPhase.TheVariants.{Idle, Begun, WroteA, WroteB}
use Rattle.hh_core.specs.declared.reader.ReaderPhase.TheVariants.{Rest, HasFirst, HasA, HasB}
use Rattle.hh_core.specs.State.{State, with_fresh_reader}
use Rattle.hh_core.specs.Step.{after}
use Rattle.hh_cell.specs.declared.view.View.{View}
use Rattle.hh_cell.specs.declared.view.Reading.{Reading}
use Rattle.hh_cell.specs.Views.{begun, wrote_a, wrote_b, ended, loads_first, loads_word_a, loads_word_b, loads_second, spent, takes_in, handed, who_stays, who_goes}
use Rattle.hh_cell.specs.Kept.{Kept, Leads, IsSpelled}

-- the writer's four stores of a pair, by how far its publication is
pub record WriterSteps (cells : List ℕ) (views : List View) (k : Kept cells views) (at : ℕ) (v : View) (p : ℕ × ℕ) : Type 0 where
  pub begin : v.phase ≡ Idle → Leads (after (step.Begin p.0 p.1) k.core) (slice_set cells 0 (2 * (length v.published - 1) + 1)) (slice_set views at (begun p v))
  pub a : v.phase ≡ Begun p.0 p.1 → Leads (after step.StoreA k.core) (slice_set cells 1 p.0) (slice_set views at (wrote_a p v))
  pub b : v.phase ≡ WroteA p.0 p.1 → Leads (after step.StoreB k.core) (slice_set cells 2 p.1) (slice_set views at (wrote_b p v))
  pub end : v.phase ≡ WroteB p.0 p.1 → IsSpelled p → Leads (after step.End k.core) (slice_set cells 0 (2 * (length v.published - 1) + 2)) (slice_set views at (ended p v))

-- a reader's four loads, by what it has in hand
pub record ReaderSteps (cells : List ℕ) (views : List View) (k : Kept cells views) (at : ℕ) (v : View) (r : Reading) : Type 0 where
  pub first : r.phase ≡ Rest → Leads (after (step.First r.number) k.core) cells (slice_set views at (loads_first (slice_index cells 0) v))
  pub a : (n : ℕ) → r.phase ≡ HasFirst n → Leads (after (step.LoadA r.number) k.core) cells (slice_set views at (loads_word_a (slice_index cells 1) v))
  pub b : (n x : ℕ) → r.phase ≡ HasA n x → Leads (after (step.LoadB r.number) k.core) cells (slice_set views at (loads_word_b (slice_index cells 2) v))
  pub second : (n x y : ℕ) → r.phase ≡ HasB n x y → Leads (after (step.Second r.number) k.core) cells (slice_set views at (loads_second (slice_index cells 0) v))

-- the lock from which a reader is handed out: one that was taken in is there, else there is one more
abbrev pub lock_for : Option Reading → State → State
lock_for None core = with_fresh_reader core
lock_for (Some r) core = core

-- the writer's two other steps: it takes in a reader, which leaves the lock as it is, and it hands one out, which meets it
pub record MeetSteps (cells : List ℕ) (views : List View) (k : Kept cells views) (at : ℕ) (v : View) : Type 0 where
  pub lodge : (other : ℕ) (w : View) (r : Reading) → w.reader ≡ Some r → ¬ (other ≡ at) → get_elem? (slice_set views at (takes_in v w)) other ≡ some w → Leads k.core cells (slice_set (slice_set views at (takes_in v w)) other spent)
  pub leave : v.writes ≡ true → v.phase ≡ Idle → IfSome v.reader (λ r. r.phase ≡ Rest) → Leads (after (step.Meet (handed v.reader v.readers).number) (lock_for v.reader k.core)) cells (slice_set views at (who_stays v) ++ who_goes v ∷ [])

-- each step of a token is a step of the lock, or leaves it as it is
abbrev pub StepsOfTheLock : Type 0
StepsOfTheLock = (cells : List ℕ) (views : List View) (k : Kept cells views) (at : ℕ) (v : View) → get_elem? views at ≡ some v
    → ((p : ℕ × ℕ) → v.writes ≡ true → WriterSteps cells views k at v p) × MeetSteps cells views k at v × ((r : Reading) → v.reader ≡ Some r → ReaderSteps cells views k at v r)
