-- What the good tries of a run have read.
use Rattle.std.specs.Prelude.{◌≡◌, ℕ, ◌/◌, List, slice_get, Some}
use Rattle.hh_core.specs.declared.step.Step.{Step}
use Rattle.hh_core.specs.declared.step.Step.TheVariants as step
use Rattle.hh_core.specs.State.{State, last_number}
use Rattle.hh_core.specs.Step.{after, run}
use Rattle.hh_core.specs.Safe.{IsSafe}
use Rattle.hh_core.specs.Laws.{EndsWell}

-- Some steps lead to the second load of a good try, and others follow it. The words of the try are the last published pair at that load, with its number, and the pair keeps that number.
abbrev pub TryOfARun : Type 0
TryOfARun = (steps later : List Step) (s : State) (r n : ℕ) (pair : ℕ × ℕ) → IsSafe s → EndsWell (run steps s) r n pair
    → (n / 2 ≡ last_number (run steps s)) × (slice_get (run later (after (step.Second r) (run steps s))).published (n / 2) ≡ Some pair)
