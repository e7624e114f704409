-- Which file numbers are opened, under which names, before and after a call. (This project's own.)
use Rattle.std.specs.Prelude.{◌≢◌, ℕ, List, Option, Some}

-- No number loses a name. At most one number is newly opened: every other one has no name that it hadn't.
pub record OpensOne (old new : ℕ → List ℕ → Type 0) : Type 0 where
  pub kept : (file : ℕ) (name : List ℕ) → old file name → new file name
  pub number : Option ℕ
  pub others : (file : ℕ) (name : List ℕ) → number ≢ Some file → new file name → old file name
