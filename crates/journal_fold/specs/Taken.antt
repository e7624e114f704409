-- What the fold over a journal is seen as. This project's own.
use Rattle.std.specs.Prelude.{ℕ, Bool, List}
use Rattle.nb_base.specs.declared.params.Params.{Params}
use Rattle.nb_base.specs.declared.line.Line.{Line}

-- the parameters and the lines that were taken; how many more lines, and whether one more key, find room without memory
pub record Taken : Type 0 where
  pub params : Params
  pub lines : List Line
  pub room : ℕ
  pub has_place : Bool
