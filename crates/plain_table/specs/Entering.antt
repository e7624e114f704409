-- What a table asks of the lines whose operations are entered into it.
use Rattle.std.specs.Prelude.{◌≡◌, ℕ, ◌<◌, ◌≤◌, true, List, map, length}
use Rattle.std.specs.List.{AllByRecursion}
use Rattle.nb_base.specs.declared.line.Line.{Line}
use Rattle.nb_base.specs.declared.params.Params.{Params}
use Rattle.nud_machine.specs.Asked.{greatest}
use Rattle.nb_journal.specs.Keys.{is_own, may_be_asked}
use Rattle.nb_journal.specs.Accounts.{line_bound, most_lines}
use Rattle.neigh_run.specs.Plan.{RisesFrom}

-- an operation's line that a bucket takes
pub record IsTask (line : Line) : Type 0 where
  pub now : line.at ≤ greatest
  pub own : is_own line.op ≡ true
  pub asked : may_be_asked line.op ≡ true

-- no line lies before the one before it
abbrev pub AreByMoment : List Line → Type 0
AreByMoment lines = RisesFrom 0 (map (λ (line : Line). line.at) lines)

-- a line no later than a moment
abbrev pub LineIsUpTo : ℕ → Line → Type 0
LineIsUpTo moment line = line.at ≤ moment

-- the line bound of these lines is below 2^22
pub record AreInBound (p : Params) (lines : List Line) : Type 0 where
  pub moment : ℕ
  pub upto : AllByRecursion (LineIsUpTo moment) lines
  pub bound : line_bound p (length lines) moment < most_lines
