-- The operations of a plan as lines, merged in order of moment one participant after the other.
use Rattle.std.specs.Prelude.{ℕ, nat_le, if◌then◌else◌, List, [], ◌∷◌, map, fold, Some, None}
use Rattle.nb_base.specs.declared.line.Line.{Line}
use Rattle.neigh_run.specs.Merged.{Entered}
use Rattle.neigh_run.specs.Inline.{entered_line}
use Rattle.neigh_run.specs.Plan.{RisesFrom}

-- an operation's line as it is before anything is known of the table
abbrev pub line_of : Entered → Line
line_of x = record { at = x.at; id = Some x.id; op = x.op; seen = None; full = None }

abbrev pub lines_of : List Entered → List Line
lines_of operations = map line_of operations

-- one more line in order of moment, behind those of its own moment
abbrev pub insert_line : Line → List Line → List Line
insert_line x [] = x ∷ []
insert_line x (y ∷ ys) = if nat_le y.at x.at then y ∷ insert_line x ys else x ∷ y ∷ ys

-- more lines, one after the other
unfoldable pub insert_lines : List Line → List Line → List Line
insert_lines lines more = fold (λ sorted x. insert_line x sorted) lines more

abbrev pub line_at : Line → ℕ
line_at line = line.at

-- the lines are by moment
abbrev pub AreByMoment : List Line → Type 0
AreByMoment lines = RisesFrom 0 (map line_at lines)

-- the operations of lines
abbrev pub entered_of : List Line → List Entered
entered_of lines = map entered_line lines
