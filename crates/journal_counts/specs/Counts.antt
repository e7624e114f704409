-- What the lines of a bucket's journal say of counts: how many entries are present behind each line that changes their number, and what the lines saw that looked at the whole table (this project's own).
use Rattle.std.specs.Prelude.{ℕ, ◌==◌, if◌then◌else◌, List, [], ◌∷◌, ◌++◌, length, Option, Some, None}
use Rattle.nb_base.specs.declared.params.Params.{Params}
use Rattle.nb_base.specs.declared.line.Line.{Line}
use Rattle.nb_journal.specs.Fold.{present_count}
use Rattle.nb_journal.specs.Lawful.{base_of}
use Rattle.change_order.specs.Orders.{LookingLine, JournalCounts}
use Rattle.change_order.specs.Calls.{Call}

-- the number present now, where it is another one than before
abbrev pub if_changed : ℕ → ℕ → List ℕ
if_changed was now = if was == now then [] else now ∷ []

-- the number present behind a line, where the line changes it
abbrev pub behind_line : Params → List Line → Line → List ℕ
behind_line p past line = if_changed (present_count p past) (present_count p (past ++ line ∷ []))

-- the number present behind each of the lines that changes it; the past are the lines before them
abbrev pub behind_lines : Params → List Line → List Line → List ℕ
behind_lines p past [] = []
behind_lines p past (line ∷ lines) = behind_line p past line ++ behind_lines p (past ++ line ∷ []) lines

-- a line that looked, behind so many changing lines
abbrev pub looked_at : ℕ → Option ℕ → List LookingLine
looked_at before None = []
looked_at before (Some seen) = record { before = before; seen = seen } ∷ []

-- those of the lines that looked, each with the number of changing lines before it and its collect lines, from the first of the front on; the past are the lines before the front, which stands before the lines
abbrev pub looked_in : Params → List Line → List Line → List Line → List LookingLine
looked_in p past front [] = []
looked_in p past front (line ∷ lines) = looked_at (length (behind_lines p past (base_of front))) line.seen ++ looked_in p past (front ++ line ∷ []) lines

-- what the lines say that a call of this bucket appends to the past
abbrev pub call_of : ℕ → Params → List Line → List Line → Call
call_of b p past lines = record { bucket = b; behind = behind_lines p past lines; looked = looked_in p past [] lines }

-- what a journal says
abbrev pub counts_of : Params → List Line → JournalCounts
counts_of p journal = record { behind = behind_lines p [] journal; looked = looked_in p [] [] journal }
