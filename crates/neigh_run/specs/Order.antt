-- One order of all changes in an inline run: the lines that change the number of present entries, in the order of the buckets' calls (this project's own).
use Rattle.std.specs.Prelude.{ℕ, zero, suc, if◌then◌else◌, List, [], ◌∷◌, ◌++◌, map}
use Rattle.nb_base.specs.declared.params.Params.{Params}
use Rattle.nb_base.specs.declared.line.Line.{Line}
use Rattle.nb_base.specs.declared.plan.Plan.{Plan}
use Rattle.nb_journal.specs.Keys.{is_own}
use Rattle.change_order.specs.Calls.{Call, order_by, places_by, IsOrderBy}
use Rattle.journal_counts.specs.Counts.{call_of, counts_of}
use Rattle.neigh_run.specs.Seen.{calls, called, front_of}
use Rattle.neigh_run.specs.Inline.{journal_at}

-- the lines that a journal's call of number n has left, counted from 0: those behind its first n calls, up to the next operation's
abbrev pub call_lines : ℕ → List Line → List Line
call_lines zero [] = []
call_lines zero (line ∷ lines) = line ∷ (if is_own line.op then [] else call_lines zero lines)
call_lines (suc n) [] = []
call_lines (suc n) (line ∷ lines) = call_lines (if is_own line.op then n else suc n) lines

-- what the lines of these calls say of counts, call by call, where those stood before them
abbrev pub counts_by : Params → List (List Line) → List ℕ → List ℕ → List Call
counts_by p journals done [] = []
counts_by p journals done (b ∷ more) =
    call_of b p (front_of (called b done) (journal_at journals b)) (call_lines (called b done) (journal_at journals b)) ∷ counts_by p journals (done ++ b ∷ []) more

-- of all calls of a run
abbrev pub counts_of_calls : Plan → List (List Line) → List Call
counts_of_calls plan journals = counts_by plan.params journals [] (calls plan)

-- the order of all changes is the list of the buckets of the changing lines, call by call, and those of one call in their order; a line that looked has in it the number of those that stand before the line and its collect lines
abbrev pub IsInOrderOfCalls : Plan → List (List Line) → Type 0
IsInOrderOfCalls plan journals =
    IsOrderBy (map (counts_of plan.params) journals) (order_by (counts_of_calls plan journals)) (λ b. places_by b 0 (counts_of_calls plan journals))
