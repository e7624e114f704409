-- What the lines of an inline run saw of the whole table: the entries present in all buckets, as the operations so far have left them (this project's own).
use Rattle.std.specs.Prelude.{ℕ, zero, suc, ◌+◌, ◌==◌, if◌then◌else◌, List, [], ◌∷◌, ◌++◌, length, sum_by}
use Rattle.std.specs.List.{flat_map}
use Rattle.nb_base.specs.declared.params.Params.{Params}
use Rattle.nb_base.specs.declared.op.Op.{Op}
use Rattle.nb_base.specs.declared.line.Line.{Line}
use Rattle.nb_base.specs.declared.plan.Plan.{Plan}
use Rattle.nb_journal.specs.Keys.{is_own}
use Rattle.nb_journal.specs.Fold.{present_count}
use Rattle.nb_journal.specs.Accounts.{own_lines}
use Rattle.neigh_run.specs.Merged.{merged, goes_to}

-- ---- calls: an operation is one call of each bucket that it goes to

-- of the n buckets from b on, those that an operation goes to, in order of number
abbrev pub buckets_from : ℕ → ℕ → ℕ → Op → List ℕ
buckets_from buckets b zero o = []
buckets_from buckets b (suc n) o = (if goes_to buckets b o then b ∷ [] else []) ++ buckets_from buckets (b + 1) n o

-- the buckets that are called, in merged order; an operation for all buckets calls them in order of number
unfoldable pub calls : Plan → List ℕ
calls plan = flat_map (λ entered. buckets_from plan.buckets 0 plan.buckets entered.op) (merged plan)

-- how many of these calls are of bucket b
abbrev pub called : ℕ → List ℕ → ℕ
called b [] = 0
called b (call ∷ more) = (if call == b then 1 else 0) + called b more

-- how many calls of bucket c stand before bucket b's call of number n, counted from 0
abbrev pub calls_before : List ℕ → ℕ → ℕ → ℕ → ℕ
calls_before [] b n c = 0
calls_before (call ∷ more) b zero c = if call == b then 0 else (if call == c then 1 else 0) + calls_before more b zero c
calls_before (call ∷ more) b (suc n) c = (if call == c then 1 else 0) + calls_before more b (if call == b then n else suc n) c

-- ---- the table at a line

-- the lines that a journal's first n calls have left: those up to the n-th operation's
abbrev pub front_of : ℕ → List Line → List Line
front_of zero journal = []
front_of (suc n) [] = []
front_of (suc n) (line ∷ lines) = line ∷ front_of (if is_own line.op then n else suc n) lines

-- the journals of the buckets from c on, as they stand where bucket b has these lines: b's own are these, and of every other one those of the calls before b's call, which is the one behind the operations among these lines
abbrev pub standing_from : List ℕ → ℕ → List Line → ℕ → List (List Line) → List (List Line)
standing_from order b lines c [] = []
standing_from order b lines c (journal ∷ journals) =
    (if c == b then lines else front_of (calls_before order b (length (own_lines lines)) c) journal) ∷ standing_from order b lines (c + 1) journals

-- the whole table where bucket b has these lines
abbrev pub standing : List ℕ → List (List Line) → ℕ → List Line → List (List Line)
standing order journals b lines = standing_from order b lines 0 journals

-- how many entries are present in the whole table
abbrev pub table_count : Params → List (List Line) → ℕ
table_count p journals = sum_by (present_count p) journals

-- what a line sees behind these lines of bucket b
unfoldable pub sees : Plan → List (List Line) → ℕ → List Line → ℕ
sees plan journals b lines = table_count plan.params (standing (calls plan) journals b lines)
