-- The one run of a plan by one thread.
use Rattle.std.specs.Prelude.{◌≡◌, ℕ, zero, suc, ◌+◌, Bool, true, false, ◌==◌, if◌then◌else◌, List, [], ◌∷◌, ◌++◌, map, length, Option, Some, None, unwrap_or, slice_index_or}
use Rattle.std.specs.Option.{option_map_or}
use Rattle.nb_base.specs.declared.time.OpId.{OpId}
use Rattle.nb_base.specs.declared.params.Params.{Params}
use Rattle.nb_base.specs.declared.op.Op.{Op}
use Rattle.nb_base.specs.declared.line.Line.{Line}
use Rattle.nb_base.specs.declared.line.Reply.{Reply}
use Rattle.nb_base.specs.declared.line.Reply.TheVariants as reply
use Rattle.nb_base.specs.declared.outcome.Why.TheVariants as why
use Rattle.nb_base.specs.declared.outcome.Outcome.{Outcome}
use Rattle.nb_base.specs.declared.outcome.Outcome.TheVariants as outcome
use Rattle.nb_base.specs.declared.plan.Mode.TheVariants as mode
use Rattle.nb_base.specs.declared.plan.Plan.{Plan}
use Rattle.nb_base.specs.declared.plan.SendItem.{SendItem}
use Rattle.nb_base.specs.declared.plan.ControlItem.{ControlItem}
use Rattle.nb_base.specs.declared.host_line.Placed.{Placed}
use Rattle.nb_base.specs.declared.host_line.HostLine.{HostLine}
use Rattle.nb_journal.specs.Keys.{is_own}
use Rattle.nb_journal.specs.Fold.{id_of, reply_of}
use Rattle.nb_journal.specs.Lawful.{EachLine, IsLawful, last_moment}
use Rattle.nb_journal.specs.Accounts.{own_lines}
use Rattle.nb_journal.specs.Laws.{Saw}
use Rattle.neigh_run.specs.declared.run.Run.{Run}
use Rattle.nb_base.specs.Buckets.{bucket_of}
use Rattle.neigh_run.specs.Control.{HostState, host_start, turn}
use Rattle.neigh_run.specs.Merged.{Entered, id_for, goes_to, merged_for}
use Rattle.neigh_run.specs.Seen.{sees}

-- the lines of operations, as they were entered
abbrev pub entered_line : Line → Entered
entered_line line = record { at = line.at; id = id_of line; op = line.op }

-- the last line is of an operation, or there is none
abbrev pub ends_own : List Line → Bool
ends_own [] = true
ends_own (line ∷ []) = is_own line.op
ends_own (line ∷ next ∷ lines) = ends_own (next ∷ lines)

-- bucket b's journal is lawful, enters the bucket's operations in merged order at their moments, and ends with them; each of its lines that looked saw the entries of the whole table, which these journals are, as it stood before the line and its collect lines
pub record IsInlineJournal (plan : Plan) (all : List (List Line)) (b : ℕ) (journal : List Line) : Type 0 where
  pub lawful : IsLawful plan.params journal (last_moment journal)
  pub ends : ends_own journal ≡ true
  pub entered : map entered_line (own_lines journal) ≡ merged_for plan b
  pub seen : EachLine (Saw (sees plan all b)) journal

-- the journals of the buckets from b on
abbrev pub AreInlineJournals : Plan → List (List Line) → ℕ → List (List Line) → Type 0
AreInlineJournals plan all b [] = Unit {0}
AreInlineJournals plan all b (journal ∷ journals) = IsInlineJournal plan all b journal × AreInlineJournals plan all (b + 1) journals

-- the place of the operation with this id behind the past, and its reply
abbrev pub find_place : Params → List Line → List Line → OpId → Option (ℕ × Option Reply)
find_place p past [] id = None
find_place p past (line ∷ lines) id =
    if option_map_or (λ (other : OpId). other.0 == id.0) line.id false then Some (length past, reply_of p past line) else find_place p (past ++ line ∷ []) lines id

abbrev pub place_in : Params → List Line → OpId → ℕ × Option Reply
place_in p journal id = unwrap_or (find_place p [] journal id) (0, None)

abbrev pub journal_at : List (List Line) → ℕ → List Line
journal_at journals b = slice_index_or journals b []

-- where an operation stands in bucket b's journal
abbrev pub placed_at : Plan → List (List Line) → OpId → ℕ → Placed
placed_at plan journals id b =
    let found = place_in plan.params (journal_at journals b) id in
    record { bucket = b; place = found.0; reply = unwrap_or found.1 reply.Ignored }

-- the n buckets from b on that an operation is applied to
abbrev pub placed_from : ℕ → ℕ → Plan → List (List Line) → OpId → Op → List Placed
placed_from b zero plan journals id o = []
placed_from b (suc n) plan journals id o = (if goes_to plan.buckets b o then placed_at plan journals id b ∷ [] else []) ++ placed_from (b + 1) n plan journals id o

-- every packet of an inline run goes by its bucket's journal
abbrev pub outcome_of : Plan → List (List Line) → ℕ → ℕ → SendItem → Outcome
outcome_of plan journals p n item =
    let placed = placed_at plan journals (id_for p n) (bucket_of plan.buckets item.key) in
    outcome.Slow why.Inline placed.place placed.reply

abbrev pub log_of : Plan → List (List Line) → ℕ → ℕ → List SendItem → List Outcome
log_of plan journals p n [] = []
log_of plan journals p n (item ∷ items) = outcome_of plan journals p n item ∷ log_of plan journals p (n + 1) items

-- the logs of the senders from p on
abbrev pub logs_of : Plan → List (List Line) → ℕ → List (List SendItem) → List (List Outcome)
logs_of plan journals p [] = []
logs_of plan journals p (items ∷ senders) = log_of plan journals p 1 items ∷ logs_of plan journals (p + 1) senders

-- where the operation of an item of participant 0 stands
abbrev pub places_of : Plan → List (List Line) → ℕ → Option Op → List Placed
places_of plan journals n None = []
places_of plan journals n (Some o) = placed_from 0 plan.buckets plan journals (id_for 0 n) o

-- what the host did at its items, of which the first has this number
abbrev pub host_lines_of : Plan → List (List Line) → HostState → ℕ → List ControlItem → List HostLine
host_lines_of plan journals s n [] = []
host_lines_of plan journals s n (item ∷ items) =
    let here = turn plan s n item in
    here.lines (places_of plan journals n here.operation) ++ host_lines_of plan journals here.behind (n + 1) items

-- the run of a plan by one thread: without marks, with a journal for each bucket, and everything else by the journals
pub record IsInlineRun (whole : Plan) (run : Run) : Type 0 where
  pub mode : run.mode ≡ mode.Inline
  pub plan : run.plan ≡ whole
  pub buckets : length run.journals ≡ whole.buckets
  pub journals : AreInlineJournals whole run.journals 0 run.journals
  pub logs : run.logs ≡ logs_of whole run.journals 1 whole.senders
  pub host_lines : run.host_lines ≡ host_lines_of whole run.journals host_start 1 whole.control
  pub marks : run.marks ≡ []
