-- What holds of a run that its text tells, where the plan is known: of each line and each packet it is enough to read a few words (this project's own).
use Rattle.std.specs.Prelude.{◌≡◌, ℕ, ◌+◌, ◌^◌, ◌<◌, ◌≤◌, max, ◌==◌, true, List, [], ◌∷◌, ◌++◌, fold, map, filter, length, Option, Some, unwrap_or, slice_get, IfSome}
use Rattle.std.specs.List.{AllByRecursion}
use Rattle.nb_base.specs.declared.time.OpId.{OpId}
use Rattle.nb_base.specs.declared.op.Op.{Op}
use Rattle.nb_base.specs.declared.line.Line.{Line}
use Rattle.nb_base.specs.declared.outcome.Why.{Why}
use Rattle.nb_base.specs.declared.outcome.Why.TheVariants as why
use Rattle.nb_base.specs.declared.outcome.Outcome.{Outcome}
use Rattle.nb_base.specs.declared.outcome.Outcome.TheVariants as outcome
use Rattle.nb_base.specs.declared.host_line.Mark.{Mark}
use Rattle.nb_base.specs.declared.plan.Mode.{Mode}
use Rattle.nb_base.specs.declared.plan.Plan.{Plan}
use Rattle.nb_base.specs.declared.plan.SendItem.{SendItem}
use Rattle.nb_base.specs.Buckets.{bucket_of}
use Rattle.nb_journal.specs.Fold.{present_count}
use Rattle.nb_journal.specs.Lawful.{EachLine, IsLawful, last_moment}
use Rattle.nb_journal.specs.Steps.{IsShort}
use Rattle.nb_journal.specs.Accounts.{published}
use Rattle.nb_journal.specs.Laws.{Saw}
use Rattle.neigh_run.specs.declared.run.Run.{Run}
use Rattle.neigh_run.specs.Control.{host_start}
use Rattle.neigh_run.specs.Merged.{Entered, id_for, control_ops, senders_ops}
use Rattle.neigh_run.specs.Inline.{journal_at, placed_at, host_lines_of}

-- a number that its text tells among all numbers
abbrev pub Small : ℕ → Type 0
Small n = n < 10 ^ 63

-- ---- journals

-- all operations of a plan
abbrev pub plan_ops : Plan → List Entered
plan_ops plan = control_ops plan host_start 1 plan.control ++ senders_ops 1 plan.senders

-- those that have this number
abbrev pub ops_numbered : Plan → OpId → List Op
ops_numbered plan id = map (λ entered. entered.op) (filter (λ entered. entered.id.0 == id.0) (plan_ops plan))

-- of the plan's operations a line's number names one, the line's own
abbrev pub IsNamedLine : Plan → Line → Type 0
IsNamedLine plan line = IfSome line.id (λ id. (ops_numbered plan id ≡ line.op ∷ []) × Small id.0)

-- a journal that is lawful at the later of a moment and its last line's, and whose lines keep to the plan
pub record IsToldJournal (plan : Plan) (start : ℕ) (journal : List Line) : Type 0 where
  pub lawful : IsLawful plan.params journal (max start (last_moment journal))
  pub named : AllByRecursion (IsNamedLine plan) journal
  -- where there is only one bucket, so that a report doesn't print what a line saw, that is the number present before the line and its collect lines
  pub alone : plan.buckets ≤ 1 → EachLine (Saw (present_count plan.params)) journal

-- ---- logs

-- the numbers that a packet's sender read aren't too large for their text
abbrev pub IsToldWhy : Why → Type 0
IsToldWhy why.Inline = Unit {0}
IsToldWhy why.First = Unit {0}
IsToldWhy (why.Suspect number) = Small number
IsToldWhy (why.Again tries) = AllByRecursion (λ (read : ℕ × ℕ). Small read.0 × Small read.1) tries

-- sender p's packet of number n: a fast one has the header of the record with its number, and a slow one its line's place and reply
abbrev pub IsToldOutcome : Plan → List (List Line) → ℕ → ℕ → SendItem → Outcome → Type 0
IsToldOutcome plan journals p n item (outcome.Fast number header) =
    Small number × (slice_get (published plan.params plan.host (journal_at journals (bucket_of plan.buckets item.key)) item.key) number ≡ Some (record { usable = true; header = header }))
IsToldOutcome plan journals p n item (outcome.Slow why place reply) =
    IsToldWhy why × (placed_at plan journals (id_for p n) (bucket_of plan.buckets item.key) ≡ record { bucket = bucket_of plan.buckets item.key; place = place; reply = reply })

-- P holds of each item with its outcome, of which the first has this number; they are equally many
abbrev pub EachOutcome : (ℕ → SendItem → Outcome → Type 0) → ℕ → List SendItem → List Outcome → Type 0
EachOutcome P n [] [] = Unit {0}
EachOutcome P n [] (o ∷ log) = ⊥
EachOutcome P n (item ∷ items) [] = ⊥
EachOutcome P n (item ∷ items) (o ∷ log) = P n item o × EachOutcome P (n + 1) items log

-- each sender from p on has a log, and every packet in it is told
abbrev pub AreToldLogs : Plan → List (List Line) → ℕ → List (List SendItem) → List (List Outcome) → Type 0
AreToldLogs plan journals p [] [] = Unit {0}
AreToldLogs plan journals p [] (log ∷ logs) = ⊥
AreToldLogs plan journals p (items ∷ senders) [] = ⊥
AreToldLogs plan journals p (items ∷ senders) (log ∷ logs) = EachOutcome (IsToldOutcome plan journals p) 1 items log × AreToldLogs plan journals (p + 1) senders logs

-- ---- runs

-- the last of these moments, or 0
abbrev pub last_of : List (Option ℕ) → ℕ
last_of starts = fold (λ (at : ℕ) (start : Option ℕ). unwrap_or start at) 0 starts

-- a run of the plan in this mode, with marks at these moments; where its journals are short, no number is too large for its text
pub record IsToldRun (mode : Mode) (starts : List (Option ℕ)) (whole : Plan) (run : Run) : Type 0 where
  pub mode_is : run.mode ≡ mode
  pub plan : run.plan ≡ whole
  pub buckets : length run.journals ≡ whole.buckets
  pub journals : AllByRecursion (IsToldJournal whole (last_of starts)) run.journals
  pub logs : AllByRecursion IsShort run.journals → AreToldLogs whole run.journals 1 whole.senders run.logs
  pub host_lines : run.host_lines ≡ host_lines_of whole run.journals host_start 1 whole.control
  pub marks : map (λ (mark : Mark). mark.start) run.marks ≡ starts
  pub lengths : AllByRecursion IsShort run.journals → AllByRecursion (λ (mark : Mark). AllByRecursion Small mark.lengths) run.marks
