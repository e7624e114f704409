-- The laws of the texts of runs.
use Rattle.std.specs.Prelude.{◌≡◌, ℕ, ◌≤◌, ◌<◌, ◌^◌, Bool, true, List, [], Option, IfSome, IsTrue}
use Rattle.std.specs.List.{AllByRecursion}
use Rattle.nb_base.specs.declared.plan.Mode.{Mode}
use Rattle.nb_base.specs.declared.plan.Mode.TheVariants as mode
use Rattle.nb_base.specs.declared.line.Line.{Line}
use Rattle.nb_base.specs.declared.plan.Plan.{Plan}
use Rattle.nb_base.specs.declared.plan.SendItem.{SendItem}
use Rattle.nb_base.specs.declared.plan.ControlItem.{ControlItem}
use Rattle.nb_base.specs.declared.plan.ControlItem.TheVariants as control
use Rattle.nb_base.specs.Name.{is_name}
use Rattle.nb_base.specs.Params.{InRange}
use Rattle.nb_base.specs.Buckets.{is_bucket_count}
use Rattle.nud_machine.specs.Asked.{greatest}
use Rattle.nb_journal.specs.Keys.{may_be_asked}
use Rattle.nb_journal.specs.Steps.{IsShort, IsStepped}
use Rattle.neigh_run.specs.declared.run.Run.{Run}
use Rattle.neigh_run.specs.Control.{control_at}
use Rattle.neigh_run.specs.Plan.{IsWithinLimits}
use Rattle.neigh_run.specs.Inline.{IsInlineRun}
use Rattle.neigh_run.specs.Report.{report, report_text}
use Rattle.neigh_run.specs.Windows.{mark_starts}
use Rattle.neigh_run.specs.Threaded.{IsThreadedRun}
use Rattle.run_texts.specs.Told.{IsToldRun}

-- what a line saw is a number of 32 bits
abbrev pub SawFew : Line → Type 0
SawFew line = IfSome line.seen (λ seen. seen < 2 ^ 32)

-- what a run that is written asks for: each journal has fewer than 2^32 lines, the machine can step over it, and its lines saw fewer than 2^32 entries
pub record IsWritable (run : Run) : Type 0 where
  pub few : AllByRecursion IsShort run.journals
  pub steps : AllByRecursion (IsStepped run.plan.params) run.journals
  pub seen : AllByRecursion (AllByRecursion SawFew) run.journals

-- two runs that their texts tell, in one mode, of one plan and with marks at the same moments, are one where their reports are, and one of them can be written
abbrev pub ReportsTellToldRuns : Type 0
ReportsTellToldRuns =
    (mode : Mode) (starts : List (Option ℕ)) (plan : Plan) (run other : Run)
    → InRange plan.params
    → IsWritable run
    → IsToldRun mode starts plan run
    → IsToldRun mode starts plan other
    → report run ≡ report other
    → run ≡ other

-- and where their texts are
abbrev pub TextsTellToldRuns : Type 0
TextsTellToldRuns =
    (mode : Mode) (starts : List (Option ℕ)) (plan : Plan) (run other : Run)
    → InRange plan.params
    → is_name plan.host.dev ≡ true
    → IsWritable run
    → IsToldRun mode starts plan run
    → IsToldRun mode starts plan other
    → report_text run ≡ report_text other
    → run ≡ other

-- an inline run is told by its text; it has no marks
abbrev pub InlineRunsAreTold : Type 0
InlineRunsAreTold = (plan : Plan) (run : Run) → IsWithinLimits plan → IsInlineRun plan run → IsToldRun mode.Inline [] plan run

-- an operation of an item may be asked for
abbrev pub is_asked_item : ControlItem → Bool
is_asked_item (control.Neigh at o) = may_be_asked o
is_asked_item (control.Frame at bytes) = true
is_asked_item (control.Proxy at key add) = true

-- a plan that can be played: its host has a device with a name, its parameters are in their ranges, its table has one of the numbers of buckets, it is within the limits of a script, and its items stand at moments of a run and ask for what may be asked for
pub record IsPlayable (plan : Plan) : Type 0 where
  pub dev : is_name plan.host.dev ≡ true
  pub params : InRange plan.params
  pub buckets : IsTrue (is_bucket_count plan.buckets)
  pub limits : IsWithinLimits plan
  pub asked : AllByRecursion (λ item. is_asked_item item ≡ true) plan.control
  pub control : AllByRecursion (λ item. control_at item ≤ greatest) plan.control
  pub senders : AllByRecursion (AllByRecursion (λ (item : SendItem). item.at ≤ greatest)) plan.senders

-- an inline run of such a plan can be written
abbrev pub InlineRunsAreWritable : Type 0
InlineRunsAreWritable = (plan : Plan) (run : Run) → IsPlayable plan → IsInlineRun plan run → IsWritable run

-- an inline run of such a plan is told by its text from every other run of the plan that its own text tells, in that mode and without marks
abbrev pub TextsTellInlineRuns : Type 0
TextsTellInlineRuns =
    (plan : Plan) (run other : Run)
    → IsPlayable plan
    → IsInlineRun plan run
    → IsToldRun mode.Inline [] plan other
    → report_text run ≡ report_text other
    → run ≡ other

-- a run of a plan with a thread for each participant is told by its text, with a mark at the first moment of each window that has items, and one at the end
abbrev pub ThreadedRunsAreTold : Type 0
ThreadedRunsAreTold = (plan : Plan) (run : Run) → IsWithinLimits plan → IsThreadedRun plan run → IsToldRun mode.Threads (mark_starts plan) plan run

-- such a run of a plan that can be played can be written
abbrev pub ThreadedRunsAreWritable : Type 0
ThreadedRunsAreWritable = (plan : Plan) (run : Run) → IsPlayable plan → IsThreadedRun plan run → IsWritable run

-- so two such runs of such a plan with one text are one
abbrev pub TextsTellThreadedRuns : Type 0
TextsTellThreadedRuns =
    (plan : Plan) (run other : Run)
    → IsPlayable plan
    → IsThreadedRun plan run
    → IsThreadedRun plan other
    → report_text run ≡ report_text other
    → run ≡ other
