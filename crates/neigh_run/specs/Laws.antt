-- The laws of runs and of their reports.
use Rattle.std.specs.Prelude.{◌≡◌, ◌+◌, ◌<◌, ◌≤◌, true, false, List, [], ◌∷◌, map, length}
use Rattle.std.specs.List.{list_any, AllByRecursion}
use Rattle.nb_base.specs.declared.line.Line.{Line}
use Rattle.nb_base.specs.declared.plan.Plan.{Plan}
use Rattle.nb_base.specs.Name.{is_name}
use Rattle.nb_base.specs.Params.{InRange}
use Rattle.nb_journal.specs.Fold.{present_count}
use Rattle.text_codes.specs.Lines.{is_set_in, rows_of}
use Rattle.neigh_run.specs.declared.run.Run.{Run}
use Rattle.neigh_run.specs.Merged.{packet_count, is_sending}
use Rattle.change_order.specs.Orders.{HaveOneOrder}
use Rattle.journal_counts.specs.Counts.{counts_of}
use Rattle.neigh_run.specs.Seen.{sees}
use Rattle.neigh_run.specs.Order.{IsInOrderOfCalls}
use Rattle.neigh_run.specs.Inline.{IsInlineRun}
use Rattle.neigh_run.specs.Fates.{HasOneFateEach, CountFates}
use Rattle.neigh_run.specs.Report.{all_below, line_words, sent_count, fast_count, dropped_count, waiting_count, report, report_text}

-- in a table of one bucket a line sees the number of entries present there
abbrev pub OneBucketSeesItself : Type 0
OneBucketSeesItself = (plan : Plan) (journal lines : List Line) → sees plan (journal ∷ []) 0 lines ≡ present_count plan.params lines

-- the changing lines of an inline run, call by call, are one order of all changes, in which each line that looked has its place
abbrev pub InlineRunsAreInOrder : Type 0
InlineRunsAreInOrder = (plan : Plan) (run : Run) → IsInlineRun plan run → IsInOrderOfCalls plan run.journals

-- so there is one order of all changes
abbrev pub InlineRunsHaveOneOrder : Type 0
InlineRunsHaveOneOrder = (plan : Plan) (run : Run) → IsInlineRun plan run → HaveOneOrder (map (counts_of plan.params) run.journals)

-- a plan has at most one inline run
abbrev pub InlineRunsAreOne : Type 0
InlineRunsAreOne = (plan : Plan) (run other : Run) → InRange plan.params → IsInlineRun plan run → IsInlineRun plan other → run ≡ other

-- the host's device has a name, as every host of the type has one
abbrev pub IsNamed : Run → Type 0
IsNamed run = is_name run.plan.host.dev ≡ true

-- the text of a report gives its lines back: splitting at LF and at the space undoes joining
abbrev pub ReportsGiveTheirLinesBack : Type 0
ReportsGiveTheirLinesBack = (run : Run) → IsNamed run → rows_of (report_text run) ≡ report run

-- two runs with one text have one report
abbrev pub TextsTellReports : Type 0
TextsTellReports = (run other : Run) → IsNamed run → IsNamed other → report_text run ≡ report_text other → report run ≡ report other

-- in a journal only what stands below a line begins with a space: what it saw, its acts, or the entries that `show` lists
pub record OnlyBelowIsSetIn : Type 0 where
  pub below : (plan : Plan) (past : List Line) (line : Line) → AllByRecursion (λ row. is_set_in row ≡ true) (all_below plan past line)
  pub line : (plan : Plan) (past : List Line) (line : Line) → is_set_in (line_words plan past line) ≡ false

-- the packets of a plan's inline run that went out by journals, that went out fast (none does), that were dropped and that wait are together the packets of the plan, where participant 0 sends none itself
abbrev pub FatesAddUpInline : Type 0
FatesAddUpInline =
    (plan : Plan) (run : Run)
    → 0 < plan.buckets
    → list_any is_sending plan.control ≡ false
    → IsInlineRun plan run
    → sent_count run + fast_count run + dropped_count run + waiting_count run ≡ packet_count plan

-- each packet of a plan with at most 16 senders has exactly one fate in the plan's inline run
abbrev pub EachPacketHasOneFate : Type 0
EachPacketHasOneFate = (plan : Plan) (run : Run) → 0 < plan.buckets → length plan.senders ≤ 16 → IsInlineRun plan run → HasOneFateEach run

-- and the four numbers of its report count these fates, where participant 0 sends no packet itself
abbrev pub FatesAreCounted : Type 0
FatesAreCounted =
    (plan : Plan) (run : Run)
    → 0 < plan.buckets
    → length plan.senders ≤ 16
    → list_any is_sending plan.control ≡ false
    → IsInlineRun plan run
    → CountFates run (sent_count run) (fast_count run) (dropped_count run) (waiting_count run)
