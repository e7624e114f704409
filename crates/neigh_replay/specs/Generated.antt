-- The run of an input that is generated from a number: its plan, its summary, and what a call that makes it does.
use Rattle.std.specs.Prelude.{◌≡◌, ℕ, List, [], ◌∷◌, fold, take, Ok}
use Rattle.nb_base.specs.declared.plan.Plan.{Plan}
use Rattle.nb_base.specs.declared.plan.ControlItem.{ControlItem}
use Rattle.nb_base.specs.declared.plan.ControlItem.TheVariants as control
use Rattle.pcap_records.specs.declared.capture.Rec.{Rec}
use Rattle.pcap_records.specs.declared.capture.Frame.{Frame}
use Rattle.pcap_records.specs.Capture.{IsCapture}
use Rattle.pcap_records.specs.Writing.{IsCaptureOf}
use Rattle.neigh_script.specs.declared.script.Script.{Script}
use Rattle.neigh_script.specs.Lines as lines
use Rattle.neigh_run.specs.declared.run.Run.{Run}
use Rattle.neigh_run.specs.Plan.{plan_of}
use Rattle.neigh_run.specs.Inline.{IsInlineRun}
use Rattle.neigh_plan.specs.Files.{with_item, plan_of_files}
use Rattle.neigh_report.specs.Summary.{summary_text}
use Rattle.generated_input.specs.Files.{frames_of, script_of}
use Rattle.neigh_replay.specs.Replay.{SinkCall, SinkSays, SinkTakes, SinkFailed, IsUntouched, HasNoMemory}
use Rattle.neigh_replay.specs.Status.{IsOneOf, write_line}

-- ---- the plan

-- a generated frame is one that participant 0 meets at its moment
abbrev pub met : Frame → ControlItem
met f = control.Frame f.at f.bytes

-- the plan of a script and of a capture that holds these frames
abbrev pub plan_of_frames : List Frame → Script → ℕ → ℕ → Plan
plan_of_frames frames script window buckets = fold (λ plan f. with_item plan (met f)) (plan_of script window buckets) frames

-- the plan of what is generated from a number, with windows of 50 ms and one bucket
unfoldable pub generated_plan : ℕ → Plan
generated_plan number = plan_of_frames (frames_of number) (script_of number) 50 1

-- it is the plan of the two files, as they are read
pub record IsPlanOfFiles (capture text : List ℕ) (plan : Plan) : Type 0 where
  pub records : List Rec
  pub captured : IsCapture capture records
  pub script : Script
  pub read : lines.script_of text ≡ Ok script
  pub planned : plan ≡ plan_of_files capture records script 50 1

abbrev pub GeneratedPlansAreOfTheirFiles : Type 0
GeneratedPlansAreOfTheirFiles =
    (number : ℕ) (capture text : List ℕ) → IsCaptureOf capture (frames_of number) → lines.script_of text ≡ Ok (script_of number) → IsPlanOfFiles capture text (generated_plan number)

-- ---- the summary

-- the summary of a number: four lines of the plan's one inline run
pub record IsSummary (number : ℕ) (text : List ℕ) : Type 0 where
  pub run : Run
  pub inline : IsInlineRun (generated_plan number) run
  pub spelled : text ≡ summary_text number run

-- a number has at most one
abbrev pub SummariesAreOne : Type 0
SummariesAreOne = (number : ℕ) (text other : List ℕ) → IsSummary number text → IsSummary number other → text ≡ other

-- ---- a call

-- exactly the summary was taken, and nothing was said
pub record WritesSummary (number : ℕ) (out err : SinkCall) : Type 0 where
  pub text : List ℕ
  pub given : IsSummary number text
  pub written : SinkTakes out text
  pub quiet : IsUntouched err

-- the output couldn't take the summary: its count rose, and a part of the summary was taken, from the front
pub record CannotWriteSummary (number : ℕ) (out err : SinkCall) : Type 0 where
  pub text : List ℕ
  pub given : IsSummary number text
  pub failed : SinkFailed out
  pub count : ℕ
  pub part : SinkTakes out (take count text)
  pub said : SinkSays err write_line

-- a generated run ended with the status, which is 0, 1 or 6: nothing is read, no plan of a number is refused, and none is too large
pub record IsGeneratedRun (number : ℕ) (out err : SinkCall) (status : ℕ) : Type 0 where
  pub ended : IsOneOf (0 ∷ 1 ∷ 6 ∷ []) status
  pub written : status ≡ 0 → WritesSummary number out err
  pub no_memory : status ≡ 1 → HasNoMemory out err
  pub cannot_write : status ≡ 6 → CannotWriteSummary number out err

-- where the output's count doesn't rise, the status is 0, or 1 for want of memory
abbrev pub GeneratedRunsAreComplete : Type 0
GeneratedRunsAreComplete = (number : ℕ) (out err : SinkCall) (status : ℕ) → IsGeneratedRun number out err status → (SinkFailed out → ⊥) → IsOneOf (0 ∷ 1 ∷ []) status
