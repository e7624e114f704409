-- What the failures of a replay stand for. Nothing here is a definition to believe: it says what the parts of the code give, from which the whole of a replay is proved.
use Rattle.std.specs.Prelude.{◌≡◌, ℕ, ◌<◌, ◌≤◌, List, [], length, take, Option, Some, None, IfSome, Ok, Err, unwrap_or}
use Rattle.std.specs.List.{AllByRecursion}
use Rattle.nb_base.specs.declared.plan.Plan.{Plan}
use Rattle.pcap_records.specs.declared.capture.Rec.{Rec}
use Rattle.pcap_records.specs.declared.fail.CaptureFail.{CaptureFail}
use Rattle.pcap_records.specs.Capture.{IsRefusal}
use Rattle.neigh_script.specs.declared.script.Script.{Script}
use Rattle.neigh_script.specs.declared.why.ScriptFail.TheVariants as script_fail
use Rattle.neigh_script.specs.Lines.{script_of}
use Rattle.neigh_run.specs.declared.run.Run.{Run}
use Rattle.neigh_run.specs.Report.{report_text}
use Rattle.neigh_run.specs.Inline.{IsInlineRun}
use Rattle.neigh_words.specs.Settings.{Asked}
use Rattle.neigh_plan.specs.Inline.{most_lines, plan_bound, IsEnterable}
use Rattle.neigh_plan.specs.Files.{plan_of_files}
use Rattle.neigh_replay.specs.declared.failure.File.{File}
use Rattle.neigh_replay.specs.declared.failure.File.TheVariants as file
use Rattle.neigh_replay.specs.declared.failure.Failure.{Failure}
use Rattle.neigh_replay.specs.declared.failure.Failure.TheVariants.{Memory, ReadFault, WriteFault, TooLong, CaptureRefused, ScriptRefused, TooLarge}
use Rattle.neigh_replay.specs.Verdict.{Verdict, Report, Held, HasRecords, HasFewLines, capture_limit, status_of, line_of}
use Rattle.neigh_replay.specs.Verdict as verdict
use Rattle.neigh_replay.specs.Status.{memory_line, read_line, write_line}
use Rattle.neigh_replay.specs.Replay.{FilesCall, SinkCall, GivesTold, SinkTakes, IsUntouched, SinkFailed, NameFailed}

-- ---- of a plan

-- the report of a plan
pub record IsPlansReport (plan : Plan) (text : List ℕ) : Type 0 where
  pub run : Run
  pub bound : plan_bound plan < most_lines
  pub inline : IsInlineRun plan run
  pub short : AllByRecursion HasFewLines run.journals
  pub spelled : text ≡ report_text run

-- why a plan has no report
abbrev pub RefusesPlan : Plan → Failure → Type 0
RefusesPlan plan Memory = Unit {0}
RefusesPlan plan TooLarge = most_lines ≤ plan_bound plan
RefusesPlan plan _ = ⊥

-- ---- of what the files hold

-- a capture is refused
abbrev pub IsRefused : Option (List ℕ) → CaptureFail → Type 0
IsRefused None fail = ⊥
IsRefused (Some bytes) fail = IsRefusal bytes fail

-- why a capture has no records
abbrev pub RefusesCapture : Option (List ℕ) → Failure → Type 0
RefusesCapture capture Memory = Unit {0}
RefusesCapture capture (CaptureRefused fail) = IsRefused capture fail
RefusesCapture capture _ = ⊥

abbrev pub IsScriptOf : List ℕ → Script → Type 0
IsScriptOf text script = script_of text ≡ Ok script

-- why a text is no script
abbrev pub RefusesScript : List ℕ → Failure → Type 0
RefusesScript text Memory = Unit {0}
RefusesScript text (ScriptRefused line why) = script_of text ≡ Err (script_fail.Refused line why)
RefusesScript text _ = ⊥

-- the plan of a script's text, and of a capture where there is one, with a window and a number of buckets
pub record IsPlanOf (window buckets : ℕ) (text : List ℕ) (capture : Option (List ℕ)) (plan : Plan) : Type 0 where
  pub records : List Rec
  pub captured : HasRecords capture records
  pub script : Script
  pub read : script_of text ≡ Ok script
  pub planned : plan ≡ plan_of_files (unwrap_or capture []) records script window buckets

-- its operations go into the buckets of a table, and without a capture it isn't too large
pub record IsFilesPlan (window buckets : ℕ) (text : List ℕ) (capture : Option (List ℕ)) (plan : Plan) : Type 0 where
  pub made : IsPlanOf window buckets text capture plan
  pub enterable : IsEnterable plan
  pub small : capture ≡ None → plan_bound plan < most_lines

pub record IsReportOf (window buckets : ℕ) (text : List ℕ) (capture : Option (List ℕ)) (report : List ℕ) : Type 0 where
  pub plan : Plan
  pub made : IsPlanOf window buckets text capture plan
  pub report_is : IsPlansReport plan report

-- the plan's line bound is too great
pub record IsTooLarge (window buckets : ℕ) (text : List ℕ) (capture : Option (List ℕ)) : Type 0 where
  pub plan : Plan
  pub made : IsFilesPlan window buckets text capture plan
  pub large : most_lines ≤ plan_bound plan

-- why they have no report
abbrev pub Refuses : ℕ → ℕ → List ℕ → Option (List ℕ) → Failure → Type 0
Refuses window buckets text capture Memory = Unit {0}
Refuses window buckets text capture (CaptureRefused fail) = IsRefused capture fail
Refuses window buckets text capture (ScriptRefused line why) = (records : List Rec) × HasRecords capture records × (script_of text ≡ Err (script_fail.Refused line why))
Refuses window buckets text capture TooLarge = IsTooLarge window buckets text capture
Refuses window buckets text capture _ = ⊥

-- ---- of reading

-- what was read is what the name holds, where that is told, and within the limit
abbrev pub IsReadAs : Held → List ℕ → ℕ → List ℕ → Type 0
IsReadAs held name limit bytes = IfSome (held name) (λ all. bytes ≡ all) × (length bytes ≤ limit)

-- why a file isn't read
abbrev pub FailsToRead : FilesCall → List ℕ → ℕ → File → Failure → Type 0
FailsToRead files name limit which Memory = Unit {0}
FailsToRead files name limit which (ReadFault other) = (other ≡ which) × NameFailed files name
FailsToRead files name limit which (TooLong other) = (other ≡ which) × IfSome (files.held name) (λ all. limit < length all)
FailsToRead files name limit which _ = ⊥

abbrev pub IsCaptureRead : Held → Option (List ℕ) → Option (List ℕ) → Type 0
IsCaptureRead held None None = Unit {0}
IsCaptureRead held (Some name) (Some bytes) = IsReadAs held name capture_limit bytes
IsCaptureRead held _ _ = ⊥

abbrev pub FailsToReadCapture : FilesCall → Option (List ℕ) → Failure → Type 0
FailsToReadCapture files None failure = ⊥
FailsToReadCapture files (Some name) failure = FailsToRead files name capture_limit file.Capture failure

-- ---- of the files

-- the name of a file that is asked for
abbrev pub name_in : Asked → File → Option (List ℕ)
name_in a file.Script = Some a.script
name_in a file.Capture = a.capture

-- something of a file that is asked for
abbrev pub OfFile : Asked → File → (List ℕ → Type 0) → Type 0
OfFile a which P = (name : List ℕ) × (name_in a which ≡ Some name) × P name

-- why the files have no report
abbrev pub Explains : Asked → FilesCall → Failure → Type 0
Explains a files Memory = Unit {0}
Explains a files (ReadFault which) = OfFile a which (NameFailed files)
Explains a files WriteFault = ⊥
Explains a files (TooLong which) = OfFile a which (λ name. GivesTold a files (verdict.TooLong name))
Explains a files (CaptureRefused fail) = GivesTold a files (verdict.CaptureRefused fail)
Explains a files (ScriptRefused line why) = GivesTold a files (verdict.ScriptRefused line why)
Explains a files TooLarge = GivesTold a files verdict.TooLarge × (a.capture ≡ None → ⊥)

-- ---- of a replay

pub record WritesReport (a : Asked) (files : FilesCall) (out : SinkCall) : Type 0 where
  pub text : List ℕ
  pub given : GivesTold a files (Report text)
  pub written : SinkTakes out text

pub record WritesPart (a : Asked) (files : FilesCall) (out : SinkCall) : Type 0 where
  pub text : List ℕ
  pub given : GivesTold a files (Report text)
  pub failed : SinkFailed out
  pub count : ℕ
  pub part : SinkTakes out (take count text)

abbrev pub Fails : Asked → FilesCall → SinkCall → Failure → Type 0
Fails a files out WriteFault = WritesPart a files out
Fails a files out failure = Explains a files failure × IsUntouched out

-- the line of a failure
abbrev pub line_for : Asked → Failure → List ℕ
line_for a Memory = memory_line
line_for a (ReadFault which) = read_line (unwrap_or (name_in a which) [])
line_for a WriteFault = write_line
line_for a (TooLong which) = line_of (verdict.TooLong (unwrap_or (name_in a which) []))
line_for a (CaptureRefused fail) = line_of (verdict.CaptureRefused fail)
line_for a (ScriptRefused line why) = line_of (verdict.ScriptRefused line why)
line_for a TooLarge = line_of verdict.TooLarge

abbrev pub status_for : Failure → ℕ
status_for Memory = 1
status_for (ReadFault which) = 3
status_for (CaptureRefused fail) = 4
status_for (ScriptRefused line why) = 5
status_for WriteFault = 6
status_for TooLarge = 7
status_for (TooLong which) = 8
