-- What is asked for and what the named files hold decide: one verdict, by the first stage that refuses, or a report (this project's own).
use Rattle.std.specs.Prelude.{◌≡◌, ℕ, ◌<◌, ◌≤◌, true, is_some, List, [], ◌∷◌, ◌++◌, length, Option, Some, None, unwrap_or, Ok, Err, codes, decimal}
use Rattle.std.specs.Option.{option_to_list}
use Rattle.std.specs.List.{AllByRecursion}
use Rattle.nb_base.specs.declared.line.Line.{Line}
use Rattle.nb_base.specs.declared.plan.Mode.{Mode}
use Rattle.nb_base.specs.declared.plan.Mode.TheVariants as mode
use Rattle.nb_base.specs.declared.plan.Plan.{Plan}
use Rattle.pcap_records.specs.declared.capture.Rec.{Rec}
use Rattle.pcap_records.specs.declared.fail.CaptureFail.{CaptureFail}
use Rattle.pcap_records.specs.Capture.{IsCapture, IsRefusal}
use Rattle.pcap_records.specs.Fail.{code_of, place_of}
use Rattle.neigh_script.specs.declared.script.Script.{Script}
use Rattle.neigh_script.specs.declared.why.ScriptWhy.{ScriptWhy}
use Rattle.neigh_script.specs.declared.why.ScriptFail.TheVariants as script_fail
use Rattle.neigh_script.specs.Lines.{script_of}
use Rattle.neigh_script.specs.Why.{number_of}
use Rattle.neigh_run.specs.declared.run.Run.{Run}
use Rattle.neigh_run.specs.Inline.{IsInlineRun}
use Rattle.neigh_run.specs.Report.{report_text}
use Rattle.neigh_words.specs.Settings.{Asked}
use Rattle.neigh_plan.specs.Inline.{most_lines, plan_bound}
use Rattle.neigh_plan.specs.Files.{plan_of_files}

-- ---- the files

-- the most bytes of a script: 8 MiB
abbrev pub script_limit : ℕ
script_limit = 8_388_608

-- the most bytes of a capture: 64 MiB
abbrev pub capture_limit : ℕ
capture_limit = 67_108_864

-- what names hold, where that is told
abbrev pub Held : Type 0
Held = List ℕ → Option (List ℕ)

-- a name holds these bytes, no more than the limit
pub record IsFile (held : Held) (name : List ℕ) (limit : ℕ) (bytes : List ℕ) : Type 0 where
  pub is : held name ≡ Some bytes
  pub short : length bytes ≤ limit

-- a name holds more bytes than the limit
pub record IsLongFile (held : Held) (name : List ℕ) (limit : ℕ) : Type 0 where
  pub bytes : List ℕ
  pub is : held name ≡ Some bytes
  pub long : limit < length bytes

-- the bytes of the capture, and none where no capture is asked for
abbrev pub IsCaptureFile : Held → Option (List ℕ) → Option (List ℕ) → Type 0
IsCaptureFile held None None = Unit {0}
IsCaptureFile held (Some name) (Some bytes) = IsFile held name capture_limit bytes
IsCaptureFile held _ _ = ⊥

-- what a name holds is told, as bytes
abbrev pub HoldsBytes : Option (List ℕ) → Type 0
HoldsBytes None = ⊥
HoldsBytes (Some bytes) = AllByRecursion (λ (byte : ℕ). byte < 256) bytes

-- what both hold is told; a capture that isn't asked for holds nothing
abbrev pub IsToldName : Held → Option (List ℕ) → Type 0
IsToldName held None = Unit {0}
IsToldName held (Some name) = HoldsBytes (held name)

pub record AreTold (a : Asked) (held : Held) : Type 0 where
  pub script : is_some (held a.script) ≡ true
  pub capture : IsToldName held a.capture

-- the names of the files
abbrev pub names_of : Asked → List (List ℕ)
names_of a = a.script ∷ option_to_list a.capture

-- ---- the stages

-- both files were read, each within its limit
pub record AreRead (a : Asked) (held : Held) (text : List ℕ) (capture : Option (List ℕ)) : Type 0 where
  pub script_file : IsFile held a.script script_limit text
  pub capture_file : IsCaptureFile held a.capture capture

-- the records of the capture, and none without one
abbrev pub HasRecords : Option (List ℕ) → List Rec → Type 0
HasRecords None records = records ≡ []
HasRecords (Some bytes) records = IsCapture bytes records

-- both files were read and aren't refused, and this is their plan
pub record HavePlan (a : Asked) (held : Held) (plan : Plan) : Type 0 where
  pub text : List ℕ
  pub capture : Option (List ℕ)
  pub files : AreRead a held text capture
  pub records : List Rec
  pub captured : HasRecords capture records
  pub script : Script
  pub read : script_of text ≡ Ok script
  pub planned : plan ≡ plan_of_files (unwrap_or capture []) records script a.window a.buckets

-- the run of a plan in a mode (no words ask for the mode `threads`)
abbrev pub IsRunIn : Mode → Plan → Run → Type 0
IsRunIn mode.Inline plan run = IsInlineRun plan run
IsRunIn mode.Threads plan run = ⊥

-- a journal has at most 2^22 lines
abbrev pub HasFewLines : List Line → Type 0
HasFewLines journal = length journal ≤ most_lines

-- ---- the verdict

pub data Verdict : Type 0 where
  TooLong : List ℕ → Verdict
  CaptureRefused : CaptureFail → Verdict
  ScriptRefused : ℕ → ScriptWhy → Verdict
  TooLarge : Verdict
  Report : List ℕ → Verdict

-- which verdict is given: each stage refuses only where all before it passed
pub data Gives : Asked → Held → Verdict → Type 0 where
  -- the script is too long
  script_long : {a : Asked} {held : Held} → IsLongFile held a.script script_limit → Gives a held (TooLong a.script)
  -- the capture is too long
  capture_long : {a : Asked} {held : Held} {name : List ℕ} (text : List ℕ) → IsFile held a.script script_limit text
      → a.capture ≡ Some name → IsLongFile held name capture_limit → Gives a held (TooLong name)
  -- the capture is refused
  capture_refused : {a : Asked} {held : Held} {fail : CaptureFail} (text bytes : List ℕ) → AreRead a held text (Some bytes) → IsRefusal bytes fail → Gives a held (CaptureRefused fail)
  -- the script is refused
  script_refused : {a : Asked} {held : Held} {line : ℕ} {why : ScriptWhy} (text : List ℕ) (capture : Option (List ℕ)) (records : List Rec)
      → AreRead a held text capture → HasRecords capture records → script_of text ≡ Err (script_fail.Refused line why) → Gives a held (ScriptRefused line why)
  -- the plan's line bound is at least 2^22
  too_large : {a : Asked} {held : Held} (plan : Plan) → HavePlan a held plan → most_lines ≤ plan_bound plan → Gives a held TooLarge
  -- the report is the text of the plan's run in the mode that is asked for, each of whose journals has at most 2^22 lines
  report : {a : Asked} {held : Held} {text : List ℕ} (plan : Plan) (run : Run) → HavePlan a held plan → plan_bound plan < most_lines
      → IsRunIn a.mode plan run → AllByRecursion HasFewLines run.journals → text ≡ report_text run → Gives a held (Report text)

-- ---- what a verdict shows

-- the status (3 is a file that can't be read, 6 an output that can't be written, 1 want of memory, and 2 other words)
abbrev pub status_of : Verdict → ℕ
status_of (TooLong name) = 8
status_of (CaptureRefused fail) = 4
status_of (ScriptRefused line why) = 5
status_of TooLarge = 7
status_of (Report text) = 0

-- the line on standard error, and none for a report
unfoldable pub line_of : Verdict → List ℕ
line_of (TooLong name) = codes "neigh: too long: " ++ (name ++ 10 ∷ [])
line_of (CaptureRefused fail) = codes "neigh: capture refused: " ++ (decimal (code_of fail) ++ (codes " at " ++ (decimal (place_of fail) ++ 10 ∷ [])))
line_of (ScriptRefused line why) = codes "neigh: script refused: " ++ (decimal (number_of why) ++ (codes " at line " ++ (decimal line ++ 10 ∷ [])))
line_of TooLarge = codes "neigh: too large\n"
line_of (Report text) = []

-- the statuses that stand for a verdict that can't be shown: want of memory and a file that can't be read, and for a report an output that can't be written
abbrev pub instead_of : Verdict → List ℕ
instead_of (Report text) = 1 ∷ 3 ∷ 6 ∷ []
instead_of _ = 1 ∷ 3 ∷ []
