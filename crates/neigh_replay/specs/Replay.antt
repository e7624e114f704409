-- What a replay does.
use Rattle.std.specs.Prelude.{◌≡◌, ◌≢◌, ℕ, ◌<◌, List, [], ◌∷◌, take, Option, Some, None, slice_get}
use Rattle.std.specs.Io.KnownBytes.{Appends}
use Rattle.nb_base.specs.declared.plan.Mode.TheVariants as mode
use Rattle.nb_base.specs.declared.plan.Plan.{Plan}
use Rattle.nb_io.specs.Faults.{Rose}
use Rattle.neigh_plan.specs.Inline.{most_lines, plan_bound}
use Rattle.neigh_words.specs.declared.options.Settings.{Settings}
use Rattle.neigh_words.specs.Settings.{Asked, asked_by}
use Rattle.neigh_replay.specs.Verdict.{Verdict, Report, Held, AreTold, HavePlan, Gives, names_of, status_of, line_of, instead_of}
use Rattle.neigh_replay.specs.Status.{IsOneOf, Says, memory_line, read_line, write_line}

-- ---- what a call meets outside

-- what a sink had taken and how often it had failed, before a call and after it
pub record SinkCall : Type 0 where
  pub taken_before : Option (List ℕ)
  pub taken_after : Option (List ℕ)
  pub faults_before : ℕ
  pub faults_after : ℕ

abbrev pub sink_call : Option (List ℕ) → Option (List ℕ) → ℕ → ℕ → SinkCall
sink_call before after faults_before faults_after = record { taken_before = before; taken_after = after; faults_before = faults_before; faults_after = faults_after }

-- what names hold where that is told, and how often each had failed before a call and after it
pub record FilesCall : Type 0 where
  pub held : Held
  pub faults_before : List ℕ → ℕ
  pub faults_after : List ℕ → ℕ

abbrev pub files_call : Held → (List ℕ → ℕ) → (List ℕ → ℕ) → FilesCall
files_call held before after = record { held = held; faults_before = before; faults_after = after }

-- a sink took a line, or a part of it where its count rose
abbrev pub SinkSays : SinkCall → List ℕ → Type 0
SinkSays sink line = Says sink.taken_before sink.taken_after sink.faults_before sink.faults_after line

-- a sink took these bytes, and nothing else
abbrev pub SinkTakes : SinkCall → List ℕ → Type 0
SinkTakes sink bytes = Appends sink.taken_before sink.taken_after bytes

abbrev pub IsUntouched : SinkCall → Type 0
IsUntouched sink = sink.taken_after ≡ sink.taken_before

-- a count rose in a sink, or for a name
abbrev pub SinkFailed : SinkCall → Type 0
SinkFailed sink = Rose sink.faults_before sink.faults_after

abbrev pub NameFailed : FilesCall → List ℕ → Type 0
NameFailed files name = Rose (files.faults_before name) (files.faults_after name)

-- ---- a replay

-- the files give this verdict, where both are told
abbrev pub GivesTold : Asked → FilesCall → Verdict → Type 0
GivesTold a files verdict = AreTold a files.held → Gives a files.held verdict

-- a verdict is shown: a report by the output alone, every other by its line alone
abbrev pub Shows : Verdict → SinkCall → SinkCall → Type 0
Shows (Report text) out err = SinkTakes out text × IsUntouched err
Shows verdict out err = IsUntouched out × SinkSays err (line_of verdict)

-- the call ended with the verdict of the files
pub record HasDecided (a : Asked) (files : FilesCall) (out err : SinkCall) (status : ℕ) : Type 0 where
  pub verdict : Verdict
  pub given : GivesTold a files verdict
  pub answered : status ≡ status_of verdict
  pub shown : Shows verdict out err

-- a file that was asked for couldn't be read: its count rose, and the line names it
pub record CannotRead (a : Asked) (files : FilesCall) (out err : SinkCall) : Type 0 where
  pub place : ℕ
  pub name : List ℕ
  pub asked : slice_get (names_of a) place ≡ Some name
  pub failed : NameFailed files name
  pub untouched : IsUntouched out
  pub said : SinkSays err (read_line name)

-- the output couldn't take the report: its count rose, and a part of the report was taken, from the front
pub record CannotWrite (a : Asked) (files : FilesCall) (out err : SinkCall) : Type 0 where
  pub text : List ℕ
  pub given : GivesTold a files (Report text)
  pub failed : SinkFailed out
  pub count : ℕ
  pub part : SinkTakes out (take count text)
  pub said : SinkSays err write_line

-- no memory was left
pub record HasNoMemory (out err : SinkCall) : Type 0 where
  pub untouched : IsUntouched out
  pub said : SinkSays err memory_line

-- a replay of what is asked for ended with the status
pub record IsReplay (a : Asked) (files : FilesCall) (out err : SinkCall) (status : ℕ) : Type 0 where
  -- 1, 3 and 6: what failed outside
  pub no_memory : status ≡ 1 → HasNoMemory out err
  pub cannot_read : status ≡ 3 → CannotRead a files out err
  pub cannot_write : status ≡ 6 → CannotWrite a files out err
  -- every other status is that of the verdict of the files, which is shown
  pub decided : status ≢ 1 → status ≢ 3 → status ≢ 6 → HasDecided a files out err status
  -- 7 never comes for a script alone, which is too short for it
  pub never_too_large : a.capture ≡ None → status ≢ 7
  -- and where the files are told, the verdict that they give is the status, unless something failed outside
  pub always : AreTold a files.held → (verdict : Verdict) → Gives a files.held verdict → IsOneOf (status_of verdict ∷ instead_of verdict) status

-- ---- completeness

-- nothing failed outside: the count of no file that was asked for rose, nor the output's
pub record NothingFailed (a : Asked) (files : FilesCall) (out : SinkCall) : Type 0 where
  pub reading : (place : ℕ) (name : List ℕ) → slice_get (names_of a) place ≡ Some name → NameFailed files name → ⊥
  pub writing : SinkFailed out → ⊥

-- where the files are told, read and not refused, the line bound of their plan is below 2^22 and nothing fails outside, the status is 0, or 1 for want of memory
abbrev pub ReplaysAreComplete : Type 0
ReplaysAreComplete =
    (a : Asked) (files : FilesCall) (out err : SinkCall) (status : ℕ) (plan : Plan)
    → IsReplay a files out err status
    → AreTold a files.held
    → HavePlan a files.held plan
    → plan_bound plan < most_lines
    → NothingFailed a files out
    → IsOneOf (0 ∷ 1 ∷ []) status

-- a script alone needs no condition on its line bound
abbrev pub ScriptsAreComplete : Type 0
ScriptsAreComplete =
    (a : Asked) (files : FilesCall) (out err : SinkCall) (status : ℕ) (plan : Plan)
    → IsReplay a files out err status
    → a.capture ≡ None
    → AreTold a files.held
    → HavePlan a files.held plan
    → NothingFailed a files out
    → IsOneOf (0 ∷ 1 ∷ []) status

-- ---- the mode

-- what settings ask for in the mode `inline`
abbrev pub inline_by : Settings → Asked
inline_by s = record (asked_by s) { mode = mode.Inline }
