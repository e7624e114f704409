-- What a participant's calls and the barriers leave of its stamp of one bucket, window by window, and what the bucket's tokens tell together (this project's own).
use Rattle.std.specs.Prelude.{◌≡◌, ℕ, ◌+◌, ◌*◌, List, [], ◌∷◌, ◌++◌, map, flat_map, length, take, Option, Some, None}
use Rattle.std.specs.List.{AllByRecursion}
use Rattle.nb_base.specs.declared.params.Params.{Params}
use Rattle.nb_base.specs.declared.line.Line.{Line}
use Rattle.nb_base.specs.declared.plan.Plan.{Plan}
use Rattle.nb_journal.specs.Lawful.{IsLawful}
use Rattle.bucket_stamps.specs.declared.view.Turn.{Turn}
use Rattle.bucket_stamps.specs.Own.{IsSettled, IsLineOfOne, IsTurnOfOne}
use Rattle.neigh_run.specs.Windows.{window_of}
use Rattle.neigh_run.specs.Threaded.{IsLawfulFrom}
use Rattle.run_evidence.specs.Tokens.{AllOk, greatest_of, Shown, nothing_shown, Call, IsCall, IsMet, opening_turns, IsGivenUp}

-- a window as one stamp saw it, by its number: the length that the barrier before it told (its mark) and what the stamp shows behind that barrier; the participant's calls in the bucket; and the length that the barrier behind it told, and what the stamp shows then
pub record StampWindow : Type 0 where
  pub number : ℕ
  pub mark : ℕ
  pub opened : Shown
  pub calls : List Call
  pub met : ℕ
  pub closed : Shown

-- all windows, the length at the last mark, and what the stamp shows in the end
pub record StampHistory : Type 0 where
  pub windows : List StampWindow
  pub ended : ℕ
  pub after : Shown

-- a window's first moment
abbrev pub start_of : Plan → StampWindow → ℕ
start_of plan window = window.number * plan.window

-- the turns that the barrier before it made for participant p
abbrev pub advances : ℕ → Plan → StampWindow → List Turn
advances p plan window = opening_turns p (start_of plan window) window.mark

-- the calls of a window, and the barrier behind it
abbrev pub AreCalls : ℕ → Params → Shown → List Call → ℕ → Shown → Type 0
AreCalls p params old [] met closed = IsMet p old closed met []
AreCalls p params old (call ∷ calls) met closed = IsCall p params old call × AreCalls p params call.after calls met closed

-- a window of a stamp: the barrier before it, the calls, whose items' moments lie in the window, and the barrier behind it
pub record IsStampWindow (p : ℕ) (plan : Plan) (old : Shown) (window : StampWindow) : Type 0 where
  pub marked : IsMet p old window.opened window.mark (advances p plan window)
  pub calls : AreCalls p plan.params window.opened window.calls window.met window.closed
  pub items : AllByRecursion (λ (call : Call). window_of plan call.entered.at ≡ window.number) window.calls

-- the windows one after another, and behind them the last mark
abbrev pub AreStampWindows : ℕ → Plan → Shown → List StampWindow → ℕ → Shown → Type 0
AreStampWindows p plan old [] ended after = IsMet p old after ended []
AreStampWindows p plan old (window ∷ windows) ended after = IsStampWindow p plan old window × AreStampWindows p plan window.closed windows ended after

-- a participant's whole history with its stamp of a bucket
abbrev pub IsStampHistory : ℕ → Plan → StampHistory → Type 0
IsStampHistory p plan history = AreStampWindows p plan nothing_shown history.windows history.ended history.after

-- the lines that a window's mark counts are lawful from the window's first moment on
abbrev pub IsOpening : Plan → StampWindow → Type 0
IsOpening plan window = IsLawfulFrom plan.params (start_of plan window) (take window.mark window.opened.past)

-- the marks of a bucket, as a stamp saw them
abbrev pub marks_in : Plan → StampHistory → List (Option ℕ × ℕ)
marks_in plan history = map (λ (window : StampWindow). (Some (start_of plan window), window.mark)) history.windows ++ (None, history.ended) ∷ []

-- the calls of all windows
abbrev pub calls_in : List StampWindow → List Call
calls_in windows = flat_map (λ (window : StampWindow). window.calls) windows

-- ---- a bucket

-- a bucket's journal, all its turns, and each participant's history with its stamp, participant 0's first
pub record BucketEvidence : Type 0 where
  pub journal : List Line
  pub turns : List Turn
  pub histories : List StampHistory

-- each participant from p on has its history, and gives its stamp up
abbrev pub AreStampHistories : Plan → List Line → List Turn → ℕ → List StampHistory → Type 0
AreStampHistories plan journal turns p [] = Unit {0}
AreStampHistories plan journal turns p (history ∷ histories) = (IsStampHistory p plan history × IsGivenUp p journal turns history.after) × AreStampHistories plan journal turns (p + 1) histories

-- participant 0 opens each window
abbrev pub OpensEach : Plan → List StampHistory → Type 0
OpensEach plan [] = ⊥
OpensEach plan (history ∷ histories) = AllByRecursion (IsOpening plan) history.windows

-- what giving up all of a bucket's tokens tells of its journal and turns, where there are so many participants: every line belongs to a turn, turns and ids are the participants', and the journal is lawful at the turns' greatest moment where all were answered Ok
pub record IsWholeBucket (params : Params) (participants : ℕ) (journal : List Line) (turns : List Turn) : Type 0 where
  pub settled : IsSettled journal turns
  pub only_turns : AllByRecursion (IsTurnOfOne participants) turns
  pub only_lines : AllByRecursion (IsLineOfOne participants) journal
  pub lawful : AllOk turns → IsLawful params journal (greatest_of turns)

-- what the tokens of a bucket tell together, with its marks
pub record IsBucketEvidence (plan : Plan) (told : List (Option ℕ × ℕ)) (bucket : BucketEvidence) : Type 0 where
  pub participants : length bucket.histories ≡ length plan.senders + 1
  pub histories : AreStampHistories plan bucket.journal bucket.turns 0 bucket.histories
  pub opens : OpensEach plan bucket.histories
  pub marks : AllByRecursion (λ (history : StampHistory). marks_in plan history ≡ told) bucket.histories
  pub whole : IsWholeBucket plan.params (length plan.senders + 1) bucket.journal bucket.turns
