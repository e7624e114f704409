-- A call that is told that a journal is full, and why no run within its line bound has one: when all tokens are given up, the lines that it saw and those that it was to make at once are fewer than the bound (this project's own).
use Rattle.std.specs.Prelude.{◌≡◌, ℕ, ◌+◌, ◌<◌, ◌≤◌, max, List, [], ◌∷◌, ◌++◌, length}
use Rattle.std.specs.List.{AllByRecursion}
use Rattle.nb_base.specs.declared.params.Params.{Params}
use Rattle.nb_base.specs.declared.line.Line.{Line}
use Rattle.nb_base.specs.Params.{InRange}
use Rattle.nb_journal.specs.Accounts.{own_lines, line_bound}
use Rattle.nb_journal.specs.Lawful.{Stands}
use Rattle.bucket_stamps.specs.declared.view.Turn.{Turn}
use Rattle.bucket_stamps.specs.Own.{turns_of, IsLineOfOne, IsTurnOfOne}
use Rattle.neigh_run.specs.Merged.{Entered}
use Rattle.run_evidence.specs.Tokens.{greatest_of, Shown, nothing_shown, Begins, Adds, Call, IsCall, IsMet, IsGivenUp}

-- ---- a refused call

-- a call that was told that its bucket's journal is full: what was asked, what the stamp shows behind it, and the lines that the call was to make at once, with their clock
pub record Refused : Type 0 where
  pub entered : Entered
  pub after : Shown
  pub lines : List Line
  pub clock : ℕ

-- what such a call says of the stamp that it was given, where a journal has at most so many lines
pub record IsRefused (p limit : ℕ) (params : Params) (old : Shown) (call : Refused) : Type 0 where
  -- the stamp was met, and has no own line more; of its participant's turns it has no other than the call's, which the call has made where it left lines
  pub past : Begins old.past call.after.past
  pub pairs : call.after.pairs ≡ old.pairs
  pub made : List Turn
  pub turns : Adds p old.turns call.after.turns made
  pub at : AllByRecursion (λ (t : Turn). t.at ≡ call.entered.at) made
  -- behind the past the lines stand, at a clock that isn't later than the call's moment and those of all turns so far
  pub stands : Stands params (call.after.past ++ call.lines) call.clock
  pub clock : call.clock ≤ max call.entered.at (greatest_of call.after.turns)
  -- at most one of them is an operation's
  pub own : length (own_lines call.lines) ≤ 1
  -- and they don't fit
  pub full : limit < length call.after.past + length call.lines

-- ---- what is counted of a participant

-- a stamp shows no more own lines than so many, and no turn of its participant is later than the moment
pub record IsShownWithin (p most moment : ℕ) (shown : Shown) : Type 0 where
  pub few : length shown.pairs ≤ most
  pub early : AllByRecursion (λ (t : Turn). t.at ≤ moment) (turns_of p shown.turns)

-- that holds at first, of no line; a call that was answered Ok adds one line; a barrier and a refused call add none
pub record ShownGoOn : Type 0 where
  pub first : (p moment : ℕ) → IsShownWithin p 0 moment nothing_shown
  pub call : (p most moment : ℕ) (params : Params) (old : Shown) (call : Call) → IsShownWithin p most moment old → IsCall p params old call → call.entered.at ≤ moment → IsShownWithin p (most + 1) moment call.after
  pub met : (p most moment told : ℕ) (old new : Shown) (made : List Turn) → IsShownWithin p most moment old → IsMet p old new told made → AllByRecursion (λ (t : Turn). t.at ≤ moment) made → IsShownWithin p most moment new
  pub refused : (p most moment limit : ℕ) (params : Params) (old : Shown) (call : Refused) → IsShownWithin p most moment old → IsRefused p limit params old call → call.entered.at ≤ moment → IsShownWithin p most moment call.after

-- ---- when all tokens are given up

-- the numbers of all participants together
abbrev pub together : List ℕ → ℕ
together [] = 0
together (n ∷ ns) = n + together ns

-- each participant from p on shows no more than its operations, and gives its stamp up
abbrev pub AreGivenUpWithin : ℕ → List Line → List Turn → ℕ → List ℕ → List Shown → Type 0
AreGivenUpWithin moment journal turns p [] [] = Unit {0}
AreGivenUpWithin moment journal turns p (most ∷ more) (shown ∷ rest) = (IsShownWithin p most moment shown × IsGivenUp p journal turns shown) × AreGivenUpWithin moment journal turns (p + 1) more rest
AreGivenUpWithin moment journal turns p _ _ = ⊥

-- a bucket whose tokens were all given up had no refused call, where the operations that were done and the refused one are so few that their line bound is within the limit
abbrev pub NoJournalIsFull : Type 0
NoJournalIsFull =
    (params : Params) (limit moment operations : ℕ) (journal : List Line) (turns : List Turn) (most : List ℕ) (shown : List Shown) (p : ℕ) (old : Shown) (call : Refused)
    → InRange params
    → AreGivenUpWithin moment journal turns 0 most shown
    → AllByRecursion (IsTurnOfOne (length shown)) turns
    → AllByRecursion (IsLineOfOne (length shown)) journal
    → IsRefused p limit params old call
    → Begins call.after.past journal
    → Begins call.after.turns turns
    → call.entered.at ≤ moment
    → together most + 1 ≤ operations
    → line_bound params operations moment ≤ limit
    → ⊥
