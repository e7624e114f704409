-- What is kept of a key from line to line, what a line concerns, and the journals over which the machine can step (this project's own).
use Rattle.std.specs.Prelude.{◌≡◌, ◌<◌, ◌^◌, ℕ, Bool, true, false, ◌&&◌, nat_le, is_none, is_some, IsTrue, List, length, Option, Some, None}
use Rattle.nb_base.specs.declared.key.Key.{Key}
use Rattle.nb_base.specs.declared.params.Params.{Params}
use Rattle.nb_base.specs.declared.op.Op.{Op}
use Rattle.nb_base.specs.declared.op.Op.TheVariants as op
use Rattle.nb_base.specs.declared.line.Line.{Line}
use Rattle.nud_machine.specs.Asked.{greatest, IsInRun}
use Rattle.nud_machine.specs.State.{State, IsSound}
use Rattle.nb_journal.specs.declared.kept.Kept.{Kept}
use Rattle.nb_journal.specs.declared.effects.Effect as code
use Rattle.nb_journal.specs.declared.effects.Effect.TheVariants as code_effect
use Rattle.nb_journal.specs.Keys.{is_key, may_be_asked}
use Rattle.nb_journal.specs.Fold.{Effect, Passes, Refuses, Brings}
use Rattle.nb_journal.specs.Lawful.{EachLine, due_of}

-- the effect that the code names so
abbrev pub effect_named : code.Effect → Effect
effect_named code_effect.Passes = Passes
effect_named (code_effect.Refuses r) = Refuses r
effect_named (code_effect.Brings e) = Brings e

-- an entry and the packets that wait for it
abbrev pub state_in : Kept → State
state_in k = record { entry = k.entry; waiting = k.waiting }

-- what holds of a key's entry and queue between lines
pub record IsKept (p : Params) (k : Kept) : Type 0 where
  pub sound : IsSound p (state_in k)
  pub moments : IsInRun k.entry

-- a line at a moment of a run, whose operation may be asked for
abbrev pub is_line_of_run : Line → Bool
is_line_of_run line = nat_le line.at greatest && may_be_asked line.op

-- a timer's line stands at the entry's due
abbrev pub IsTimersMoment : ℕ → State → Op → Type 0
IsTimersMoment at s (op.Timer named) = s.entry.due ≡ Some at
IsTimersMoment at s _ = Unit {0}

-- a timer's line that names the key stands at its due
abbrev pub IsTimersDue : Key → ℕ → State → Op → Type 0
IsTimersDue key at s (op.Timer named) = is_key named key ≡ true → s.entry.due ≡ Some at
IsTimersDue key at s _ = Unit {0}

-- a line can do something to a key where it names it and didn't find the table full, or names no key
abbrev pub concerns : Line → Key → Option Key → Bool
concerns line key None = true
concerns line key (Some named) = is_key named key && is_none line.full

-- the line sends to the key and found the table full
abbrev pub is_turned_away : Line → Key → Op → Bool
is_turned_away line key (op.Send named len) = is_key named key && is_some line.full
is_turned_away line key _ = false

-- a timer's line stands at its key's due
abbrev pub IsAtDue : Params → List Line → ℕ → Op → Type 0
IsAtDue p past at (op.Timer key) = due_of p past key ≡ Some at
IsAtDue p past at _ = Unit {0}

-- a line that the machine can step over
abbrev pub IsStep : Params → List Line → Line → Type 0
IsStep p past line = IsTrue (is_line_of_run line) × IsAtDue p past line.at line.op

-- a journal of fewer than 2^32 lines
abbrev pub IsShort : List Line → Type 0
IsShort journal = length journal < 2 ^ 32

-- a journal over which the machine can step, line by line
abbrev pub IsStepped : Params → List Line → Type 0
IsStepped p journal = EachLine (IsStep p) journal
