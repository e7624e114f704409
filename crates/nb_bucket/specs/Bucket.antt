-- What the calls of a bucket do to its journal (the rules of a bucket are this project's own, after Linux).
use Rattle.std.specs.Prelude.{◌≡◌, ℕ, ◌+◌, ◌<◌, ◌≤◌, Bool, true, false, List, [], ◌∷◌, ◌++◌, length, max, Option, Some, None, IfSome}
use Rattle.std.specs.List.{list_all}
use Rattle.nb_base.specs.declared.key.Key.{Key}
use Rattle.nb_base.specs.declared.time.OpId.{OpId}
use Rattle.nb_base.specs.declared.params.Params.{Params}
use Rattle.nb_base.specs.declared.op.Op.{Op}
use Rattle.nb_base.specs.declared.op.Op.TheVariants as op
use Rattle.nb_base.specs.declared.line.Line.{Line}
use Rattle.nb_base.specs.declared.line.Reply.{Reply}
use Rattle.nb_journal.specs.Fold.{reply_of, present_count}
use Rattle.nb_journal.specs.Lawful.{last_moment, IsNextDue, IsSweepMoment, sweep_line, collects, full_of, IsLawful, IsBrokenOff}
use Rattle.nb_journal.specs.Accounts.{timer_line}
use Rattle.nb_bucket.specs.declared.fail.BucketFail.{BucketFail}
use Rattle.nb_bucket.specs.declared.fail.BucketFail.TheVariants.{JournalFull, Memory}
-- the most lines that a bucket may have, and that a journal is lawful at a clock, or was broken off at it by a refused call
pub use Rattle.nb_journal.specs.Accounts.{most_lines}
pub use Rattle.nb_journal.specs.Lawful.{Stands, Lawful, BrokenOff}

-- a bucket is seen as its journal, with its clock, its parameters and the most lines that it may have
pub record Journal : Type 0 where
  pub params : Params
  pub limit : ℕ
  pub lines : List Line
  pub clock : ℕ

-- ---- lines that come by time

-- a timer's or a sweep's line
abbrev pub is_by_time : Op → Bool
is_by_time (op.Timer key) = true
is_by_time op.Sweep = true
is_by_time _ = false

-- the journal goes on by timers and sweeps alone, and its clock with them; nothing else of it changes
pub record GoesOn (old new : Journal) : Type 0 where
  pub more : List Line
  pub by_time : list_all (λ (line : Line). is_by_time line.op) more ≡ true
  pub new_is : new ≡ record old { lines = old.lines ++ more; clock = new.clock }

-- ---- an operation

-- an operation's line as it is before it is known whether the table is full, with what it saw of the whole table, where it is to make an entry
abbrev pub operation_line : ℕ → OpId → Op → Option ℕ → Line
operation_line at id o seen = record { at = at; id = Some id; op = o; seen = seen; full = None }

-- the line behind a journal and its collect lines, with the number of entries in its way
abbrev pub full_line : Params → List Line → Line → Line
full_line p lines line = record line { full = full_of p (lines ++ collects p lines line) line }

-- the lines that an operation brings at once: its collect lines and its own
abbrev pub brought : Params → List Line → Line → List Line
brought p lines line = collects p lines line ++ full_line p lines line ∷ []

-- the reply to the line behind a journal and its collect lines
abbrev pub IsReplyTo : Params → List Line → Line → Reply → Type 0
IsReplyTo p lines line reply = reply_of p (lines ++ collects p lines line) (full_line p lines line) ≡ Some reply

-- the operation is entered behind the timers and sweeps up to its moment, or up to the clock where that is later; its place and its reply are answered
pub record Enters (old new : Journal) (at : ℕ) (id : OpId) (o : Op) (place : ℕ) (reply : Reply) : Type 0 where
  pub advanced : Journal
  pub goes_on : GoesOn old advanced
  pub moment : advanced.clock ≡ max at old.clock
  pub lawful_before : IsLawful old.params advanced.lines advanced.clock
  pub seen : Option ℕ
  pub new_is : new ≡ record advanced { lines = advanced.lines ++ brought old.params advanced.lines (operation_line advanced.clock id o seen) }
  pub lawful : IsLawful old.params new.lines new.clock
  pub place_is : place + 1 ≡ length new.lines
  pub reply_is : IsReplyTo old.params advanced.lines (operation_line advanced.clock id o seen) reply

-- ---- refusals

-- behind the lines, on the way to a moment, these come next, at once: the line of the next timer, or the line of the next sweep
pub data ComesNext (p : Params) (lines : List Line) (to : ℕ) : List Line → Type 0 where
  Timer : (key : Key) (at : ℕ) → at ≤ to → IsNextDue p lines key at → IsBrokenOff p (lines ++ timer_line at key ∷ []) at → ComesNext p lines to (timer_line at key ∷ [])
  Sweep : (u seen : ℕ) → u ≤ to → IsSweepMoment p u → IsLawful p (lines ++ sweep_line u seen ∷ []) u → ComesNext p lines to (sweep_line u seen ∷ [])

-- a line behind the lines saw what the other buckets hold, where that is told, and the number present
abbrev pub IsTotal : Params → List Line → Option ℕ → Option ℕ → Type 0
IsTotal p lines others seen = IfSome others (λ n. IfSome seen (λ v. v ≡ present_count p lines + n))

-- the same, or an operation's lines, with what its line saw; the others hold this, where that is told
pub data EntersNext (p : Params) (lines : List Line) (to : ℕ) (id : OpId) (o : Op) (others : Option ℕ) : List Line → Type 0 where
  ByTime : (next : List Line) → ComesNext p lines to next → EntersNext p lines to id o others next
  Operation : (seen : Option ℕ) → IsTotal p lines others seen → IsLawful p lines to → IsLawful p (lines ++ brought p lines (operation_line to id o seen)) to → EntersNext p lines to id o others (brought p lines (operation_line to id o seen))

-- the journal has no room for the lines that come next at once
pub record HasNoRoom (journal : Journal) (Next : List Line → Type 0) (has needs : ℕ) : Type 0 where
  pub has_is : has ≡ length journal.lines
  pub next : List Line
  pub comes : Next next
  pub needs_is : needs ≡ length next
  pub too_many : journal.limit < has + needs

abbrev pub HasCause : Journal → (List Line → Type 0) → BucketFail → Type 0
HasCause journal Next (JournalFull has needs) = HasNoRoom journal Next has needs
HasCause journal Next Memory = Unit {0}

-- the moment of the last of the lines, or the clock where there is none
abbrev pub clock_behind : ℕ → List Line → ℕ
clock_behind clock [] = clock
clock_behind clock (line ∷ lines) = last_moment (line ∷ lines)

-- a call to a moment that is refused leaves the timers and sweeps on its way, and the clock that they brought, which isn't behind the moment
pub record Refuses (old new : Journal) (to : ℕ) (Next : List Line → Type 0) (fail : BucketFail) : Type 0 where
  pub goes_on : GoesOn old new
  pub clock : new.clock ≡ clock_behind old.clock goes_on.more
  pub within : new.clock ≤ to
  pub cause : HasCause new Next fail
