-- The laws of journals, as statements of every journal.
use Rattle.std.specs.Prelude.{◌≡◌, ℕ, ◌+◌, ◌<◌, ◌≤◌, true, is_some, List, [], ◌∷◌, ◌++◌, length, Some, IfSome}
use Rattle.std.specs.List.{list_any}
use Rattle.nb_base.specs.declared.key.Key.{Key}
use Rattle.nb_base.specs.declared.time.OpId.{OpId}
use Rattle.nb_base.specs.declared.host.Host.{Host}
use Rattle.nb_base.specs.declared.params.Params.{Params}
use Rattle.nb_base.specs.declared.line.Line.{Line}
use Rattle.nb_base.specs.Params.{InRange}
use Rattle.nud_machine.specs.declared.entry.Entry.{Entry}
use Rattle.nud_machine.specs.State.{absent_entry}
use Rattle.nud_machine.specs.Record.{record_of}
use Rattle.nud_machine.specs.Asked.{greatest}
use Rattle.nud_machine.specs.Laws.{ids_of}
use Rattle.nb_journal.specs.Keys.{is_key, is_own, may_all_be_asked}
use Rattle.nb_journal.specs.Fold.{state_of, known_keys, rank_of, present_count}
use Rattle.nb_journal.specs.Lawful.{EachLine, last_moment, base_of, due_of, NothingDue, IsNextDue, IsSweepMoment, HasSeen, sweep_line, before_sweep, collects, full_of, IsOrderly, IsLawful, IsBrokenOff}
use Rattle.nb_journal.specs.Steps.{IsStepped}
use Rattle.nb_journal.specs.Accounts.{Fate, fates_of, times_sent, ends_with, with_record, published, potential, sends_to, ended_of, send_lines, fates_total, timer_line, own_lines, operations, line_bound}

-- the keys that a journal knows are the first of those that a longer one knows
abbrev pub KeysGrow : Type 0
KeysGrow = (lines more : List Line) → (keys : List Key) × (known_keys (lines ++ more) ≡ known_keys lines ++ keys)

-- a known key keeps its rank
abbrev pub RanksStay : Type 0
RanksStay = (lines more : List Line) (key : Key) → list_any (λ other. is_key other key) (known_keys lines) ≡ true → rank_of (lines ++ more) key ≡ rank_of lines key

-- a due that a line sets lies at least ten milliseconds behind the line
abbrev pub DuesLieAhead : Type 0
DuesLieAhead =
    (p : Params) (lines : List Line) (line : Line) (key : Key) (due : ℕ)
    → InRange p
    → due_of p (lines ++ line ∷ []) key ≡ Some due
    → (due_of p lines key ≡ Some due → ⊥)
    → line.at + 10 ≤ due

-- the lines before a sweep's moment and the timers at it are the first lines of a lawful journal
abbrev pub SweepsCutInTwo : Type 0
SweepsCutInTwo = (p : Params) (journal : List Line) (clock u : ℕ) → InRange p → IsLawful p journal clock → (rest : List Line) × (journal ≡ before_sweep u journal ++ rest)

-- the empty journal is lawful at the clock 0
abbrev pub EmptyIsLawful : Type 0
EmptyIsLawful = (p : Params) → InRange p → IsLawful p [] 0

-- a journal that is lawful at a clock is lawful at every lesser clock that its last line hasn't passed
abbrev pub LawfulEarlier : Type 0
LawfulEarlier = (p : Params) (journal : List Line) (clock lesser : ℕ) → lesser ≤ clock → last_moment journal ≤ lesser → IsLawful p journal clock → IsLawful p journal lesser

-- a lawful journal goes on by an operation's line at its clock, behind the collects that the line asks for
abbrev pub GoesOnByOperation : Type 0
GoesOnByOperation =
    (p : Params) (journal : List Line) (line : Line)
    → InRange p
    → IsLawful p journal line.at
    → is_own line.op ≡ true
    → is_some line.id ≡ true
    → HasSeen p journal line
    → line.full ≡ full_of p (journal ++ collects p journal line) line
    → IsLawful p ((journal ++ collects p journal line) ++ line ∷ []) line.at

-- all lines before a moment stand: the journal is lawful at the clock right before it, or broken off at it
pub data StandsUpTo (p : Params) (journal : List Line) : ℕ → Type 0 where
  Lawful : (clock : ℕ) → IsLawful p journal clock → StandsUpTo p journal (clock + 1)
  BrokenOff : (clock : ℕ) → IsBrokenOff p journal clock → StandsUpTo p journal clock

-- from a moment on, and before another, there is no multiple of the sweep interval
abbrev pub NoSweepBetween : Params → ℕ → ℕ → Type 0
NoSweepBetween p from before = (u : ℕ) → IsSweepMoment p u → from ≤ u → u < before → ⊥

-- a journal goes on by the timer's line of its next due, where no sweep stands before it
abbrev pub GoesOnByTimer : Type 0
GoesOnByTimer =
    (p : Params) (journal : List Line) (from : ℕ) (key : Key) (at : ℕ)
    → InRange p
    → StandsUpTo p journal from
    → IsNextDue p journal key at
    → NoSweepBetween p from at
    → IsBrokenOff p (journal ++ timer_line at key ∷ []) at

-- a journal goes on by a sweep's line at a multiple of the interval, where nothing is due any more and no other sweep stands before it
abbrev pub GoesOnBySweep : Type 0
GoesOnBySweep =
    (p : Params) (journal : List Line) (from u seen : ℕ)
    → InRange p
    → StandsUpTo p journal from
    → IsSweepMoment p u
    → NothingDue p journal u
    → journal ≡ before_sweep u journal
    → present_count p journal ≤ seen
    → NoSweepBetween p from u
    → IsLawful p (journal ++ sweep_line u seen ∷ []) u

-- a journal is lawful at a clock that its last line hasn't passed, where nothing is due and no sweep stands up to it
abbrev pub GoesOnInTime : Type 0
GoesOnInTime =
    (p : Params) (journal : List Line) (from clock : ℕ)
    → InRange p
    → StandsUpTo p journal from
    → last_moment journal ≤ clock
    → NothingDue p journal clock
    → NoSweepBetween p from (clock + 1)
    → IsLawful p journal clock

-- behind each line a cell has published its entry's record last: one record more, unless it is the last one again
pub record PublishesStates (p : Params) (host : Host) (key : Key) : Type 0 where
  pub first : published p host [] key ≡ record_of absent_entry host key ∷ []
  pub next : (lines : List Line) (line : Line) → published p host (lines ++ line ∷ []) key ≡ with_record (published p host lines key) (record_of (state_of p (lines ++ line ∷ []) key).entry host key)
  pub last : (lines : List Line) → ends_with (published p host lines key) (record_of (state_of p lines key).entry host key) ≡ true

-- so each key's cell publishes
abbrev pub CellsPublishStates : Type 0
CellsPublishStates = (p : Params) (host : Host) (key : Key) → PublishesStates p host key

-- a timer's line lowers its key's potential by at least one
abbrev pub TimersLower : Type 0
TimersLower =
    (p : Params) (lines : List Line) (key : Key) (at : ℕ)
    → InRange p
    → due_of p lines key ≡ Some at
    → potential p (state_of p (lines ++ timer_line at key ∷ []) key).entry + 1 ≤ potential p (state_of p lines key).entry

-- no potential is larger than this
abbrev pub PotentialsAreSmall : Type 0
PotentialsAreSmall = (p : Params) (e : Entry) → potential p e ≤ p.mcast_solicit + p.ucast_solicit + 5

-- a lawful journal has fewer lines than the line bound of its operations and of a moment that its clock hasn't passed
abbrev pub LawfulInBound : Type 0
LawfulInBound =
    (p : Params) (journal : List Line) (clock moment operations : ℕ)
    → InRange p
    → IsLawful p journal clock
    → clock ≤ moment
    → length (own_lines journal) ≤ operations
    → length journal < line_bound p operations moment

-- and so has one that is broken off
abbrev pub BrokenOffInBound : Type 0
BrokenOffInBound =
    (p : Params) (journal : List Line) (clock moment operations : ℕ)
    → InRange p
    → IsBrokenOff p journal clock
    → clock ≤ moment
    → length (own_lines journal) ≤ operations
    → length journal < line_bound p operations moment

-- in a lawful journal the packets to a key end in the order of their sends, each once: those that have gone out or been dropped, and then those that wait, are those that were sent
abbrev pub PacketsLeaveInOrder : Type 0
PacketsLeaveInOrder = (p : Params) (journal : List Line) (clock : ℕ) (key : Key) → IsLawful p journal clock → sends_to journal key ≡ ended_of p journal key ++ ids_of (state_of p journal key).waiting

-- in a lawful journal a packet that was sent once has one fate: it was sent on, it was dropped, or it waits
abbrev pub EachSendHasOneFate : Type 0
EachSendHasOneFate = (p : Params) (journal : List Line) (clock : ℕ) (id : OpId) → IsLawful p journal clock → times_sent journal id ≡ 1 → (fate : Fate) × (fates_of p journal id ≡ fate ∷ [])

-- in a lawful journal the packets that went out, those that were dropped and those that wait are together as many as the lines that send
abbrev pub FatesAddUp : Type 0
FatesAddUp = (p : Params) (journal : List Line) (clock : ℕ) → IsLawful p journal clock → fates_total p journal ≡ length (send_lines journal)

-- a line that looked at the table saw what the lines before it and its collect lines determine
abbrev pub Saw : (List Line → ℕ) → List Line → Line → Type 0
Saw sees past line = IfSome line.seen (λ seen. seen ≡ sees (base_of past))

-- two journals that are lawful at one clock and have the same operations are one, where the lines before a line determine what it saw, in both alike; with a table of one bucket that is the number present
abbrev pub LawfulAreOne : Type 0
LawfulAreOne =
    (p : Params) (sees : List Line → ℕ) (journal other : List Line) (clock : ℕ)
    → InRange p
    → IsLawful p journal clock
    → IsLawful p other clock
    → EachLine (Saw sees) journal
    → EachLine (Saw sees) other
    → operations journal ≡ operations other
    → journal ≡ other

-- the machine can step over a journal whose last moment is one of a run and whose operations may be asked for, whether it is lawful or broken off
abbrev pub OrderlyJournalsAreStepped : Type 0
OrderlyJournalsAreStepped =
    (p : Params) (journal : List Line)
    → IsOrderly p journal
    → last_moment journal ≤ greatest
    → may_all_be_asked (own_lines journal) ≡ true
    → IsStepped p journal
