-- The dues of the known keys: the timers that are armed for them, and the next one. This project's own.
use Rattle.std.specs.Prelude.{◌≡◌, ◌≢◌, ℕ, ◌≤◌, true, false, eqb, List, length, slice_get, Option, Some, None}
use Rattle.std.specs.List.{list_any}
use Rattle.nb_base.specs.declared.key.Key.{Key}
use Rattle.nb_base.specs.declared.params.Params.{Params}
use Rattle.nb_base.specs.declared.line.Line.{Line}
use Rattle.nb_journal.specs.Fold.{known_keys}
use Rattle.nb_journal.specs.Lawful.{due_of, NothingOverdue, IsNextDue}
use Rattle.nb_journal.specs.Accounts.{timer_line}
use Rattle.timer_wheel.specs.Map.{Timers}
use Rattle.timer_wheel.specs.Map as timers

-- each known key's node is its rank, and has the due of the key's entry; the nodes behind these are spare; no due lies before the timers' moment
pub record AreArmed (p : Params) (lines : List Line) (t : Timers) : Type 0 where
  pub nodes : length (known_keys lines) ≤ length t.dues
  pub each : (rank : ℕ) (key : Key) → slice_get (known_keys lines) rank ≡ Some key → timers.due_of t.dues rank ≡ due_of p lines key
  pub spare : (node : ℕ) → length (known_keys lines) ≤ node → timers.due_of t.dues node ≡ None
  pub ahead : NothingOverdue p lines t.now

-- the line is that of the next timer
pub record IsNextTimer (p : Params) (lines : List Line) (line : Line) : Type 0 where
  pub key : Key
  pub line_is : line ≡ timer_line line.at key
  pub next : IsNextDue p lines key line.at

-- ---- what the helpers promise one another, once a line stands

-- the timer of one key has the due of its entry, and the others stay
pub record ArmsOne (p : Params) (lines : List Line) (key : Key) (old new : Timers) : Type 0 where
  pub now : new.now ≡ old.now
  pub nodes : length new.dues ≡ length old.dues
  pub here : (rank : ℕ) → slice_get (known_keys lines) rank ≡ Some key → timers.due_of new.dues rank ≡ due_of p lines key
  pub others : (node : ℕ) → (slice_get (known_keys lines) node ≡ Some key → ⊥) → timers.due_of new.dues node ≡ timers.due_of old.dues node

-- the due that was, unless there is none any more
abbrev pub left_of : Option ℕ → Option ℕ → Option ℕ
left_of was None = None
left_of was (Some due) = was

-- a node is cancelled where it is to have no due, and the others stay
pub record ClearsOne (node : ℕ) (due : Option ℕ) (old new : Timers) : Type 0 where
  pub now : new.now ≡ old.now
  pub nodes : length new.dues ≡ length old.dues
  pub here : timers.due_of new.dues node ≡ left_of (timers.due_of old.dues node) due
  pub others : (other : ℕ) → other ≢ node → timers.due_of new.dues other ≡ timers.due_of old.dues other

-- the timers of those of these ranks are cancelled whose entries have no due, and the others stay
pub record ClearsGone (p : Params) (lines : List Line) (ranks : List ℕ) (old new : Timers) : Type 0 where
  pub now : new.now ≡ old.now
  pub nodes : length new.dues ≡ length old.dues
  pub here : (rank : ℕ) (key : Key) → list_any (eqb rank) ranks ≡ true → slice_get (known_keys lines) rank ≡ Some key → timers.due_of new.dues rank ≡ left_of (timers.due_of old.dues rank) (due_of p lines key)
  pub others : (node : ℕ) → list_any (eqb node) ranks ≡ false → timers.due_of new.dues node ≡ timers.due_of old.dues node
