-- What a step asks for, beside what holds of an entry between steps (this project's own).
use Rattle.std.specs.Prelude.{◌≡◌, ◌≤◌, ℕ, Bool, true, false, Some, IfSome, IsTrue}
use Rattle.nb_base.specs.declared.nud.Nud.{Nud}
use Rattle.nb_base.specs.declared.nud.Nud.TheVariants as nud
use Rattle.nud_machine.specs.declared.entry.Entry.{Entry}
use Rattle.nud_machine.specs.declared.event.Event.{Event}
use Rattle.nud_machine.specs.declared.event.Event.TheVariants as event
use Rattle.nud_machine.specs.State.{is_size}

-- the last moment of a run, 30 days
abbrev pub greatest : ℕ
greatest = 2_592_000_000

-- the entry's moments are moments of a run; its due may lie behind the last one
pub record IsInRun (e : Entry) : Type 0 where
  pub confirmed : IfSome e.confirmed (λ at. at ≤ greatest)
  pub updated : e.updated ≤ greatest
  pub used : e.used ≤ greatest

-- the states that an entry may be given by hand
abbrev pub is_settable : Nud → Bool
is_settable nud.Permanent = true
is_settable nud.Noarp = true
is_settable nud.Reachable = true
is_settable nud.Stale = true
is_settable _ = false

-- a state that the event names may be given by hand
abbrev pub NamesSettable : Event → Type 0
NamesSettable (event.Admin mac new) = IsTrue (is_settable new)
NamesSettable _ = Unit {0}

-- a packet that the event brings has a packet's size
abbrev pub BringsSized : Event → Type 0
BringsSized (event.Send id size) = IsTrue (is_size size)
BringsSized _ = Unit {0}

-- a timer fires at the entry's due
abbrev pub FiresAtDue : Event → ℕ → Entry → Type 0
FiresAtDue event.Timer at e = e.due ≡ Some at
FiresAtDue _ at e = Unit {0}
