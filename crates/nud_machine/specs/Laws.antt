-- What holds of every step of the machine.
use Rattle.std.specs.Prelude.{◌≡◌, ◌≢◌, ◌≤◌, ℕ, ◌+◌, List, [], ◌∷◌, ◌++◌, map, flat_map, Some, None, IsTrue}
use Rattle.nb_base.specs.declared.time.OpId.{OpId}
use Rattle.nb_base.specs.declared.nud.Nud.TheVariants as nud
use Rattle.nb_base.specs.declared.params.Params.{Params}
use Rattle.nb_base.specs.Params.{InRange}
use Rattle.nb_queues.specs.Queue.{Packet}
use Rattle.nud_machine.specs.declared.act.Act.{Act}
use Rattle.nud_machine.specs.declared.act.Act.TheVariants.{Transmit, Drop}
use Rattle.nud_machine.specs.declared.event.Event.{Event}
use Rattle.nud_machine.specs.declared.event.Event.TheVariants as event
use Rattle.nud_machine.specs.State.{State, IsSound}
use Rattle.nud_machine.specs.Step.{step}
use Rattle.nud_machine.specs.Asked.{greatest, IsInRun, NamesSettable, BringsSized, FiresAtDue}

-- an event to a present entry, of which holds what holds between steps
pub record IsMet (p : Params) (at : ℕ) (s : State) (e : Event) : Type 0 where
  pub params : InRange p
  pub present : IsTrue s.entry.present
  pub settable : NamesSettable e
  pub sized : BringsSized e
  pub due : FiresAtDue e at s.entry
  pub sound : IsSound p s

-- every step keeps what holds between steps
abbrev pub EveryStepKeepsSound : Type 0
EveryStepKeepsSound = (p : Params) (at : ℕ) (s : State) (e : Event) → IsMet p at s e → IsSound p (step p at s e).state

-- every step at a moment of a run leaves moments of a run
abbrev pub EveryStepStaysInRun : Type 0
EveryStepStaysInRun = (p : Params) (at : ℕ) (s : State) (e : Event) → at ≤ greatest → IsInRun s.entry → IsInRun (step p at s e).state.entry

-- every due that a step leaves and that wasn't there before is at least ten milliseconds from now
abbrev pub EveryNewDueIsAhead : Type 0
EveryNewDueIsAhead = (p : Params) (at : ℕ) (s : State) (e : Event) → InRange p → (due : ℕ) → (step p at s e).state.entry.due ≡ Some due → s.entry.due ≢ Some due → at + 10 ≤ due

-- every due that a timer leaves is at least ten milliseconds from now
abbrev pub EveryTimerMovesTheDue : Type 0
EveryTimerMovesTheDue = (p : Params) (at : ℕ) (s : State) → IsMet p at s event.Timer → (due : ℕ) → (step p at s event.Timer).state.entry.due ≡ Some due → at + 10 ≤ due

-- an entry enters FAILED without an address and without a due
pub record HasNothingLeft (s : State) : Type 0 where
  pub address : s.entry.mac ≡ None
  pub due : s.entry.due ≡ None

abbrev pub EveryFailedEntryHasNothingLeft : Type 0
EveryFailedEntryHasNothingLeft = (p : Params) (at : ℕ) (s : State) (e : Event) → IsMet p at s e → (step p at s e).state.entry.nud ≡ nud.Failed → HasNothingLeft (step p at s e).state

-- the packet that goes out or is dropped
abbrev pub leaving : Act → List OpId
leaving (Transmit id mac) = id ∷ []
leaving (Drop id cause) = id ∷ []
leaving _ = []

-- the packet that an event brings
abbrev pub arriving : Event → List OpId
arriving (event.Send id size) = id ∷ []
arriving _ = []

-- the numbers of the packets that wait
abbrev pub ids_of : List Packet → List OpId
ids_of packets = map (λ packet. packet.0) packets

-- the packets that a step sends or drops, in the order of its acts, and then those that wait, are those that waited and then the new one
abbrev pub EveryStepKeepsTheOrder : Type 0
EveryStepKeepsTheOrder = (p : Params) (at : ℕ) (s : State) (e : Event) → IsMet p at s e → flat_map leaving (step p at s e).acts ++ ids_of (step p at s e).state.waiting ≡ ids_of s.waiting ++ arriving e
