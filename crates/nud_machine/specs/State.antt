-- An entry with its waiting packets, and what holds of it between steps.
use Rattle.std.specs.Prelude.{◌≡◌, ℕ, Bool, true, false, ◌&&◌, ◌||◌, ◌==◌, nat_le, bytes_eq, is_some, IsSome, List, [], map, length, Option, Some, None}
use Rattle.std.specs.List.{list_all}
use Rattle.nb_base.specs.declared.mac.Mac.{Mac}
use Rattle.nb_base.specs.declared.nud.Nud.{Nud}
use Rattle.nb_base.specs.declared.nud.Nud.TheVariants as nud
use Rattle.nb_base.specs.declared.params.Params.{Params}
use Rattle.nb_base.specs.Nud.{bits, is_valid, in_timer}
use Rattle.nb_queues.specs.Queue.{Packet, total_size, largest}
use Rattle.nud_machine.specs.declared.entry.Entry.{Entry}
use Rattle.nud_machine.specs.declared.act.Act.{Act}
use Rattle.nud_machine.specs.declared.act.Act.TheVariants.{Transmit, Drop}
use Rattle.nud_machine.specs.declared.act.Cause.{Cause}

-- an entry and the packets that wait for it, the oldest first
pub record State : Type 0 where
  pub entry : Entry
  pub waiting : List Packet

-- a state, and the acts on the way to it
pub record Stepped : Type 0 where
  pub state : State
  pub acts : List Act

-- no entry
abbrev pub absent_entry : Entry
absent_entry = record { present = false; nud = nud.None; mac = None; confirmed = None; updated = 0; used = 0; probes = 0; due = None; router = false }

-- an entry that was just made
abbrev pub made_entry : ℕ → Entry
made_entry at = record { present = true; nud = nud.None; mac = None; confirmed = None; updated = at; used = at; probes = 0; due = None; router = false }

abbrev pub absent : State
absent = record { entry = absent_entry; waiting = [] }

abbrev pub made : ℕ → State
made at = record { entry = made_entry at; waiting = [] }

-- nothing changes and nothing is done
abbrev pub stays : State → Stepped
stays s = record { state = s; acts = [] }

-- the entry changes, and these acts are done; the queue stays
abbrev pub becomes : State → Entry → List Act → Stepped
becomes s entry acts = record { state = record s { entry = entry }; acts = acts }

-- the entry changes, and no packet waits any more
abbrev pub empties : Entry → List Act → Stepped
empties entry acts = record { state = record { entry = entry; waiting = [] }; acts = acts }

-- the packets go out to the address in queue order
abbrev pub transmits : Option Mac → List Packet → List Act
transmits None packets = []
transmits (Some mac) packets = map (λ packet. Transmit packet.0 mac) packets

-- the packets are dropped in queue order
abbrev pub drops : Cause → List Packet → List Act
drops cause packets = map (λ packet. Drop packet.0 cause) packets

-- an entry enters FAILED without address and due
abbrev pub entry_failed : Entry → Entry
entry_failed e = record e { nud = nud.Failed; mac = None; due = None }

abbrev pub same_mac : Option Mac → Option Mac → Bool
same_mac None None = true
same_mac (Some a) (Some b) = bytes_eq a.0 b.0
same_mac _ _ = false

abbrev pub same_nud : Nud → Nud → Bool
same_nud a b = bits a == bits b

-- the size of a packet: its payload of 1 to 1,500 bytes, and 256 more (this project's own, after the size that Linux counts for a packet)
abbrev pub is_size : ℕ → Bool
is_size size = nat_le 257 size && nat_le size largest

-- at most as many bytes wait as may, or a packet waits alone
abbrev pub fits_in : ℕ → List Packet → Bool
fits_in bytes waiting = nat_le (total_size waiting) bytes || nat_le (length waiting) 1

-- what waits has room: each packet has a packet's size, and they are no more bytes than may wait, or one packet waits alone
pub record HasRoom (p : Params) (waiting : List Packet) : Type 0 where
  pub sizes : list_all (λ packet. is_size packet.1) waiting ≡ true
  pub bytes : fits_in p.unres_qlen_bytes waiting ≡ true

-- packets wait only in INCOMPLETE
abbrev pub waits_in : Nud → List Packet → Type 0
waits_in nud.Incomplete waiting = Unit {0}
waits_in _ waiting = waiting ≡ []

-- what holds of an entry between steps
pub record IsSoundEntry (e : Entry) : Type 0 where
  pub address : is_some e.mac ≡ is_valid e.nud
  pub timer : is_some e.due ≡ in_timer e.nud
  pub confirmed : e.nud ≡ nud.Reachable → IsSome e.confirmed
  pub absent : e.present ≡ false → e ≡ absent_entry

-- what holds of an entry and its queue between steps
pub record IsSound (p : Params) (s : State) : Type 0 where
  pub entry : IsSoundEntry s.entry
  pub waits : waits_in s.entry.nud s.waiting
  pub room : HasRoom p s.waiting
