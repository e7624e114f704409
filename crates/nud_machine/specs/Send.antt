-- What a packet does to an entry, by its state (RFC 4861 section 7.2.2 and 7.3.3; Linux, neigh_event_send).
use Rattle.std.specs.Prelude.{ℕ, ◌+◌, Bool, ◌==◌, nat_lt, if◌then◌else◌, List, [], ◌∷◌, ◌++◌, Some}
use Rattle.nb_base.specs.declared.nud.Nud.{Nud}
use Rattle.nb_base.specs.declared.nud.Nud.TheVariants as nud
use Rattle.nb_base.specs.declared.params.Params.{Params}
use Rattle.nb_queues.specs.Queue.{Packet, total_size}
use Rattle.nud_machine.specs.declared.entry.Entry.{Entry}
use Rattle.nud_machine.specs.declared.act.Act.TheVariants.{Wait, SolicitGroup}
use Rattle.nud_machine.specs.declared.act.Cause.TheVariants.{QueueFull, NoProbes}
use Rattle.nud_machine.specs.State.{State, Stepped, becomes, transmits, drops, entry_failed}

-- the packet goes out to the entry's address
abbrev pub sends : State → Packet → Entry → Stepped
sends s packet entry = becomes s entry (transmits entry.mac (packet ∷ []))

-- the first packet to an address that isn't known: it waits, and a solicitation goes out, if one may
abbrev pub begins : Params → ℕ → Packet → State → Stepped
begins p at packet s =
    if p.mcast_solicit == 0
    then becomes s (entry_failed s.entry) (drops NoProbes (packet ∷ []))
    else record {
      state = record { entry = record s.entry { nud = nud.Incomplete; probes = 1; due = Some (at + p.retrans_time) }; waiting = packet ∷ [] };
      acts = SolicitGroup ∷ Wait packet.0 ∷ [];
    }

-- those that wait and a further packet of that size are more bytes than may wait
abbrev pub are_too_many : Params → ℕ → List Packet → Bool
are_too_many p size waiting = nat_lt p.unres_qlen_bytes (total_size waiting + size)

-- the packets that are dropped for a further one: while one waits and they are too many bytes, the oldest
abbrev pub pushed_out : Params → ℕ → List Packet → List Packet
pushed_out p size [] = []
pushed_out p size (oldest ∷ others) = if are_too_many p size (oldest ∷ others) then oldest ∷ pushed_out p size others else []

-- the packets that still wait then
abbrev pub left_waiting : Params → ℕ → List Packet → List Packet
left_waiting p size [] = []
left_waiting p size (oldest ∷ others) = if are_too_many p size (oldest ∷ others) then left_waiting p size others else oldest ∷ others

-- a further packet waits behind those for which there is still room; the others are dropped
abbrev pub joins : Params → Packet → Entry → List Packet → Stepped
joins p packet entry waiting = record {
  state = record { entry = entry; waiting = left_waiting p packet.1 waiting ++ packet ∷ [] };
  acts = drops QueueFull (pushed_out p packet.1 waiting) ++ Wait packet.0 ∷ [];
}

-- by the entry's state
abbrev pub send_in : Nud → Params → ℕ → Packet → State → Stepped
send_in nud.None p at packet s = begins p at packet s
send_in nud.Failed p at packet s = begins p at packet s
send_in nud.Incomplete p at packet s = joins p packet s.entry s.waiting
send_in nud.Stale p at packet s = sends s packet (record s.entry { nud = nud.Delay; due = Some (at + p.delay_first_probe_time) })
send_in nud.Permanent p at packet s = sends s packet s.entry
send_in nud.Noarp p at packet s = sends s packet s.entry
send_in nud.Reachable p at packet s = sends s packet s.entry
send_in nud.Delay p at packet s = sends s packet s.entry
send_in nud.Probe p at packet s = sends s packet s.entry

-- the entry is used now
abbrev pub send : Params → ℕ → Packet → State → Stepped
send p at packet s = send_in s.entry.nud p at packet (record s { entry = record s.entry { used = at } })
