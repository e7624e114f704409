-- What a timer does to an entry at its due, by its state (RFC 4861 section 7.3.3 and appendix C; Linux, neigh_timer_handler; the least distance of a timer is this project's own).
use Rattle.std.specs.Prelude.{ℕ, ◌+◌, Bool, false, nat_le, max, if◌then◌else◌, List, [], ◌∷◌, Option, Some, None}
use Rattle.nb_base.specs.declared.mac.Mac.{Mac}
use Rattle.nb_base.specs.declared.nud.Nud.{Nud}
use Rattle.nb_base.specs.declared.nud.Nud.TheVariants as nud
use Rattle.nb_base.specs.declared.params.Params.{Params}
use Rattle.nud_machine.specs.declared.entry.Entry.{Entry}
use Rattle.nud_machine.specs.declared.act.Act.{Act}
use Rattle.nud_machine.specs.declared.act.Act.TheVariants.{SolicitGroup, SolicitUnicast}
use Rattle.nud_machine.specs.declared.act.Cause.TheVariants.{Unresolved}
use Rattle.nud_machine.specs.State.{State, Stepped, stays, becomes, empties, drops, entry_failed}

-- the moment is at most so many milliseconds after what happened, if it did
abbrev pub is_within : ℕ → Option ℕ → ℕ → Bool
is_within at None millis = false
is_within at (Some since) millis = nat_le at (since + millis)

-- the end of a confirmation, at least ten milliseconds from now
abbrev pub next_due : ℕ → Option ℕ → ℕ → Option ℕ
next_due at None millis = Some (at + 10)
next_due at (Some confirmed) millis = Some (max (confirmed + millis) (at + 10))

-- one more solicitation, or where the limit is reached the end: what waits is dropped
abbrev pub probes : Params → ℕ → ℕ → State → Entry → List Act → Stepped
probes p at limit s entry solicitation =
    if nat_le limit entry.probes
    then empties (entry_failed entry) (drops Unresolved s.waiting)
    else becomes s (record entry { probes = entry.probes + 1; due = Some (at + p.retrans_time) }) solicitation

-- a solicitation to the address that is known
abbrev pub unicast : Option Mac → List Act
unicast None = []
unicast (Some mac) = SolicitUnicast mac ∷ []

-- a confirmation that still holds runs on; a used entry is doubted in DELAY, an unused one becomes STALE
abbrev pub ends_reachable : Params → ℕ → State → Stepped
ends_reachable p at s =
    if is_within at s.entry.confirmed p.base_reachable_time
    then becomes s (record s.entry { due = next_due at s.entry.confirmed p.base_reachable_time }) []
    else (if nat_le at (s.entry.used + p.delay_first_probe_time)
    then becomes s (record s.entry { nud = nud.Delay; due = Some (at + p.delay_first_probe_time) }) []
    else becomes s (record s.entry { nud = nud.Stale; due = None }) [])

-- a confirmation in time makes it REACHABLE; otherwise the probes begin
abbrev pub ends_delay : Params → ℕ → State → Stepped
ends_delay p at s =
    if is_within at s.entry.confirmed p.delay_first_probe_time
    then becomes s (record s.entry { nud = nud.Reachable; due = next_due at s.entry.confirmed p.base_reachable_time }) []
    else probes p at p.ucast_solicit s (record s.entry { nud = nud.Probe; probes = 0 }) (unicast s.entry.mac)

-- by the entry's state
abbrev pub fire_in : Nud → Params → ℕ → State → Stepped
fire_in nud.Reachable p at s = ends_reachable p at s
fire_in nud.Delay p at s = ends_delay p at s
fire_in nud.Incomplete p at s = probes p at p.mcast_solicit s s.entry (SolicitGroup ∷ [])
fire_in nud.Probe p at s = probes p at p.ucast_solicit s s.entry (unicast s.entry.mac)
fire_in nud.None p at s = stays s
fire_in nud.Stale p at s = stays s
fire_in nud.Failed p at s = stays s
fire_in nud.Noarp p at s = stays s
fire_in nud.Permanent p at s = stays s

abbrev pub fire : Params → ℕ → State → Stepped
fire p at s = fire_in s.entry.nud p at s
