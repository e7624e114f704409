-- The machine of one entry: what each event does to a state, and the acts that it brings.
use Rattle.std.specs.Prelude.{ℕ, ◌+◌, Bool, true, false, ◌&&◌, not, nat_lt, if◌then◌else◌, [], Option, Some}
use Rattle.nb_base.specs.declared.mac.Mac.{Mac}
use Rattle.nb_base.specs.declared.nud.Nud.{Nud}
use Rattle.nb_base.specs.declared.nud.Nud.TheVariants as nud
use Rattle.nb_base.specs.declared.params.Params.{Params}
use Rattle.nb_base.specs.Nud.{is_valid}
use Rattle.nud_machine.specs.declared.entry.Entry.{Entry}
use Rattle.nud_machine.specs.declared.act.Cause.TheVariants.{Removed}
use Rattle.nud_machine.specs.declared.event.Event.{Event}
use Rattle.nud_machine.specs.declared.event.Event.TheVariants as event
use Rattle.nud_machine.specs.State.{State, Stepped, absent, stays, becomes, drops, same_mac, same_nud}
use Rattle.nud_machine.specs.Update.{Manner, rule_for, update, router_by}
use Rattle.nud_machine.specs.Send.{send}
use Rattle.nud_machine.specs.Timer.{fire}

-- what was heard in answer to a solicitation makes an entry REACHABLE, the rest STALE
abbrev pub heard_as : Bool → Nud
heard_as solicited = if solicited then nud.Reachable else nud.Stale

-- an ARP packet replaces an address only where the lock time since the last change has passed (Linux; locktime of arp(7))
abbrev pub arp_manner : Params → ℕ → Entry → Manner
arp_manner p at e = record { overrides = nat_lt (e.updated + p.locktime) at; weak = false; admin = false }

abbrev pub ns_manner : Manner
ns_manner = record { overrides = true; weak = false; admin = false }

-- the override flag of an advertisement (RFC 4861 section 4.4)
abbrev pub na_manner : Bool → Manner
na_manner overrides = record { overrides = overrides; weak = true; admin = false }

abbrev pub admin_manner : Manner
admin_manner = record { overrides = true; weak = false; admin = true }

-- the same step to another entry
abbrev pub with_entry : Stepped → Entry → Stepped
with_entry done entry = record { state = record done.state { entry = entry }; acts = done.acts }

-- an advertisement updates the entry and its router mark
abbrev pub advertise : Params → ℕ → State → Option Mac → Bool → Nud → Manner → Stepped
advertise p at s mac router new how =
    let done = update p at s mac new how in
    with_entry done (router_by (rule_for s.entry mac new how) router done.state.entry)

-- each event by itself
abbrev pub move : Params → ℕ → State → Event → Stepped
move p at s (event.Send id size) = send p at (id, size) s
move p at s (event.Arp mac solicited) = update p at s (Some mac) (heard_as solicited) (arp_manner p at s.entry)
move p at s (event.Ns mac) = update p at s (Some mac) nud.Stale ns_manner
move p at s (event.Na mac router solicited overrides) = advertise p at s mac router (heard_as solicited) (na_manner overrides)
move p at s (event.Admin mac new) = update p at s mac new admin_manner
move p at s event.Confirm = if is_valid s.entry.nud then becomes s (record s.entry { confirmed = Some at }) [] else stays s
move p at s event.Timer = fire p at s
move p at s event.Remove = record { state = absent; acts = drops Removed s.waiting }

-- whenever an entry stays present and its state or its address changed, it was updated now
abbrev pub stamp : ℕ → Entry → Stepped → Stepped
stamp at before done =
    let now = done.state.entry in
    if now.present && not (same_nud now.nud before.nud && same_mac now.mac before.mac)
    then with_entry done (record now { updated = at })
    else done

-- one step of the machine
abbrev pub step : Params → ℕ → State → Event → Stepped
step p at s e = stamp at s.entry (move p at s e)
