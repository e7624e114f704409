-- Worked steps of the machine, by computation.
use Rattle.std.proofs.Common.{◌≡◌, true, false, ℕ, [], ◌∷◌, Some, None, refl}
use Rattle.nb_base.specs.declared.mac.Mac.{Mac}
use Rattle.nb_base.specs.declared.time.OpId.{OpId}
use Rattle.nb_base.specs.declared.nud.Nud.TheVariants as nud
use Rattle.nb_base.specs.declared.params.Params.{Params}
use Rattle.nb_base.specs.Params.{default_params}
use Rattle.nud_machine.specs.declared.act.Act.TheVariants.{Wait, Drop, SolicitUnicast}
use Rattle.nud_machine.specs.declared.act.Cause.TheVariants.{QueueFull, Unresolved}
use Rattle.nud_machine.specs.declared.event.Event.{Event}
use Rattle.nud_machine.specs.declared.event.Event.TheVariants as event
use Rattle.nud_machine.specs.State.{State, made}
use Rattle.nud_machine.specs.Step.{step}

abbrev mac_a : Mac
mac_a = record { 0 = 0x00 ∷ 0x11 ∷ 0x22 ∷ 0x33 ∷ 0x44 ∷ 0x55 ∷ [] }

abbrev mac_b : Mac
mac_b = record { 0 = 0x02 ∷ 0x00 ∷ 0x00 ∷ 0x00 ∷ 0x00 ∷ 0x0b ∷ [] }

abbrev packet : ℕ → OpId
packet n = record { 0 = n }

-- a packet of one byte is sent
abbrev sends : ℕ → Event
sends n = event.Send (packet n) 257

abbrev then_step : ℕ → Event → State → State
then_step at e s = (step default_params at s e).state

-- the entry was given the address at 0, STALE
abbrev stale : State
stale = then_step 0 (event.Admin (Some mac_a) nud.Stale) (made 0)

abbrev other_arp : Event
other_arp = event.Arp mac_b true

-- at the lock time's end the address stays
arp_at_locktime : then_step 1_000 other_arp stale ≡ stale
arp_at_locktime = refl

-- past it the address is the new one
arp_past_locktime : (then_step 1_001 other_arp stale).entry ≡ record { present = true; nud = nud.Reachable; mac = Some mac_b; confirmed = Some 1_001; updated = 1_001; used = 0; probes = 0; due = Some 31_001; router = false }
arp_past_locktime = refl

-- the first packet to an unknown address waits for a solicitation
abbrev asked : State
asked = then_step 0 (sends 33) (made 0)

abbrev fired_twice : State
fired_twice = then_step 2_000 event.Timer (then_step 1_000 event.Timer asked)

-- of three probes the last goes unanswered, and what waits is dropped
unresolved_after_three_probes : (step default_params 3_000 fired_twice event.Timer).acts ≡ Drop (packet 33) Unresolved ∷ []
unresolved_after_three_probes = refl

failed_after_three_probes : (then_step 3_000 event.Timer fired_twice).entry.nud ≡ nud.Failed
failed_after_three_probes = refl

-- 800 bytes may wait: three packets of one byte do, and a fourth drops the oldest
abbrev narrow : Params
narrow = record default_params { unres_qlen_bytes = 800 }

abbrev then_narrow : ℕ → State → State
then_narrow n s = (step narrow 0 s (sends n)).state

fourth_drops_the_oldest : (step narrow 0 (then_narrow 97 (then_narrow 65 (then_narrow 33 (made 0)))) (sends 129)).acts ≡ Drop (packet 33) QueueFull ∷ Wait (packet 129) ∷ []
fourth_drops_the_oldest = refl

-- 2,000 bytes may wait: a packet of 1,500 drops two of 500
abbrev wider : Params
wider = record default_params { unres_qlen_bytes = 2_000 }

abbrev two_wait : State
two_wait = (step wider 0 (step wider 0 (made 0) (event.Send (packet 33) 756)).state (event.Send (packet 65) 756)).state

bytes_push_out_two : (step wider 0 two_wait (event.Send (packet 97) 1_756)).acts ≡ Drop (packet 33) QueueFull ∷ Drop (packet 65) QueueFull ∷ Wait (packet 97) ∷ []
bytes_push_out_two = refl

-- 1,000 bytes may wait: a packet of 1,500 waits alone, and one of a single byte drops it
abbrev tight : Params
tight = record default_params { unres_qlen_bytes = 1_000 }

large_packet_waits_alone : (step tight 0 (step tight 0 (made 0) (event.Send (packet 33) 1_756)).state (sends 65)).acts ≡ Drop (packet 33) QueueFull ∷ Wait (packet 65) ∷ []
large_packet_waits_alone = refl

-- a REACHABLE entry's timer finds the confirmation at its end, and ten milliseconds later finds it past
abbrev reachable : State
reachable = then_step 0 (event.Admin (Some mac_a) nud.Reachable) (made 0)

reachable_runs_on : (then_step 30_000 event.Timer reachable).entry.due ≡ Some 30_010
reachable_runs_on = refl

reachable_turns_stale : (then_step 30_010 event.Timer (then_step 30_000 event.Timer reachable)).entry.nud ≡ nud.Stale
reachable_turns_stale = refl

-- a packet makes a STALE entry DELAY, and its timer asks the address itself
abbrev delayed : State
delayed = then_step 0 (sends 33) stale

delay_then_unicast_probe : (step default_params 5_000 delayed event.Timer).acts ≡ SolicitUnicast mac_a ∷ []
delay_then_unicast_probe = refl

-- a confirmation in DELAY is found by the timer
confirm_in_delay : (then_step 5_000 event.Timer (then_step 4_000 event.Confirm delayed)).entry.nud ≡ nud.Reachable
confirm_in_delay = refl

-- without unicast probes DELAY fails
delay_without_unicast_probes : (step (record default_params { ucast_solicit = 0 }) 5_000 delayed event.Timer).state.entry ≡ record { present = true; nud = nud.Failed; mac = None; confirmed = None; updated = 5_000; used = 0; probes = 0; due = None; router = false }
delay_without_unicast_probes = refl
