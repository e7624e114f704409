-- A step keeps what holds between steps.
use Rattle.std.proofs.Common.{◌≡◌, ◌⊎◌, inl, ℕ, Bool, true, false, is_some, [], IsSome, Option, Some, refl, ◌∙◌, arith}
use Rattle.nb_base.specs.declared.mac.Mac.{Mac}
use Rattle.nb_base.specs.declared.nud.Nud.{Nud}
use Rattle.nb_base.specs.declared.nud.Nud.TheVariants as nud
use Rattle.nb_base.specs.declared.params.Params.{Params}
use Rattle.nb_base.specs.Params.{InRange}
use Rattle.nb_base.specs.Nud.{is_valid, in_timer}
use Rattle.nud_machine.specs.declared.entry.Entry.{Entry}
use Rattle.nud_machine.specs.declared.event.Event.{Event}
use Rattle.nud_machine.specs.declared.event.Event.TheVariants as event
use Rattle.nud_machine.specs.State.{State, Stepped, IsSound, IsSoundEntry, absent, absent_entry, is_size, fits_in}
use Rattle.nud_machine.specs.Update.{Manner, Rule, IsTaken, rule_for, update, update_by, router_by, meant}
use Rattle.nud_machine.specs.Send.{send_in}
use Rattle.nud_machine.specs.Timer.{fire_in}
use Rattle.nud_machine.specs.Step.{step, move, stamp, heard_as, arp_manner, ns_manner, na_manner, admin_manner}
use Rattle.nud_machine.specs.Asked.{is_settable, NamesSettable, BringsSized}
use Rattle.nud_machine.specs.Laws.{IsMet, HasNothingLeft}
use Rattle.nb_queues.specs.Queue.{Packet}
use Rattle.nud_machine.proofs.Room.{joined_room}
use Rattle.nud_machine.proofs.Leaving.{waits_or, waits_from}
use Rattle.std.specs.List.{list_all}

-- what holds between steps, in a form that doesn't go by the state
record Keeps (p : Params) (s : State) : Type 0 where
  address : is_some s.entry.mac ≡ is_valid s.entry.nud
  timer : is_some s.entry.due ≡ in_timer s.entry.nud
  confirmed : s.entry.nud ≡ nud.Reachable → IsSome s.entry.confirmed
  absent : s.entry.present ≡ false → s.entry ≡ absent_entry
  waits : (s.waiting ≡ []) ⊎ (s.entry.nud ≡ nud.Incomplete)
  sizes : list_all (λ packet. is_size packet.1) s.waiting ≡ true
  bytes : fits_in p.unres_qlen_bytes s.waiting ≡ true

kept : (p : Params) (s : State) → IsSound p s → Keeps p s
kept p s h = record {
  address = h.entry.address;
  timer = h.entry.timer;
  confirmed = h.entry.confirmed;
  absent = h.entry.absent;
  waits = waits_or s.entry.nud s.waiting h.waits;
  sizes = h.room.sizes;
  bytes = h.room.bytes;
}

sound : (p : Params) (s : State) → Keeps p s → IsSound p s
sound p s h = record {
  entry = record { address = h.address; timer = h.timer; confirmed = h.confirmed; absent = h.absent };
  waits = waits_from s.entry.nud s.waiting h.waits;
  room = record { sizes = h.sizes; bytes = h.bytes };
}

fire_keeps : (p : Params) (at : ℕ) (s : State) (n : Nud) → s.entry.nud ≡ n → InRange p → s.entry.present ≡ true → Keeps p s → Keeps p (fire_in n p at s).state
fire_keeps p at s n e r i h = record {
  address = grind arith;
  timer = grind arith;
  confirmed = grind arith;
  absent = λ q. grind arith;
  waits = grind arith;
  sizes = grind arith;
  bytes = grind arith;
}

update_by_keeps : (p : Params) (at : ℕ) (s : State) (given : Option Mac) (new : Nud) (how : Manner) (rule : Rule) → is_settable new ≡ true → (rule ≡ IsTaken → is_some (meant given s.entry.mac) ≡ true) → s.entry.present ≡ true → Keeps p s → Keeps p (update_by rule p at s given new how).state
update_by_keeps p at s given new how rule c t i h = record {
  address = grind arith;
  timer = grind arith;
  confirmed = grind arith;
  absent = λ q. grind arith;
  waits = grind arith;
  sizes = grind arith;
  bytes = grind arith;
}

pub taken_known : (e : Entry) (given : Option Mac) (new : Nud) (how : Manner) → is_some e.mac ≡ is_valid e.nud → rule_for e given new how ≡ IsTaken → is_some (meant given e.mac) ≡ true
taken_known e given new how k h = grind arith

update_keeps : (p : Params) (at : ℕ) (s : State) (given : Option Mac) (new : Nud) (how : Manner) → is_settable new ≡ true → s.entry.present ≡ true → Keeps p s → Keeps p (update p at s given new how).state
update_keeps p at s given new how c i h = update_by_keeps p at s given new how (rule_for s.entry given new how) c (taken_known s.entry given new how h.address) i h

-- what waits behind a packet
send_sizes : (p : Params) (at : ℕ) (packet : Packet) (s : State) (n : Nud) → is_size packet.1 ≡ true → Keeps p s → list_all (λ waits. is_size waits.1) (send_in n p at packet s).state.waiting ≡ true
send_sizes p at packet s nud.Incomplete z h = (joined_room p packet s.waiting z (record { sizes = h.sizes; bytes = h.bytes })).sizes
send_sizes p at packet s nud.None z h = grind arith
send_sizes p at packet s nud.Failed z h = grind arith
send_sizes p at packet s nud.Stale z h = h.sizes
send_sizes p at packet s nud.Permanent z h = h.sizes
send_sizes p at packet s nud.Noarp z h = h.sizes
send_sizes p at packet s nud.Reachable z h = h.sizes
send_sizes p at packet s nud.Delay z h = h.sizes
send_sizes p at packet s nud.Probe z h = h.sizes

send_bytes : (p : Params) (at : ℕ) (packet : Packet) (s : State) (n : Nud) → is_size packet.1 ≡ true → Keeps p s → fits_in p.unres_qlen_bytes (send_in n p at packet s).state.waiting ≡ true
send_bytes p at packet s nud.Incomplete z h = (joined_room p packet s.waiting z (record { sizes = h.sizes; bytes = h.bytes })).bytes
send_bytes p at packet s nud.None z h = grind arith
send_bytes p at packet s nud.Failed z h = grind arith
send_bytes p at packet s nud.Stale z h = h.bytes
send_bytes p at packet s nud.Permanent z h = h.bytes
send_bytes p at packet s nud.Noarp z h = h.bytes
send_bytes p at packet s nud.Reachable z h = h.bytes
send_bytes p at packet s nud.Delay z h = h.bytes
send_bytes p at packet s nud.Probe z h = h.bytes

send_keeps : (p : Params) (at : ℕ) (packet : Packet) (s : State) (n : Nud) → s.entry.nud ≡ n → InRange p → is_size packet.1 ≡ true → s.entry.present ≡ true → Keeps p s → Keeps p (send_in n p at packet s).state
send_keeps p at packet s n e r z i h = record {
  address = grind arith;
  timer = grind arith;
  confirmed = grind arith;
  absent = λ q. grind arith;
  waits = grind arith;
  sizes = send_sizes p at packet s n z h;
  bytes = send_bytes p at packet s n z h;
}

marked_keeps : (p : Params) (router : Bool) (rule : Rule) (s : State) → s.entry.present ≡ true → Keeps p s → Keeps p (record s { entry = router_by rule router s.entry })
marked_keeps p router rule s i h = record {
  address = grind arith;
  timer = grind arith;
  confirmed = grind arith;
  absent = λ q. grind arith;
  waits = grind arith;
  sizes = h.sizes;
  bytes = h.bytes;
}

stamp_keeps : (p : Params) (at : ℕ) (before : Entry) (done : Stepped) → Keeps p done.state → Keeps p (stamp at before done).state
stamp_keeps p at before done h = record {
  address = grind arith;
  timer = grind arith;
  confirmed = grind arith;
  absent = λ q. grind arith;
  waits = grind arith;
  sizes = grind arith;
  bytes = grind arith;
}

abbrev used_at : ℕ → State → State
used_at at s = record s { entry = record s.entry { used = at } }

used_keeps : (p : Params) (at : ℕ) (s : State) → s.entry.present ≡ true → Keeps p s → Keeps p (used_at at s)
used_keeps p at s i h = record {
  address = h.address;
  timer = h.timer;
  confirmed = h.confirmed;
  absent = λ q. cc;
  waits = h.waits;
  sizes = h.sizes;
  bytes = h.bytes;
}

confirm_keeps : (p : Params) (at : ℕ) (s : State) → s.entry.present ≡ true → Keeps p s → Keeps p (move p at s event.Confirm).state
confirm_keeps p at s i h = record {
  address = grind arith;
  timer = grind arith;
  confirmed = grind arith;
  absent = λ q. grind arith;
  waits = grind arith;
  sizes = grind arith;
  bytes = grind arith;
}

absent_keeps : (p : Params) → Keeps p absent
absent_keeps p = record {
  address = refl;
  timer = refl;
  confirmed = λ e. cc;
  absent = λ _. refl;
  waits = inl refl;
  sizes = refl;
  bytes = grind arith;
}

heard_settable : (solicited : Bool) → is_settable (heard_as solicited) ≡ true
heard_settable true = refl
heard_settable false = refl

update_by_present : (p : Params) (at : ℕ) (s : State) (given : Option Mac) (new : Nud) (how : Manner) (rule : Rule) → (update_by rule p at s given new how).state.entry.present ≡ s.entry.present
update_by_present p at s given new how rule = grind arith

move_keeps : (p : Params) (at : ℕ) (s : State) (e : Event) → InRange p → NamesSettable e → BringsSized e → s.entry.present ≡ true → Keeps p s → Keeps p (move p at s e).state
move_keeps p at s (event.Send id size) r c z i h = send_keeps p at (id, size) (used_at at s) s.entry.nud refl r z i (used_keeps p at s i h)
move_keeps p at s (event.Arp mac solicited) r c z i h = update_keeps p at s (Some mac) (heard_as solicited) (arp_manner p at s.entry) (heard_settable solicited) i h
move_keeps p at s (event.Ns mac) r c z i h = update_keeps p at s (Some mac) nud.Stale ns_manner refl i h
move_keeps p at s (event.Na mac router solicited overrides) r c z i h =
    let new = heard_as solicited in
    let how = na_manner overrides in
    let rule = rule_for s.entry mac new how in
    marked_keeps p router rule (update p at s mac new how).state (update_by_present p at s mac new how rule ∙ i) (update_keeps p at s mac new how (heard_settable solicited) i h)
move_keeps p at s (event.Admin mac new) r c z i h = update_keeps p at s mac new admin_manner c i h
move_keeps p at s event.Confirm r c z i h = confirm_keeps p at s i h
move_keeps p at s event.Timer r c z i h = fire_keeps p at s s.entry.nud refl r i h
move_keeps p at s event.Remove r c z i h = absent_keeps p

pub step_sound : (p : Params) (at : ℕ) (s : State) (e : Event) → InRange p → NamesSettable e → BringsSized e → s.entry.present ≡ true → IsSound p s → IsSound p (step p at s e).state
step_sound p at s e r c z i h = sound p (step p at s e).state (stamp_keeps p at s.entry (move p at s e) (move_keeps p at s e r c z i (kept p s h)))

pub step_keeps_sound : (p : Params) (at : ℕ) (s : State) (e : Event) → IsMet p at s e → IsSound p (step p at s e).state
step_keeps_sound p at s e m = step_sound p at s e m.params m.settable m.sized m.present m.sound

-- an entry in FAILED has neither address nor due
failed_has_nothing : (s : State) → IsSoundEntry s.entry → s.entry.nud ≡ nud.Failed → HasNothingLeft s
failed_has_nothing s h f = record { address = grind (arith, h.address); due = grind (arith, h.timer) }

pub failed_entry_has_nothing_left : (p : Params) (at : ℕ) (s : State) (e : Event) → IsMet p at s e → (step p at s e).state.entry.nud ≡ nud.Failed → HasNothingLeft (step p at s e).state
failed_entry_has_nothing_left p at s e m f = failed_has_nothing (step p at s e).state (step_keeps_sound p at s e m).entry f
