-- The dues and the other moments that a step leaves.
use Rattle.std.proofs.Common.{◌≡◌, ◌≢◌, ◌≤◌, ◌⊎◌, inl, inr, ℕ, ◌+◌, Bool, true, is_some, Option, Some, sym, ◌∙◌, arith}
use Rattle.nb_base.specs.declared.mac.Mac.{Mac}
use Rattle.nb_queues.specs.Queue.{Packet}
use Rattle.nb_base.specs.declared.nud.Nud.{Nud}
use Rattle.nb_base.specs.declared.nud.Nud.TheVariants as nud
use Rattle.nb_base.specs.declared.params.Params.{Params}
use Rattle.nb_base.specs.Params.{InRange}
use Rattle.nb_base.specs.Nud.{in_timer}
use Rattle.nud_machine.specs.declared.entry.Entry.{Entry}
use Rattle.nud_machine.specs.declared.event.Event.{Event}
use Rattle.nud_machine.specs.declared.event.Event.TheVariants as event
use Rattle.nud_machine.specs.State.{State, Stepped}
use Rattle.nud_machine.specs.Update.{Manner, Rule, rule_for, update_by, router_by}
use Rattle.nud_machine.specs.Send.{send_in}
use Rattle.nud_machine.specs.Timer.{fire_in}
use Rattle.nud_machine.specs.Step.{step, move, stamp, heard_as, arp_manner, ns_manner, na_manner, admin_manner}
use Rattle.nud_machine.specs.Asked.{greatest, IsInRun}
use Rattle.nud_machine.specs.Laws.{IsMet}

-- a timer that fires in a state with a timer sets each due ahead
fire_ahead : (p : Params) (at : ℕ) (s : State) (n : Nud) → InRange p → in_timer n ≡ true → (due : ℕ) → (fire_in n p at s).state.entry.due ≡ Some due → at + 10 ≤ due
fire_ahead p at s n r i due h = grind arith

fire_rises : (p : Params) (at : ℕ) (s : State) (n : Nud) → InRange p → (due : ℕ) → (fire_in n p at s).state.entry.due ≡ Some due → (s.entry.due ≡ Some due) ⊎ (at + 10 ≤ due)
fire_rises p at s n r due h = grind arith

update_by_rises : (p : Params) (at : ℕ) (s : State) (given : Option Mac) (new : Nud) (how : Manner) (rule : Rule) → InRange p → (due : ℕ) → (update_by rule p at s given new how).state.entry.due ≡ Some due → (s.entry.due ≡ Some due) ⊎ (at + 10 ≤ due)
update_by_rises p at s given new how rule r due h = grind arith

send_rises : (p : Params) (at : ℕ) (id : Packet) (s : State) (n : Nud) → InRange p → (due : ℕ) → (send_in n p at id s).state.entry.due ≡ Some due → (s.entry.due ≡ Some due) ⊎ (at + 10 ≤ due)
send_rises p at id s n r due h = grind arith

router_by_due : (rule : Rule) (router : Bool) (e : Entry) → (router_by rule router e).due ≡ e.due
router_by_due rule router e = grind arith

stamp_due : (at : ℕ) (before : Entry) (done : Stepped) → (stamp at before done).state.entry.due ≡ done.state.entry.due
stamp_due at before done = grind arith

move_rises : (p : Params) (at : ℕ) (s : State) (e : Event) → InRange p → (due : ℕ) → (move p at s e).state.entry.due ≡ Some due → (s.entry.due ≡ Some due) ⊎ (at + 10 ≤ due)
move_rises p at s (event.Send id size) r due h = send_rises p at (id, size) (record s { entry = record s.entry { used = at } }) s.entry.nud r due h
move_rises p at s (event.Arp mac solicited) r due h = update_by_rises p at s (Some mac) (heard_as solicited) (arp_manner p at s.entry) (rule_for s.entry (Some mac) (heard_as solicited) (arp_manner p at s.entry)) r due h
move_rises p at s (event.Ns mac) r due h = update_by_rises p at s (Some mac) nud.Stale ns_manner (rule_for s.entry (Some mac) nud.Stale ns_manner) r due h
move_rises p at s (event.Na mac router solicited overrides) r due h =
    let new = heard_as solicited in
    let how = na_manner overrides in
    let rule = rule_for s.entry mac new how in
    update_by_rises p at s mac new how rule r due (sym (router_by_due rule router (update_by rule p at s mac new how).state.entry) ∙ h)
move_rises p at s (event.Admin mac new) r due h = update_by_rises p at s mac new admin_manner (rule_for s.entry mac new admin_manner) r due h
move_rises p at s event.Confirm r due h = grind arith
move_rises p at s event.Timer r due h = fire_rises p at s s.entry.nud r due h
move_rises p at s event.Remove r due h = cc

new_ahead : {A B : Type 0} → A ⊎ B → (A → ⊥) → B
new_ahead (inl a) refuses = absurd (refuses a)
new_ahead (inr b) refuses = b

pub new_due_is_ahead : (p : Params) (at : ℕ) (s : State) (e : Event) → InRange p → (due : ℕ) → (step p at s e).state.entry.due ≡ Some due → s.entry.due ≢ Some due → at + 10 ≤ due
new_due_is_ahead p at s e r due h new = new_ahead (move_rises p at s e r due (sym (stamp_due at s.entry (move p at s e)) ∙ h)) new

-- the state of an entry whose timer fires has a timer
runs_timer : (e : Entry) (at : ℕ) → is_some e.due ≡ in_timer e.nud → e.due ≡ Some at → in_timer e.nud ≡ true
runs_timer e at t d =
    let runs = rw d at t in
    sym runs

pub timer_moves_the_due : (p : Params) (at : ℕ) (s : State) → IsMet p at s event.Timer → (due : ℕ) → (step p at s event.Timer).state.entry.due ≡ Some due → at + 10 ≤ due
timer_moves_the_due p at s m due h =
    fire_ahead p at s s.entry.nud m.params (runs_timer s.entry at m.sound.entry.timer m.due) due (sym (stamp_due at s.entry (move p at s event.Timer)) ∙ h)

fire_in_run : (p : Params) (at : ℕ) (s : State) (n : Nud) → at ≤ greatest → IsInRun s.entry → IsInRun (fire_in n p at s).state.entry
fire_in_run p at s n small h = record { confirmed = grind arith; updated = grind arith; used = grind arith }

update_by_in_run : (p : Params) (at : ℕ) (s : State) (given : Option Mac) (new : Nud) (how : Manner) (rule : Rule) → at ≤ greatest → IsInRun s.entry → IsInRun (update_by rule p at s given new how).state.entry
update_by_in_run p at s given new how rule small h = record { confirmed = grind arith; updated = grind arith; used = grind arith }

send_in_run : (p : Params) (at : ℕ) (id : Packet) (s : State) (n : Nud) → at ≤ greatest → IsInRun s.entry → IsInRun (send_in n p at id s).state.entry
send_in_run p at id s n small h = record { confirmed = grind arith; updated = grind arith; used = grind arith }

router_by_in_run : (rule : Rule) (router : Bool) (e : Entry) → IsInRun e → IsInRun (router_by rule router e)
router_by_in_run rule router e h = record { confirmed = grind arith; updated = grind arith; used = grind arith }

stamp_in_run : (at : ℕ) (before : Entry) (done : Stepped) → at ≤ greatest → IsInRun done.state.entry → IsInRun (stamp at before done).state.entry
stamp_in_run at before done small h = record { confirmed = grind arith; updated = grind arith; used = grind arith }

confirm_in_run : (p : Params) (at : ℕ) (s : State) → at ≤ greatest → IsInRun s.entry → IsInRun (move p at s event.Confirm).state.entry
confirm_in_run p at s small h = record { confirmed = grind arith; updated = grind arith; used = grind arith }

move_in_run : (p : Params) (at : ℕ) (s : State) (e : Event) → at ≤ greatest → IsInRun s.entry → IsInRun (move p at s e).state.entry
move_in_run p at s (event.Send id size) small h = send_in_run p at (id, size) (record s { entry = record s.entry { used = at } }) s.entry.nud small (record { confirmed = h.confirmed; updated = h.updated; used = small })
move_in_run p at s (event.Arp mac solicited) small h = update_by_in_run p at s (Some mac) (heard_as solicited) (arp_manner p at s.entry) (rule_for s.entry (Some mac) (heard_as solicited) (arp_manner p at s.entry)) small h
move_in_run p at s (event.Ns mac) small h = update_by_in_run p at s (Some mac) nud.Stale ns_manner (rule_for s.entry (Some mac) nud.Stale ns_manner) small h
move_in_run p at s (event.Na mac router solicited overrides) small h =
    let new = heard_as solicited in
    let how = na_manner overrides in
    let rule = rule_for s.entry mac new how in
    router_by_in_run rule router (update_by rule p at s mac new how).state.entry (update_by_in_run p at s mac new how rule small h)
move_in_run p at s (event.Admin mac new) small h = update_by_in_run p at s mac new admin_manner (rule_for s.entry mac new admin_manner) small h
move_in_run p at s event.Confirm small h = confirm_in_run p at s small h
move_in_run p at s event.Timer small h = fire_in_run p at s s.entry.nud small h
move_in_run p at s event.Remove small h = record { confirmed = tt; updated = omega arith; used = omega arith }

pub step_stays_in_run : (p : Params) (at : ℕ) (s : State) (e : Event) → at ≤ greatest → IsInRun s.entry → IsInRun (step p at s e).state.entry
step_stays_in_run p at s e small h = stamp_in_run at s.entry (move p at s e) small (move_in_run p at s e small h)
