-- A step sets no due nearer than ten milliseconds from now.
use Rattle.std.proofs.Common.{◌≡◌, ◌⊎◌, inl, ℕ, ◌+◌, ◌≤◌, Bool, Option, Some, sym, ◌∙◌, arith}
use Rattle.nb_base.specs.declared.mac.Mac.{Mac}
use Rattle.nb_queues.specs.Queue.{Packet}
use Rattle.nb_base.specs.declared.nud.Nud.{Nud}
use Rattle.nb_base.specs.declared.nud.Nud.TheVariants as nud
use Rattle.nb_base.specs.declared.params.Params.{Params}
use Rattle.nb_base.specs.Params.{InRange}
use Rattle.nud_machine.specs.declared.entry.Entry.{Entry}
use Rattle.nud_machine.specs.declared.event.Event.{Event}
use Rattle.nud_machine.specs.declared.event.Event.TheVariants as event
use Rattle.nud_machine.specs.State.{State, Stepped}
use Rattle.nud_machine.specs.Update.{Manner, Rule, rule_for, update_by, router_by}
use Rattle.nud_machine.specs.Send.{send_in}
use Rattle.nud_machine.specs.Timer.{fire_in}
use Rattle.nud_machine.specs.Step.{heard_as, arp_manner, ns_manner, na_manner, admin_manner, stamp, move, step}

-- a due that a step leaves is the old one or lies ahead
abbrev pub Rises : ℕ → Option ℕ → Option ℕ → Type 0
Rises at old new = (d : ℕ) → new ≡ Some d → (old ≡ Some d) ⊎ (at + 10 ≤ d)

fire_rises : (p : Params) (at : ℕ) (s : State) (n : Nud) → InRange p → Rises at s.entry.due (fire_in n p at s).state.entry.due
fire_rises p at s n r d h =
    let retrans = r.retrans_time.0 in
    let delay = r.delay_first_probe_time.0 in
    grind arith

send_rises : (p : Params) (at : ℕ) (packet : Packet) (s : State) (n : Nud) → InRange p → Rises at s.entry.due (send_in n p at packet s).state.entry.due
send_rises p at packet s n r d h =
    let retrans = r.retrans_time.0 in
    let delay = r.delay_first_probe_time.0 in
    grind arith

update_rises : (p : Params) (at : ℕ) (s : State) (given : Option Mac) (new : Nud) (how : Manner) (rule : Rule) → InRange p → Rises at s.entry.due (update_by rule p at s given new how).state.entry.due
update_rises p at s given new how rule r d h =
    let reachable = r.base_reachable_time.0 in
    grind arith

router_due : (router : Bool) (rule : Rule) (e : Entry) → (router_by rule router e).due ≡ e.due
router_due router rule e = grind arith

stamp_due : (at : ℕ) (before : Entry) (done : Stepped) → (stamp at before done).state.entry.due ≡ done.state.entry.due
stamp_due at before done = grind arith

confirm_due : (p : Params) (at : ℕ) (s : State) → (move p at s event.Confirm).state.entry.due ≡ s.entry.due
confirm_due p at s = grind arith

move_rises : (p : Params) (at : ℕ) (s : State) (e : Event) → InRange p → Rises at s.entry.due (move p at s e).state.entry.due
move_rises p at s (event.Send id size) r d h = send_rises p at (id, size) (record s { entry = record s.entry { used = at } }) s.entry.nud r d h
move_rises p at s (event.Arp mac solicited) r d h = update_rises p at s (Some mac) (heard_as solicited) (arp_manner p at s.entry) (rule_for s.entry (Some mac) (heard_as solicited) (arp_manner p at s.entry)) r d h
move_rises p at s (event.Ns mac) r d h = update_rises p at s (Some mac) nud.Stale ns_manner (rule_for s.entry (Some mac) nud.Stale ns_manner) r d h
move_rises p at s (event.Na mac router solicited overrides) r d h =
    let rule = rule_for s.entry mac (heard_as solicited) (na_manner overrides) in
    update_rises p at s mac (heard_as solicited) (na_manner overrides) rule r d
    (sym (router_due router rule (update_by rule p at s mac (heard_as solicited) (na_manner overrides)).state.entry) ∙ h)
move_rises p at s (event.Admin mac new) r d h = update_rises p at s mac new admin_manner (rule_for s.entry mac new admin_manner) r d h
move_rises p at s event.Confirm r d h = inl (sym (confirm_due p at s) ∙ h)
move_rises p at s event.Timer r d h = fire_rises p at s s.entry.nud r d h
move_rises p at s event.Remove r d h = cc

pub step_rises : (p : Params) (at : ℕ) (s : State) (e : Event) → InRange p → Rises at s.entry.due (step p at s e).state.entry.due
step_rises p at s e r d h = move_rises p at s e r d (sym (stamp_due at s.entry (move p at s e)) ∙ h)
