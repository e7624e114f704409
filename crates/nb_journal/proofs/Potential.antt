-- Each timer lowers its entry's potential, and no potential is large.
use Rattle.std.proofs.Common.{◌≡◌, ℕ, ◌+◌, ◌≤◌, Bool, true, false, ◌||◌, ◌&&◌, not, is_some, if◌then◌else◌, List, Option, Some, refl, sym, ◌∙◌, ap, arith}
use Rattle.std.proofs.lemmas.Bool.{and_parts}
use Rattle.nb_base.specs.declared.mac.Mac.{Mac}
use Rattle.nb_base.specs.declared.key.Key.{Key}
use Rattle.nb_queues.specs.Queue.{Packet}
use Rattle.nb_base.specs.declared.nud.Nud.{Nud}
use Rattle.nb_base.specs.declared.nud.Nud.TheVariants as nud
use Rattle.nb_base.specs.declared.params.Params.{Params}
use Rattle.nb_base.specs.declared.line.Line.{Line}
use Rattle.nb_base.specs.Params.{InRange}
use Rattle.nb_base.specs.Nud.{in_timer}
use Rattle.nud_machine.specs.declared.entry.Entry.{Entry}
use Rattle.nud_machine.specs.declared.event.Event.{Event}
use Rattle.nud_machine.specs.declared.event.Event.TheVariants as event
use Rattle.nud_machine.specs.State.{State, Stepped, made}
use Rattle.nud_machine.specs.Update.{Manner, Rule, rule_for, update_by, router_by}
use Rattle.nud_machine.specs.Send.{send_in}
use Rattle.nud_machine.specs.Timer.{fire_in}
use Rattle.nud_machine.specs.Step.{heard_as, arp_manner, ns_manner, na_manner, admin_manner, stamp, move, step}
use Rattle.nb_journal.specs.Fold.{Effect, Passes, Refuses, Brings, effect, meet, state_of}
use Rattle.nb_journal.specs.Accounts.{timers_left, potential}
use Rattle.nb_journal.proofs.Lines.{by_last}
use Rattle.nb_journal.proofs.Folds.{state_of-nil, state_of-snoc}
use Rattle.nb_journal.proofs.Dues.{change-either}

-- ---- a due is there only in a present entry whose state has a timer

abbrev pub is_timed : Entry → Bool
is_timed e = not (is_some e.due) || (e.present && in_timer e.nud)

send_timed : (p : Params) (at : ℕ) (packet : Packet) (s : State) (n : Nud) → s.entry.nud ≡ n → s.entry.present ≡ true → is_timed s.entry ≡ true → is_timed (send_in n p at packet s).state.entry ≡ true
send_timed p at packet s n e i t = grind arith

fire_timed : (p : Params) (at : ℕ) (s : State) (n : Nud) → s.entry.nud ≡ n → s.entry.present ≡ true → is_timed s.entry ≡ true → is_timed (fire_in n p at s).state.entry ≡ true
fire_timed p at s n e i t = grind arith

update_timed : (p : Params) (at : ℕ) (s : State) (given : Option Mac) (new : Nud) (how : Manner) (rule : Rule) → s.entry.present ≡ true → is_timed s.entry ≡ true → is_timed (update_by rule p at s given new how).state.entry ≡ true
update_timed p at s given new how rule i t = grind arith

router_timed : (router : Bool) (rule : Rule) (e : Entry) → is_timed (router_by rule router e) ≡ is_timed e
router_timed router rule e = grind arith

stamp_timed : (at : ℕ) (before : Entry) (done : Stepped) → is_timed (stamp at before done).state.entry ≡ is_timed done.state.entry
stamp_timed at before done = grind arith

confirm_timed : (p : Params) (at : ℕ) (s : State) → is_timed (move p at s event.Confirm).state.entry ≡ is_timed s.entry
confirm_timed p at s = grind arith

move_timed : (p : Params) (at : ℕ) (s : State) (e : Event) → s.entry.present ≡ true → is_timed s.entry ≡ true → is_timed (move p at s e).state.entry ≡ true
move_timed p at s (event.Send id size) i t = send_timed p at (id, size) (record s { entry = record s.entry { used = at } }) s.entry.nud refl i t
move_timed p at s (event.Arp mac solicited) i t = update_timed p at s (Some mac) (heard_as solicited) (arp_manner p at s.entry) (rule_for s.entry (Some mac) (heard_as solicited) (arp_manner p at s.entry)) i t
move_timed p at s (event.Ns mac) i t = update_timed p at s (Some mac) nud.Stale ns_manner (rule_for s.entry (Some mac) nud.Stale ns_manner) i t
move_timed p at s (event.Na mac router solicited overrides) i t =
    let rule = rule_for s.entry mac (heard_as solicited) (na_manner overrides) in
    router_timed router rule (update_by rule p at s mac (heard_as solicited) (na_manner overrides)).state.entry ∙ update_timed p at s mac (heard_as solicited) (na_manner overrides) rule i t
move_timed p at s (event.Admin mac new) i t = update_timed p at s mac new admin_manner (rule_for s.entry mac new admin_manner) i t
move_timed p at s event.Confirm i t = confirm_timed p at s ∙ t
move_timed p at s event.Timer i t = fire_timed p at s s.entry.nud refl i t
move_timed p at s event.Remove i t = refl

step_timed : (p : Params) (at : ℕ) (s : State) (e : Event) → s.entry.present ≡ true → is_timed s.entry ≡ true → is_timed (step p at s e).state.entry ≡ true
step_timed p at s e i t = stamp_timed at s.entry (move p at s e) ∙ move_timed p at s e i t

meet_timed : (p : Params) (l : Line) (s : State) (e : Effect) → is_timed s.entry ≡ true → is_timed (meet p l s e).state.entry ≡ true
meet_timed p l s Passes t = t
meet_timed p l s (Refuses x) t = t
meet_timed p l s (Brings e) t = by_present s.entry.present refl where
  by_present : (b : Bool) → s.entry.present ≡ b → is_timed (step p l.at (if b then s else made l.at) e).state.entry ≡ true
  by_present true i = step_timed p l.at s e i t
  by_present false i = step_timed p l.at (made l.at) e refl refl

pub state_of-timed : (p : Params) (lines : List Line) (key : Key) → is_timed (state_of p lines key).entry ≡ true
state_of-timed p lines key = by_last (λ (xs : List Line). is_timed (state_of p xs key).entry ≡ true) (rw (state_of-nil p key) refl)
    (λ xs x h. rw (state_of-snoc p xs x key) (change-either (λ (s : State). is_timed s.entry ≡ true) p x key (state_of p xs key) h (meet_timed p x (state_of p xs key) (effect p x (state_of p xs key) x.op) h)))
    lines

-- an entry with a due is present, in a state with a timer
pub due-timed : (e : Entry) (d : ℕ) → is_timed e ≡ true → e.due ≡ Some d → (e.present ≡ true) × (in_timer e.nud ≡ true)
due-timed e d t h = and_parts e.present (in_timer e.nud) (sym (ap (λ (due : Option ℕ). not (is_some due) || (e.present && in_timer e.nud)) h) ∙ t)

-- ---- potentials

pub potential-most : (p : Params) (e : Entry) → potential p e ≤ p.mcast_solicit + p.ucast_solicit + 5
potential-most p e = by_nud e.nud refl where
  by_nud : (n : Nud) → e.nud ≡ n → (if e.present then timers_left n p e + 1 else 0) ≤ p.mcast_solicit + p.ucast_solicit + 5
  by_nud nud.Incomplete i = grind arith
  by_nud nud.Probe i = grind arith
  by_nud nud.Delay i = grind arith
  by_nud nud.Reachable i = grind arith
  by_nud _ i = grind arith

stamp_potential : (p : Params) (at : ℕ) (before : Entry) (done : Stepped) → potential p (stamp at before done).state.entry ≡ potential p done.state.entry
stamp_potential p at before done = grind arith

fire_lowers : (p : Params) (at : ℕ) (s : State) (n : Nud) → InRange p → s.entry.nud ≡ n → in_timer n ≡ true → s.entry.present ≡ true → s.entry.due ≡ Some at → potential p (fire_in n p at s).state.entry + 1 ≤ potential p s.entry
fire_lowers p at s nud.Incomplete r e t i d = grind arith
fire_lowers p at s nud.Probe r e t i d = grind arith
fire_lowers p at s nud.Delay r e t i d = grind arith
fire_lowers p at s nud.Reachable r e t i d = let positive = r.base_reachable_time.0 in grind arith
fire_lowers p at s nud.None r e t i d = cc
fire_lowers p at s nud.Stale r e t i d = cc
fire_lowers p at s nud.Failed r e t i d = cc
fire_lowers p at s nud.Noarp r e t i d = cc
fire_lowers p at s nud.Permanent r e t i d = cc

-- a timer at its due lowers the potential
pub timer-lowers : (p : Params) (at : ℕ) (s : State) → InRange p → is_timed s.entry ≡ true → s.entry.due ≡ Some at → potential p (step p at s event.Timer).state.entry + 1 ≤ potential p s.entry
timer-lowers p at s r t d =
    let there = due-timed s.entry at t d in
    rw (stamp_potential p at s.entry (move p at s event.Timer)) (fire_lowers p at s s.entry.nud r refl there.1 there.0 d)
