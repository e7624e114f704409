-- Packets leave a key's queue in the order of their sends.
use Rattle.std.proofs.Common.{◌≡◌, ℕ, ◌+◌, Bool, true, false, ◌||◌, ◌&&◌, not, ◌==◌, nat_le, is_some, if◌then◌else◌, List, [], ◌∷◌, ◌++◌, Option, Some, None, refl, sym, ◌∙◌, ap, subst, arith, append_assoc, append-nil}
use Rattle.std.proofs.lemmas.Bool.{false≢true, and_parts}
use Rattle.std.proofs.lemmas.Grind.{flat_map-append}
use Rattle.nb_base.specs.declared.mac.Mac.{Mac}
use Rattle.nb_base.specs.declared.key.Key.{Key}
use Rattle.nb_base.specs.declared.time.OpId.{OpId}
use Rattle.nb_base.specs.declared.nud.Nud.{Nud}
use Rattle.nb_base.specs.declared.nud.Nud.TheVariants as nud
use Rattle.nb_base.specs.declared.params.Params.{Params}
use Rattle.nb_base.specs.declared.op.Op.{Op}
use Rattle.nb_base.specs.declared.op.Op.TheVariants as op
use Rattle.nb_base.specs.declared.line.Line.{Line}
use Rattle.nb_base.specs.Nud.{is_valid}
use Rattle.nud_machine.specs.declared.entry.Entry.{Entry}
use Rattle.nud_machine.specs.declared.act.Act.{Act}
use Rattle.nud_machine.specs.declared.act.Act.TheVariants.{SolicitGroup}
use Rattle.nb_queues.specs.Queue.{Packet}
use Rattle.nud_machine.specs.Laws.{ids_of}
use Rattle.nud_machine.proofs.Order.{joins_line}
use Rattle.nud_machine.specs.declared.act.Cause.{Cause}
use Rattle.nud_machine.specs.declared.act.Cause.TheVariants.{Unresolved, Removed}
use Rattle.nud_machine.specs.declared.event.Event.{Event}
use Rattle.nud_machine.specs.declared.event.Event.TheVariants as event
use Rattle.nud_machine.specs.State.{State, Stepped, made, stays, transmits, drops}
use Rattle.nud_machine.specs.Update.{Manner, Rule, SetByHand, NoAddress, MayNotReplace, NothingNew, IsTaken, rule_for, update_by, doubts, takes, meant, router_by}
use Rattle.nud_machine.specs.Send.{begins, sends, send_in}
use Rattle.nud_machine.specs.Timer.{is_within, probes, unicast, ends_reachable, ends_delay, fire_in}
use Rattle.nud_machine.specs.Step.{heard_as, arp_manner, ns_manner, na_manner, admin_manner, with_entry, stamp, move, step}
use Rattle.nb_journal.specs.Keys.{is_key, key_of}
use Rattle.nb_journal.specs.Fold.{Effect, Passes, Refuses, Brings, effect, id_of, meet, turn_away, change_by, change, state_of, acts_of, is_present}
use Rattle.nb_journal.specs.Lawful.{EachLine, base_of, making, left_of_seen}
use Rattle.nb_journal.specs.Laws.{PacketsLeaveInOrder}
use Rattle.nb_journal.specs.Accounts.{ended, sent_by, sends_to, ended_of}
use Rattle.nb_journal.proofs.Lines.{by_last, each-last, fold_lines-snoc}
use Rattle.nb_journal.proofs.Folds.{state_of-nil, state_of-snoc}
use Rattle.nb_journal.proofs.Dues.{change-either}
use Rattle.nb_journal.proofs.Grows.{is_key-one}
use Rattle.nb_journal.proofs.Fits.{Fits, lawful-runs}
use Rattle.nb_journal.proofs.Orders.{is_remove, step_present, making-is, collects_keep}

-- ---- what holds of each state

abbrev pub is_empty : List Packet → Bool
is_empty [] = true
is_empty (packet ∷ packets) = false

abbrev pub is_incomplete : Nud → Bool
is_incomplete nud.Incomplete = true
is_incomplete _ = false

-- a valid entry has an address, and packets wait only in INCOMPLETE
abbrev pub is_kept : State → Bool
is_kept s = (not (is_valid s.entry.nud) || is_some s.entry.mac) && (is_incomplete s.entry.nud || is_empty s.waiting)

send_kept : (p : Params) (at : ℕ) (packet : Packet) (s : State) (n : Nud) → s.entry.nud ≡ n → is_kept s ≡ true → is_kept (send_in n p at packet s).state ≡ true
send_kept p at packet s n e k = grind arith

fire_kept : (p : Params) (at : ℕ) (s : State) (n : Nud) → s.entry.nud ≡ n → is_kept s ≡ true → is_kept (fire_in n p at s).state ≡ true
fire_kept p at s n e k = grind arith

doubts_kept : (s : State) (how : Manner) → is_kept s ≡ true → is_kept (doubts s how).state ≡ true
doubts_kept s how k = grind arith

takes_kept : (p : Params) (at : ℕ) (s : State) (mac : Option Mac) (new : Nud) → is_some mac ≡ true → is_kept s ≡ true → is_kept (takes p at s mac new).state ≡ true
takes_kept p at s mac new some k = grind arith

has_address : (s : State) → is_kept s ≡ true → is_valid s.entry.nud ≡ true → is_some s.entry.mac ≡ true
has_address s k on = ap (λ (b : Bool). not b || is_some s.entry.mac) (sym on) ∙ (and_parts (not (is_valid s.entry.nud) || is_some s.entry.mac) (is_incomplete s.entry.nud || is_empty s.waiting) k).0

address_meant : (e : Entry) (given : Option Mac) (new : Nud) (how : Manner) → rule_for e given new how ≡ IsTaken → is_valid e.nud ≡ false → is_some (meant given e.mac) ≡ true
address_meant e given new how rule off = grind arith

own_meant : (given own : Option Mac) → is_some own ≡ true → is_some (meant given own) ≡ true
own_meant None own e = e
own_meant (Some mac) own e = refl

meant_some : (s : State) (given : Option Mac) (new : Nud) (how : Manner) → rule_for s.entry given new how ≡ IsTaken → is_kept s ≡ true → is_some (meant given s.entry.mac) ≡ true
meant_some s given new how rule k = by_test (is_valid s.entry.nud) refl where
  by_test : (b : Bool) → is_valid s.entry.nud ≡ b → is_some (meant given s.entry.mac) ≡ true
  by_test true e = own_meant given s.entry.mac (has_address s k e)
  by_test false e = address_meant s.entry given new how rule e

rule_kept : (p : Params) (at : ℕ) (s : State) (given : Option Mac) (new : Nud) (how : Manner) (rule : Rule) → rule_for s.entry given new how ≡ rule → is_kept s ≡ true → is_kept (update_by rule p at s given new how).state ≡ true
rule_kept p at s given new how SetByHand e k = k
rule_kept p at s given new how NoAddress e k = k
rule_kept p at s given new how MayNotReplace e k = doubts_kept s how k
rule_kept p at s given new how NothingNew e k = k
rule_kept p at s given new how IsTaken e k = takes_kept p at s (meant given s.entry.mac) new (meant_some s given new how e k) k

update_kept : (p : Params) (at : ℕ) (s : State) (given : Option Mac) (new : Nud) (how : Manner) → is_kept s ≡ true → is_kept (update_by (rule_for s.entry given new how) p at s given new how).state ≡ true
update_kept p at s given new how k = rule_kept p at s given new how (rule_for s.entry given new how) refl k

router_kept : (router : Bool) (rule : Rule) (t : Stepped) → is_kept (with_entry t (router_by rule router t.state.entry)).state ≡ is_kept t.state
router_kept router rule t = grind arith

stamp_kept : (at : ℕ) (before : Entry) (t : Stepped) → is_kept (stamp at before t).state ≡ is_kept t.state
stamp_kept at before t = grind arith

confirm_kept : (p : Params) (at : ℕ) (s : State) → is_kept (move p at s event.Confirm).state ≡ is_kept s
confirm_kept p at s = grind arith

move_kept : (p : Params) (at : ℕ) (s : State) (e : Event) → is_kept s ≡ true → is_kept (move p at s e).state ≡ true
move_kept p at s (event.Send id size) k = send_kept p at (id, size) (record s { entry = record s.entry { used = at } }) s.entry.nud refl k
move_kept p at s (event.Arp mac solicited) k = update_kept p at s (Some mac) (heard_as solicited) (arp_manner p at s.entry) k
move_kept p at s (event.Ns mac) k = update_kept p at s (Some mac) nud.Stale ns_manner k
move_kept p at s (event.Na mac router solicited overrides) k =
    let rule = rule_for s.entry mac (heard_as solicited) (na_manner overrides) in
    router_kept router rule (update_by rule p at s mac (heard_as solicited) (na_manner overrides)) ∙ update_kept p at s mac (heard_as solicited) (na_manner overrides) k
move_kept p at s (event.Admin mac new) k = update_kept p at s mac new admin_manner k
move_kept p at s event.Confirm k = confirm_kept p at s ∙ k
move_kept p at s event.Timer k = fire_kept p at s s.entry.nud refl k
move_kept p at s event.Remove k = refl

step_kept : (p : Params) (at : ℕ) (s : State) (e : Event) → is_kept s ≡ true → is_kept (step p at s e).state ≡ true
step_kept p at s e k = stamp_kept at s.entry (move p at s e) ∙ move_kept p at s e k

meet_kept : (p : Params) (l : Line) (s : State) (e : Effect) → is_kept s ≡ true → is_kept (meet p l s e).state ≡ true
meet_kept p l s Passes k = k
meet_kept p l s (Refuses x) k = k
meet_kept p l s (Brings e) k = by_present s.entry.present where
  by_present : (b : Bool) → is_kept (step p l.at (if b then s else made l.at) e).state ≡ true
  by_present true = step_kept p l.at s e k
  by_present false = step_kept p l.at (made l.at) e refl

pub state_of-kept : (p : Params) (lines : List Line) (key : Key) → is_kept (state_of p lines key) ≡ true
state_of-kept p lines key = by_last (λ (xs : List Line). is_kept (state_of p xs key) ≡ true) (ap is_kept (state_of-nil p key))
    (λ xs x h. ap is_kept (state_of-snoc p xs x key) ∙ change-either (λ (s : State). is_kept s ≡ true) p x key (state_of p xs key) h (meet_kept p x (state_of p xs key) (effect p x (state_of p xs key) x.op) h))
    lines

-- ---- a step keeps the order

-- what waited, and what is sent, is what ended, and what waits
abbrev pub IsInOrder : List OpId → List OpId → Stepped → Type 0
IsInOrder waiting sent t = waiting ++ sent ≡ ended t.acts ++ ids_of t.state.waiting

ended-drops : (cause : Cause) (packets : List Packet) → ended (drops cause packets) ≡ ids_of packets
ended-drops cause [] = refl
ended-drops cause (packet ∷ packets) = ap (λ (xs : List OpId). packet.0 ∷ xs) (ended-drops cause packets)

ended-transmits : (mac : Mac) (packets : List Packet) → ended (transmits (Some mac) packets) ≡ ids_of packets
ended-transmits mac [] = refl
ended-transmits mac (packet ∷ packets) = ap (λ (xs : List OpId). packet.0 ∷ xs) (ended-transmits mac packets)

empty_is : (packets : List Packet) → is_empty packets ≡ true → ids_of packets ≡ []
empty_is [] e = refl
empty_is (packet ∷ packets) e = cc

nothing_waits : (s : State) → is_kept s ≡ true → is_incomplete s.entry.nud ≡ false → (ids_of s.waiting) ≡ []
nothing_waits s k off = empty_is s.waiting (ap (λ (b : Bool). b || is_empty s.waiting) (sym off) ∙ (and_parts (not (is_valid s.entry.nud) || is_some s.entry.mac) (is_incomplete s.entry.nud || is_empty s.waiting) k).1)

goes_out : (mac : Option Mac) (packet : Packet) → is_some mac ≡ true → ended (transmits mac (packet ∷ [])) ≡ packet.0 ∷ []
goes_out None packet e = cc
goes_out (Some mac) packet e = refl

sends_order : (s : State) (packet : Packet) (entry : Entry) → ids_of s.waiting ≡ [] → is_some entry.mac ≡ true → IsInOrder (ids_of s.waiting) (packet.0 ∷ []) (sends s packet entry)
sends_order s packet entry none some =
    ap (λ (xs : List OpId). xs ++ packet.0 ∷ []) none ∙ sym (goes_out entry.mac packet some) ∙ sym (append-nil (ended (transmits entry.mac (packet ∷ [])))) ∙ ap (λ (xs : List OpId). ended (transmits entry.mac (packet ∷ [])) ++ xs) (sym none)

begins_order : (p : Params) (at : ℕ) (packet : Packet) (s : State) → ids_of s.waiting ≡ [] → IsInOrder (ids_of s.waiting) (packet.0 ∷ []) (begins p at packet s)
begins_order p at packet s none = by_test (p.mcast_solicit == 0) refl where
  by_test : (b : Bool) → (p.mcast_solicit == 0) ≡ b → IsInOrder (ids_of s.waiting) (packet.0 ∷ []) (begins p at packet s)
  by_test true e = rw e (ap (λ (xs : List OpId). xs ++ packet.0 ∷ []) none ∙ ap (λ (xs : List OpId). packet.0 ∷ xs) (sym none))
  by_test false e = rw e (ap (λ (xs : List OpId). xs ++ packet.0 ∷ []) none)

send_order : (p : Params) (at : ℕ) (packet : Packet) (s : State) (n : Nud) → s.entry.nud ≡ n → is_kept s ≡ true → IsInOrder (ids_of s.waiting) (packet.0 ∷ []) (send_in n p at packet s)
send_order p at packet s nud.None e k = begins_order p at packet s (nothing_waits s k (ap is_incomplete e))
send_order p at packet s nud.Failed e k = begins_order p at packet s (nothing_waits s k (ap is_incomplete e))
send_order p at packet s nud.Incomplete e k = sym (joins_line p packet s.entry s.waiting)
send_order p at packet s nud.Stale e k = sends_order s packet (record s.entry { nud = nud.Delay; due = Some (at + p.delay_first_probe_time) }) (nothing_waits s k (ap is_incomplete e)) (has_address s k (ap is_valid e))
send_order p at packet s nud.Permanent e k = sends_order s packet s.entry (nothing_waits s k (ap is_incomplete e)) (has_address s k (ap is_valid e))
send_order p at packet s nud.Noarp e k = sends_order s packet s.entry (nothing_waits s k (ap is_incomplete e)) (has_address s k (ap is_valid e))
send_order p at packet s nud.Reachable e k = sends_order s packet s.entry (nothing_waits s k (ap is_incomplete e)) (has_address s k (ap is_valid e))
send_order p at packet s nud.Delay e k = sends_order s packet s.entry (nothing_waits s k (ap is_incomplete e)) (has_address s k (ap is_valid e))
send_order p at packet s nud.Probe e k = sends_order s packet s.entry (nothing_waits s k (ap is_incomplete e)) (has_address s k (ap is_valid e))

-- where no packet ends, those that waited wait
quiet_order : (waiting : List OpId) (t : Stepped) → ended t.acts ≡ [] → ids_of t.state.waiting ≡ waiting → IsInOrder waiting [] t
quiet_order waiting t none same = append-nil waiting ∙ sym same ∙ ap (λ (xs : List OpId). xs ++ ids_of t.state.waiting) (sym none)

-- where all end in order, none waits
all_order : (waiting : List OpId) (t : Stepped) → ended t.acts ≡ waiting → ids_of t.state.waiting ≡ [] → IsInOrder waiting [] t
all_order waiting t all none = ap (λ (xs : List OpId). xs ++ []) (sym all) ∙ ap (λ (xs : List OpId). ended t.acts ++ xs) (sym none)

all_go_out : (mac : Option Mac) (packets : List Packet) → is_some mac ≡ true → ended (transmits mac packets) ≡ ids_of packets
all_go_out None packets e = cc
all_go_out (Some mac) packets e = ended-transmits mac packets

takes_order : (p : Params) (at : ℕ) (s : State) (mac : Option Mac) (new : Nud) → (is_valid s.entry.nud ≡ false → is_some mac ≡ true) → IsInOrder (ids_of s.waiting) [] (takes p at s mac new)
takes_order p at s mac new some = by_test (is_valid s.entry.nud) refl where
  by_test : (b : Bool) → is_valid s.entry.nud ≡ b → IsInOrder (ids_of s.waiting) [] (takes p at s mac new)
  by_test true e = rw e (quiet_order (ids_of s.waiting) (record { state = s; acts = [] }) refl refl)
  by_test false e = rw e (append-nil (ids_of s.waiting) ∙ sym (all_go_out mac s.waiting (some e)) ∙ sym (append-nil (ended (transmits mac s.waiting))))

doubts_order : (s : State) (how : Manner) → IsInOrder (ids_of s.waiting) [] (doubts s how)
doubts_order s how = quiet_order (ids_of s.waiting) (doubts s how) (grind arith) (grind arith)

update_order : (p : Params) (at : ℕ) (s : State) (given : Option Mac) (new : Nud) (how : Manner) (rule : Rule) → rule_for s.entry given new how ≡ rule → IsInOrder (ids_of s.waiting) [] (update_by rule p at s given new how)
update_order p at s given new how SetByHand e = append-nil (ids_of s.waiting)
update_order p at s given new how NoAddress e = append-nil (ids_of s.waiting)
update_order p at s given new how MayNotReplace e = doubts_order s how
update_order p at s given new how NothingNew e = append-nil (ids_of s.waiting)
update_order p at s given new how IsTaken e = takes_order p at s (meant given s.entry.mac) new (address_meant s.entry given new how e)

unicast_ends : (mac : Option Mac) → ended (unicast mac) ≡ []
unicast_ends None = refl
unicast_ends (Some mac) = refl

probes_order : (p : Params) (at limit : ℕ) (s : State) (entry : Entry) (acts : List Act) → ended acts ≡ [] → IsInOrder (ids_of s.waiting) [] (probes p at limit s entry acts)
probes_order p at limit s entry acts none = by_test (nat_le limit entry.probes) refl where
  by_test : (b : Bool) → nat_le limit entry.probes ≡ b → IsInOrder (ids_of s.waiting) [] (probes p at limit s entry acts)
  by_test true e = rw e (append-nil (ids_of s.waiting) ∙ sym (ended-drops Unresolved s.waiting) ∙ sym (append-nil (ended (drops Unresolved s.waiting))))
  by_test false e = rw e (append-nil (ids_of s.waiting) ∙ ap (λ (xs : List OpId). xs ++ (ids_of s.waiting)) (sym none))

reachable_order : (p : Params) (at : ℕ) (s : State) → IsInOrder (ids_of s.waiting) [] (ends_reachable p at s)
reachable_order p at s = quiet_order (ids_of s.waiting) (ends_reachable p at s) (grind arith) (grind arith)

delay_order : (p : Params) (at : ℕ) (s : State) → IsInOrder (ids_of s.waiting) [] (ends_delay p at s)
delay_order p at s = by_test (is_within at s.entry.confirmed p.delay_first_probe_time) refl where
  by_test : (b : Bool) → is_within at s.entry.confirmed p.delay_first_probe_time ≡ b → IsInOrder (ids_of s.waiting) [] (ends_delay p at s)
  by_test true e = rw e (append-nil (ids_of s.waiting))
  by_test false e = rw e (probes_order p at p.ucast_solicit s (record s.entry { nud = nud.Probe; probes = 0 }) (unicast s.entry.mac) (unicast_ends s.entry.mac))

fire_order : (p : Params) (at : ℕ) (s : State) (n : Nud) → IsInOrder (ids_of s.waiting) [] (fire_in n p at s)
fire_order p at s nud.Reachable = reachable_order p at s
fire_order p at s nud.Delay = delay_order p at s
fire_order p at s nud.Incomplete = probes_order p at p.mcast_solicit s s.entry (SolicitGroup ∷ []) refl
fire_order p at s nud.Probe = probes_order p at p.ucast_solicit s s.entry (unicast s.entry.mac) (unicast_ends s.entry.mac)
fire_order p at s nud.None = append-nil (ids_of s.waiting)
fire_order p at s nud.Stale = append-nil (ids_of s.waiting)
fire_order p at s nud.Failed = append-nil (ids_of s.waiting)
fire_order p at s nud.Noarp = append-nil (ids_of s.waiting)
fire_order p at s nud.Permanent = append-nil (ids_of s.waiting)

-- the packet that an event sends
abbrev pub sent_event : Event → List OpId
sent_event (event.Send id size) = id ∷ []
sent_event _ = []

confirm_order : (p : Params) (at : ℕ) (s : State) → IsInOrder (ids_of s.waiting) [] (move p at s event.Confirm)
confirm_order p at s = quiet_order (ids_of s.waiting) (move p at s event.Confirm) (grind arith) (grind arith)

move_order : (p : Params) (at : ℕ) (s : State) (e : Event) → is_kept s ≡ true → IsInOrder (ids_of s.waiting) (sent_event e) (move p at s e)
move_order p at s (event.Send id size) k = send_order p at (id, size) (record s { entry = record s.entry { used = at } }) s.entry.nud refl k
move_order p at s (event.Arp mac solicited) k = update_order p at s (Some mac) (heard_as solicited) (arp_manner p at s.entry) (rule_for s.entry (Some mac) (heard_as solicited) (arp_manner p at s.entry)) refl
move_order p at s (event.Ns mac) k = update_order p at s (Some mac) nud.Stale ns_manner (rule_for s.entry (Some mac) nud.Stale ns_manner) refl
move_order p at s (event.Na mac router solicited overrides) k = update_order p at s mac (heard_as solicited) (na_manner overrides) (rule_for s.entry mac (heard_as solicited) (na_manner overrides)) refl
move_order p at s (event.Admin mac new) k = update_order p at s mac new admin_manner (rule_for s.entry mac new admin_manner) refl
move_order p at s event.Confirm k = confirm_order p at s
move_order p at s event.Timer k = fire_order p at s s.entry.nud
move_order p at s event.Remove k = append-nil (ids_of s.waiting) ∙ sym (ended-drops Removed s.waiting) ∙ sym (append-nil (ended (drops Removed s.waiting)))

stamp_acts : (at : ℕ) (before : Entry) (t : Stepped) → (stamp at before t).acts ≡ t.acts
stamp_acts at before t = grind arith

stamp_waiting : (at : ℕ) (before : Entry) (t : Stepped) → (stamp at before t).state.waiting ≡ t.state.waiting
stamp_waiting at before t = grind arith

step_order : (p : Params) (at : ℕ) (s : State) (e : Event) → is_kept s ≡ true → IsInOrder (ids_of s.waiting) (sent_event e) (step p at s e)
step_order p at s e k =
    move_order p at s e k
    ∙ ap (λ (xs : List OpId). xs ++ ids_of (move p at s e).state.waiting) (ap ended (sym (stamp_acts at s.entry (move p at s e))))
    ∙ ap (λ (xs : List OpId). ended (step p at s e).acts ++ xs) (sym (ap ids_of (stamp_waiting at s.entry (move p at s e))))

-- ---- nothing waits for an absent entry

abbrev pub is_gone : State → Bool
is_gone s = s.entry.present || is_empty s.waiting

there_gone : (s : State) → s.entry.present ≡ true → is_gone s ≡ true
there_gone s i = ap (λ (b : Bool). b || is_empty s.waiting) i

remove_gone : (p : Params) (at : ℕ) (s : State) (e : Event) → is_remove e ≡ true → is_gone (step p at s e).state ≡ true
remove_gone p at s event.Remove h = refl
remove_gone p at s _ h = cc

step_gone : (p : Params) (at : ℕ) (s : State) (e : Event) → s.entry.present ≡ true → is_gone (step p at s e).state ≡ true
step_gone p at s e i = by_test (is_remove e) refl where
  by_test : (b : Bool) → is_remove e ≡ b → is_gone (step p at s e).state ≡ true
  by_test true h = remove_gone p at s e h
  by_test false h = there_gone (step p at s e).state (step_present p at s e h i)

meet_gone : (p : Params) (l : Line) (s : State) (e : Effect) → is_gone s ≡ true → is_gone (meet p l s e).state ≡ true
meet_gone p l s Passes g = g
meet_gone p l s (Refuses x) g = g
meet_gone p l s (Brings e) g = by_present s.entry.present refl where
  by_present : (b : Bool) → s.entry.present ≡ b → is_gone (step p l.at (if b then s else made l.at) e).state ≡ true
  by_present true i = step_gone p l.at s e i
  by_present false i = step_gone p l.at (made l.at) e refl

pub state_of-gone : (p : Params) (lines : List Line) (key : Key) → is_gone (state_of p lines key) ≡ true
state_of-gone p lines key = by_last (λ (xs : List Line). is_gone (state_of p xs key) ≡ true) (ap is_gone (state_of-nil p key))
    (λ xs x h. ap is_gone (state_of-snoc p xs x key) ∙ change-either (λ (s : State). is_gone s ≡ true) p x key (state_of p xs key) h (meet_gone p x (state_of p xs key) (effect p x (state_of p xs key) x.op) h))
    lines

absent_waits : (s : State) → is_gone s ≡ true → s.entry.present ≡ false → (ids_of s.waiting) ≡ []
absent_waits s g off = empty_is s.waiting (ap (λ (b : Bool). b || is_empty s.waiting) (sym off) ∙ g)

-- ---- a line keeps the order

abbrev sent_effect : Effect → List OpId
sent_effect (Brings e) = sent_event e
sent_effect _ = []

abbrev sent_op : Line → Op → List OpId
sent_op l (op.Send key len) = id_of l ∷ []
sent_op l _ = []

effect_sends : (p : Params) (l : Line) (s : State) (o : Op) → sent_effect (effect p l s o) ≡ sent_op l o
effect_sends p l s (op.Send key len) = refl
effect_sends p l s _ = grind arith

meet_order : (p : Params) (l : Line) (s : State) (e : Effect) → is_kept s ≡ true → is_gone s ≡ true → IsInOrder (ids_of s.waiting) (sent_effect e) (meet p l s e)
meet_order p l s Passes k g = append-nil (ids_of s.waiting)
meet_order p l s (Refuses x) k g = append-nil (ids_of s.waiting)
meet_order p l s (Brings e) k g = by_present s.entry.present refl where
  by_present : (b : Bool) → s.entry.present ≡ b → IsInOrder (ids_of s.waiting) (sent_event e) (step p l.at (if b then s else made l.at) e)
  by_present true i = step_order p l.at s e k
  by_present false i = ap (λ (xs : List OpId). xs ++ sent_event e) (absent_waits s g i) ∙ step_order p l.at (made l.at) e refl

effect_order : (p : Params) (l : Line) (s : State) → is_kept s ≡ true → is_gone s ≡ true → IsInOrder (ids_of s.waiting) (sent_op l l.op) (meet p l s (effect p l s l.op))
effect_order p l s k g = subst (λ (sent : List OpId). IsInOrder (ids_of s.waiting) sent (meet p l s (effect p l s l.op))) (effect_sends p l s l.op) (meet_order p l s (effect p l s l.op) k g)

sent_free : (l : Line) (key : Key) (o : Op) → key_of o ≡ None → sent_op l o ≡ sent_by l key o
sent_free l key (op.Send k len) e = cc
sent_free l key _ e = refl

sent_here : (l : Line) (named key : Key) (o : Op) → key_of o ≡ Some named → is_key named key ≡ true → sent_op l o ≡ sent_by l key o
sent_here l named key (op.Send k len) e on = let same : k ≡ named = cc in rw (same, on) refl
sent_here l named key _ e on = refl

sent_else : (l : Line) (named key : Key) (o : Op) → key_of o ≡ Some named → is_key named key ≡ false → [] ≡ sent_by l key o
sent_else l named key (op.Send k len) e off = let same : k ≡ named = cc in rw (same, off) refl
sent_else l named key _ e off = refl

turned_away : (l : Line) (s : State) (o : Op) → (ids_of s.waiting) ≡ [] → IsInOrder (ids_of s.waiting) (sent_op l o) (turn_away l s o)
turned_away l s (op.Send key len) none = ap (λ (xs : List OpId). xs ++ id_of l ∷ []) none ∙ ap (λ (xs : List OpId). id_of l ∷ xs) (sym none)
turned_away l s _ none = append-nil (ids_of s.waiting)

change_order : (p : Params) (l : Line) (key : Key) (s : State) → is_kept s ≡ true → is_gone s ≡ true
    → ((named : Key) → key_of l.op ≡ Some named → is_key named key ≡ true → is_some l.full ≡ true → (ids_of s.waiting) ≡ [])
    → IsInOrder (ids_of s.waiting) (sent_by l key l.op) (change p l key s)
unfolding change
change_order p l key s k g full = by_key (key_of l.op) refl where
  by_full : (named : Key) → key_of l.op ≡ Some named → is_key named key ≡ true → (b : Bool) → is_some l.full ≡ b → IsInOrder (ids_of s.waiting) (sent_op l l.op) (if b then turn_away l s l.op else meet p l s (effect p l s l.op))
  by_full named e on true f = turned_away l s l.op (full named e on f)
  by_full named e on false f = effect_order p l s k g

  by_same : (named : Key) → key_of l.op ≡ Some named → (b : Bool) → is_key named key ≡ b
      → IsInOrder (ids_of s.waiting) (sent_by l key l.op) (if b then (if is_some l.full then turn_away l s l.op else meet p l s (effect p l s l.op)) else stays s)
  by_same named e true on = subst (λ (sent : List OpId). IsInOrder (ids_of s.waiting) sent (if is_some l.full then turn_away l s l.op else meet p l s (effect p l s l.op))) (sent_here l named key l.op e on) (by_full named e on (is_some l.full) refl)
  by_same named e false off = subst (λ (sent : List OpId). IsInOrder (ids_of s.waiting) sent (stays s)) (sent_else l named key l.op e off) (append-nil (ids_of s.waiting))

  by_key : (o : Option Key) → key_of l.op ≡ o → IsInOrder (ids_of s.waiting) (sent_by l key l.op) (change_by p l key s o)
  by_key None e = subst (λ (sent : List OpId). IsInOrder (ids_of s.waiting) sent (meet p l s (effect p l s l.op))) (sent_free l key l.op e) (effect_order p l s k g)
  by_key (Some named) e = by_same named e (is_key named key) refl

-- ---- the journal

-- a line with `full` finds its entry absent
cc_some : {a b : Key} → Some a ≡ Some b → a ≡ b
cc_some e = cc

full_absent : (p : Params) (past : List Line) (l : Line) (named : Key) → Fits p past l → key_of l.op ≡ Some named → is_some l.full ≡ true → is_present p past named ≡ false
full_absent p past l named fits e full = by_made (making p (base_of past) l) refl where
  by_made : (o : Option Key) → making p (base_of past) l ≡ o → is_present p past named ≡ false
  by_made None m = absurd (false≢true (sym (ap is_some (fits.full ∙ ap (λ (x : Option Key). if is_some x && nat_le p.gc_thresh3 (left_of_seen past l) then Some (left_of_seen past l) else None) m)) ∙ full))
  by_made (Some key) m =
      let is = making-is p (base_of past) l key m in
      let off = ap (λ (s : State). s.entry.present) (collects_keep p key past is.absent) ∙ is.absent in
      let same : key ≡ named = cc_some (sym is.names ∙ e) in
      subst (λ (k : Key). is_present p past k ≡ false) same off

sends_to-snoc : (lines : List Line) (l : Line) (key : Key) → sends_to (lines ++ l ∷ []) key ≡ sends_to lines key ++ sent_by l key l.op
sends_to-snoc lines l key =
    flat_map-append (λ (x : Line). sent_by x key x.op) lines (l ∷ []) ∙ ap (λ (xs : List OpId). sends_to lines key ++ xs) (append-nil (sent_by l key l.op))

ended_of-nil : (p : Params) (key : Key) → ended_of p [] key ≡ []
unfolding ended_of
ended_of-nil p key = refl

ended_of-snoc : (p : Params) (lines : List Line) (l : Line) (key : Key) → ended_of p (lines ++ l ∷ []) key ≡ ended_of p lines key ++ ended (acts_of p lines l key)
unfolding ended_of
ended_of-snoc p lines l key = fold_lines-snoc (λ (ids : List OpId) (past : List Line) (x : Line). ids ++ ended (acts_of p past x key)) [] lines l

joined : (sends ends waiting sent ended_now waits : List OpId) → sends ≡ ends ++ waiting → waiting ++ sent ≡ ended_now ++ waits → sends ++ sent ≡ (ends ++ ended_now) ++ waits
joined sends ends waiting sent ended_now waits before now =
    ap (λ (xs : List OpId). xs ++ sent) before ∙ append_assoc ends waiting sent ∙ ap (λ (xs : List OpId). ends ++ xs) now ∙ sym (append_assoc ends ended_now waits)

-- what waited for a key and what a line sends to it are what ends and what waits
pub line_order : (p : Params) (past : List Line) (l : Line) (key : Key) → Fits p past l → IsInOrder (ids_of (state_of p past key).waiting) (sent_by l key l.op) (change p l key (state_of p past key))
line_order p past l key fits = change_order p l key (state_of p past key) (state_of-kept p past key) (state_of-gone p past key)
    (λ named e on full. absent_waits (state_of p past key) (state_of-gone p past key) (subst (λ (k : Key). is_present p past k ≡ false) (is_key-one named key on) (full_absent p past l named fits e full)))

in_order : (p : Params) (key : Key) (lines : List Line) → EachLine (Fits p) lines → sends_to lines key ≡ ended_of p lines key ++ ids_of (state_of p lines key).waiting
in_order p key = by_last (λ (xs : List Line). EachLine (Fits p) xs → sends_to xs key ≡ ended_of p xs key ++ ids_of (state_of p xs key).waiting)
    (λ all. ap (λ (s : State). (ids_of s.waiting)) (sym (state_of-nil p key)) ∙ ap (λ (xs : List OpId). xs ++ ids_of (state_of p [] key).waiting) (sym (ended_of-nil p key)))
    more where
      more : (xs : List Line) (x : Line) → (EachLine (Fits p) xs → sends_to xs key ≡ ended_of p xs key ++ ids_of (state_of p xs key).waiting) → EachLine (Fits p) (xs ++ x ∷ []) → sends_to (xs ++ x ∷ []) key ≡ ended_of p (xs ++ x ∷ []) key ++ ids_of (state_of p (xs ++ x ∷ []) key).waiting
      more xs x before all =
          let parts = each-last (Fits p) xs x all in
          let s = state_of p xs key in
          sends_to-snoc xs x key
          ∙ joined (sends_to xs key) (ended_of p xs key) (ids_of s.waiting) (sent_by x key x.op) (ended (acts_of p xs x key)) (ids_of (change p x key s).state.waiting) (before parts.0) (line_order p xs x key parts.1)
          ∙ ap (λ (ids : List OpId). ids ++ ids_of (change p x key s).state.waiting) (sym (ended_of-snoc p xs x key))
          ∙ ap (λ (t : State). ended_of p (xs ++ x ∷ []) key ++ ids_of t.waiting) (sym (state_of-snoc p xs x key))

pub packets_in_order : PacketsLeaveInOrder
packets_in_order p journal clock key lawful = in_order p key journal (lawful-runs p journal clock lawful).each
