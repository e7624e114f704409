-- Packets leave in the order in which they came.
use Rattle.std.proofs.Common.{◌≡◌, ◌⊎◌, inl, inr, ℕ, Bool, true, false, is_some, List, [], ◌∷◌, ◌++◌, Option, Some, None, refl, sym, ap, ◌∙◌, arith, append-nil, append_assoc}
use Rattle.std.specs.Prelude.{flat_map, ◌==◌}
use Rattle.nb_base.specs.declared.mac.Mac.{Mac}
use Rattle.nb_base.specs.declared.time.OpId.{OpId}
use Rattle.nb_base.specs.declared.nud.Nud.{Nud}
use Rattle.nb_base.specs.declared.nud.Nud.TheVariants as nud
use Rattle.nb_base.specs.declared.params.Params.{Params}
use Rattle.nb_base.specs.Nud.{is_valid}
use Rattle.nud_machine.specs.declared.entry.Entry.{Entry}
use Rattle.nb_queues.specs.Queue.{Packet}
use Rattle.nud_machine.specs.declared.act.Act.{Act}
use Rattle.nud_machine.specs.declared.act.Act.TheVariants.{Wait}
use Rattle.nud_machine.specs.declared.act.Cause.TheVariants.{QueueFull, Unresolved, Removed}
use Rattle.nud_machine.specs.declared.event.Event.{Event}
use Rattle.nud_machine.specs.declared.event.Event.TheVariants as event
use Rattle.nud_machine.specs.State.{State, Stepped, IsSound, transmits, drops}
use Rattle.nud_machine.specs.Update.{Manner, Rule, SetByHand, NoAddress, MayNotReplace, NothingNew, IsTaken, rule_for, update_by, takes, doubts, meant}
use Rattle.nud_machine.specs.Send.{send_in, begins, joins, are_too_many, pushed_out, left_waiting}
use Rattle.nud_machine.specs.Timer.{fire_in, probes, unicast}
use Rattle.nud_machine.specs.Step.{step, move, stamp, heard_as, arp_manner, ns_manner, na_manner, admin_manner}
use Rattle.nud_machine.specs.Laws.{IsMet, leaving, arriving, ids_of}
use Rattle.nud_machine.proofs.Leaving.{leaving_transmits, leaving_drops, waits_or}
use Rattle.nud_machine.proofs.Keeps.{taken_known}

-- the packets that leave, and then those that wait
abbrev line_of : Stepped → List OpId
line_of done = flat_map leaving done.acts ++ ids_of done.state.waiting

all_leave : (acts : List Act) (ids : List OpId) → flat_map leaving acts ≡ ids → flat_map leaving acts ++ [] ≡ ids
all_leave acts ids e = append-nil (flat_map leaving acts) ∙ e

takes_line : (p : Params) (at : ℕ) (s : State) (mac : Option Mac) (new : Nud) → is_some mac ≡ true → line_of (takes p at s mac new) ≡ ids_of s.waiting
takes_line p at s None new k = cc
takes_line p at s (Some mac) new k = by_test (is_valid s.entry.nud) refl
  where
    by_test : (b : Bool) → is_valid s.entry.nud ≡ b → line_of (takes p at s (Some mac) new) ≡ ids_of s.waiting
    by_test true e = rw e refl
    by_test false e = rw e (all_leave (transmits (Some mac) s.waiting) (ids_of s.waiting) (leaving_transmits mac s.waiting))

doubts_line : (s : State) (how : Manner) → line_of (doubts s how) ≡ ids_of s.waiting
doubts_line s how = grind arith

update_by_line : (p : Params) (at : ℕ) (s : State) (given : Option Mac) (new : Nud) (how : Manner) (rule : Rule) → (rule ≡ IsTaken → is_some (meant given s.entry.mac) ≡ true) → line_of (update_by rule p at s given new how) ≡ ids_of s.waiting
update_by_line p at s given new how SetByHand t = refl
update_by_line p at s given new how NoAddress t = refl
update_by_line p at s given new how MayNotReplace t = doubts_line s how
update_by_line p at s given new how NothingNew t = refl
update_by_line p at s given new how IsTaken t = takes_line p at s (meant given s.entry.mac) new (t refl)

probes_line : (p : Params) (at limit : ℕ) (s : State) (e : Entry) (acts : List Act) → flat_map leaving acts ≡ [] → line_of (probes p at limit s e acts) ≡ ids_of s.waiting
probes_line p at limit s e acts none = grind (arith, none, all_leave (drops Unresolved s.waiting) (ids_of s.waiting) (leaving_drops Unresolved s.waiting))

unicast_stays : (mac : Option Mac) → flat_map leaving (unicast mac) ≡ []
unicast_stays None = refl
unicast_stays (Some mac) = refl

fire_line : (p : Params) (at : ℕ) (s : State) (n : Nud) → line_of (fire_in n p at s) ≡ ids_of s.waiting
fire_line p at s nud.Reachable = grind arith
fire_line p at s nud.Delay = grind (arith, probes_line p at p.ucast_solicit s (record s.entry { nud = nud.Probe; probes = 0 }) (unicast s.entry.mac) (unicast_stays s.entry.mac))
fire_line p at s nud.Incomplete = probes_line p at p.mcast_solicit s s.entry _ refl
fire_line p at s nud.Probe = probes_line p at p.ucast_solicit s s.entry (unicast s.entry.mac) (unicast_stays s.entry.mac)
fire_line p at s nud.None = refl
fire_line p at s nud.Stale = refl
fire_line p at s nud.Failed = refl
fire_line p at s nud.Noarp = refl
fire_line p at s nud.Permanent = refl

-- those that are dropped, and those that still wait, are those that waited
left_line : (p : Params) (size : ℕ) (waiting : List Packet) → ids_of (pushed_out p size waiting) ++ ids_of (left_waiting p size waiting) ≡ ids_of waiting
left_line p size [] = refl
left_line p size (oldest ∷ others) = by_test (are_too_many p size (oldest ∷ others)) refl (left_line p size others)
  where
    by_test : (b : Bool) → are_too_many p size (oldest ∷ others) ≡ b → ids_of (pushed_out p size others) ++ ids_of (left_waiting p size others) ≡ ids_of others → ids_of (pushed_out p size (oldest ∷ others)) ++ ids_of (left_waiting p size (oldest ∷ others)) ≡ ids_of (oldest ∷ others)
    by_test true e rest = rw e (ap (λ (xs : List OpId). oldest.0 ∷ xs) rest)
    by_test false e rest = rw e refl

-- the packets that are dropped leave, and the wait doesn't
dropped_line : (packets : List Packet) (id : OpId) → flat_map leaving (drops QueueFull packets ++ Wait id ∷ []) ≡ ids_of packets
dropped_line [] id = refl
dropped_line (packet ∷ packets) id = ap (λ (xs : List OpId). packet.0 ∷ xs) (dropped_line packets id)

pub ids_more : (xs : List Packet) (packet : Packet) → ids_of (xs ++ packet ∷ []) ≡ ids_of xs ++ packet.0 ∷ []
ids_more [] packet = refl
ids_more (x ∷ xs) packet = ap (λ (ids : List OpId). x.0 ∷ ids) (ids_more xs packet)

pub joins_line : (p : Params) (packet : Packet) (e : Entry) (waiting : List Packet) → line_of (joins p packet e waiting) ≡ ids_of waiting ++ packet.0 ∷ []
joins_line p packet e waiting =
    let out = pushed_out p packet.1 waiting in
    let left = left_waiting p packet.1 waiting in
    rw (dropped_line out packet.0, ids_more left packet, ← append_assoc (ids_of out) (ids_of left) (packet.0 ∷ []), left_line p packet.1 waiting) refl

sends_line : (mac : Option Mac) (packet : Packet) (waiting : List Packet) → is_some mac ≡ true → waiting ≡ [] → flat_map leaving (transmits mac (packet ∷ [])) ++ ids_of waiting ≡ ids_of waiting ++ packet.0 ∷ []
sends_line None packet waiting k e = cc
sends_line (Some mac) packet waiting k e = rw e refl

begins_line : (p : Params) (at : ℕ) (packet : Packet) (s : State) → s.waiting ≡ [] → line_of (begins p at packet s) ≡ ids_of s.waiting ++ packet.0 ∷ []
begins_line p at packet s w = by_test (p.mcast_solicit == 0) refl
  where
    by_test : (b : Bool) → (p.mcast_solicit == 0) ≡ b → line_of (begins p at packet s) ≡ ids_of s.waiting ++ packet.0 ∷ []
    by_test true e = rw (e, w) refl
    by_test false e = rw (e, w) refl

send_line : (p : Params) (at : ℕ) (packet : Packet) (s : State) (n : Nud) → s.entry.nud ≡ n → is_some s.entry.mac ≡ is_valid n → (s.waiting ≡ []) ⊎ (n ≡ nud.Incomplete) → line_of (send_in n p at packet s) ≡ ids_of s.waiting ++ packet.0 ∷ []
send_line p at packet s nud.Incomplete e k w = joins_line p packet s.entry s.waiting
send_line p at packet s nud.None e k (inl w) = begins_line p at packet s w
send_line p at packet s nud.Failed e k (inl w) = begins_line p at packet s w
send_line p at packet s nud.Stale e k (inl w) = sends_line s.entry.mac packet s.waiting k w
send_line p at packet s nud.Permanent e k (inl w) = sends_line s.entry.mac packet s.waiting k w
send_line p at packet s nud.Noarp e k (inl w) = sends_line s.entry.mac packet s.waiting k w
send_line p at packet s nud.Reachable e k (inl w) = sends_line s.entry.mac packet s.waiting k w
send_line p at packet s nud.Delay e k (inl w) = sends_line s.entry.mac packet s.waiting k w
send_line p at packet s nud.Probe e k (inl w) = sends_line s.entry.mac packet s.waiting k w
send_line p at packet s nud.None e k (inr w) = cc
send_line p at packet s nud.Failed e k (inr w) = cc
send_line p at packet s nud.Stale e k (inr w) = cc
send_line p at packet s nud.Permanent e k (inr w) = cc
send_line p at packet s nud.Noarp e k (inr w) = cc
send_line p at packet s nud.Reachable e k (inr w) = cc
send_line p at packet s nud.Delay e k (inr w) = cc
send_line p at packet s nud.Probe e k (inr w) = cc

none_more : (ids : List OpId) (done : Stepped) → line_of done ≡ ids → line_of done ≡ ids ++ []
none_more ids done e = e ∙ sym (append-nil ids)

update_line : (p : Params) (at : ℕ) (s : State) (given : Option Mac) (new : Nud) (how : Manner) → IsSound p s → line_of (update_by (rule_for s.entry given new how) p at s given new how) ≡ ids_of s.waiting
update_line p at s given new how h = update_by_line p at s given new how (rule_for s.entry given new how) (taken_known s.entry given new how h.entry.address)

move_line : (p : Params) (at : ℕ) (s : State) (e : Event) → IsSound p s → line_of (move p at s e) ≡ ids_of s.waiting ++ arriving e
move_line p at s (event.Send id size) h = send_line p at (id, size) (record s { entry = record s.entry { used = at } }) s.entry.nud refl h.entry.address (waits_or s.entry.nud s.waiting h.waits)
move_line p at s (event.Arp mac solicited) h = none_more (ids_of s.waiting) (move p at s (event.Arp mac solicited)) (update_line p at s (Some mac) (heard_as solicited) (arp_manner p at s.entry) h)
move_line p at s (event.Ns mac) h = none_more (ids_of s.waiting) (move p at s (event.Ns mac)) (update_line p at s (Some mac) nud.Stale ns_manner h)
move_line p at s (event.Na mac router solicited overrides) h = none_more (ids_of s.waiting) (move p at s (event.Na mac router solicited overrides)) (update_line p at s mac (heard_as solicited) (na_manner overrides) h)
move_line p at s (event.Admin mac new) h = none_more (ids_of s.waiting) (move p at s (event.Admin mac new)) (update_line p at s mac new admin_manner h)
move_line p at s event.Confirm h = none_more (ids_of s.waiting) (move p at s event.Confirm) (grind arith)
move_line p at s event.Timer h = none_more (ids_of s.waiting) (move p at s event.Timer) (fire_line p at s s.entry.nud)
move_line p at s event.Remove h = none_more (ids_of s.waiting) (move p at s event.Remove) (all_leave (drops Removed s.waiting) (ids_of s.waiting) (leaving_drops Removed s.waiting))

stamp_line : (at : ℕ) (before : Entry) (done : Stepped) → line_of (stamp at before done) ≡ line_of done
stamp_line at before done = grind arith

pub step_keeps_the_order : (p : Params) (at : ℕ) (s : State) (e : Event) → IsMet p at s e → flat_map leaving (step p at s e).acts ++ ids_of (step p at s e).state.waiting ≡ ids_of s.waiting ++ arriving e
step_keeps_the_order p at s e m = stamp_line at s.entry (move p at s e) ∙ move_line p at s e m.sound
