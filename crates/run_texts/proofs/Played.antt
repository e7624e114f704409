-- The operations of a plan that can be played: each stands at a moment of a run and may be asked for, and they are few.
use Rattle.std.proofs.Common.{◌≡◌, ℕ, suc, ◌+◌, ◌*◌, ◌≤◌, true, nat_le, List, [], ◌∷◌, ◌++◌, length, refl, ap, arith}
use Rattle.std.specs.Prelude.{Option, Some, None, IfSome}
use Rattle.std.specs.Option.{option_map, option_to_list}
use Rattle.std.specs.List.{AllByRecursion}
use Rattle.std.proofs.lemmas.List.{length-append, length-map}
use Rattle.nb_base.specs.declared.op.Op.{Op}
use Rattle.nb_base.specs.declared.plan.Plan.{Plan}
use Rattle.nb_base.specs.declared.plan.SendItem.{SendItem}
use Rattle.nb_base.specs.declared.plan.ControlItem.{ControlItem}
use Rattle.nb_base.specs.declared.plan.ControlItem.TheVariants as control
use Rattle.nud_machine.specs.Asked.{greatest}
use Rattle.nb_journal.specs.Keys.{may_be_asked}
use Rattle.nb_journal.proofs.Tests.{and_both, le_to}
use Rattle.nb_queues.specs.SameKey.{has_key}
use Rattle.heard_frames.proofs.Learnt.{IsTold, heard-told}
use Rattle.heard_frames.proofs.Learnt as told
use Rattle.neigh_run.specs.Control.{HostState, host_start, control_at, heard, answered, turn}
use Rattle.neigh_run.specs.Merged.{Entered, id_for, control_op, control_ops, sender_ops, senders_ops}
use Rattle.neigh_run.specs.Plan.{send_at, IsPacket, AreSendLists, IsWithinLimits}
use Rattle.neigh_run.proofs.Counting.{Each, each_append}
use Rattle.run_texts.specs.Told.{plan_ops}
use Rattle.run_texts.specs.Laws.{is_asked_item, IsPlayable}

-- ---- when and what

-- an operation at a moment of a run that may be asked for
pub record IsPlayed (x : Entered) : Type 0 where
  pub at : x.at ≤ greatest
  pub asked : may_be_asked x.op ≡ true

item-played : (plan : Plan) (s : HostState) (n : ℕ) (item : ControlItem) → is_asked_item item ≡ true → control_at item ≤ greatest → Each IsPlayed (option_to_list (control_op plan s n item))
item-played plan s n (control.Neigh at o) h g = (record { at = g; asked = h }, tt)
item-played plan s n (control.Frame at bytes) h g = by_op (heard plan (answered s (control.Frame at bytes)) bytes).op (heard-told plan.host (has_key s.proxies) bytes) where
  by_op : (o : Option Op) → IfSome o (IsTold plan.host) → Each IsPlayed (option_to_list (option_map (λ (given : Op). record { at = at; id = id_for 0 n; op = given }) o))
  by_op None is = tt
  by_op (Some _) (told.by_arp key mac make solicited e) = (record { at = g; asked = refl }, tt)
  by_op (Some _) (told.by_solicitation key mac e) = (record { at = g; asked = refl }, tt)
  by_op (Some _) (told.by_advert key mac router solicited overrides e) = (record { at = g; asked = refl }, tt)
item-played plan s n (control.Proxy at key add) h g = tt

control-played : (plan : Plan) (s : HostState) (n : ℕ) (items : List ControlItem) → AllByRecursion (λ item. is_asked_item item ≡ true) items → AllByRecursion (λ item. control_at item ≤ greatest) items → Each IsPlayed (control_ops plan s n items)
control-played plan s n [] h g = tt
control-played plan s n (item ∷ items) h g =
    each_append IsPlayed (option_to_list (control_op plan s n item)) (control_ops plan (turn plan s n item).behind (n + 1) items) (item-played plan s n item h.0 g.0) (control-played plan (turn plan s n item).behind (n + 1) items h.1 g.1)

sender-played : (p n : ℕ) (items : List SendItem) → AllByRecursion IsPacket items → AllByRecursion (λ (item : SendItem). item.at ≤ greatest) items → Each IsPlayed (sender_ops p n items)
sender-played p n [] h g = tt
sender-played p n (item ∷ items) h g = (
  record { at = g.0; asked = and_both (nat_le 1 (length item.payload)) (nat_le (length item.payload) 1_500) (le_to 1 (length item.payload) h.0.0) (le_to (length item.payload) 1_500 h.0.1) },
  sender-played p (n + 1) items h.1 g.1,
)

senders-played : (p : ℕ) (senders : List (List SendItem)) → AreSendLists senders → AllByRecursion (AllByRecursion (λ (item : SendItem). item.at ≤ greatest)) senders → Each IsPlayed (senders_ops p senders)
senders-played p [] h g = tt
senders-played p (items ∷ senders) h g = each_append IsPlayed (sender_ops p 1 items) (senders_ops (p + 1) senders) (sender-played p 1 items h.0.packets g.0) (senders-played (p + 1) senders h.1 g.1)

pub ops-played : (plan : Plan) → IsPlayable plan → Each IsPlayed (plan_ops plan)
ops-played plan play =
    each_append IsPlayed (control_ops plan host_start 1 plan.control) (senders_ops 1 plan.senders)
    (control-played plan host_start 1 plan.control play.asked play.control)
    (senders-played 1 plan.senders play.limits.senders play.senders)

-- ---- how many

-- participant 0 has no more than 393,216 items, and 16 senders have no more than 131,072 each
abbrev pub most : ℕ
most = 2_490_368

control-few : (plan : Plan) (s : HostState) (n : ℕ) (items : List ControlItem) → length (control_ops plan s n items) ≤ length items
control-few plan s n [] = omega arith
control-few plan s n (item ∷ items) = by_op (control_op plan s n item) (control-few plan (turn plan s n item).behind (n + 1) items) where
  by_op : (o : Option Entered) → length (control_ops plan (turn plan s n item).behind (n + 1) items) ≤ length items → length (option_to_list o ++ control_ops plan (turn plan s n item).behind (n + 1) items) ≤ length (item ∷ items)
  by_op None rest = omega (arith, rest)
  by_op (Some x) rest = omega (arith, rest)

sender-long : (p n : ℕ) (items : List SendItem) → length (sender_ops p n items) ≡ length items
sender-long p n [] = refl
sender-long p n (item ∷ items) = ap suc (sender-long p (n + 1) items)

senders-few : (p : ℕ) (senders : List (List SendItem)) → AreSendLists senders → length (senders_ops p senders) ≤ 131_072 * length senders
senders-few p [] h = omega arith
senders-few p (items ∷ senders) h =
    let parts = length-append (sender_ops p 1 items) (senders_ops (p + 1) senders) in
    let here = sender-long p 1 items in
    let same = length-map items send_at in
    let count = h.0.list.few in
    let rest = senders-few (p + 1) senders h.1 in
    omega (arith, parts, here, same, count, rest)

-- a plan within its limits has no more operations than that
pub ops-few : (plan : Plan) → IsWithinLimits plan → length (plan_ops plan) ≤ most
ops-few plan limits =
    let parts = length-append (control_ops plan host_start 1 plan.control) (senders_ops 1 plan.senders) in
    let first = control-few plan host_start 1 plan.control in
    let same = length-map plan.control control_at in
    let count = limits.control.few in
    let others = senders-few 1 plan.senders limits.senders in
    let few = limits.few in
    omega (arith, parts, first, same, count, others, few)
