-- The plan of a script and a capture within their limits has operations that participant 0 may have, and no item behind the greatest moment.
use Rattle.std.proofs.Common.{◌≡◌, ℕ, suc, ◌+◌, ◌≤◌, Bool, true, false, if◌then◌else◌, List, [], ◌∷◌, ◌++◌, length, map, Option, Some, None, refl, sym, subst, arith}
use Rattle.std.specs.Prelude.{nat_le, flat_map, IfSome}
use Rattle.std.specs.Option.{option_map, option_to_list}
use Rattle.std.specs.List.{All, list_all, AllByRecursion}
use Rattle.nb_base.specs.declared.op.Op.{Op}
use Rattle.nb_base.specs.declared.host.Host.{Host}
use Rattle.nb_base.specs.declared.plan.Plan.{Plan}
use Rattle.nb_base.specs.declared.plan.ControlItem.{ControlItem}
use Rattle.nb_base.specs.declared.plan.ControlItem.TheVariants as control
use Rattle.nb_base.specs.Buckets.{is_bucket_count}
use Rattle.nb_base.specs.Params.{InRange}
use Rattle.nud_machine.specs.Asked.{greatest}
use Rattle.pcap_records.specs.declared.capture.Rec.{Rec}
use Rattle.pcap_records.specs.Capture.{AreBounded}
use Rattle.neigh_script.specs.declared.script.Script.{Script}
use Rattle.neigh_script.specs.declared.script.ScriptItem.{ScriptItem}
use Rattle.neigh_script.specs.declared.script.ScriptItem.TheVariants as item
use Rattle.neigh_script.specs.Limits.{IsItemWithin}
use Rattle.neigh_script.specs.Limits as limits
use Rattle.nb_queues.specs.SameKey.{has_key}
use Rattle.heard_frames.proofs.Learnt.{IsTold, heard-told}
use Rattle.heard_frames.proofs.Learnt as told
use Rattle.neigh_run.specs.Control.{HostState, host_start, heard, answered, turn}
use Rattle.neigh_run.specs.Merged.{Entered, id_for, control_ops}
use Rattle.neigh_run.specs.Plan.{control_at, send_at, control_items, senders_from, plan_of}
use Rattle.neigh_plan.specs.Files.{insert_item, plan_of_files}
use Rattle.neigh_plan.specs.Planning.{frames_of, insert_items}
use Rattle.neigh_plan.specs.Inline.{greatest_of, last_item_at, is_given_op, has_given_ops, IsEnterable}
use Rattle.neigh_plan.proofs.Items.{insert_items-nil, insert_items-cons, plan_of_files_is, files_within}
use Rattle.neigh_plan.proofs.ScriptLimits.{script_within}
use Rattle.neigh_plan.proofs.ScriptBounds.{given_op, IsEarlyItem, early_items, both_upto, senders_upto}

-- ---- what holds of each item

insert_each : (P : ControlItem → Type 0) (x : ControlItem) (ys : List ControlItem) → P x → AllByRecursion P ys → AllByRecursion P (insert_item x ys)
insert_each P x [] p h = (p, tt)
insert_each P x (y ∷ ys) p h = by_test (nat_le (control_at y) (control_at x)) (insert_each P x ys p h.1) where
  by_test : (b : Bool) → AllByRecursion P (insert_item x ys) → AllByRecursion P (if b then y ∷ insert_item x ys else x ∷ y ∷ ys)
  by_test true rest = (h.0, rest)
  by_test false rest = (p, h)

all_each : (P : ControlItem → Type 0) (items more : List ControlItem) → AllByRecursion P items → AllByRecursion P more → AllByRecursion P (insert_items items more)
all_each P items [] h g = rw (insert_items-nil items) h
all_each P items (x ∷ more) h g = rw (insert_items-cons items more x) (all_each P (insert_item x items) more (insert_each P x items g.0 h) g.1)

-- ---- the operations

-- an operation that participant 0 may have, or none that is its own
abbrev IsGivenItem : ControlItem → Type 0
IsGivenItem (control.Neigh at o) = is_given_op o ≡ true
IsGivenItem (control.Frame at bytes) = Unit {0}
IsGivenItem (control.Proxy at key add) = Unit {0}

given_control : (host : Host) (senders : ℕ) (items : List ScriptItem) → AllByRecursion (IsItemWithin host senders) items → AllByRecursion IsGivenItem (control_items items)
given_control host senders [] h = tt
given_control host senders (item.Neigh at o ∷ items) h = (given_op host o h.0.1, given_control host senders items h.1)
given_control host senders (item.Proxy at key add ∷ items) h = (tt, given_control host senders items h.1)
given_control host senders (item.Send at sender key payload ∷ items) h = given_control host senders items h.1

given_frames : (bytes : List ℕ) (records : List Rec) → AllByRecursion IsGivenItem (frames_of bytes records)
given_frames bytes [] = tt
given_frames bytes (captured ∷ records) = (tt, given_frames bytes records)

given_all : (plan : Plan) (s : HostState) (n : ℕ) (items : List ControlItem) → AllByRecursion IsGivenItem items → list_all (λ (x : Entered). is_given_op x.op) (control_ops plan s n items) ≡ true
given_all plan s n [] h = refl
given_all plan s n (control.Neigh at o ∷ items) h = rw h.0 (given_all plan (turn plan s n (control.Neigh at o)).behind (n + 1) items h.1)
given_all plan s n (control.Proxy at key add ∷ items) h = given_all plan (turn plan s n (control.Proxy at key add)).behind (n + 1) items h.1
given_all plan s n (control.Frame at bytes ∷ items) h =
    by_op (heard plan (answered s (control.Frame at bytes)) bytes).op (heard-told plan.host (has_key s.proxies) bytes) (given_all plan (turn plan s n (control.Frame at bytes)).behind (n + 1) items h.1) where
      rest : List Entered
      rest = control_ops plan (turn plan s n (control.Frame at bytes)).behind (n + 1) items

      by_op : (o : Option Op) → IfSome o (IsTold plan.host) → list_all (λ (x : Entered). is_given_op x.op) rest ≡ true
          → list_all (λ (x : Entered). is_given_op x.op) (option_to_list (option_map (λ (given : Op). record { at = at; id = id_for 0 n; op = given }) o) ++ rest) ≡ true
      by_op None is all = all
      by_op (Some _) (told.by_arp key mac make solicited e) all = all
      by_op (Some _) (told.by_solicitation key mac e) all = all
      by_op (Some _) (told.by_advert key mac router solicited overrides e) all = all

pub files_given : (bytes : List ℕ) (records : List Rec) (script : Script) (window buckets : ℕ) → limits.IsWithinLimits script → has_given_ops (plan_of_files bytes records script window buckets) ≡ true
unfolding has_given_ops
files_given bytes records script window buckets h =
    rw (plan_of_files_is bytes records script window buckets)
    (given_all (record (plan_of script window buckets) { control = insert_items (control_items script.items) (frames_of bytes records) }) host_start 1 (insert_items (control_items script.items) (frames_of bytes records))
    (all_each IsGivenItem (control_items script.items) (frames_of bytes records) (given_control script.host script.senders script.items h.items) (given_frames bytes records)))

-- ---- the moments

abbrev IsEarly : ControlItem → Type 0
IsEarly item = control_at item ≤ 2_592_000_000

early_control : (items : List ScriptItem) → AllByRecursion IsEarlyItem items → AllByRecursion IsEarly (control_items items)
early_control [] h = tt
early_control (item.Neigh at o ∷ items) h = (h.0, early_control items h.1)
early_control (item.Proxy at key add ∷ items) h = (h.0, early_control items h.1)
early_control (item.Send at sender key payload ∷ items) h = early_control items h.1

early_frames : (bytes : List ℕ) (records : List Rec) → All (λ r. r.at ≤ 2_592_000_000) records → AllByRecursion IsEarly (frames_of bytes records)
early_frames bytes [] h = tt
early_frames bytes (captured ∷ records) h = (h 0 captured (omega arith), early_frames bytes records (λ k d lt. h (suc k) d (omega (arith, lt))))

upto_all : (items : List ControlItem) → AllByRecursion IsEarly items → greatest_of (map control_at items) ≤ 2_592_000_000
upto_all [] h = omega arith
upto_all (item ∷ items) h = let here = h.0 in let rest = upto_all items h.1 in omega (arith, here, rest)

pub files_upto : (bytes : List ℕ) (records : List Rec) (script : Script) (window buckets : ℕ) → limits.IsWithinLimits script → AreBounded (length bytes) records → last_item_at (plan_of_files bytes records script window buckets) ≤ greatest
unfolding plan_of last_item_at
files_upto bytes records script window buckets h bounded =
    let early = early_items script.host script.senders script.items h.items in
    let items = insert_items (control_items script.items) (frames_of bytes records) in
    rw (plan_of_files_is bytes records script window buckets)
    (both_upto 2_592_000_000 (map control_at items) (flat_map (map send_at) (senders_from 1 script.senders script.items))
    (upto_all items (all_each IsEarly (control_items script.items) (frames_of bytes records) (early_control script.items early) (early_frames bytes records bounded.span)))
    (senders_upto 1 script.senders script.items early))

pub files_params : (bytes : List ℕ) (records : List Rec) (script : Script) (window buckets : ℕ) → limits.IsWithinLimits script → InRange (plan_of_files bytes records script window buckets).params
unfolding plan_of
files_params bytes records script window buckets h = rw (plan_of_files_is bytes records script window buckets) h.params

pub files_buckets : (bytes : List ℕ) (records : List Rec) (script : Script) (window buckets : ℕ) → (plan_of_files bytes records script window buckets).buckets ≡ buckets
unfolding plan_of
files_buckets bytes records script window buckets = rw (plan_of_files_is bytes records script window buckets) refl

-- so its operations go into the buckets of a table
pub files_enterable : (bytes : List ℕ) (records : List Rec) (script : Script) (window buckets : ℕ) → is_bucket_count buckets ≡ true → limits.IsWithinLimits script → length script.items ≤ 131_072 → AreBounded (length bytes) records → IsEnterable (plan_of_files bytes records script window buckets)
files_enterable bytes records script window buckets allowed h few bounded = record {
  params = files_params bytes records script window buckets h;
  buckets = subst (λ (n : ℕ). is_bucket_count n ≡ true) (sym (files_buckets bytes records script window buckets)) allowed;
  within = files_within bytes records script window buckets bounded (script_within script h few);
  moments = files_upto bytes records script window buckets h bounded;
  operations = files_given bytes records script window buckets h;
}
