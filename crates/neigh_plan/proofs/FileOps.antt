-- How many operations the plan of a script and a capture has.
use Rattle.std.proofs.Common.{◌≡◌, ℕ, ◌+◌, ◌≤◌, Bool, true, false, if◌then◌else◌, List, [], ◌∷◌, ◌++◌, length, map, refl, arith}
use Rattle.std.specs.Prelude.{nat_le}
use Rattle.std.proofs.lemmas.List.{length-append, length-map}
use Rattle.nb_base.specs.declared.plan.Plan.{Plan}
use Rattle.nb_base.specs.declared.plan.ControlItem.{ControlItem}
use Rattle.pcap_records.specs.declared.capture.Rec.{Rec}
use Rattle.neigh_script.specs.declared.script.Script.{Script}
use Rattle.neigh_run.specs.Control.{host_start}
use Rattle.neigh_run.specs.Merged.{control_ops, senders_ops, merged}
use Rattle.neigh_run.specs.Plan.{control_at, control_items, senders_from, plan_of}
use Rattle.neigh_plan.specs.Files.{insert_item, frame_of, plan_of_files}
use Rattle.neigh_plan.specs.Planning.{frames_of, insert_items}
use Rattle.neigh_plan.proofs.Orders.{length_all}
use Rattle.neigh_plan.proofs.Items.{insert_items-nil, insert_items-cons, plan_of_files_is}
use Rattle.neigh_plan.proofs.Participants.{control_long}
use Rattle.neigh_plan.proofs.ScriptBounds.{total, senders_total, few_ops}

insert_long : (x : ControlItem) (ys : List ControlItem) → length (insert_item x ys) ≡ length ys + 1
insert_long x [] = refl
insert_long x (y ∷ ys) = by_test (nat_le (control_at y) (control_at x)) (insert_long x ys) where
  by_test : (b : Bool) → length (insert_item x ys) ≡ length ys + 1 → length (if b then y ∷ insert_item x ys else x ∷ y ∷ ys) ≡ length (y ∷ ys) + 1
  by_test true rest = omega (arith, rest)
  by_test false rest = omega arith

all_long : (items more : List ControlItem) → length (insert_items items more) ≡ length items + length more
all_long items [] = rw (insert_items-nil items) (omega arith)
all_long items (x ∷ more) = let rest = all_long (insert_item x items) more in let one = insert_long x items in rw (insert_items-cons items more x) (omega (arith, rest, one))

-- no more than the script has items and the capture records
pub files_ops : (bytes : List ℕ) (records : List Rec) (script : Script) (window buckets : ℕ) → length (merged (plan_of_files bytes records script window buckets)) ≤ length script.items + length records
unfolding plan_of
files_ops bytes records script window buckets =
    let items = insert_items (control_items script.items) (frames_of bytes records) in
    let plan : Plan = record (plan_of script window buckets) { control = items } in
    let first = control_ops plan host_start 1 items in
    let others = senders_ops 1 (senders_from 1 script.senders script.items) in
    let all = length_all [] (first ++ others) in
    let both = length-append first others in
    let front = control_long plan host_start 1 items in
    let long = all_long (control_items script.items) (frames_of bytes records) in
    let frames = length-map records (frame_of bytes) in
    let back = senders_total 1 1 script.senders script.items in
    let few = few_ops 1 script.senders script.items in
    rw (plan_of_files_is bytes records script window buckets) (omega (arith, all, both, front, long, frames, back, few))
