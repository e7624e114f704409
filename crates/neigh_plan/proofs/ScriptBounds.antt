-- The plan of a script within its limits is one that can be replayed, and its line bound is below 2^22.
use Rattle.std.proofs.Common.{◌≡◌, ℕ, zero, suc, ◌+◌, ◌<◌, ◌≤◌, Bool, true, false, if◌then◌else◌, List, [], ◌∷◌, ◌++◌, length, map, refl, sym, ap, subst, arith}
use Rattle.std.specs.Prelude.{◌==◌, flat_map}
use Rattle.std.specs.List.{list_all, AllByRecursion}
use Rattle.std.proofs.lemmas.Bool.{eqb-true}
use Rattle.std.proofs.lemmas.List.{length-append}
use Rattle.std.proofs.Math.Nat.{mul-le-mul, mul-le-mul_right, div-le_of_le-mul}
use Rattle.nb_base.specs.declared.nud.Nud.{Nud}
use Rattle.nb_base.specs.declared.nud.Nud.TheVariants as nud
use Rattle.nb_base.specs.declared.op.Op.{Op}
use Rattle.nb_base.specs.declared.op.Op.TheVariants as op
use Rattle.nb_base.specs.declared.key.Key.{Key}
use Rattle.nb_base.specs.declared.host.Host.{Host}
use Rattle.nb_base.specs.declared.params.Params.{Params}
use Rattle.nb_base.specs.declared.plan.Plan.{Plan}
use Rattle.nb_base.specs.declared.plan.ControlItem.TheVariants as control
use Rattle.nb_base.specs.Buckets.{is_bucket_count}
use Rattle.nb_base.specs.Params.{InRange}
use Rattle.nud_machine.specs.Asked.{greatest, is_settable}
use Rattle.nb_journal.specs.Accounts.{line_bound}
use Rattle.neigh_script.specs.declared.script.Script.{Script}
use Rattle.neigh_script.specs.declared.script.ScriptItem.{ScriptItem}
use Rattle.neigh_script.specs.declared.script.ScriptItem.TheVariants as item
use Rattle.neigh_script.specs.Context.{at_of}
use Rattle.neigh_script.specs.Limits.{is_given_state, IsOpWithin, IsItemWithin}
use Rattle.neigh_script.specs.Limits as limits
use Rattle.neigh_run.specs.Control.{HostState, host_start, turn}
use Rattle.neigh_run.specs.Merged.{Entered, control_ops, sender_ops, senders_ops, merged}
use Rattle.neigh_run.specs.Plan.{control_at, send_at, control_items, sends_of, senders_from, plan_of}
use Rattle.neigh_plan.specs.Inline.{most_lines, greatest_of, last_item_at, is_given_op, has_given_ops, plan_bound, IsEnterable}
use Rattle.neigh_plan.proofs.Orders.{length_all}
use Rattle.neigh_plan.proofs.Planned.{within_limits}
use Rattle.neigh_plan.proofs.ScriptLimits.{script_within, script_buckets}
use Rattle.neigh_plan.proofs.Participants.{control_long, sender_long}

-- ---- the operations

given_settable : (n : Nud) → is_given_state n ≡ true → is_settable n ≡ true
given_settable nud.Permanent h = refl
given_settable nud.Noarp h = refl
given_settable nud.Reachable h = refl
given_settable nud.Stale h = refl
given_settable _ h = cc

pub given_op : (host : Host) (o : Op) → IsOpWithin host o → is_given_op o ≡ true
given_op host (op.Add key mac state) h = given_settable state h.1
given_op host (op.Change key mac state) h = given_settable state h.1
given_op host (op.Replace key mac state) h = given_settable state h.1
given_op host (op.Del key) h = refl
given_op host (op.Confirm key) h = refl
given_op host op.Show h = refl
given_op host op.Flush h = refl
given_op host _ h = absurd h

given_items : (plan : Plan) (s : HostState) (host : Host) (senders n : ℕ) (items : List ScriptItem) → AllByRecursion (IsItemWithin host senders) items → list_all (λ (x : Entered). is_given_op x.op) (control_ops plan s n (control_items items)) ≡ true
given_items plan s host senders n [] h = refl
given_items plan s host senders n (item.Neigh at o ∷ items) h = rw (given_op host o h.0.1) (given_items plan (turn plan s n (control.Neigh at o)).behind host senders (n + 1) items h.1)
given_items plan s host senders n (item.Proxy at key add ∷ items) h = given_items plan (turn plan s n (control.Proxy at key add)).behind host senders (n + 1) items h.1
given_items plan s host senders n (item.Send at sender key payload ∷ items) h = given_items plan s host senders n items h.1

pub script_given : (script : Script) (window buckets : ℕ) → limits.IsWithinLimits script → has_given_ops (plan_of script window buckets) ≡ true
unfolding plan_of has_given_ops
script_given script window buckets h = given_items (plan_of script window buckets) host_start script.host script.senders 1 script.items h.items

pub script_params : (script : Script) (window buckets : ℕ) → limits.IsWithinLimits script → InRange (plan_of script window buckets).params
unfolding plan_of
script_params script window buckets h = h.params

-- ---- the moments

abbrev pub IsEarlyItem : ScriptItem → Type 0
IsEarlyItem item = at_of item ≤ 2_592_000_000

pub early_items : (host : Host) (senders : ℕ) (items : List ScriptItem) → AllByRecursion (IsItemWithin host senders) items → AllByRecursion IsEarlyItem items
early_items host senders [] h = tt
early_items host senders (x ∷ items) h = (h.0.0, early_items host senders items h.1)

control_upto : (items : List ScriptItem) → AllByRecursion IsEarlyItem items → greatest_of (map control_at (control_items items)) ≤ 2_592_000_000
control_upto [] h = omega arith
control_upto (item.Neigh at o ∷ items) h = let here = h.0 in let rest = control_upto items h.1 in omega (arith, here, rest)
control_upto (item.Proxy at key add ∷ items) h = let here = h.0 in let rest = control_upto items h.1 in omega (arith, here, rest)
control_upto (item.Send at sender key payload ∷ items) h = control_upto items h.1

sends_upto : (k : ℕ) (items : List ScriptItem) → AllByRecursion IsEarlyItem items → greatest_of (map send_at (sends_of k items)) ≤ 2_592_000_000
sends_upto k [] h = omega arith
sends_upto k (item.Neigh at o ∷ items) h = sends_upto k items h.1
sends_upto k (item.Proxy at key add ∷ items) h = sends_upto k items h.1
sends_upto k (item.Send at sender key payload ∷ items) h = by_test (sender == k) (sends_upto k items h.1) where
  by_test : (b : Bool) → greatest_of (map send_at (sends_of k items)) ≤ 2_592_000_000
      → greatest_of (map send_at ((if b then record { at = at; key = key; payload = payload } ∷ [] else []) ++ sends_of k items)) ≤ 2_592_000_000
  by_test true rest = let here = h.0 in omega (arith, here, rest)
  by_test false rest = rest

pub both_upto : (m : ℕ) (xs ys : List ℕ) → greatest_of xs ≤ m → greatest_of ys ≤ m → greatest_of (xs ++ ys) ≤ m
both_upto m [] ys a b = b
both_upto m (x ∷ xs) ys a b = let rest = both_upto m xs ys (omega (arith, a)) b in omega (arith, a, rest)

pub senders_upto : (k n : ℕ) (items : List ScriptItem) → AllByRecursion IsEarlyItem items → greatest_of (flat_map (map send_at) (senders_from k n items)) ≤ 2_592_000_000
senders_upto k zero items h = omega arith
senders_upto k (suc n) items h = both_upto 2_592_000_000 (map send_at (sends_of k items)) (flat_map (map send_at) (senders_from (k + 1) n items)) (sends_upto k items h) (senders_upto (k + 1) n items h)

pub script_upto : (script : Script) (window buckets : ℕ) → limits.IsWithinLimits script → last_item_at (plan_of script window buckets) ≤ greatest
unfolding plan_of last_item_at
script_upto script window buckets h =
    let early = early_items script.host script.senders script.items h.items in
    both_upto 2_592_000_000 (map control_at (control_items script.items)) (flat_map (map send_at) (senders_from 1 script.senders script.items)) (control_upto script.items early) (senders_upto 1 script.senders script.items early)

-- so its operations go into the buckets of a table
pub script_enterable : (script : Script) (window buckets : ℕ) → is_bucket_count buckets ≡ true → limits.IsWithinLimits script → length script.items ≤ 131_072 → IsEnterable (plan_of script window buckets)
script_enterable script window buckets allowed h few = record {
  params = script_params script window buckets h;
  buckets = subst (λ (n : ℕ). is_bucket_count n ≡ true) (sym (script_buckets script window buckets)) allowed;
  within = within_limits script window buckets (script_within script h few);
  moments = script_upto script window buckets h;
  operations = script_given script window buckets h;
}

-- ---- how many operations there are

-- how many packets the n senders from k on have
abbrev pub total : ℕ → ℕ → List ScriptItem → ℕ
total k zero items = 0
total k (suc n) items = length (sends_of k items) + total (k + 1) n items

pub senders_total : (p k n : ℕ) (items : List ScriptItem) → length (senders_ops p (senders_from k n items)) ≡ total k n items
senders_total p k zero items = refl
senders_total p k (suc n) items =
    let own = sender_long p 1 (sends_of k items) in
    let rest = senders_total (p + 1) (k + 1) n items in
    let both = length-append (sender_ops p 1 (sends_of k items)) (senders_ops (p + 1) (senders_from (k + 1) n items)) in
    omega (arith, own, rest, both)

total_nil : (k n : ℕ) → total k n [] ≡ 0
total_nil k zero = refl
total_nil k (suc n) = let rest = total_nil (k + 1) n in omega (arith, rest)

total_neigh : (k n at : ℕ) (o : Op) (items : List ScriptItem) → total k n (item.Neigh at o ∷ items) ≡ total k n items
total_neigh k zero at o items = refl
total_neigh k (suc n) at o items = ap (λ (m : ℕ). length (sends_of k items) + m) (total_neigh (k + 1) n at o items)

total_proxy : (k n at : ℕ) (key : Key) (add : Bool) (items : List ScriptItem) → total k n (item.Proxy at key add ∷ items) ≡ total k n items
total_proxy k zero at key add items = refl
total_proxy k (suc n) at key add items = ap (λ (m : ℕ). length (sends_of k items) + m) (total_proxy (k + 1) n at key add items)

differs : (a b : ℕ) → (a ≡ b → ⊥) → (a == b) ≡ false
differs a b h = by_test (a == b) refl where
  by_test : (t : Bool) → (a == b) ≡ t → (a == b) ≡ false
  by_test true e = absurd (h (eqb-true a b e))
  by_test false e = e

-- a packet of a sender before the first one counts for none
total_before : (k n at sender : ℕ) (key : Key) (payload : List ℕ) (items : List ScriptItem) → sender < k → total k n (item.Send at sender key payload ∷ items) ≡ total k n items
total_before k zero at sender key payload items lt = refl
total_before k (suc n) at sender key payload items lt =
    rw (differs sender k (λ e. omega (arith, e, lt)))
    (ap (λ (m : ℕ). length (sends_of k items) + m) (total_before (k + 1) n at sender key payload items (omega (arith, lt))))

-- a packet counts for at most one sender
total_send : (k n at sender : ℕ) (key : Key) (payload : List ℕ) (items : List ScriptItem) → total k n (item.Send at sender key payload ∷ items) ≤ total k n items + 1
total_send k zero at sender key payload items = omega arith
total_send k (suc n) at sender key payload items = by_test (sender == k) refl (total_send (k + 1) n at sender key payload items) where
  by_test : (b : Bool) → (sender == k) ≡ b → total (k + 1) n (item.Send at sender key payload ∷ items) ≤ total (k + 1) n items + 1
      → length ((if b then record { at = at; key = key; payload = payload } ∷ [] else []) ++ sends_of k items) + total (k + 1) n (item.Send at sender key payload ∷ items) ≤ length (sends_of k items) + total (k + 1) n items + 1
  by_test true e rest =
      let same = eqb-true sender k e in
      let none = total_before (k + 1) n at sender key payload items (omega (arith, same)) in
      omega (arith, none)
  by_test false e rest = omega (arith, rest)

pub few_ops : (k n : ℕ) (items : List ScriptItem) → length (control_items items) + total k n items ≤ length items
few_ops k n [] = let none = total_nil k n in omega (arith, none)
few_ops k n (item.Neigh at o ∷ items) = let same = total_neigh k n at o items in let rest = few_ops k n items in omega (arith, same, rest)
few_ops k n (item.Proxy at key add ∷ items) = let same = total_proxy k n at key add items in let rest = few_ops k n items in omega (arith, same, rest)
few_ops k n (item.Send at sender key payload ∷ items) = let more = total_send k n at sender key payload items in let rest = few_ops k n items in omega (arith, more, rest)

-- a script's plan has no more operations than the script has items
pub script_ops : (script : Script) (window buckets : ℕ) → length (merged (plan_of script window buckets)) ≤ length script.items
unfolding plan_of
script_ops script window buckets =
    let first = control_ops (plan_of script window buckets) host_start 1 (control_items script.items) in
    let others = senders_ops 1 (senders_from 1 script.senders script.items) in
    let all = length_all [] (first ++ others) in
    let both = length-append first others in
    let front = control_long (plan_of script window buckets) host_start 1 (control_items script.items) in
    let back = senders_total 1 1 script.senders script.items in
    let few = few_ops 1 script.senders script.items in
    omega (arith, all, both, front, back, few)

-- ---- the line bound

small_bound : (p : Params) (operations moment : ℕ) → InRange p → operations ≤ 131_072 → moment ≤ 2_592_000_000 → line_bound p operations moment < 4_194_304
small_bound p operations moment r few le =
    let solicits = r.mcast_solicit.1 in
    let probes = r.ucast_solicit.1 in
    let product = mul-le-mul {n₁ = operations} {m₁ = p.mcast_solicit + p.ucast_solicit + 10} {n₂ = 131_072} {m₂ = 30} few (omega (arith, solicits, probes)) in
    let wide = mul-le-mul_right {m = 10_000} {n = p.gc_interval} 259_200 r.gc_interval.0 in
    let sweeps = div-le_of_le-mul p.gc_interval {m = moment} {n = 259_200} (omega (arith, wide, le)) in
    omega (arith, product, sweeps)

-- a script's plan has a line bound below 2^22
pub script_bound : (script : Script) (window buckets : ℕ) → limits.IsWithinLimits script → length script.items ≤ 131_072 → plan_bound (plan_of script window buckets) < most_lines
unfolding plan_bound
script_bound script window buckets h few =
    let ops = script_ops script window buckets in
    small_bound (plan_of script window buckets).params (length (merged (plan_of script window buckets))) (last_item_at (plan_of script window buckets)) (script_params script window buckets h) (omega (arith, ops, few)) (script_upto script window buckets h)
