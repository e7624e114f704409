-- The plan of a script: one sender more, and the limits that a script keeps.
use Rattle.std.proofs.Common.{◌≡◌, ℕ, zero, suc, ◌+◌, ◌≤◌, Bool, true, false, if◌then◌else◌, List, [], ◌∷◌, ◌++◌, map, length, refl, sym, ◌∙◌, ap, arith}
use Rattle.std.specs.Prelude.{◌==◌}
use Rattle.std.specs.List.{AllByRecursion}
use Rattle.nb_base.specs.declared.plan.SendItem.{SendItem}
use Rattle.neigh_script.specs.declared.script.Script.{Script}
use Rattle.neigh_script.specs.declared.script.ScriptItem.{ScriptItem}
use Rattle.neigh_script.specs.declared.script.ScriptItem.TheVariants as item
use Rattle.neigh_script.specs.Context.{at_of}
use Rattle.neigh_run.specs.Plan.{control_items, sends_of, senders_from, plan_of, RisesFrom, control_at, send_at, IsList, most_script_lines, IsPacket, IsSentPacket, AreSendLists, IsWithinLimits, IsScriptWithinLimits}

next_sender : (k n : ℕ) (items : List ScriptItem) → senders_from k (suc n) items ≡ senders_from k n items ++ sends_of (k + n) items ∷ []
next_sender k zero items = let same : k + 0 ≡ k = omega arith in rw same refl
next_sender k (suc n) items =
    let next : k + suc n ≡ k + 1 + n = omega arith in
    rw next (ap (λ (xs : List (List SendItem)). sends_of k items ∷ xs) (next_sender (k + 1) n items))

-- one sender more
pub senders_from_more : (n : ℕ) (items : List ScriptItem) → senders_from 1 (n + 1) items ≡ senders_from 1 n items ++ sends_of (n + 1) items ∷ []
senders_from_more n items =
    let sum : n + 1 ≡ suc n = omega arith in
    let flip : n + 1 ≡ 1 + n = omega arith in
    ap (λ (m : ℕ). senders_from 1 m items) sum ∙ next_sender 1 n items ∙ ap (λ (m : ℕ). senders_from 1 n items ++ sends_of m items ∷ []) (sym flip)

pub rises-lower : (m lower : ℕ) (moments : List ℕ) → lower ≤ m → RisesFrom m moments → RisesFrom lower moments
rises-lower m lower [] le h = tt
rises-lower m lower (at ∷ moments) le h = let first = h.0 in (omega (arith, le, first), h.1)

pub rises_control : (m : ℕ) (items : List ScriptItem) → RisesFrom m (map at_of items) → RisesFrom m (map control_at (control_items items))
rises_control m [] h = tt
rises_control m (item.Neigh at o ∷ items) h = (h.0, rises_control at items h.1)
rises_control m (item.Proxy at key add ∷ items) h = (h.0, rises_control at items h.1)
rises_control m (item.Send at sender key payload ∷ items) h = rises-lower at m (map control_at (control_items items)) h.0 (rises_control at items h.1)

pub few_control : (items : List ScriptItem) → length (map control_at (control_items items)) ≤ length (map at_of items)
few_control [] = omega arith
few_control (item.Neigh at o ∷ items) = let rest = few_control items in omega (arith, rest)
few_control (item.Proxy at key add ∷ items) = let rest = few_control items in omega (arith, rest)
few_control (item.Send at sender key payload ∷ items) = let rest = few_control items in omega (arith, rest)

rises_sends : (k m : ℕ) (items : List ScriptItem) → RisesFrom m (map at_of items) → RisesFrom m (map send_at (sends_of k items))
rises_sends k m [] h = tt
rises_sends k m (item.Neigh at o ∷ items) h = rises-lower at m (map send_at (sends_of k items)) h.0 (rises_sends k at items h.1)
rises_sends k m (item.Proxy at key add ∷ items) h = rises-lower at m (map send_at (sends_of k items)) h.0 (rises_sends k at items h.1)
rises_sends k m (item.Send at sender key payload ∷ items) h = by_test (sender == k) (rises_sends k at items h.1) where
  by_test : (b : Bool) → RisesFrom at (map send_at (sends_of k items)) → RisesFrom m (map send_at ((if b then record { at = at; key = key; payload = payload } ∷ [] else []) ++ sends_of k items))
  by_test true rest = (h.0, rest)
  by_test false rest = rises-lower at m (map send_at (sends_of k items)) h.0 rest

few_sends : (k : ℕ) (items : List ScriptItem) → length (map send_at (sends_of k items)) ≤ length (map at_of items)
few_sends k [] = omega arith
few_sends k (item.Neigh at o ∷ items) = let rest = few_sends k items in omega (arith, rest)
few_sends k (item.Proxy at key add ∷ items) = let rest = few_sends k items in omega (arith, rest)
few_sends k (item.Send at sender key payload ∷ items) = by_test (sender == k) (few_sends k items) where
  by_test : (b : Bool) → length (map send_at (sends_of k items)) ≤ length (map at_of items)
      → length (map send_at ((if b then record { at = at; key = key; payload = payload } ∷ [] else []) ++ sends_of k items)) ≤ suc (length (map at_of items))
  by_test true rest = omega (arith, rest)
  by_test false rest = omega (arith, rest)

sent_packets : (k : ℕ) (items : List ScriptItem) → AllByRecursion IsSentPacket items → AllByRecursion IsPacket (sends_of k items)
sent_packets k [] h = tt
sent_packets k (item.Neigh at o ∷ items) h = sent_packets k items h.1
sent_packets k (item.Proxy at key add ∷ items) h = sent_packets k items h.1
sent_packets k (item.Send at sender key payload ∷ items) h = by_test (sender == k) (sent_packets k items h.1) where
  by_test : (b : Bool) → AllByRecursion IsPacket (sends_of k items) → AllByRecursion IsPacket ((if b then record { at = at; key = key; payload = payload } ∷ [] else []) ++ sends_of k items)
  by_test true rest = (h.0, rest)
  by_test false rest = rest

are_lists : (k n : ℕ) (items : List ScriptItem) → IsList most_script_lines (map at_of items) → AllByRecursion IsSentPacket items → AreSendLists (senders_from k n items)
are_lists k zero items h packets = tt
are_lists k (suc n) items h packets =
    let few = h.few in
    let fewer = few_sends k items in
    (record { list = record { rises = rises_sends k 0 items h.rises; few = omega (arith, few, fewer) }; packets = sent_packets k items packets }, are_lists (k + 1) n items h packets)

many : (k n : ℕ) (items : List ScriptItem) → length (senders_from k n items) ≡ n
many k zero items = refl
many k (suc n) items = ap suc (many (k + 1) n items)

-- a script within its limits has a plan within its limits
pub within_limits : (script : Script) (window buckets : ℕ) → IsScriptWithinLimits script → IsWithinLimits (plan_of script window buckets)
unfolding plan_of
within_limits script window buckets h =
    let few = h.items.few in
    let fewer = few_control script.items in
    record {
      control = record { rises = rises_control 0 script.items h.items.rises; few = omega (arith, few, fewer) };
      senders = are_lists 1 script.senders script.items h.items h.packets;
      few = rw (many 1 script.senders script.items) h.few;
    }
