-- The plan of a script within its limits is within a plan's limits.
use Rattle.std.proofs.Common.{◌≡◌, ℕ, ◌≤◌, List, [], ◌∷◌, length, map, refl, sym, subst}
use Rattle.std.specs.List.{AllByRecursion}
use Rattle.std.proofs.lemmas.List.{length-map}
use Rattle.nb_base.specs.declared.host.Host.{Host}
use Rattle.neigh_script.specs.declared.script.Script.{Script}
use Rattle.neigh_script.specs.declared.script.ScriptItem.{ScriptItem}
use Rattle.neigh_script.specs.declared.script.ScriptItem.TheVariants as item
use Rattle.neigh_script.specs.Context.{at_of}
use Rattle.neigh_script.specs.Limits.{IsItemWithin, AreInOrder}
use Rattle.neigh_script.specs.Limits as limits
use Rattle.neigh_run.specs.Plan.{RisesFrom, IsSentPacket, IsScriptWithinLimits, plan_of}

rises : (from : ℕ) (items : List ScriptItem) → AreInOrder from items → RisesFrom from (map at_of items)
rises from [] h = tt {0}
rises from (item ∷ items) h = (h.0, rises (at_of item) items h.1)

sent : (host : Host) (senders : ℕ) (items : List ScriptItem) → AllByRecursion (IsItemWithin host senders) items → AllByRecursion IsSentPacket items
sent host senders [] h = tt {0}
sent host senders (item.Neigh at o ∷ items) h = (tt, sent host senders items h.1)
sent host senders (item.Proxy at key add ∷ items) h = (tt, sent host senders items h.1)
sent host senders (item.Send at sender key payload ∷ items) h = (h.0.1.size, sent host senders items h.1)

pub script_within : (script : Script) → limits.IsWithinLimits script → length script.items ≤ 131_072 → IsScriptWithinLimits script
script_within script h few = record {
  items = record { rises = rises 0 script.items h.order; few = subst (λ (n : ℕ). n ≤ 131_072) (sym (length-map script.items at_of)) few };
  packets = sent script.host script.senders script.items h.items;
  few = h.senders.1;
}

pub script_buckets : (script : Script) (window buckets : ℕ) → (plan_of script window buckets).buckets ≡ buckets
unfolding plan_of
script_buckets script window buckets = refl
