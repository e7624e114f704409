-- The senders so far are counted.
use Rattle.std.proofs.Common.{◌≡◌, ◌≤◌, ◌*◌, take, length}
use Rattle.neigh_run.specs.Merged.{senders_ops}
use Rattle.neigh_plan.proofs.bound.sent_count.Given as goal

abbrev pub invariant-loop-items : goal.invariant-loop-items
invariant-loop-items l = record {
  counted : l.count ≡ length (senders_ops 1 (take l.items-index l.senders));
  few : l.count ≤ 131_072 * l.items-index;
}
