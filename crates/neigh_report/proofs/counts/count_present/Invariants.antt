use Rattle.std.proofs.Common.{◌≡◌, ◌≤◌, ◌*◌, ◌^◌, take, length}
use Rattle.nb_base.specs.declared.host.Host.{Host}
use Rattle.neigh_report.specs.Left.{entries}
use Rattle.neigh_report.proofs.counts.count_present.Given as goal

abbrev pub invariant-loop-number : goal.invariant-loop-number
invariant-loop-number l = record {
  few : l.count ≤ l.number * 2 ^ 64;
  counts : (host : Host) → l.count ≡ length (entries host (take l.number l.folds));
}
