use Rattle.std.proofs.Common.{◌≡◌, [], take}
use Rattle.std.specs.List.{flat_map, AllByRecursion}
use Rattle.neigh_run.specs.Entries.{entries_after}
use Rattle.neigh_run.specs.Report.{journal_acts, waiting_after}
use Rattle.neigh_report.specs.Left.{entries, waits, IsShortFold}
use Rattle.neigh_report.proofs.tally.take_buckets.Given as goal

abbrev pub invariant-loop-number : goal.invariant-loop-number
invariant-loop-number l = record {
  acts : l.behind.acts.items ≡ flat_map (journal_acts l.plan []) (take l.number l.journals);
  entries : entries l.plan.host l.behind.folds.items ≡ flat_map (entries_after l.plan.host l.plan.params) (take l.number l.journals);
  waits : waits l.behind.folds.items ≡ flat_map (waiting_after l.plan) (take l.number l.journals);
  few : AllByRecursion IsShortFold l.behind.folds.items;
}
