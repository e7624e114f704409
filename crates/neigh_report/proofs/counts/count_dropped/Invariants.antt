use Rattle.std.proofs.Common.{◌≡◌, ◌≤◌, take, length}
use Rattle.std.specs.Prelude.{filter}
use Rattle.nb_journal.specs.Accounts.{is_drop}
use Rattle.neigh_report.proofs.counts.count_dropped.Given as goal

abbrev pub invariant-loop-act : goal.invariant-loop-act
invariant-loop-act l = record {
  few : l.count ≤ l.act-index;
  counts : l.count ≡ length (filter is_drop (take l.act-index l.acts));
}
