use Rattle.std.proofs.Common.{◌≡◌, ◌≤◌, take, length}
use Rattle.std.specs.Prelude.{filter}
use Rattle.nb_journal.specs.Fold.{is_transmit}
use Rattle.neigh_report.proofs.counts.count_sent.Given as goal

abbrev pub invariant-loop-act : goal.invariant-loop-act
invariant-loop-act l = record {
  few : l.count ≤ l.act-index;
  counts : l.count ≡ length (filter is_transmit (take l.act-index l.acts));
}
