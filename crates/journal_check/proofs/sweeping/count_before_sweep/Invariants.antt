use Rattle.std.proofs.Common.{◌≡◌, ◌≤◌, take, length}
use Rattle.std.specs.Prelude.{filter}
use Rattle.nb_journal.specs.Lawful.{is_before_sweep}
use Rattle.journal_check.proofs.sweeping.count_before_sweep.Given as goal

abbrev pub invariant-loop-line : goal.invariant-loop-line
invariant-loop-line l = record {
  few : l.count ≤ l.line-index;
  counts : l.count ≡ length (filter (is_before_sweep l.moment) (take l.line-index l.lines));
}
