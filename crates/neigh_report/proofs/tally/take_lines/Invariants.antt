use Rattle.std.proofs.Common.{◌≡◌, ◌++◌, [], take}
use Rattle.neigh_run.specs.Report.{journal_acts}
use Rattle.neigh_report.proofs.tally.take_lines.Given as goal

abbrev pub invariant-loop-line : goal.invariant-loop-line
invariant-loop-line l = record {
  taken : l.fold.lines ≡ take l.line-index l.lines;
  params : l.fold.params ≡ l.plan.params;
  acts : l.acts.items ≡ l.fn.acts.items ++ journal_acts l.plan [] (take l.line-index l.lines);
}
