use Rattle.std.proofs.Common.{◌≡◌, ◌++◌, [], take}
use Rattle.std.specs.Prelude.{string_bytes}
use Rattle.text_codes.specs.Lines.{text_of}
use Rattle.neigh_run.specs.Report.{journal_lines, journal_acts}
use Rattle.neigh_report.proofs.behind.write_lines.Given as goal

abbrev pub invariant-loop-line : goal.invariant-loop-line
invariant-loop-line l = record {
  written : string_bytes l.report ≡ string_bytes l.fn.report ++ text_of (journal_lines l.plan [] (take l.line-index l.lines));
  taken : l.fold.lines ≡ take l.line-index l.lines;
  params : l.fold.params ≡ l.plan.params;
  acts : l.acts.items ≡ l.fn.acts.items ++ journal_acts l.plan [] (take l.line-index l.lines);
}
