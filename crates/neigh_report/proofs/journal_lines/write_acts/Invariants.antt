use Rattle.std.proofs.Common.{◌≡◌, ◌++◌, take, map}
use Rattle.std.specs.Prelude.{string_bytes}
use Rattle.text_codes.specs.Lines.{text_of}
use Rattle.neigh_run.specs.Report.{act_line}
use Rattle.neigh_report.proofs.journal_lines.write_acts.Given as goal

abbrev pub invariant-loop-act : goal.invariant-loop-act
invariant-loop-act l = string_bytes l.report ≡ string_bytes l.fn.report ++ text_of (map (act_line l.plan l.key) (take l.act-index l.acts))
