use Rattle.std.proofs.Common.{◌≡◌, ◌++◌, take, map}
use Rattle.std.specs.Prelude.{string_bytes}
use Rattle.text_codes.specs.Lines.{text_of}
use Rattle.neigh_run.specs.Report.{host_line_words}
use Rattle.neigh_report.proofs.host_journal.write_each_line.Given as goal

abbrev pub invariant-loop-line : goal.invariant-loop-line
invariant-loop-line l = string_bytes l.report ≡ string_bytes l.fn.report ++ text_of (map host_line_words (take l.line-index l.lines))
