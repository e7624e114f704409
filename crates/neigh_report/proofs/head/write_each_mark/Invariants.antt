use Rattle.std.proofs.Common.{◌≡◌, ◌++◌, take, map}
use Rattle.std.specs.Prelude.{string_bytes}
use Rattle.text_codes.specs.Lines.{text_of}
use Rattle.neigh_run.specs.Report.{mark_words}
use Rattle.neigh_report.proofs.head.write_each_mark.Given as goal

abbrev pub invariant-loop-mark : goal.invariant-loop-mark
invariant-loop-mark l = string_bytes l.report ≡ string_bytes l.fn.report ++ text_of (map mark_words (take l.mark-index l.marks))
