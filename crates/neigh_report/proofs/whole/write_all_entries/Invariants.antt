use Rattle.std.proofs.Common.{◌≡◌, ◌++◌, take}
use Rattle.std.specs.Prelude.{string_bytes}
use Rattle.text_codes.specs.Lines.{text_of}
use Rattle.neigh_report.specs.Left.{entries}
use Rattle.neigh_report.proofs.whole.write_all_entries.Given as goal

abbrev pub invariant-loop-number : goal.invariant-loop-number
invariant-loop-number l = string_bytes l.report ≡ string_bytes l.fn.report ++ text_of (entries l.host (take l.number l.folds))
