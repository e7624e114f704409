use Rattle.std.proofs.Common.{◌≡◌, ◌++◌, take, map}
use Rattle.std.specs.Prelude.{string_bytes}
use Rattle.neigh_run.specs.Report.{try_word}
use Rattle.neigh_report.specs.Spaced.{spaced}
use Rattle.neigh_report.proofs.logs.add_tries.Given as goal

abbrev pub invariant-loop-numbers : goal.invariant-loop-numbers
invariant-loop-numbers l = string_bytes l.report ≡ string_bytes l.fn.report ++ spaced (map try_word (take l.numbers-index l.tries))
