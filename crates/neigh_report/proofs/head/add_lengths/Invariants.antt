use Rattle.std.proofs.Common.{◌≡◌, ◌++◌, take, map}
use Rattle.std.specs.Prelude.{string_bytes, decimal}
use Rattle.neigh_report.specs.Spaced.{spaced}
use Rattle.neigh_report.proofs.head.add_lengths.Given as goal

abbrev pub invariant-loop-length : goal.invariant-loop-length
invariant-loop-length l = string_bytes l.report ≡ string_bytes l.fn.report ++ spaced (map decimal (take l.length-index l.lengths))
