use Rattle.std.proofs.Common.{◌≡◌, ◌++◌, take}
use Rattle.std.specs.Prelude.{string_bytes}
use Rattle.std.specs.List.{flat_map}
use Rattle.neigh_run.specs.Spelling.{placed_words}
use Rattle.neigh_report.specs.Spaced.{spaced}
use Rattle.neigh_report.proofs.host_journal.add_each_placed.Given as goal

abbrev pub invariant-loop-placed : goal.invariant-loop-placed
invariant-loop-placed l = string_bytes l.report ≡ string_bytes l.fn.report ++ spaced (flat_map placed_words (take l.placed-index l.ops))
