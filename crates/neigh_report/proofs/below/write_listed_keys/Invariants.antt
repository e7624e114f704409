use Rattle.std.proofs.Common.{◌≡◌, ◌++◌, take}
use Rattle.std.specs.Prelude.{string_bytes, map}
use Rattle.text_codes.specs.Lines.{text_of}
use Rattle.nb_journal.specs.Steps.{state_in}
use Rattle.neigh_report.specs.Left.{rows, listed}
use Rattle.neigh_report.proofs.below.write_listed_keys.Given as goal

abbrev pub invariant-loop-rank : goal.invariant-loop-rank
invariant-loop-rank l = string_bytes l.report ≡ string_bytes l.fn.report ++ text_of (map listed (rows l.host (take l.rank l.known) (map state_in (take l.rank l.kept))))
