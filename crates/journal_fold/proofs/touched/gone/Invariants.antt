use Rattle.std.proofs.Common.{◌≡◌, map, take}
use Rattle.nb_journal.specs.Steps.{state_in}
use Rattle.journal_fold.specs.Removing.{gone_rows}
use Rattle.journal_fold.proofs.touched.gone.Given as goal

abbrev pub invariant-loop-rank : goal.invariant-loop-rank
invariant-loop-rank l = record {
  rows : l.touched.items ≡ gone_rows l.params l.line (take l.rank l.keys) (take l.rank (map state_in l.kept));
}
