use Rattle.std.proofs.Common.{◌≡◌, take}
use Rattle.std.specs.Prelude.{filter}
use Rattle.nb_journal.specs.Fold.{is_present}
use Rattle.journal_check.proofs.forcing.present_of.Given as goal

abbrev pub invariant-loop-key : goal.invariant-loop-key
invariant-loop-key l = l.present.items ≡ filter (is_present l.params l.lines) (take l.key-index l.keys)
