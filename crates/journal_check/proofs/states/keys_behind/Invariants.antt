use Rattle.std.proofs.Common.{◌≡◌, take}
use Rattle.nb_journal.specs.Fold.{known_keys}
use Rattle.journal_check.proofs.states.keys_behind.Given as goal

abbrev pub invariant-loop-line : goal.invariant-loop-line
invariant-loop-line l = l.keys.items ≡ known_keys (take l.line-index l.lines)
