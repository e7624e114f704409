use Rattle.std.proofs.Common.{◌≡◌, take}
use Rattle.nb_journal.specs.Lawful.{making_order}
use Rattle.journal_check.proofs.forcing.making_order.Given as goal

abbrev pub invariant-loop-place : goal.invariant-loop-place
invariant-loop-place l = l.order.items ≡ making_order l.params (take l.place l.lines)
