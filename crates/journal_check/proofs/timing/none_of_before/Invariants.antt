use Rattle.std.proofs.Common.{◌≡◌, drop}
use Rattle.std.specs.List.{list_all}
use Rattle.nb_journal.specs.Lawful.{due_of}
use Rattle.journal_check.specs.Evaluated.{is_from}
use Rattle.journal_check.proofs.timing.none_of_before.Given as goal

abbrev pub invariant-loop-key : goal.invariant-loop-key
invariant-loop-key l = list_all (λ key. is_from l.moment (due_of l.params l.lines key)) (drop l.key-index l.keys) ≡ list_all (λ key. is_from l.moment (due_of l.params l.lines key)) l.keys
