use Rattle.std.proofs.Common.{◌≡◌, drop}
use Rattle.std.specs.List.{list_all}
use Rattle.nb_journal.specs.Keys.{place_among}
use Rattle.nb_journal.specs.Lawful.{due_of}
use Rattle.journal_check.specs.Evaluated.{yields}
use Rattle.journal_check.proofs.timing.none_of_first.Given as goal

abbrev pub invariant-loop-other : goal.invariant-loop-other
invariant-loop-other l =
    list_all (λ other. yields l.rank l.moment (due_of l.params l.lines other) (place_among l.known other)) (drop l.other-index l.keys)
    ≡ list_all (λ other. yields l.rank l.moment (due_of l.params l.lines other) (place_among l.known other)) l.keys
