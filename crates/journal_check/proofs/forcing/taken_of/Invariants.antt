use Rattle.std.proofs.Common.{◌≡◌, ◌++◌, drop}
use Rattle.nb_journal.specs.Fold.{state_of}
use Rattle.nb_journal.specs.Lawful.{collected, is_collectable}
use Rattle.journal_check.proofs.forcing.taken_of.Given as goal

abbrev pub invariant-loop-key : goal.invariant-loop-key
invariant-loop-key l =
    l.taken.items ++ collected l.params.gc_thresh2 l.left (λ key. is_collectable l.at (state_of l.params l.base key)) (drop l.key-index l.keys)
    ≡ collected l.params.gc_thresh2 l.seen (λ key. is_collectable l.at (state_of l.params l.base key)) l.keys
