-- A known key stands once, so its place is its rank.
use Rattle.std.proofs.Common.{List, slice_get, ap, ◌∙◌, sym}
use Rattle.nb_base.specs.declared.key.Key.{Key}
use Rattle.nb_journal.specs.Fold.{known_keys}
use Rattle.nb_journal.proofs.Counts.{known_keys-distinct}
use Rattle.journal_fold.proofs.Places.{place_at}
use Rattle.journal_fold.proofs.fold.Fold.rank_of.Goals as goal

pub returns-clause-rank : goal.returns-clause-rank
returns-clause-rank c =
    let f = c.self.inside in
    let at = ap (λ (keys : List Key). slice_get keys c.in_ok-rank.rank) (sym c.self.invariant.keys) ∙ c.in_ok-rank.ensures.there in
    rw (← c.self.view_is) (sym (place_at (known_keys f.lines.items) c.in_ok-rank.rank c.args.key.now (known_keys-distinct f.lines.items) at))
