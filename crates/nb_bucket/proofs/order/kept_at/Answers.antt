use Rattle.nb_journal.specs.Steps.{IsKept}
use Rattle.nb_journal.specs.Fold.{state_of, known_keys}
use Rattle.journal_fold.proofs.Places.{each_at}
use Rattle.nb_bucket.proofs.Ranks.{entry_at}
use Rattle.nb_bucket.proofs.order.kept_at.Goals as goal

pub returns-clause-state : goal.returns-clause-state
returns-clause-state c =
    let fold = c.args.fold.now in
    (entry_at (state_of fold.params fold.lines) (known_keys fold.lines) c.kept.result.now c.args.rank c.index-kept-rank.result c.kept.ensures.states c.requires c.index-kept-rank.is).1

pub returns-clause-kept : goal.returns-clause-kept
returns-clause-kept c =
    let fold = c.args.fold.now in
    let here = (entry_at (state_of fold.params fold.lines) (known_keys fold.lines) c.kept.result.now c.args.rank c.index-kept-rank.result c.kept.ensures.states c.requires c.index-kept-rank.is).0 in
    each_at (IsKept fold.params) c.kept.result.now c.args.rank c.index-kept-rank.result here c.kept.ensures.kept
