use Rattle.nb_journal.specs.Steps.{IsKept}
use Rattle.journal_fold.proofs.Places.{each_at}
use Rattle.journal_fold.proofs.Whole.{found}
use Rattle.journal_fold.proofs.fold.Fold.find.Goals as goal

pub returns-clause-state : goal.returns-clause-state
returns-clause-state c = rw (← c.self.view_is) (found c.self.inside c.in_ok-rank.rank c.args.key.now c.index.result.now c.self.invariant c.in_ok-rank.ensures.there c.index.ensures).1

pub returns-clause-kept : goal.returns-clause-kept
returns-clause-kept c =
    let there = (found c.self.inside c.in_ok-rank.rank c.args.key.now c.index.result.now c.self.invariant c.in_ok-rank.ensures.there c.index.ensures).0 in
    rw (← c.self.view_is) (each_at (IsKept c.self.inside.params) c.self.inside.kept.items c.in_ok-rank.rank c.index.result.now there c.self.invariant.kept)
