use Rattle.std.proofs.Common.{sym, arith}
use Rattle.nb_journal.proofs.Folds.{known_keys-within}
use Rattle.nb_bucket.proofs.Ranks.{rank_small}
use Rattle.nb_bucket.proofs.order.push_made.Goals as goal

pub overflow_cast-rank : goal.overflow_cast-rank
overflow_cast-rank c =
    let small = rank_small c.args.fold.now.lines c.in-Some.key (sym c.in-Some-rank_of.ensures.known) in
    let within = known_keys-within c.args.fold.now.lines in
    omega (arith, small, within, c.in-Some-rank_of.ensures.rank, c.requires.few)

pub push_back-requires-clause-node : goal.push_back-requires-clause-node
push_back-requires-clause-node c =
    let small = rank_small c.args.fold.now.lines c.in-Some.key (sym c.in-Some-rank_of.ensures.known) in
    omega (arith, small, c.in-Some-rank_of.ensures.rank, c.requires.nodes)
