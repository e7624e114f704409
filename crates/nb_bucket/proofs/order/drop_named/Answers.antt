use Rattle.std.proofs.Common.{Option, sym, ap, ◌∙◌, arith}
use Rattle.nb_base.specs.declared.key.Key.{Key}
use Rattle.nb_journal.proofs.Folds.{known_keys-within}
use Rattle.nb_bucket.specs.Making.{dropped}
use Rattle.nb_bucket.proofs.Ranks.{rank_small, dropped_known}
use Rattle.nb_bucket.proofs.order.drop_named.Goals as goal

pub overflow_cast-rank : goal.overflow_cast-rank
overflow_cast-rank c =
    let small = rank_small c.args.fold.now.lines c.in-Some.key (sym c.in-Some-rank_of.ensures.known) in
    let within = known_keys-within c.args.fold.now.lines in
    omega (arith, small, within, c.in-Some-rank_of.ensures.rank, c.requires.few)

pub drop_rank-requires-clause-known : goal.drop_rank-requires-clause-known
drop_rank-requires-clause-known c =
    let small = rank_small c.args.fold.now.lines c.in-Some.key (sym c.in-Some-rank_of.ensures.known) in
    omega (arith, small, c.in-Some-rank_of.ensures.rank)

pub drop_rank-requires-clause-node : goal.drop_rank-requires-clause-node
drop_rank-requires-clause-node c =
    let small = rank_small c.args.fold.now.lines c.in-Some.key (sym c.in-Some-rank_of.ensures.known) in
    omega (arith, small, c.in-Some-rank_of.ensures.rank, c.requires.nodes)

pub returns-in-Some-rank_of-clause-lists : goal.returns-in-Some-rank_of-clause-lists
returns-in-Some-rank_of-clause-lists c =
    let fold = c.args.fold.now in
    c.drop_rank.ensures.lists
    ∙ dropped_known fold.params fold.lines c.in-Some.key c.in-Some-rank_of.rank c.args.order.now.lists (sym c.in-Some-rank_of.ensures.known) c.in-Some-rank_of.ensures.rank
    ∙ ap (λ (o : Option Key). dropped fold.params fold.lines o c.args.order.now.lists) (sym c.in-Some.is ∙ c.key_of.ensures)
