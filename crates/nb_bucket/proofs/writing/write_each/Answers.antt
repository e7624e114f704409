use Rattle.std.proofs.Common.{[], ◌∷◌, List, ℕ, length, ap, sym, ◌∙◌, arith}
use Rattle.nb_base.specs.declared.line.Line.{Line}
use Rattle.nb_base.specs.declared.key.Key.{Key}
use Rattle.nb_journal.specs.Fold.{known_keys}
use Rattle.journal_fold.proofs.Whole.{same_keys}
use Rattle.nb_bucket.proofs.Ranks.{alone, list_few, list_small, holds_present, holds-each}
use Rattle.nb_bucket.proofs.writing.write_each.Goals as goal

pub list_ranks-requires-clause-list : goal.list_ranks-requires-clause-list
list_ranks-requires-clause-list g c = let size = ap (λ (lists : List (List ℕ)). length lists) c.requires.order.list in omega (arith, size)

pub list_ranks-requires-clause-room : goal.list_ranks-requires-clause-room
list_ranks-requires-clause-room g c = let few = list_few c.args.fold.now.params c.args.fold.now.lines c.args.order.now c.requires.order in omega (arith, few, c.requires.ranks)

pub append_over-reply-requires-clause-ranks : goal.append_over-reply-requires-clause-ranks
append_over-reply-requires-clause-ranks g c =
    rw c.deref.ensures.value (holds_present c.args.fold.now.params c.args.fold.now.lines c.args.order.now c.list_ranks.new.ranks.items c.requires.order c.list_ranks.ensures.ranks c.list_ranks.ensures.once)

pub drop_ranks-requires-clause-list : goal.drop_ranks-requires-clause-list
drop_ranks-requires-clause-list g c =
    alone c.args.fold.now.params c.args.fold.now.lines c.args.order.now c.requires.order ∙ ap (λ (ranks : List ℕ). ranks ∷ []) (sym (c.deref-2.ensures.value ∙ c.list_ranks.ensures.ranks))

pub drop_ranks-requires-clause-known : goal.drop_ranks-requires-clause-known
drop_ranks-requires-clause-known g c =
    let fold = c.args.fold.now in
    rw (c.deref-2.ensures.value, c.list_ranks.ensures.ranks, c.append_over-reply.ensures.lines) (list_small fold.params fold.lines c.args.line.now c.args.order.now c.requires.order)

pub drop_ranks-requires-clause-nodes : goal.drop_ranks-requires-clause-nodes
drop_ranks-requires-clause-nodes g c =
    let size = ap (λ (xs : List Line). length (known_keys xs)) c.append_over-reply.ensures.lines ∙ ap (λ (keys : List Key). length keys) (same_keys c.args.fold.now.lines c.args.line.now c.requires.names) in
    let small = c.requires.order.nodes in
    omega (arith, size, small)

pub returns-clause-order : goal.returns-clause-order
returns-clause-order g c =
    let fold = c.args.fold.now in
    let left = rw (c.deref-2.ensures.value, c.list_ranks.ensures.ranks, c.append_over-reply.ensures.lines, c.append_over-reply.ensures.params) at c.drop_ranks.ensures.lists in
    rw (c.append_over-reply.ensures.lines, c.append_over-reply.ensures.params) (holds-each fold.params fold.lines c.args.line.now c.args.order.now c.drop_ranks.new.order c.requires.names c.requires.order left c.drop_ranks.ensures.nodes)
