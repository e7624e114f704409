use Rattle.std.proofs.Common.{[], ◌∷◌, List, ℕ, Option, if◌then◌else◌, is_some, None, length, ap, ◌∙◌, arith}
use Rattle.std.proofs.lemmas.List.{length-append}
use Rattle.nb_base.specs.declared.key.Key.{Key}
use Rattle.nb_base.specs.declared.line.Line.{Line}
use Rattle.nb_journal.specs.Fold.{known_keys}
use Rattle.nb_bucket.proofs.Ranks.{known_one, left-named, made-ready, holds-made}
use Rattle.nb_bucket.proofs.writing.write_one.Goals as goal

pub drop_named-requires-clause-few : goal.drop_named-requires-clause-few
drop_named-requires-clause-few g c =
    let size = ap (λ (xs : List Line). length xs) c.append-reply.ensures.lines ∙ length-append c.args.fold.now.lines (c.args.line.now ∷ []) in
    omega (arith, size, c.requires.few)

pub drop_named-requires-clause-nodes : goal.drop_named-requires-clause-nodes
drop_named-requires-clause-nodes g c =
    let known = ap (λ (xs : List Line). length (known_keys xs)) c.append-reply.ensures.lines in
    let one = known_one c.args.fold.now.lines c.args.line.now in
    omega (arith, known, one, c.requires.node)

pub push_made-requires-clause-few : goal.push_made-requires-clause-few
push_made-requires-clause-few g c =
    let size = ap (λ (xs : List Line). length xs) c.append-reply.ensures.lines ∙ length-append c.args.fold.now.lines (c.args.line.now ∷ []) in
    omega (arith, size, c.requires.few)

pub push_made-requires-clause-list : goal.push_made-requires-clause-list
push_made-requires-clause-list g c =
    let fold = c.args.fold.now in
    let dropped = rw (c.append-reply.ensures.lines, c.append-reply.ensures.params) at c.drop_named.ensures.lists in
    let size = ap (λ (lists : List (List ℕ)). length lists) (dropped ∙ left-named fold.params fold.lines c.args.line.now c.args.order.now c.requires.one c.requires.order) in
    omega (arith, size)

pub push_made-requires-clause-nodes : goal.push_made-requires-clause-nodes
push_made-requires-clause-nodes g c =
    let known = ap (λ (xs : List Line). length (known_keys xs)) c.append-reply.ensures.lines in
    let one = known_one c.args.fold.now.lines c.args.line.now in
    omega (arith, known, one, c.requires.node, c.drop_named.ensures.nodes)

pub push_made-requires-clause-known : goal.push_made-requires-clause-known
push_made-requires-clause-known g c =
    let fold = c.args.fold.now in
    let line = c.args.line.now in
    let made = c.made_unless.ensures ∙ ap (λ (made : Option Key). if is_some line.full then None else made) c.requires.made in
    let dropped = rw (c.append-reply.ensures.lines, c.append-reply.ensures.params) at c.drop_named.ensures.lists in
    rw (c.append-reply.ensures.lines) (made-ready fold.params fold.lines line c.made_unless.result c.args.order.now c.drop_named.new.order.lists c.requires.one c.requires.order made dropped).0

pub push_made-requires-clause-apart : goal.push_made-requires-clause-apart
push_made-requires-clause-apart g c =
    let fold = c.args.fold.now in
    let line = c.args.line.now in
    let made = c.made_unless.ensures ∙ ap (λ (made : Option Key). if is_some line.full then None else made) c.requires.made in
    let dropped = rw (c.append-reply.ensures.lines, c.append-reply.ensures.params) at c.drop_named.ensures.lists in
    rw (c.append-reply.ensures.lines) (made-ready fold.params fold.lines line c.made_unless.result c.args.order.now c.drop_named.new.order.lists c.requires.one c.requires.order made dropped).1

pub returns-clause-order : goal.returns-clause-order
returns-clause-order g c =
    let fold = c.args.fold.now in
    let line = c.args.line.now in
    let made = c.made_unless.ensures ∙ ap (λ (made : Option Key). if is_some line.full then None else made) c.requires.made in
    let dropped = rw (c.append-reply.ensures.lines, c.append-reply.ensures.params) at c.drop_named.ensures.lists in
    let pushed = rw (c.append-reply.ensures.lines) at c.push_made.ensures.lists in
    rw (c.append-reply.ensures.lines, c.append-reply.ensures.params)
    (holds-made fold.params fold.lines line c.made_unless.result c.args.order.now c.drop_named.new.order c.push_made.new.order c.requires.one c.requires.order c.requires.node made (λ e. c.requires.bare (c.requires.made ∙ e)) dropped pushed (c.push_made.ensures.nodes ∙ c.drop_named.ensures.nodes))

pub append-reply-requires-clause-nodes : goal.append-reply-requires-clause-nodes
append-reply-requires-clause-nodes g c = let one = known_one c.args.fold.now.lines c.args.line.now in omega (arith, one, c.requires.timer)
