use Rattle.std.proofs.Common.{List, [], ◌∷◌, length, ap, ◌∙◌, arith}
use Rattle.std.proofs.lemmas.List.{length-append}
use Rattle.nb_base.specs.declared.line.Line.{Line}
use Rattle.nb_bucket.proofs.Armed.{ahead-behind, armed-behind}
use Rattle.nb_bucket.proofs.timers.append.Goals as goal

pub follow-requires-clause-few : goal.follow-requires-clause-few
follow-requires-clause-few g c =
    let size = ap (λ (xs : List Line). length xs) c.append-reply.ensures.lines ∙ length-append c.args.fold.now.lines (c.args.line.now ∷ []) in
    omega (arith, size, c.requires.few)

pub follow-requires-clause-nodes : goal.follow-requires-clause-nodes
follow-requires-clause-nodes g c = rw c.append-reply.ensures.lines c.requires.nodes

pub follow-requires-clause-ahead : goal.follow-requires-clause-ahead
follow-requires-clause-ahead g c =
    rw (c.append-reply.ensures.lines, c.append-reply.ensures.params)
    (ahead-behind c.args.fold.now.params c.args.fold.now.lines c.args.line.now c.args.timers.now c.requires.params c.requires.armed c.requires.passed)

pub returns-clause-armed : goal.returns-clause-armed
returns-clause-armed g c =
    let named = rw (c.append-reply.ensures.lines, c.append-reply.ensures.params) at c.follow.ensures.named in
    rw (c.append-reply.ensures.lines, c.append-reply.ensures.params)
    (armed-behind c.args.fold.now.params c.args.fold.now.lines c.args.line.now c.args.timers.now c.follow.new.timers c.requires.params c.requires.one c.requires.passed c.requires.nodes c.requires.armed named)
