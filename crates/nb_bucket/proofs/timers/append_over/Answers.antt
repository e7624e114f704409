use Rattle.journal_fold.proofs.Whole.{same_keys}
use Rattle.nb_bucket.proofs.Armed.{armed-over}
use Rattle.nb_bucket.proofs.timers.append_over.Goals as goal

pub clear_gone-requires-clause-known : goal.clear_gone-requires-clause-known
clear_gone-requires-clause-known g c = rw (c.append_over-reply.ensures.lines, same_keys c.args.fold.now.lines c.args.line.now c.requires.names) c.requires.ranks.known

pub clear_gone-requires-clause-nodes : goal.clear_gone-requires-clause-nodes
clear_gone-requires-clause-nodes g c = rw (c.append_over-reply.ensures.lines, same_keys c.args.fold.now.lines c.args.line.now c.requires.names) c.requires.armed.nodes

pub returns-clause-armed : goal.returns-clause-armed
returns-clause-armed g c =
    let cleared = rw (c.append_over-reply.ensures.lines, c.append_over-reply.ensures.params) at c.clear_gone.ensures in
    rw (c.append_over-reply.ensures.lines, c.append_over-reply.ensures.params)
    (armed-over c.args.fold.now.params c.args.fold.now.lines c.args.line.now c.args.ranks.now c.args.timers.now c.clear_gone.new.timers c.requires.params c.requires.names c.requires.ranks c.requires.passed c.requires.armed cleared)
