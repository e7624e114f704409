use Rattle.std.proofs.Common.{List, ◌∙◌, ap, arith}
use Rattle.nb_base.specs.declared.line.Line.{Line}
use Rattle.nb_base.specs.declared.params.Params.{Params}
use Rattle.nb_journal.specs.Fold.{present_count}
use Rattle.nb_journal.proofs.Folds.{present_count-within}
use Rattle.journal_fold.proofs.Mixed.{no_more, each_replied}
use Rattle.journal_fold.proofs.fold.Fold.append_over.Goals as goal

pub reply_to_each-requires-clause-few : goal.reply_to_each-requires-clause-few
reply_to_each-requires-clause-few c =
    let old = c.args.self.now in
    let within = present_count-within old.params old.lines in
    omega (arith, within, c.present-was.ensures, c.requires.few)

pub reply_to_each-requires-clause-fewer : goal.reply_to_each-requires-clause-fewer
reply_to_each-requires-clause-fewer c =
    let old = c.args.self.now in
    let less = no_more old.params old.lines c.args.line.now c.requires.names in
    let now = c.present.ensures ∙ ap (λ (p : Params). present_count p c.step_ranks.new.self.lines) c.step_ranks.ensures.params ∙ ap (present_count old.params) c.step_ranks.ensures.lines in
    omega (arith, less, now, c.present-was.ensures)

pub returns-clause-reply : goal.returns-clause-reply
returns-clause-reply c =
    let old = c.args.self.now in
    rw (c.reply_to_each.ensures, c.present-was.ensures, c.present.ensures, c.step_ranks.ensures.params, c.step_ranks.ensures.lines) (each_replied old.params old.lines c.args.line.now c.requires.names)
