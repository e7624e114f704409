use Rattle.std.proofs.Common.{ap, ◌∙◌}
use Rattle.nud_machine.specs.State.{State}
use Rattle.nb_journal.specs.Fold.{change, effect, reply_to_effect}
use Rattle.journal_check.proofs.replies.reply_for.Goals as goal

pub returns : goal.returns
returns c =
    let p = c.args.params.now in
    let line = c.args.line.now in
    c.reply_of_kept.ensures ∙ ap (λ (s : State). reply_to_effect line.op (change p line c.args.key.now s).acts (effect p line s line.op)) c.in_ok-kept.ensures.state
