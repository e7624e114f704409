use Rattle.std.proofs.Common.{List, Option, take, sym, ap, ◌∙◌, arith}
use Rattle.nb_base.specs.declared.key.Key.{Key}
use Rattle.nb_journal.specs.Fold.{with_key, known_keys}
use Rattle.nb_journal.proofs.Folds.{known_keys-nil, known_keys-snoc}
use Rattle.nb_journal.proofs.Takes.{taken}
use Rattle.journal_check.proofs.states.keys_behind.Goals as goal

pub loop-line-init : goal.loop-line-init
loop-line-init c = c.new-keys.ensures.items ∙ sym known_keys-nil

pub loop-line-preserved : goal.loop-line-preserved
loop-line-preserved c =
    let first = take c.loop-line.line-index c.args.lines.now in
    c.in_ok-add_key.ensures
    ∙ ap (λ (keys : List Key). with_key keys c.made_known.result) c.loop-line.invariant
    ∙ ap (λ (new : Option Key). with_key (known_keys first) new) c.made_known.ensures
    ∙ sym (known_keys-snoc first c.line-item.result)
    ∙ ap known_keys (sym (taken c.args.lines.now c.loop-line.line-index c.line-item.result (omega arith) c.line-item.is))
