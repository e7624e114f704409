-- A key that isn't known is absent.
use Rattle.std.proofs.Common.{◌≡◌, false, sym, ap, subst, ◌∙◌}
use Rattle.nud_machine.specs.State.{State}
use Rattle.nb_journal.specs.Keys.{has_key}
use Rattle.nb_journal.specs.Fold.{effect, state_of, known_keys}
use Rattle.nb_journal.specs.Steps.{effect_named}
use Rattle.nb_journal.proofs.Counts.{state_of-unknown}
use Rattle.journal_fold.specs.Taken.{Taken}
use Rattle.journal_fold.proofs.fold.Fold.effect_of.Goals as goal

pub returns-in-None : goal.returns-in-None
returns-in-None c =
    let f = c.self.inside in
    let line = c.args.line.now in
    let key = c.args.key.now in
    let off = subst (λ (t : Taken). has_key (known_keys t.lines) key ≡ false) (sym c.self.view_is) (sym c.in-None.ensures.known) in
    subst (λ (t : Taken). effect_named c.effect_of-in-None.result ≡ effect t.params line (state_of t.params t.lines key) line.op) c.self.view_is
    (c.effect_of-in-None.ensures ∙ ap (λ (s : State). effect f.params line s line.op) (c.self.invariant.blank.1 ∙ sym (state_of-unknown f.params f.lines.items key off)))
