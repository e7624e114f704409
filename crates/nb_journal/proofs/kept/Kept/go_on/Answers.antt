use Rattle.std.proofs.Common.{sym, ◌∙◌}
use Rattle.nb_journal.specs.Steps.{state_in}
use Rattle.nb_journal.proofs.Meets.{timers_moment}
use Rattle.nb_journal.proofs.Changed.{change_met, change_missed}
use Rattle.nb_journal.proofs.kept.Kept.go_on.Goals as goal

pub take_effect-requires-clause-due : goal.take_effect-requires-clause-due
take_effect-requires-clause-due c = timers_moment c.args.line.now c.args.key.now (state_in c.args.self.now) (sym c.concerns.ensures ∙ c.if-concerns.true) c.requires.due

pub returns-then-concerns-clause-changed : goal.returns-then-concerns-clause-changed
returns-then-concerns-clause-changed c =
    c.take_effect.ensures.met ∙ sym (change_met c.args.params.now c.args.line.now c.args.key.now (state_in c.args.self.now) (sym c.concerns.ensures ∙ c.if-concerns.true))

pub returns-else-concerns-clause-changed : goal.returns-else-concerns-clause-changed
returns-else-concerns-clause-changed c =
    rw c.turn_away.ensures
    (sym (change_missed c.args.params.now c.args.line.now c.args.key.now (state_in c.args.self.now) (sym c.concerns.ensures ∙ c.if-concerns.false)))
