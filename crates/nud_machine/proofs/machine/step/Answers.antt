use Rattle.std.proofs.Common.{sym, subst}
use Rattle.nud_machine.specs.State.{Stepped, IsSound}
use Rattle.nud_machine.specs.Kept.{state_of}
use Rattle.nud_machine.specs.Asked.{IsInRun}
use Rattle.nud_machine.proofs.Keeps.{step_sound}
use Rattle.nud_machine.proofs.Rises.{step_stays_in_run}
use Rattle.nud_machine.proofs.machine.step.Goals as goal

pub returns-clause-sound : goal.returns-clause-sound
returns-clause-sound c =
    subst (λ (done : Stepped). IsSound c.args.params.now done.state) (sym c.run.ensures.step)
    (step_sound c.args.params.now c.args.at (state_of c.args.entry.now c.args.waiting.now) c.args.event.now c.requires.params c.requires.settable c.requires.sized c.requires.present c.requires.sound)

pub returns-clause-moments : goal.returns-clause-moments
returns-clause-moments c =
    subst (λ (done : Stepped). IsInRun done.state.entry) (sym c.run.ensures.step)
    (step_stays_in_run c.args.params.now c.args.at (state_of c.args.entry.now c.args.waiting.now) c.args.event.now c.requires.now c.requires.moments)
