use Rattle.std.proofs.Common.{take, sym, ap, ◌∙◌, arith}
use Rattle.nud_machine.specs.State.{State, Stepped}
use Rattle.nb_base.specs.declared.line.Line.{Line}
use Rattle.std.specs.Prelude.{List}
use Rattle.nb_journal.specs.Fold.{change, state_of}
use Rattle.nb_journal.specs.Steps.{IsStep, state_in}
use Rattle.nb_journal.proofs.Folds.{state_of-nil, state_of-snoc}
use Rattle.nb_journal.proofs.Takes.{taken, each-take_at}
use Rattle.nb_journal.proofs.Meets.{timers_due}
use Rattle.journal_check.proofs.states.state_behind.Goals as goal

pub loop-line-init : goal.loop-line-init
loop-line-init c = record {
  kept = c.in_ok-kept.ensures.kept c.args.params.now;
  state = c.in_ok-kept.ensures.absent ∙ sym (state_of-nil c.args.params.now c.args.key.now);
}

pub go_on-requires-clause-line : goal.go_on-requires-clause-line
go_on-requires-clause-line c = (each-take_at (IsStep c.args.params.now) c.args.lines.now c.loop-line.line-index c.line-item.result (omega arith) c.line-item.is c.requires.steps).0

pub go_on-requires-clause-due : goal.go_on-requires-clause-due
go_on-requires-clause-due c =
    timers_due c.args.params.now (take c.loop-line.line-index c.args.lines.now) c.line-item.result c.args.key.now (state_in c.loop-line.kept) c.loop-line.invariant.state
    (each-take_at (IsStep c.args.params.now) c.args.lines.now c.loop-line.line-index c.line-item.result (omega arith) c.line-item.is c.requires.steps).1

pub loop-line-preserved : goal.loop-line-preserved
loop-line-preserved c = record {
  kept = c.go_on.ensures.kept;
  state = ap (λ (x : Stepped). x.state) c.go_on.ensures.changed
      ∙ ap (λ (s : State). (change c.args.params.now c.line-item.result c.args.key.now s).state) c.loop-line.invariant.state
      ∙ sym (state_of-snoc c.args.params.now (take c.loop-line.line-index c.args.lines.now) c.line-item.result c.args.key.now)
      ∙ ap (λ (xs : List Line). state_of c.args.params.now xs c.args.key.now) (sym (taken c.args.lines.now c.loop-line.line-index c.line-item.result (omega arith) c.line-item.is));
}
