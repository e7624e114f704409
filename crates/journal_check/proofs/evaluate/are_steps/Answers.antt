use Rattle.std.proofs.Common.{take, sym, ◌∙◌, subst}
use Rattle.nb_journal.specs.Lawful.{EachLine}
use Rattle.nb_journal.specs.Steps.{IsStep}
use Rattle.nb_journal.proofs.Lines.{each-snoc}
use Rattle.nb_journal.proofs.Takes.{taken}
use Rattle.journal_check.proofs.Decides.{all_steps-more, step_from}
use Rattle.journal_check.proofs.evaluate.are_steps.Goals as goal

pub loop-place-preserved : goal.loop-place-preserved
loop-place-preserved c =
    let p = c.args.params.now in
    let lines = c.args.lines.now in
    let i = c.loop-place.place in
    let line = c.index-lines-place.result in
    let small = c.loop-place-test.true in
    let at = c.index-lines-place.is in
    let step = sym c.in_ok-is_step.ensures ∙ c.if-not-branch.false in
    record {
      all = all_steps-more p lines i line small at step ∙ c.loop-place.invariant.all;
      steps = subst (EachLine (IsStep p)) (sym (taken lines i line small at)) (each-snoc (IsStep p) (take i lines) line c.loop-place.invariant.steps (step_from p (take i lines) line step));
    }
