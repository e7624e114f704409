use Rattle.std.proofs.Common.{take, sym, ◌∙◌, subst}
use Rattle.nb_journal.specs.Lawful.{EachLine}
use Rattle.nb_journal.specs.Steps.{IsStep}
use Rattle.nb_journal.proofs.Lines.{each-snoc}
use Rattle.nb_journal.proofs.Takes.{taken}
use Rattle.journal_check.proofs.Decides.{all_fit-more, fit_steps}
use Rattle.journal_check.proofs.deciding.all_fit.Goals as goal

pub loop-place-preserved : goal.loop-place-preserved
loop-place-preserved c =
    let p = c.args.params.now in
    let lines = c.args.lines.now in
    let i = c.loop-place.place in
    let line = c.index-lines-place.result in
    let small = c.loop-place-test.true in
    let at = c.index-lines-place.is in
    let fits = sym c.in_ok-fits.ensures ∙ c.if-not-branch.false in
    record {
      fits = all_fit-more p lines i line small at fits ∙ c.loop-place.invariant.fits;
      steps = subst (EachLine (IsStep p)) (sym (taken lines i line small at)) (each-snoc (IsStep p) (take i lines) line c.loop-place.invariant.steps (fit_steps p lines i line small at c.requires.lines fits));
    }
