use Rattle.std.proofs.Common.{[], sym, ◌∙◌, arith}
use Rattle.journal_check.proofs.Decides.{steps_from, steps_to}
use Rattle.journal_check.proofs.evaluate.is_evaluable.Goals as goal

pub returns : goal.returns
returns c =
    let p = c.args.params.now in
    let lines = c.args.lines.now in
    let small = c.if-lines.false in
    let same = c.in_ok-evaluable.ensures in (
      λ e. record { few = omega (arith, small); steps = steps_from p [] lines (sym same ∙ e) },
      λ h. same ∙ steps_to p [] lines h.steps,
    )
