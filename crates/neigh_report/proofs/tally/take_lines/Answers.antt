use Rattle.std.proofs.Common.{List, [], ◌∷◌, ◌++◌, take, sym, ap, ◌∙◌, arith, append_assoc}
use Rattle.nb_base.specs.declared.line.Line.{Line}
use Rattle.nud_machine.specs.declared.act.Act.{Act}
use Rattle.nb_base.specs.declared.params.Params.{Params}
use Rattle.nb_journal.specs.Accounts.{acts_at}
use Rattle.nb_journal.specs.Steps.{IsStep}
use Rattle.nb_journal.proofs.Takes.{taken, each-take_at}
use Rattle.neigh_run.specs.Report.{journal_acts}
use Rattle.neigh_report.proofs.LeftBehind.{acts_more, step_there}
use Rattle.neigh_report.proofs.tally.take_lines.Goals as goal

pub append_with_acts-requires-clause-step : goal.append_with_acts-requires-clause-step
append_with_acts-requires-clause-step c =
    step_there c.args.plan.now.params c.loop-line.fold.params (take c.loop-line.line-index c.args.lines.now) c.loop-line.fold.lines c.line-item.result c.loop-line.invariant.params c.loop-line.invariant.taken
    (each-take_at (IsStep c.args.plan.now.params) c.args.lines.now c.loop-line.line-index c.line-item.result (omega arith) c.line-item.is c.requires.steps)

pub loop-line-preserved : goal.loop-line-preserved
loop-line-preserved c =
    let plan = c.args.plan.now in
    let past = take c.loop-line.line-index c.args.lines.now in
    let line = c.line-item.result in
    let here = c.loop-line.invariant.taken in
    let told = c.in_ok-append_with_acts.ensures in
    rw (taken c.args.lines.now c.loop-line.line-index line (omega arith) c.line-item.is) (record {
      taken = told.lines ∙ ap (λ (xs : List Line). xs ++ line ∷ []) here;
      params = c.append_with_acts.ensures.params ∙ c.loop-line.invariant.params;
      acts = told.acts ∙ ap (λ (p : Params). c.loop-line.acts.items ++ acts_at p c.loop-line.fold.lines line) c.loop-line.invariant.params
          ∙ ap (λ (xs : List Line). c.loop-line.acts.items ++ acts_at plan.params xs line) here
          ∙ ap (λ (acts : List Act). acts ++ acts_at plan.params past line) c.loop-line.invariant.acts
          ∙ append_assoc c.args.acts.now.items (journal_acts plan [] past) (acts_at plan.params past line)
          ∙ ap (λ (more : List Act). c.args.acts.now.items ++ more) (sym (acts_more plan [] past line));
    })
