use Rattle.std.proofs.Common.{◌≡◌, List, [], ◌∷◌, ◌++◌, take, subst, sym, ap, ◌∙◌, arith, append_assoc}
use Rattle.std.specs.Prelude.{string_bytes}
use Rattle.nb_base.specs.declared.line.Line.{Line}
use Rattle.nud_machine.specs.declared.act.Act.{Act}
use Rattle.nb_journal.specs.Accounts.{acts_at}
use Rattle.nb_journal.specs.Steps.{IsStep}
use Rattle.nb_journal.proofs.Takes.{taken, each-take_at}
use Rattle.text_codes.specs.Lines.{text_of}
use Rattle.neigh_run.specs.Report.{journal_acts, line_words, all_below}
use Rattle.neigh_report.proofs.LeftBehind.{acts_more, written_more}
use Rattle.neigh_report.proofs.behind.write_lines.Goals as goal

pub write_and_take-requires-clause-step : goal.write_and_take-requires-clause-step
write_and_take-requires-clause-step c =
    subst (λ (past : List Line). IsStep c.args.plan.now.params past c.line-item.result) (sym c.loop-line.invariant.taken)
    (each-take_at (IsStep c.args.plan.now.params) c.args.lines.now c.loop-line.line-index c.line-item.result (omega arith) c.line-item.is c.requires.steps)

pub loop-line-preserved : goal.loop-line-preserved
loop-line-preserved c =
    let plan = c.args.plan.now in
    let past = take c.loop-line.line-index c.args.lines.now in
    let line = c.line-item.result in
    let here = c.loop-line.invariant.taken in
    let told = c.in_ok-write_and_take.ensures in
    rw (taken c.args.lines.now c.loop-line.line-index line (omega arith) c.line-item.is) (record {
      written = written_more plan past line (string_bytes c.args.report.now) (string_bytes c.loop-line.report) (string_bytes c.write_and_take.new.report) c.loop-line.invariant.written
          (subst (λ (xs : List Line). string_bytes c.write_and_take.new.report ≡ string_bytes c.loop-line.report ++ text_of (line_words plan xs line ∷ all_below plan xs line)) here told.written);
      taken = told.lines ∙ ap (λ (xs : List Line). xs ++ line ∷ []) here;
      params = c.write_and_take.ensures.params;
      acts = told.acts ∙ ap (λ (xs : List Line). c.loop-line.acts.items ++ acts_at plan.params xs line) here
          ∙ ap (λ (acts : List Act). acts ++ acts_at plan.params past line) c.loop-line.invariant.acts
          ∙ append_assoc c.args.acts.now.items (journal_acts plan [] past) (acts_at plan.params past line)
          ∙ ap (λ (more : List Act). c.args.acts.now.items ++ more) (sym (acts_more plan [] past line));
    })
