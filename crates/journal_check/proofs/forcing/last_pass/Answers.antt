use Rattle.std.proofs.lemmas.Bool.{and_parts}
use Rattle.std.proofs.Common.{ℕ, List, take, sym, ap, ◌∙◌, arith}
use Rattle.nb_base.specs.declared.line.Line.{Line}
use Rattle.nb_journal.specs.Lawful.{pass_after, last_pass}
use Rattle.nb_journal.specs.Steps.{IsStep}
use Rattle.nb_journal.proofs.Folds.{last_pass-nil, last_pass-snoc}
use Rattle.nb_journal.proofs.Takes.{taken, each-take, each-take_at}
use Rattle.journal_check.proofs.Steps.{pass_after-within}
use Rattle.nb_journal.proofs.Meets.{moment_of_run}
use Rattle.journal_check.proofs.forcing.last_pass.Goals as goal

pub loop-place-init : goal.loop-place-init
loop-place-init c = record { value = sym (last_pass-nil c.args.params.now); within = omega arith }

pub pass_after-requires-clause-steps : goal.pass_after-requires-clause-steps
pass_after-requires-clause-steps c = each-take (IsStep c.args.params.now) c.args.lines.now c.loop-place.place c.requires.steps

pub loop-place-preserved : goal.loop-place-preserved
loop-place-preserved c =
    let p = c.args.params.now in
    let first = take c.loop-place.place c.args.lines.now in
    let line = c.index-lines-place.result in
    let small = c.loop-place-test.true in
    record {
      value = c.in_ok-last.ensures
          ∙ ap (λ (n : ℕ). pass_after p n first line) c.loop-place.invariant.value
          ∙ sym (last_pass-snoc p first line)
          ∙ ap (λ (xs : List Line). last_pass p xs) (sym (taken c.args.lines.now c.loop-place.place line small c.index-lines-place.is));
      within = rw c.in_ok-last.ensures
          (pass_after-within p c.loop-place.last first line c.loop-place.invariant.within (moment_of_run line (each-take_at (IsStep p) c.args.lines.now c.loop-place.place line small c.index-lines-place.is c.requires.steps).0));
    }

pub pass_after-requires-clause-asked : goal.pass_after-requires-clause-asked
pass_after-requires-clause-asked c =
    (and_parts _ _ (each-take_at (IsStep c.args.params.now) c.args.lines.now c.loop-place.place c.index-lines-place.result c.loop-place-test.true c.index-lines-place.is c.requires.steps).0).1
