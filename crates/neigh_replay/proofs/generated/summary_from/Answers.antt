-- What the replay and the summary ask of the generated plan.
use Rattle.std.proofs.Common.{◌<◌, sym, subst}
use Rattle.std.proofs.lemmas.Result.{IfOk-weaker}
use Rattle.nb_base.specs.declared.plan.Plan.{Plan}
use Rattle.neigh_run.specs.Inline.{IsInlineRun}
use Rattle.neigh_plan.specs.Inline.{IsEnterable, plan_bound, most_lines}
use Rattle.neigh_replay.proofs.Steps.{run_has_text}
use Rattle.neigh_replay.proofs.GeneratedPlans.{generated_enterable, generated_small}
use Rattle.neigh_replay.proofs.generated.summary_from.Goals as goal

pub replay_inline-requires-clause-plan : goal.replay_inline-requires-clause-plan
replay_inline-requires-clause-plan c = subst IsEnterable (sym c.in_ok-plan.ensures) (generated_enterable c.args.number)

pub replay_inline-requires-clause-bound : goal.replay_inline-requires-clause-bound
replay_inline-requires-clause-bound c = subst (λ (p : Plan). plan_bound p < most_lines) (sym c.in_ok-plan.ensures) (generated_small c.args.number)

pub summary-requires-clause-params : goal.summary-requires-clause-params
summary-requires-clause-params c = (run_has_text c.in_ok-plan.plan c.in_ok-run.run' (subst IsEnterable (sym c.in_ok-plan.ensures) (generated_enterable c.args.number)) c.in_ok-run.ensures.run c.in_ok-run.ensures.short).params

pub summary-requires-clause-few : goal.summary-requires-clause-few
summary-requires-clause-few c = (run_has_text c.in_ok-plan.plan c.in_ok-run.run' (subst IsEnterable (sym c.in_ok-plan.ensures) (generated_enterable c.args.number)) c.in_ok-run.ensures.run c.in_ok-run.ensures.short).few

pub summary-requires-clause-steps : goal.summary-requires-clause-steps
summary-requires-clause-steps c = (run_has_text c.in_ok-plan.plan c.in_ok-run.run' (subst IsEnterable (sym c.in_ok-plan.ensures) (generated_enterable c.args.number)) c.in_ok-run.ensures.run c.in_ok-run.ensures.short).steps

pub returns : goal.returns
returns c =
    IfOk-weaker c.summary.result _ _
    (λ text e. record { run = c.in_ok-run.run'; inline = subst (λ (p : Plan). IsInlineRun p c.in_ok-run.run') c.in_ok-plan.ensures c.in_ok-run.ensures.run; spelled = e })
    c.summary.ensures
