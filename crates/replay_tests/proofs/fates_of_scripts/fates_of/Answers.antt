-- What the replay, the fates and the summary ask of a script's plan.
use Rattle.std.proofs.Common.{◌<◌, refl, sym, subst, arith}
use Rattle.nb_base.specs.declared.plan.Plan.{Plan}
use Rattle.neigh_plan.specs.Inline.{IsEnterable, plan_bound, most_lines}
use Rattle.neigh_plan.proofs.ScriptBounds.{script_bound, script_enterable}
use Rattle.neigh_replay.proofs.Steps.{run_has_text}
use Rattle.neigh_replay.proofs.ScriptRuns.{few_packets}
use Rattle.replay_tests.proofs.fates_of_scripts.fates_of.Goals as goal

pub replay_inline-requires-clause-plan : goal.replay_inline-requires-clause-plan
replay_inline-requires-clause-plan c = subst IsEnterable (sym c.in_ok-plan.ensures.value) (script_enterable c.args.script.now 50 1 refl c.requires.within c.requires.few)

pub replay_inline-requires-clause-bound : goal.replay_inline-requires-clause-bound
replay_inline-requires-clause-bound c = subst (λ (p : Plan). plan_bound p < most_lines) (sym c.in_ok-plan.ensures.value) (script_bound c.args.script.now 50 1 c.requires.within c.requires.few)

pub fates-requires-clause-params : goal.fates-requires-clause-params
fates-requires-clause-params c = (run_has_text c.in_ok-plan.plan c.in_ok-run.run' (subst IsEnterable (sym c.in_ok-plan.ensures.value) (script_enterable c.args.script.now 50 1 refl c.requires.within c.requires.few)) c.in_ok-run.ensures.run c.in_ok-run.ensures.short).params

pub fates-requires-clause-few : goal.fates-requires-clause-few
fates-requires-clause-few c = (run_has_text c.in_ok-plan.plan c.in_ok-run.run' (subst IsEnterable (sym c.in_ok-plan.ensures.value) (script_enterable c.args.script.now 50 1 refl c.requires.within c.requires.few)) c.in_ok-run.ensures.run c.in_ok-run.ensures.short).few

pub fates-requires-clause-steps : goal.fates-requires-clause-steps
fates-requires-clause-steps c = (run_has_text c.in_ok-plan.plan c.in_ok-run.run' (subst IsEnterable (sym c.in_ok-plan.ensures.value) (script_enterable c.args.script.now 50 1 refl c.requires.within c.requires.few)) c.in_ok-run.ensures.run c.in_ok-run.ensures.short).steps

pub fates-requires-clause-packets : goal.fates-requires-clause-packets
fates-requires-clause-packets c =
    few_packets c.args.script.now 50 1 c.in_ok-plan.plan c.in_ok-run.run' (omega arith) c.in_ok-plan.ensures.value c.requires.within c.requires.few
    (subst IsEnterable (sym c.in_ok-plan.ensures.value) (script_enterable c.args.script.now 50 1 refl c.requires.within c.requires.few)).within c.in_ok-run.ensures.run

pub summary-requires-clause-params : goal.summary-requires-clause-params
summary-requires-clause-params c = (run_has_text c.in_ok-plan.plan c.in_ok-run.run' (subst IsEnterable (sym c.in_ok-plan.ensures.value) (script_enterable c.args.script.now 50 1 refl c.requires.within c.requires.few)) c.in_ok-run.ensures.run c.in_ok-run.ensures.short).params

pub summary-requires-clause-few : goal.summary-requires-clause-few
summary-requires-clause-few c = (run_has_text c.in_ok-plan.plan c.in_ok-run.run' (subst IsEnterable (sym c.in_ok-plan.ensures.value) (script_enterable c.args.script.now 50 1 refl c.requires.within c.requires.few)) c.in_ok-run.ensures.run c.in_ok-run.ensures.short).few

pub summary-requires-clause-steps : goal.summary-requires-clause-steps
summary-requires-clause-steps c = (run_has_text c.in_ok-plan.plan c.in_ok-run.run' (subst IsEnterable (sym c.in_ok-plan.ensures.value) (script_enterable c.args.script.now 50 1 refl c.requires.within c.requires.few)) c.in_ok-run.ensures.run c.in_ok-run.ensures.short).steps
