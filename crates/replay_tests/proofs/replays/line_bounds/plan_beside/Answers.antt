-- A plan of files within their limits can be entered.
use Rattle.std.proofs.Common.{refl, sym, subst}
use Rattle.neigh_plan.specs.Inline.{IsEnterable}
use Rattle.neigh_plan.proofs.FileBounds.{files_enterable}
use Rattle.replay_tests.proofs.replays.line_bounds.plan_beside.Goals as goal

pub returns : goal.returns
returns c =
    subst IsEnterable (sym c.in_ok-plan.ensures.value)
    (files_enterable c.args.capture.now c.in_ok-records.records c.in_ok-script.script 50 1 refl c.in_ok-script.ensures.within c.in_ok-script.ensures.few c.in_ok-records.ensures.bounded)
