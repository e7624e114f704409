-- A good try in a run.
use Rattle.std.proofs.Common.{◌/◌}
use Rattle.hh_core.specs.declared.step.Step.TheVariants as step
use Rattle.hh_core.specs.Step.{after, run}
use Rattle.hh_core.specs.Tries.{TryOfARun}
use Rattle.hh_core.proofs.Orders.{safe_run, good_try, published_stays}

pub try_of_a_run : TryOfARun
try_of_a_run steps later s r n pair h e =
    let here = good_try (run steps s) r n pair (safe_run steps s h) e in
    (here.0, published_stays later (after (step.Second r) (run steps s)) (n / 2) pair here.1)
