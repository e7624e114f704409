use Rattle.std.proofs.Common.{rules, refl, ap, arith}
use Rattle.timer_wheel.specs.Map.{Timers}
use Rattle.nb_bucket.proofs.Armed.{armed-nil}
use Rattle.nb_bucket.proofs.Keeping.{follows-nil}
use Rattle.nb_bucket.proofs.Ranks.{holds-nil}
use Rattle.nb_bucket.proofs.bucket.Bucket.new.Goals as goal

pub invariant_of-result : goal.invariant_of-result
invariant_of-result c = record {
  follows = rw (c.in_ok-new.ensures.lines, c.in_ok-new.ensures.params, c.from.ensures) (follows-nil c.args.params.now c.args.limit c.requires.params c.requires.limit);
  order = rw (c.in_ok-new.ensures.lines, c.in_ok-new.ensures.params) (holds-nil c.args.params.now _ (rw c.in_ok-new-2.ensures.made refl));
  victims = search rules;
  ranks = search rules;
  armed = rw (c.in_ok-new.ensures.lines, c.in_ok-new.ensures.params, c.in_ok-new-4.ensures) (armed-nil c.args.params.now);
  passed = let now = ap (λ (t : Timers). t.now) c.in_ok-new-4.ensures in omega (arith, now);
}
