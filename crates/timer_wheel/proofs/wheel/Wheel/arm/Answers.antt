use Rattle.std.proofs.Common.{rules, sym, subst}
use Rattle.timer_wheel.specs.Kept.{KnowsLeast}
use Rattle.timer_wheel.proofs.Leasts.{knows_armed}
use Rattle.timer_wheel.proofs.wheel.Wheel.arm.Goals as goal
use Rattle.timer_wheel.proofs.wheel.Wheel.arm.Goals.{in-Some, in_default}

pub invariant_of-self : goal.invariant_of-self
invariant_of-self c = elim c.match-self.branch [
  | in-Some w ↦ subst (KnowsLeast c.arm.new.self) (sym w.self-is) (knows_armed c.self.inside.armed c.arm.new.self c.args.node c.args.due w.in-Some.at w.in-Some.least c.self.inside.least (search rules) (search rules) c.arm.ensures c.self.invariant w.in-Some.is w.if-least-node.true w.earlier.result w.earlier.ensures)
  | in_default w ↦ subst (KnowsLeast c.arm.new.self) (sym w.self-is) (record { least = w.least-self-inside.ensures.least; ahead = w.least-self-inside.ensures.ahead })
]
