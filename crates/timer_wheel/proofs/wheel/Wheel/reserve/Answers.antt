use Rattle.std.specs.Prelude.{◌-◌, length}
use Rattle.timer_wheel.proofs.Leasts.{knows_reserved}
use Rattle.timer_wheel.proofs.wheel.Wheel.reserve.Goals as goal

pub invariant_of-self : goal.invariant_of-self
invariant_of-self c = knows_reserved c.reserve.result c.self.inside.armed c.reserve.new.self c.self.inside.least (c.args.nodes - length c.self.inside.armed.dues) c.reserve.ensures.ok c.reserve.ensures.err c.self.invariant
