use Rattle.std.proofs.Common.{arith}
use Rattle.timer_wheel.proofs.Digits.{slot_ends, slot_steps, slot_at_last}
use Rattle.timer_wheel.proofs.armed.slot_of.Goals as goal

pub returns-then-here-there-clause-slot : goal.returns-then-here-there-clause-slot
returns-then-here-there-clause-slot c = slot_ends c.loop-level.level c.loop-level.here c.loop-level.there c.args.now c.args.due c.loop-level-test.true c.loop-level.invariant.1 c.if-here-there.true

pub loop-level-preserved : goal.loop-level-preserved
loop-level-preserved c =
    let small = c.loop-level-test.true in
    (omega (arith, small), slot_steps c.loop-level.level c.loop-level.here c.loop-level.there c.args.now c.args.due small c.loop-level.invariant.1 c.if-here-there.false)

pub returns-clause-slot : goal.returns-clause-slot
returns-clause-slot c =
    let past = c.loop-level-test.false in
    let most = c.loop-level.invariant.0 in
    slot_at_last c.loop-level.level c.loop-level.here c.loop-level.there c.args.now c.args.due (omega (arith, past, most)) c.loop-level.invariant.1
