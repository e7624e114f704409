use Rattle.std.proofs.Common.{◌≡◌, ◌+◌, ◌-◌, ◌*◌, ◌≤◌}
use Rattle.timer_wheel.specs.Places.{slot_by}
use Rattle.timer_wheel.proofs.armed.slot_of.Given as goal

abbrev pub invariant-loop-level : goal.invariant-loop-level
invariant-loop-level l = (l.level ≤ 10) × (slot_by 10 l.fn.now l.fn.due ≡ 64 * l.level + slot_by (10 - l.level) l.here l.there)
