use Rattle.std.proofs.Common.{◌≡◌, ℕ, ◌*◌, ◌<◌}
use Rattle.timer_wheel.specs.Marked.{mark_of}
use Rattle.timer_wheel.proofs.marks.SlotMarks.first.Given as goal

abbrev pub invariant-loop-level : goal.invariant-loop-level
invariant-loop-level l = (slot : ℕ) → slot < 64 * l.level → mark_of l.fn.self slot ≡ 0
