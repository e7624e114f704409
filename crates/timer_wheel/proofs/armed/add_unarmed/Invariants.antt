use Rattle.std.proofs.Common.{◌≡◌, ◌+◌, ◌≤◌, ◌++◌, None, vec_len, vec_capacity}
use Rattle.std.specs.Prelude.{replicate}
use Rattle.timer_wheel.proofs.armed.add_unarmed.Given as goal

abbrev pub invariant-loop : goal.invariant-loop
invariant-loop l = record {
  items : l.dues.items ≡ l.fn.dues.items ++ replicate l.counter None;
  room : vec_len l.fn.dues + l.more ≤ vec_capacity l.dues;
}
