use Rattle.std.proofs.Common.{◌≡◌}
use Rattle.generated_input.specs.Draws.{state_after}
use Rattle.generated_input.specs.Sent as of
use Rattle.generated_input.proofs.sent.sent.Given as goal

abbrev pub invariant-loop-place : goal.invariant-loop-place
invariant-loop-place l = record { items : l.items ≡ of.sent l.place l.fn.draws.state; draws : l.draws.state ≡ state_after l.place l.fn.draws.state }
