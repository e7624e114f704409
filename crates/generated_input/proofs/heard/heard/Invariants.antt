use Rattle.std.proofs.Common.{◌≡◌, ◌*◌}
use Rattle.generated_input.specs.Draws.{state_after}
use Rattle.generated_input.specs.Heard as of
use Rattle.generated_input.proofs.heard.heard.Given as goal

abbrev pub invariant-loop-place : goal.invariant-loop-place
invariant-loop-place l = record { frames : l.frames ≡ of.heard l.place l.fn.draws.state; draws : l.draws.state ≡ state_after (2 * l.place) l.fn.draws.state }
