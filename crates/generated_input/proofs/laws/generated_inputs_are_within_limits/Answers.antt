use Rattle.generated_input.proofs.Measures.{has_frames, has_packets}
use Rattle.generated_input.proofs.laws.generated_inputs_are_within_limits.Goals as goal

pub returns-clause-frames : goal.returns-clause-frames
returns-clause-frames c = has_frames

pub returns-clause-packets : goal.returns-clause-packets
returns-clause-packets c = has_packets
