-- A large input from a number: what its capture and its script hold (this project's own).
use Rattle.std.specs.Prelude.{ℕ, List}
use Rattle.nb_base.specs.Params.{default_params}
use Rattle.neigh_script.specs.declared.script.Script.{Script}
use Rattle.pcap_records.specs.declared.capture.Frame.{Frame}
use Rattle.generated_input.specs.Draws.{state_after}
use Rattle.generated_input.specs.Heard.{heard, host}
use Rattle.generated_input.specs.Sent.{sent}

-- 10,000 records, whose draws begin at the number
unfoldable pub frames_of : ℕ → List Frame
frames_of number = heard 10_000 number

-- 20,000 packets, whose draws begin at a state; the host has four senders and the default parameters
abbrev pub script_from : ℕ → Script
script_from state = record { host = host; senders = 4; params = default_params; items = sent 20_000 state }

-- they come behind the 20,000 draws of the records
unfoldable pub script_of : ℕ → Script
script_of number = script_from (state_after 20_000 number)
