use Rattle.std.proofs.Common.{◌≡◌, ◌++◌, List, ℕ, length}
use Rattle.std.specs.Option.{option_map}
use Rattle.text_codes.specs.HexText.{hex_bytes_of}
use Rattle.neigh_script.proofs.fields.read_hex_bytes.Given as goal

abbrev pub invariant-loop-rest : goal.invariant-loop-rest
invariant-loop-rest l = option_map (λ (xs : List ℕ). l.bytes.items ++ xs) (hex_bytes_of l.rest) ≡ hex_bytes_of l.text

abbrev pub decreases-loop-rest : goal.decreases-loop-rest
decreases-loop-rest l = length l.rest
