-- Bytes as hexadecimal digits, two for each and no separators. This project's own.
use Rattle.std.specs.Prelude.{ℕ, ◌<◌, List, [], ◌∷◌, Option, Some, None}
use Rattle.std.specs.Option.{option_and_then, option_map}
use Rattle.std.specs.List.{flat_map, AllByRecursion}
use Rattle.nb_base.specs.Parts.{hex_byte_of, hex_pair}

-- each byte as two lower-case digits
abbrev pub hex_text : List ℕ → List ℕ
hex_text bytes = flat_map hex_pair bytes

-- the bytes that pairs of digits of either case spell, however many; none where a sign is no digit or the last digit stands alone
unfoldable pub hex_bytes_of : List ℕ → Option (List ℕ)
hex_bytes_of [] = Some []
hex_bytes_of (high ∷ []) = None
hex_bytes_of (high ∷ low ∷ more) = option_and_then (λ byte. option_map (λ bytes. byte ∷ bytes) (hex_bytes_of more)) (hex_byte_of (high ∷ low ∷ []))

-- each is a byte
abbrev pub AreBytes : List ℕ → Type 0
AreBytes bytes = AllByRecursion (λ b. b < 256) bytes
