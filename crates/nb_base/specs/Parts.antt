-- A text of parts with a separator between them, and the number that a part spells.
use Rattle.std.specs.Prelude.{◌≡◌, map, ℕ, ◌+◌, ◌*◌, false, ◌/◌, ◌%◌, Bool, ◌&&◌, List, [], ◌∷◌, length, Option, Some, None, nat_le, nat_lt, ◌==◌, if◌then◌else◌, slice_index, ◌||◌, not}
use Rattle.std.specs.Option.{option_and_then, option_map}
use Rattle.std.specs.List.{slice_split, list_all, join_with_byte}
use Rattle.std.specs.Char.{is_ascii_digit}
use Rattle.std.specs.Str.Parse.{digits_value}
use Rattle.std.specs.Char.{digit_value}
use Rattle.std.specs.Fmt.{digit_glyph}
use Rattle.std.specs.Borrow.{Bor}

-- what each part spells, where each spells something
abbrev pub all_spelled : (List ℕ → Option ℕ) → List (List ℕ) → Option (List ℕ)
all_spelled f [] = Some []
all_spelled f (p ∷ ps) = option_and_then (λ x. option_map (λ xs. x ∷ xs) (all_spelled f ps)) (f p)

-- the list, where it has n values
abbrev pub exactly : ℕ → List ℕ → Option (List ℕ)
exactly n xs = if length xs == n then Some xs else None

-- what n parts between separators spell
abbrev pub parts_spelled : (List ℕ → Option ℕ) → ℕ → ℕ → List ℕ → Option (List ℕ)
parts_spelled f n separator text = option_and_then (exactly n) (all_spelled f (slice_split (λ b. b == separator) text))

-- the parts of what stands behind a separator
abbrev pub parts_behind : ℕ → Option (Bor (List ℕ)) → List (List ℕ)
parts_behind separator None = []
parts_behind separator (Some rest) = slice_split (λ b. b == separator) rest.now

-- the text is these parts with the separator between them, and each part spells its value
pub record IsJoined (of : List ℕ → Option ℕ) (separator : ℕ) (text values : List ℕ) : Type 0 where
  pub parts : List (List ℕ)
  pub joined : text ≡ join_with_byte separator parts
  pub each : map of parts ≡ map Some values

-- one hexadecimal digit of either case
abbrev pub hex_digit_of : ℕ → Option ℕ
hex_digit_of c = if nat_lt (digit_value c) 16 then Some (digit_value c) else None

-- one or two hexadecimal digits of either case
abbrev pub hex_byte_of : List ℕ → Option ℕ
hex_byte_of [] = None
hex_byte_of (a ∷ []) = hex_digit_of a
hex_byte_of (a ∷ b ∷ []) = option_and_then (λ x. option_map (λ y. 16 * x + y) (hex_digit_of b)) (hex_digit_of a)
hex_byte_of (a ∷ b ∷ c ∷ more) = None

-- a number of 1 to 10 decimal digits
abbrev pub number_of : List ℕ → Option ℕ
number_of text = if nat_le 1 (length text) && nat_le (length text) 10 && list_all is_ascii_digit text then Some (digits_value 10 text) else None

-- no needless zero stands in front
abbrev pub is_plain : List ℕ → Bool
is_plain text = length text == 1 || not (slice_index text 0 == 48)

-- a number below 256 with no needless zero
abbrev pub octet_of : List ℕ → Option ℕ
octet_of text = option_and_then (λ n. if nat_lt n 256 && is_plain text then Some n else None) (number_of text)

-- a byte as two hexadecimal digits
abbrev pub hex_pair : ℕ → List ℕ
hex_pair b = digit_glyph false (b / 16) ∷ digit_glyph false (b % 16) ∷ []
