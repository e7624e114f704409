-- Link addresses as six hexadecimal bytes joined by `:`.
use Rattle.std.proofs.Common.{◌≡◌, ℕ, ◌+◌, ◌*◌, ◌/◌, ◌%◌, ◌<◌, true, false, eqb, List, [], ◌∷◌, length, get_or, map, Option, Some, None, IfSome, refl, ap, arith, inl, inr}
use Rattle.std.specs.Option.{option_and_then, option_map, is_some}
use Rattle.std.specs.Char.{digit_value, digit_char}
use Rattle.std.specs.Fmt.{digit_glyph}
use Rattle.std.specs.List.{AllByRecursion}
use Rattle.std.proofs.lemmas.Bool.{lt-ltb}
use Rattle.std.proofs.lemmas.Bool.Decides.{eqb_tells}
use Rattle.std.proofs.lemmas.List.Elements.{All-cons, All-nil, All-from_get_or, recursion_from_All}
use Rattle.std.proofs.lemmas.Str.{digit_value-digit_char}
use Rattle.nb_base.specs.declared.mac.Mac.{Mac}
use Rattle.nb_base.specs.Parts.{parts_spelled, hex_digit_of, hex_byte_of, hex_pair}
use Rattle.nb_base.specs.Address.{IsMacText, mac_of, mac_text}
use Rattle.nb_base.proofs.Joined.{Shuns, found_parts, joined_parts}

hex_digit-colon : (a : ℕ) → is_some (hex_digit_of a) ≡ true → eqb a 58 ≡ false
hex_digit-colon a e =
    elim (eqb_tells a 58) [
      | inl same ↦ absurd (let bad = rw same.1 at e in cc)
      | inr apart ↦ apart.0
    ]

two_digits : (x y : Option ℕ) (value : ℕ) → option_and_then (λ m. option_map (λ n. 16 * m + n) y) x ≡ Some value → (is_some x ≡ true) × (is_some y ≡ true)
two_digits None y value e = absurd cc
two_digits (Some m) None value e = absurd cc
two_digits (Some m) (Some n) value e = (refl, refl)

pub hex_byte-shuns : Shuns hex_byte_of 58
hex_byte-shuns [] value e = absurd cc
hex_byte-shuns (a ∷ []) value e = All-cons (λ b. eqb b 58 ≡ false) a [] (hex_digit-colon a (ap is_some e)) (All-nil _)
hex_byte-shuns (a ∷ b ∷ []) value e =
    let digits = two_digits (hex_digit_of a) (hex_digit_of b) value e in
    All-cons (λ b. eqb b 58 ≡ false) a (b ∷ []) (hex_digit-colon a digits.0) (All-cons (λ b. eqb b 58 ≡ false) b [] (hex_digit-colon b digits.1) (All-nil _))
hex_byte-shuns (a ∷ b ∷ c ∷ more) value e = absurd cc

found_bytes : (text : List ℕ) (r : Option (List ℕ)) → parts_spelled hex_byte_of 6 58 text ≡ r → IfSome (option_map (λ bytes. let mac : Mac = record { 0 = bytes } in mac) r) (IsMacText text)
found_bytes text None e = tt
found_bytes text (Some values) e = found_parts hex_byte_of 6 58 text values e

-- what is read of a text is spelled by it
pub mac_of-found : (text : List ℕ) → IfSome (mac_of text) (IsMacText text)
mac_of-found text = found_bytes text (parts_spelled hex_byte_of 6 58 text) refl

-- and an address that a text spells is read of it
pub mac_of-only : (text : List ℕ) (mac : Mac) → IsMacText text mac → mac_of text ≡ Some mac
mac_of-only text mac h = rw (joined_parts hex_byte_of 6 58 (omega arith) hex_byte-shuns text mac.0 h.0 h.1) refl

hex_digit-glyph : (d : ℕ) → d < 16 → hex_digit_of (digit_glyph false d) ≡ Some d
hex_digit-glyph d lt =
    let value : digit_value (digit_char d) ≡ d = digit_value-digit_char d (omega arith) in
    rw (value, lt-ltb d 16 lt) refl

hex_byte-pair : (b : ℕ) → b < 256 → hex_byte_of (hex_pair b) ≡ Some b
hex_byte-pair b lt =
    let whole : 16 * (b / 16) + b % 16 ≡ b = omega arith in
    rw (hex_digit-glyph (b / 16) (omega arith), hex_digit-glyph (b % 16) (omega arith)) (ap (λ (n : ℕ). Some n) whole)

hex_pairs : (bytes : List ℕ) → AllByRecursion (λ b. b < 256) bytes → map hex_byte_of (map hex_pair bytes) ≡ map Some bytes
hex_pairs [] h = refl
hex_pairs (b ∷ bytes) h = pair (hex_byte-pair b h.0) (hex_pairs bytes h.1)
  where
    pair : {x y : Option ℕ} {xs ys : List (Option ℕ)} → x ≡ y → xs ≡ ys → (x ∷ xs) ≡ (y ∷ ys)
    pair p q = cc

-- the written text of six bytes spells them
pub mac_text-again : (text : List ℕ) (mac : Mac) → text ≡ mac_text mac → length mac.0 ≡ 6 → ((i : ℕ) → get_or mac.0 i 0 < 256) → IsMacText text mac
mac_text-again text mac e size small =
    let each : AllByRecursion (λ b. b < 256) mac.0 = recursion_from_All (λ b. b < 256) mac.0 (All-from_get_or (λ b. b < 256) mac.0 0 (λ i lt. small i)) in
    (record { parts = map hex_pair mac.0; joined = e; each = hex_pairs mac.0 each }, size)
