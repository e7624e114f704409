-- Bytes in hexadecimal.
use Rattle.std.proofs.Common.{◌≡◌, ℕ, ◌+◌, ◌*◌, ◌/◌, ◌%◌, ◌<◌, ◌≤◌, Bool, not, true, false, cond, eqb, ltb, List, [], ◌∷◌, ◌++◌, length, get_or, drop, Option, Some, None, refl, sym, ap, ◌∙◌, append_assoc, arith}
use Rattle.std.specs.Option.{option_and_then, option_map}
use Rattle.std.specs.Char.{digit_value, digit_char, is_ascii_hexdigit}
use Rattle.std.specs.Fmt.{digit_glyph}
use Rattle.std.specs.List.{list_all, list_any}
use Rattle.std.proofs.lemmas.Bool.{lt-ltb, ltb-true, and_from, agree_below_at}
use Rattle.std.proofs.lemmas.Bool.Decides.{nat_tests}
use Rattle.std.proofs.lemmas.Str.{digit_value-digit_char}
use Rattle.nb_base.specs.Parts.{hex_digit_of, hex_byte_of, hex_pair}
use Rattle.text_codes.specs.Lines.{lacks, IsClean}
use Rattle.text_codes.specs.HexText.{hex_text, hex_bytes_of, AreBytes}
use Rattle.text_codes.specs.Laws.{BytesAgain, BytesByPairs, TextsTellBytes, BytesAreCodes, CountedBytesAreCodes, BytesAreWords}
use Rattle.text_codes.proofs.Lacking.{list_all-weaker}
use Rattle.text_codes.proofs.Combining.{code-by_test, code-by_length, injective-by_reader}

hex_digit-glyph : (d : ℕ) → d < 16 → hex_digit_of (digit_glyph false d) ≡ Some d
hex_digit-glyph d lt =
    let value : digit_value (digit_char d) ≡ d = digit_value-digit_char d (omega arith) in
    rw (value, lt-ltb d 16 lt) refl

pub hex_byte-pair : (b : ℕ) → b < 256 → hex_byte_of (hex_pair b) ≡ Some b
hex_byte-pair b lt =
    let whole : 16 * (b / 16) + b % 16 ≡ b = omega arith in
    rw (hex_digit-glyph (b / 16) (omega arith), hex_digit-glyph (b % 16) (omega arith)) (ap (λ (n : ℕ). Some n) whole)

-- one more pair of digits
pub hex_bytes_of-pair : (high low : ℕ) (more : List ℕ) (byte : ℕ) → hex_byte_of (high ∷ low ∷ []) ≡ Some byte → hex_bytes_of (high ∷ low ∷ more) ≡ option_map (λ bytes. byte ∷ bytes) (hex_bytes_of more)
unfolding hex_bytes_of
hex_bytes_of-pair high low more byte e = rw e refl

pub hex_bytes_of-bad : (high low : ℕ) (more : List ℕ) → hex_byte_of (high ∷ low ∷ []) ≡ None → hex_bytes_of (high ∷ low ∷ more) ≡ None
unfolding hex_bytes_of
hex_bytes_of-bad high low more e = rw e refl

regroup : (front : List ℕ) (byte : ℕ) (r : Option (List ℕ)) → option_map (λ (ys : List ℕ). front ++ ys) (option_map (λ (bytes : List ℕ). byte ∷ bytes) r) ≡ option_map (λ (ys : List ℕ). (front ++ byte ∷ []) ++ ys) r
regroup front byte None = refl
regroup front byte (Some bytes) = ap (λ (zs : List ℕ). Some zs) (sym (append_assoc front (byte ∷ []) bytes))

-- a loop's step: one more pair of digits behind those whose bytes are the front
pub hex_bytes_of-step : (front text : List ℕ) (byte : ℕ) → 2 ≤ length text → hex_byte_of (get_or text 0 0 ∷ get_or text 1 0 ∷ []) ≡ Some byte
    → option_map (λ (ys : List ℕ). front ++ ys) (hex_bytes_of text) ≡ option_map (λ (ys : List ℕ). (front ++ byte ∷ []) ++ ys) (hex_bytes_of (drop 2 text))
hex_bytes_of-step front [] byte le e = absurd (omega arith)
hex_bytes_of-step front (high ∷ []) byte le e = absurd (omega arith)
hex_bytes_of-step front (high ∷ low ∷ more) byte le e = ap (option_map (λ (ys : List ℕ). front ++ ys)) (hex_bytes_of-pair high low more byte e) ∙ regroup front byte (hex_bytes_of more)

pub hex_bytes_of-stuck : (text : List ℕ) → 2 ≤ length text → hex_byte_of (get_or text 0 0 ∷ get_or text 1 0 ∷ []) ≡ None → hex_bytes_of text ≡ None
hex_bytes_of-stuck [] le e = absurd (omega arith)
hex_bytes_of-stuck (high ∷ []) le e = absurd (omega arith)
hex_bytes_of-stuck (high ∷ low ∷ more) le e = hex_bytes_of-bad high low more e

pub bytes_again : BytesAgain
unfolding hex_bytes_of
bytes_again [] h = refl
bytes_again (b ∷ bytes) h = hex_bytes_of-pair (digit_glyph false (b / 16)) (digit_glyph false (b % 16)) (hex_text bytes) b (hex_byte-pair b h.0) ∙ ap (option_map (λ bs. b ∷ bs)) (bytes_again bytes h.1)

-- a first value and the values behind it
record HasFirst (first : Option ℕ) (rest : Option (List ℕ)) (values : List ℕ) : Type 0 where
  head : ℕ
  tail : List ℕ
  at_head : first ≡ Some head
  at_tail : rest ≡ Some tail
  whole : values ≡ head ∷ tail

has_first : (first : Option ℕ) (rest : Option (List ℕ)) (values : List ℕ) → option_and_then (λ x. option_map (λ xs. x ∷ xs) rest) first ≡ Some values → HasFirst first rest values
has_first None rest values e = absurd cc
has_first (Some x) None values e = absurd cc
has_first (Some x) (Some xs) values e = record { head = x; tail = xs; at_head = refl; at_tail = refl; whole = cc }

digit-small : (c d : ℕ) → hex_digit_of c ≡ Some d → d < 16
digit-small c d e = small (ltb (digit_value c) 16) (digit_value c) d (ltb-true (digit_value c) 16) e
  where
    small : (t : Bool) (v d : ℕ) → (t ≡ true → v < 16) → cond t (Some v) None ≡ Some d → d < 16
    small true v d lt e = (let same : v ≡ d = cc in let lt' = lt refl in omega (arith, same))
    small false v d lt e = absurd cc

byte-small : (high low byte : ℕ) → hex_byte_of (high ∷ low ∷ []) ≡ Some byte → byte < 256
byte-small high low byte e = small (hex_digit_of high) (hex_digit_of low) byte (digit-small high) (digit-small low) e
  where
    small : (x y : Option ℕ) (byte : ℕ) → ((d : ℕ) → x ≡ Some d → d < 16) → ((d : ℕ) → y ≡ Some d → d < 16) → option_and_then (λ m. option_map (λ n. 16 * m + n) y) x ≡ Some byte → byte < 256
    small None y byte h g e = absurd cc
    small (Some m) None byte h g e = absurd cc
    small (Some m) (Some n) byte h g e =
        let same : 16 * m + n ≡ byte = cc in
        let high = h m refl in let low = g n refl in
        omega (arith, same)

pub bytes_by_pairs : BytesByPairs
unfolding hex_bytes_of
bytes_by_pairs [] [] e = (tt, refl)
bytes_by_pairs [] (b ∷ bytes) e = absurd cc
bytes_by_pairs (high ∷ []) bytes e = absurd cc
bytes_by_pairs (high ∷ low ∷ more) bytes e =
    let h = has_first (hex_byte_of (high ∷ low ∷ [])) (hex_bytes_of more) bytes e in
    let rest = bytes_by_pairs more h.tail h.at_tail in
    rw h.whole ((byte-small high low h.head h.at_head, rest.0), omega (arith, rest.1))

pub texts_tell_bytes : TextsTellBytes
texts_tell_bytes = injective-by_reader hex_bytes_of bytes_again

glyph-hexdigit : (d : ℕ) → d < 16 → is_ascii_hexdigit (digit_glyph false d) ≡ true
glyph-hexdigit d lt = agree_below_at (λ d. is_ascii_hexdigit (digit_glyph false d)) (λ d. true) 16 d refl lt

pub hex-digits : (bytes : List ℕ) → AreBytes bytes → list_all is_ascii_hexdigit (hex_text bytes) ≡ true
hex-digits [] h = refl
hex-digits (b ∷ bytes) h = rw (glyph-hexdigit (b / 16) (let lt = h.0 in omega arith), glyph-hexdigit (b % 16) (omega arith)) (hex-digits bytes h.1)

pub bytes_are_codes : BytesAreCodes
bytes_are_codes = code-by_test is_ascii_hexdigit texts_tell_bytes hex-digits

pub length-hex_text : (bytes : List ℕ) → length (hex_text bytes) ≡ 2 * length bytes
length-hex_text [] = refl
length-hex_text (b ∷ bytes) = omega (arith, length-hex_text bytes)

pub counted_bytes_are_codes : CountedBytesAreCodes
counted_bytes_are_codes n =
    code-by_length (record { tells = λ xs ys h g e. texts_tell_bytes.tells xs ys h.1 g.1 e })
    (λ xs ys h g. length-hex_text xs ∙ ap (λ (m : ℕ). 2 * m) (h.0 ∙ sym g.0) ∙ sym (length-hex_text ys))

digit-proper : (b : ℕ) → is_ascii_hexdigit b ≡ true → not (list_any (λ c. eqb b c) (9 ∷ 10 ∷ 13 ∷ 32 ∷ [])) ≡ true
digit-proper b e = grind (arith, nat_tests)

pub bytes_are_words : BytesAreWords
bytes_are_words bytes some h =
    let long : 0 < length (hex_text bytes) = omega (arith, length-hex_text bytes) in
    and_from (ltb 0 (length (hex_text bytes))) (lacks (9 ∷ 10 ∷ 13 ∷ 32 ∷ []) (hex_text bytes)) (lt-ltb 0 _ long)
    (list_all-weaker is_ascii_hexdigit (λ b. not (list_any (λ c. eqb b c) (9 ∷ 10 ∷ 13 ∷ 32 ∷ []))) digit-proper (hex_text bytes) (hex-digits bytes h))

-- and a list of bytes, also an empty one, is a word of a row
pub bytes_are_clean : (bytes : List ℕ) → AreBytes bytes → IsClean (hex_text bytes)
bytes_are_clean bytes h = list_all-weaker is_ascii_hexdigit (λ b. not (list_any (λ c. eqb b c) (10 ∷ 32 ∷ []))) digit-clean (hex_text bytes) (hex-digits bytes h)
  where
    digit-clean : (b : ℕ) → is_ascii_hexdigit b ≡ true → not (list_any (λ c. eqb b c) (10 ∷ 32 ∷ [])) ≡ true
    digit-clean b e = grind (arith, nat_tests)
