-- Written words are proper words of ASCII signs.
use Rattle.std.proofs.Common.{◌≡◌, ℕ, ◌<◌, ◌≤◌, ◌^◌, ◌/◌, ◌%◌, zero, suc, true, false, Bool, ◌&&◌, ◌||◌, not, eqb, leb, ltb, List, [], ◌∷◌, length, map, Option, Some, None, refl, sym, ◌∙◌, arith, inl, inr}
use Rattle.std.specs.Prelude.{decimal}
use Rattle.std.specs.Int.{w32, w128, to_be_bytes}
use Rattle.std.specs.List.{list_all, list_any, join_with_byte, All, AllByRecursion}
use Rattle.std.specs.Char.{is_ascii_digit}
use Rattle.std.specs.Fmt.{digit_glyph}
use Rattle.std.specs.Str.{IsAscii, is_utf8}
use Rattle.std.specs.Net.Addr.{segments_of}
use Rattle.std.specs.Net.Reader.{read_ipv6, read_segments, read_ipv4, read_octet, read_number, read_segment}
use Rattle.std.proofs.NetLemmas.Texts.{AllSegments}
use Rattle.std.proofs.lemmas.Bool.{le-leb, lt-ltb, leb-true, ltb-true, and_parts, and_from}
use Rattle.std.proofs.lemmas.Bool.Decides.{nat_tests}
use Rattle.std.proofs.lemmas.List.Folds.{list_all-append}
use Rattle.std.proofs.lemmas.Str.{IsUtf8-from_ascii, is_utf8-from_IsUtf8}
use Rattle.std.proofs.NetLemmas.Alphabet.{IsHexOrColon, All-hex_groups_text}
use Rattle.nb_base.specs.declared.mac.Mac.{Mac}
use Rattle.nb_base.specs.declared.key.Key.{Key}
use Rattle.nb_base.specs.declared.key.Key.TheVariants.{V4, V6}
use Rattle.nb_base.specs.Parts.{hex_pair}
use Rattle.nb_base.specs.Name.{is_name, is_name_byte}
use Rattle.nb_base.specs.Address.{mac_text, key_of, key_text}
use Rattle.text_codes.specs.Lines.{Words, lacks, IsWord}
use Rattle.text_codes.specs.HexText.{hex_text, AreBytes}
use Rattle.text_codes.proofs.Numerals.{decimal-digits, numbers_are_words}
use Rattle.neigh_script.proofs.WrittenFields.{IsKey, key-again}
use Rattle.text_codes.proofs.Lacking.{list_all-weaker, list_all-join, Each-weaker}

-- an ASCII sign that is seen
abbrev pub is_sign : ℕ → Bool
is_sign b = leb 33 b && leb b 126

-- a word of signs
pub record IsPrinted (word : List ℕ) : Type 0 where
  pub some : 0 < length word
  pub signs : list_all is_sign word ≡ true

sign-from : (b : ℕ) → 33 ≤ b → b ≤ 126 → is_sign b ≡ true
sign-from b low high = and_from (leb 33 b) (leb b 126) (le-leb 33 b low) (le-leb b 126 high)

sign-bounds : (b : ℕ) → is_sign b ≡ true → (33 ≤ b) × (b ≤ 126)
sign-bounds b e = (let both = and_parts (leb 33 b) (leb b 126) e in (leb-true 33 b both.0, leb-true b 126 both.1))

sign-proper : (b : ℕ) → is_sign b ≡ true → not (list_any (λ c. eqb b c) (9 ∷ 10 ∷ 13 ∷ 32 ∷ [])) ≡ true
sign-proper b e = (let h = sign-bounds b e in grind (arith, nat_tests, h.0))

pub printed-word : (word : List ℕ) → IsPrinted word → IsWord word
printed-word word h = and_from (ltb 0 (length word)) (lacks (9 ∷ 10 ∷ 13 ∷ 32 ∷ []) word) (lt-ltb 0 (length word) h.some) (list_all-weaker is_sign (λ b. not (list_any (λ c. eqb b c) (9 ∷ 10 ∷ 13 ∷ 32 ∷ []))) sign-proper word h.signs)

digit-sign : (b : ℕ) → is_ascii_digit b ≡ true → is_sign b ≡ true
digit-sign b e = grind (arith, nat_tests)

pub printed-decimal : (n : ℕ) → n < 10 ^ 64 → IsPrinted (decimal n)
printed-decimal n lt = record {
  some = ltb-true 0 (length (decimal n)) (and_parts (ltb 0 (length (decimal n))) _ (numbers_are_words n lt)).0;
  signs = list_all-weaker is_ascii_digit is_sign digit-sign (decimal n) (decimal-digits n lt);
}

glyph-sign : (d : ℕ) → d < 16 → is_sign (digit_glyph false d) ≡ true
glyph-sign d lt = grind (arith, nat_tests)

pair-signs : (b : ℕ) → b < 256 → list_all is_sign (hex_pair b) ≡ true
pair-signs b lt = rw (glyph-sign (b / 16) (omega arith), glyph-sign (b % 16) (omega arith)) refl

hex-signs : (bytes : List ℕ) → AreBytes bytes → list_all is_sign (hex_text bytes) ≡ true
hex-signs [] h = refl
hex-signs (b ∷ bytes) h = list_all-append is_sign (hex_pair b) (hex_text bytes) ∙ and_from (list_all is_sign (hex_pair b)) (list_all is_sign (hex_text bytes)) (pair-signs b h.0) (hex-signs bytes h.1)

pub printed-hex : (bytes : List ℕ) → 1 ≤ length bytes → AreBytes bytes → IsPrinted (hex_text bytes)
printed-hex [] some h = absurd (omega arith)
printed-hex (b ∷ bytes) some h = record { some = omega arith; signs = hex-signs (b ∷ bytes) h }

pairs-signs : (bytes : List ℕ) → AreBytes bytes → AllByRecursion (λ w. list_all is_sign w ≡ true) (map hex_pair bytes)
pairs-signs [] h = tt
pairs-signs (b ∷ bytes) h = (pair-signs b h.0, pairs-signs bytes h.1)

joined-some : (c : ℕ) (bytes : List ℕ) → 1 ≤ length bytes → 0 < length (join_with_byte c (map hex_pair bytes))
joined-some c [] some = absurd (omega arith)
joined-some c (b ∷ []) some = omega arith
joined-some c (b ∷ d ∷ bytes) some = omega arith

pub printed-mac : (mac : Mac) → length mac.0 ≡ 6 → AreBytes mac.0 → IsPrinted (mac_text mac)
printed-mac mac six h = record {
  some = joined-some 58 mac.0 (omega arith);
  signs = list_all-join is_sign 58 refl (map hex_pair mac.0) (pairs-signs mac.0 h);
}

name-sign : (b : ℕ) → is_name_byte b ≡ true → is_sign b ≡ true
name-sign b e = grind (arith, nat_tests)

pub printed-name : (dev : List ℕ) → is_name dev ≡ true → IsPrinted dev
printed-name dev e =
    let parts = and_parts (leb 1 (length dev) && leb (length dev) 15) (list_all is_name_byte dev) e in
    record {
      some = leb-true 1 (length dev) (and_parts (leb 1 (length dev)) (leb (length dev) 15) parts.0).0;
      signs = list_all-weaker is_name_byte is_sign name-sign dev parts.1;
    }

pub printed-moment : (at : ℕ) → at < 10 ^ 64 → IsPrinted (64 ∷ decimal at)
printed-moment at lt = record { some = omega arith; signs = (printed-decimal at lt).signs }

-- a row of printed words, joined by single spaces, is UTF-8
line-low : (b : ℕ) → (is_sign b || eqb b 32) ≡ true → b < 128
line-low b e = grind (arith, nat_tests)

all-ascii : (text : List ℕ) → list_all (λ b. is_sign b || eqb b 32) text ≡ true → IsAscii text
all-ascii [] e i = omega arith
all-ascii (b ∷ text) e zero = line-low b (and_parts (is_sign b || eqb b 32) (list_all (λ b. is_sign b || eqb b 32) text) e).0
all-ascii (b ∷ text) e (suc i) = all-ascii text (and_parts (is_sign b || eqb b 32) (list_all (λ b. is_sign b || eqb b 32) text) e).1 i

or-left : (a b : Bool) → a ≡ true → (a || b) ≡ true
or-left a b e = rw e refl

pub row-utf8 : (row : Words) → AllByRecursion IsPrinted row → is_utf8 (join_with_byte 32 row) ≡ true
row-utf8 row h =
    let each = Each-weaker IsPrinted (λ w. list_all (λ b. is_sign b || eqb b 32) w ≡ true) (λ w p. list_all-weaker is_sign (λ b. is_sign b || eqb b 32) (λ b e. or-left (is_sign b) (eqb b 32) e) w p.signs) row h in
    is_utf8-from_IsUtf8 _ (IsUtf8-from_ascii _ (all-ascii (join_with_byte 32 row) (list_all-join (λ b. is_sign b || eqb b 32) 32 refl row each)))

segments-small : (bytes : List ℕ) → AreBytes bytes → AllSegments (segments_of bytes)
segments-small [] small k = omega arith
segments-small (a ∷ []) small k = omega arith
segments-small (a ∷ b ∷ bytes) small zero = omega (arith, small.0, small.1.0)
segments-small (a ∷ b ∷ bytes) small (suc k) = segments-small bytes small.1.1 k

bytes-small_16 : (n : ℕ) → AreBytes (to_be_bytes w128 n)
bytes-small_16 n = (omega arith, (omega arith, (omega arith, (omega arith, (omega arith, (omega arith, (omega arith, (omega arith, (omega arith, (omega arith, (omega arith, (omega arith, (omega arith, (omega arith, (omega arith, (omega arith, tt))))))))))))))))

hex_or_colon-sign : (b : ℕ) → IsHexOrColon b → is_sign b ≡ true
hex_or_colon-sign b (inl digit) = sign-from b (omega (arith, digit.0)) (omega (arith, digit.1))
hex_or_colon-sign b (inr letter) = sign-from b (omega (arith, letter.0)) (omega (arith, letter.1))

all-signs : (text : List ℕ) → All IsHexOrColon text → list_all is_sign text ≡ true
all-signs [] h = refl
all-signs (b ∷ text) h =
    let tail : All IsHexOrColon text = λ k d lt. h (suc k) d (omega arith) in
    and_from (is_sign b) (list_all is_sign text) (hex_or_colon-sign b (h 0 0 (omega arith))) (all-signs text tail)

octets-signs : (bytes : List ℕ) → AreBytes bytes → AllByRecursion (λ w. list_all is_sign w ≡ true) (map decimal bytes)
octets-signs [] h = tt
octets-signs (b ∷ bytes) h = ((printed-decimal b (omega (arith, h.0))).signs, octets-signs bytes h.1)

key-signs : (key : Key) → IsKey key → list_all is_sign (key_text key) ≡ true
key-signs (V4 n) fits = list_all-join is_sign 46 refl (map decimal (to_be_bytes w32 n)) (octets-signs (to_be_bytes w32 n) (omega arith, (omega arith, (omega arith, (omega arith, tt)))))
key-signs (V6 n) fits = all-signs (key_text (V6 n)) (All-hex_groups_text (segments_of (to_be_bytes w128 n)) (segments-small (to_be_bytes w128 n) (bytes-small_16 n)))

nothing-none : key_of [] ≡ None
unfolding read_ipv6 read_segments read_ipv4 read_octet read_number read_segment
nothing-none = refl

apart : (key : Key) → ◌≡◌ {A = Option Key} None (Some key) → ⊥
apart key e = absurd cc

-- no key is spelled by nothing
key-some : (text : List ℕ) (key : Key) → key_of text ≡ Some key → 0 < length text
key-some [] key e = absurd (apart key (sym nothing-none ∙ e))
key-some (b ∷ text) key e = omega arith

pub printed-key : (key : Key) → IsKey key → IsPrinted (key_text key)
printed-key key fits = record { some = key-some (key_text key) key (key-again key fits); signs = key-signs key fits }
