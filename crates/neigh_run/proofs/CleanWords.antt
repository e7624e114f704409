-- No word of a report has a space or an LF: every sign that numbers, addresses, keys and bytes are written in is above the space.
use Rattle.std.proofs.Common.{◌≡◌, ℕ, zero, suc, ◌≤◌, ◌/◌, ◌%◌, Bool, true, false, ◌&&◌, not, eqb, leb, if◌then◌else◌, List, [], ◌∷◌, ◌++◌, length, map, refl, arith, inl, inr}
use Rattle.std.specs.Prelude.{decimal}
use Rattle.std.specs.Int.{w32, w128, to_be_bytes}
use Rattle.std.specs.List.{flat_map, list_all, list_any, All, AllByRecursion}
use Rattle.std.specs.Fmt.{digit_glyph, digits_onto, digits}
use Rattle.std.specs.Net.Addr.{segments_of}
use Rattle.std.proofs.NetLemmas.Texts.{AllSegments}
use Rattle.std.proofs.NetLemmas.Alphabet.{IsHexOrColon, All-hex_groups_text}
use Rattle.std.proofs.lemmas.Bool.{and_parts, and_from}
use Rattle.std.proofs.lemmas.Bool.Decides.{nat_tests}
use Rattle.nb_base.specs.declared.mac.Mac.{Mac}
use Rattle.nb_base.specs.declared.key.Key.{Key}
use Rattle.nb_base.specs.declared.key.Key.TheVariants.{V4, V6}
use Rattle.nb_base.specs.Parts.{hex_pair}
use Rattle.nb_base.specs.Name.{is_name, is_name_byte}
use Rattle.nb_base.specs.Address.{mac_text, key_text}
use Rattle.text_codes.specs.Lines.{IsClean}
use Rattle.text_codes.specs.HexText.{hex_text, AreBytes}
use Rattle.text_codes.proofs.Lacking.{list_all-weaker, list_all-join}
use Rattle.text_codes.proofs.Each.{Each-append, lacks-append}

abbrev pub is_clean_byte : ℕ → Bool
is_clean_byte b = not (list_any (λ c. eqb b c) (10 ∷ 32 ∷ []))

above : (b : ℕ) → 33 ≤ b → is_clean_byte b ≡ true
above b h = grind (arith, nat_tests)

-- ---- lists of anything

pub all-flat_map : {X Y : Type 0} (Q : Y → Type 0) (f : X → List Y) → ((x : X) → AllByRecursion Q (f x)) → (xs : List X) → AllByRecursion Q (flat_map f xs)
all-flat_map Q f c [] = tt
all-flat_map Q f c (x ∷ xs) = Each-append Q (f x) (flat_map f xs) (c x) (all-flat_map Q f c xs)

pub all-map : {X Y : Type 0} (Q : Y → Type 0) (f : X → Y) → ((x : X) → Q (f x)) → (xs : List X) → AllByRecursion Q (map f xs)
all-map Q f c [] = tt
all-map Q f c (x ∷ xs) = (c x, all-map Q f c xs)

pub clean-either : (t : Bool) (xs ys : List ℕ) → IsClean xs → IsClean ys → IsClean (if t then xs else ys)
clean-either true xs ys h g = h
clean-either false xs ys h g = g

pub clean-append : (xs ys : List ℕ) → IsClean xs → IsClean ys → IsClean (xs ++ ys)
clean-append xs ys h g = lacks-append (10 ∷ 32 ∷ []) xs ys h g

-- ---- numbers, however large

glyph-clean : (d : ℕ) → is_clean_byte (digit_glyph false d) ≡ true
glyph-clean d = above (digit_glyph false d) (large d) where
  large : (d : ℕ) → 33 ≤ digit_glyph false d
  large d = grind (arith, nat_tests)

onto-clean : (k n : ℕ) (acc : List ℕ) → IsClean acc → IsClean (digits_onto k 10 false n acc)
onto-clean zero n acc h = h
onto-clean (suc k) n acc h =
    let more : IsClean (digit_glyph false (n % 10) ∷ acc) = and_from (is_clean_byte (digit_glyph false (n % 10))) (list_all is_clean_byte acc) (glyph-clean (n % 10)) h in
    clean-either (eqb (n / 10) 0) (digit_glyph false (n % 10) ∷ acc) (digits_onto k 10 false (n / 10) (digit_glyph false (n % 10) ∷ acc)) more (onto-clean k (n / 10) (digit_glyph false (n % 10) ∷ acc) more)

pub clean-decimal : (n : ℕ) → IsClean (decimal n)
unfolding digits
clean-decimal n = onto-clean 64 n [] refl

-- ---- bytes in hexadecimal

pair-clean : (b : ℕ) → IsClean (hex_pair b)
pair-clean b = rw (glyph-clean (b / 16), glyph-clean (b % 16)) refl

pub clean-hex : (bytes : List ℕ) → IsClean (hex_text bytes)
clean-hex [] = refl
clean-hex (b ∷ bytes) = clean-append (hex_pair b) (hex_text bytes) (pair-clean b) (clean-hex bytes)

pub clean-mac : (mac : Mac) → IsClean (mac_text mac)
clean-mac mac = list_all-join is_clean_byte 58 refl (map hex_pair mac.0) (all-map IsClean hex_pair pair-clean mac.0)

-- ---- keys

segments-small : (bytes : List ℕ) → AreBytes bytes → AllSegments (segments_of bytes)
segments-small [] small k = omega arith
segments-small (a ∷ []) small k = omega arith
segments-small (a ∷ b ∷ bytes) small zero = omega (arith, small.0, small.1.0)
segments-small (a ∷ b ∷ bytes) small (suc k) = segments-small bytes small.1.1 k

bytes-small_16 : (n : ℕ) → AreBytes (to_be_bytes w128 n)
bytes-small_16 n = (omega arith, (omega arith, (omega arith, (omega arith, (omega arith, (omega arith, (omega arith, (omega arith, (omega arith, (omega arith, (omega arith, (omega arith, (omega arith, (omega arith, (omega arith, (omega arith, tt))))))))))))))))

hex_or_colon-clean : (b : ℕ) → IsHexOrColon b → is_clean_byte b ≡ true
hex_or_colon-clean b (inl digit) = above b (omega (arith, digit.0))
hex_or_colon-clean b (inr letter) = above b (omega (arith, letter.0))

all-clean : (text : List ℕ) → All IsHexOrColon text → IsClean text
all-clean [] h = refl
all-clean (b ∷ text) h =
    let tail : All IsHexOrColon text = λ k d lt. h (suc k) d (omega arith) in
    and_from (is_clean_byte b) (list_all is_clean_byte text) (hex_or_colon-clean b (h 0 0 (omega arith))) (all-clean text tail)

pub clean-key : (key : Key) → IsClean (key_text key)
clean-key (V4 n) = list_all-join is_clean_byte 46 refl (map decimal (to_be_bytes w32 n)) (all-map IsClean decimal clean-decimal (to_be_bytes w32 n))
clean-key (V6 n) = all-clean (key_text (V6 n)) (All-hex_groups_text (segments_of (to_be_bytes w128 n)) (segments-small (to_be_bytes w128 n) (bytes-small_16 n)))

-- ---- the device's name

name-clean : (b : ℕ) → is_name_byte b ≡ true → is_clean_byte b ≡ true
name-clean b e = grind (arith, nat_tests)

pub clean-name : (dev : List ℕ) → is_name dev ≡ true → IsClean dev
clean-name dev e = list_all-weaker is_name_byte is_clean_byte name-clean dev (and_parts (leb 1 (length dev) && leb (length dev) 15) (list_all is_name_byte dev) e).1
