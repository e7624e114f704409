-- The written form of an IPv6 address is that of RFC 5952, and spells the address.
use Rattle.std.proofs.Common.{◌≡◌, ℕ, zero, suc, ◌+◌, ◌*◌, ◌/◌, ◌%◌, ◌^◌, ◌<◌, ◌≤◌, false, eqb, List, [], ◌∷◌, ◌++◌, take, drop, All, refl, sym, ap, ◌∙◌, arith, inl, inr, lt-ltb, le-ltb, ne_eqb}
use native.Mathlib.Nat as nat
use Rattle.std.specs.Prelude.{⊤, codes}
use Rattle.std.specs.Int.{w128, to_be_bytes, from_be_bytes}
use Rattle.std.specs.List.{list_any, AllByRecursion}
use Rattle.std.specs.Net.Addr.{segments_of, octets_of}
use Rattle.std.specs.Net.Text.{groups_text, longest_zero_run, hex_groups_text}
use Rattle.std.proofs.lemmas.Bool.{cases_lt}
use Rattle.std.proofs.NetLemmas.Alphabet.{IsHexOrColon, All-hex_groups_text}
use Rattle.std.proofs.NetLemmas.Texts.{AllSegments, IsZeroRun-longest_zero_run, longest_zero_run_first, IsColonHex-hex_groups_text}
use Rattle.nb_base.specs.Ip6.{IsIp6Text}
use Rattle.nb_base.specs.Written.{groups_of, IsZeroRun, IsShortened, IsIp6Written}

-- the run that is shortened is the one that std finds
run_is : (xs : List ℕ) (place many : ℕ) → IsShortened xs place many → (place ≡ (longest_zero_run xs).0) × (many ≡ (longest_zero_run xs).1)
run_is xs place many h =
    let found = IsZeroRun-longest_zero_run xs in
    let most = longest_zero_run_first xs place many h.zeros in
    let fewer : (longest_zero_run xs).1 ≤ many = h.longest (longest_zero_run xs).0 (longest_zero_run xs).1 found in
    let same : many ≡ (longest_zero_run xs).1 = omega (arith, most.0) in
    let early : place ≤ (longest_zero_run xs).0 = h.first (longest_zero_run xs).0 (rw same found) in
    let late : (longest_zero_run xs).0 ≤ place = most.1 same in
    (omega arith, same)

pub is_shortened : (xs : List ℕ) → 1 < (longest_zero_run xs).1 → IsShortened xs (longest_zero_run xs).0 (longest_zero_run xs).1
is_shortened xs long = record {
  zeros = IsZeroRun-longest_zero_run xs;
  several = long;
  longest = λ other count run. (longest_zero_run_first xs other count run).0;
  first = λ other run. (longest_zero_run_first xs other (longest_zero_run xs).1 run).1 refl;
}

shortened_text : (xs : List ℕ) (place many : ℕ) → IsShortened xs place many → hex_groups_text xs ≡ groups_text (take place xs) ++ codes "::" ++ groups_text (drop (place + many) xs)
unfolding hex_groups_text
shortened_text xs place many h =
    let run = run_is xs place many h in
    let long : 1 < (longest_zero_run xs).1 = omega (arith, h.several, run.1) in
    rw (lt-ltb 1 (longest_zero_run xs).1 long, run.0, run.1) refl

whole_text : (xs : List ℕ) → ((place many : ℕ) → IsZeroRun xs place many → many ≤ 1) → hex_groups_text xs ≡ groups_text xs
unfolding hex_groups_text
whole_text xs short =
    let least : (longest_zero_run xs).1 ≤ 1 = short (longest_zero_run xs).0 (longest_zero_run xs).1 (IsZeroRun-longest_zero_run xs) in
    rw (le-ltb 1 (longest_zero_run xs).1 least) refl

pub hex_groups_text-written : (text : List ℕ) (n : ℕ) → text ≡ hex_groups_text (groups_of n) → IsIp6Written text n
hex_groups_text-written text n e = record {
  shortened = λ place many h. e ∙ shortened_text (groups_of n) place many h;
  whole = λ short. e ∙ whole_text (groups_of n) short;
}

-- and it is the only such text
pub hex_groups_text-one : (text : List ℕ) (n : ℕ) → IsIp6Written text n → hex_groups_text (groups_of n) ≡ text
hex_groups_text-one text n h =
    let xs = groups_of n in
    let again : IsIp6Written (hex_groups_text xs) n = hex_groups_text-written (hex_groups_text xs) n refl in
    elim (cases_lt 1 (longest_zero_run xs).1) [
      | inl long ↦
          let run = is_shortened xs long in
          again.shortened _ _ run ∙ sym (h.shortened _ _ run)
      | inr short ↦
          let few : (place many : ℕ) → IsZeroRun xs place many → many ≤ 1 = λ place many run. omega (arith, (longest_zero_run_first xs place many run).0) in
          again.whole few ∙ sym (h.whole few)
    ]

-- an even number of bytes, as pairs
abbrev InPairs : List ℕ → Type 0
InPairs [] = ⊤
InPairs (a ∷ []) = ⊥
InPairs (a ∷ b ∷ bytes) = InPairs bytes

abbrev AreBytes : List ℕ → Type 0
AreBytes bytes = AllByRecursion (λ b. b < 256) bytes

octets_again : (bytes : List ℕ) → InPairs bytes → AreBytes bytes → octets_of (segments_of bytes) ≡ bytes
octets_again [] even small = refl
octets_again (a ∷ []) even small = absurd even
octets_again (a ∷ b ∷ bytes) even small =
    let high : (a * 256 + b) / 256 ≡ a = omega (arith, small.1.0) in
    let low : (a * 256 + b) % 256 ≡ b = omega (arith, small.1.0) in
    rw (high, low) (ap (λ (xs : List ℕ). a ∷ b ∷ xs) (octets_again bytes even small.1.1))

segments_small : (bytes : List ℕ) → AreBytes bytes → AllSegments (segments_of bytes)
segments_small [] small k = omega arith
segments_small (a ∷ []) small k = omega arith
segments_small (a ∷ b ∷ bytes) small zero = omega (arith, small.0, small.1.0)
segments_small (a ∷ b ∷ bytes) small (suc k) = segments_small bytes small.1.1 k

bytes_small : (n : ℕ) → AreBytes (to_be_bytes w128 n)
bytes_small n = (omega arith, (omega arith, (omega arith, (omega arith, (omega arith, (omega arith, (omega arith, (omega arith, (omega arith, (omega arith, (omega arith, (omega arith, (omega arith, (omega arith, (omega arith, (omega arith, tt))))))))))))))))

joined_8 : (a b c d e f g h n p q r s t u v w : ℕ) → n ≡ a + p * 256 → p ≡ b + q * 256 → q ≡ c + r * 256 → r ≡ d + s * 256
    → s ≡ e + t * 256 → t ≡ f + u * 256 → u ≡ g + v * 256 → v ≡ h + w * 256
    → n ≡ a + b * 256 + c * 65536 + d * 16777216 + e * 4294967296 + f * 1099511627776 + g * 281474976710656 + h * 72057594037927936 + w * 18446744073709551616
joined_8 a b c d e f g h n p q r s t u v w at_0 at_1 at_2 at_3 at_4 at_5 at_6 at_7 = omega arith

whole_16 : (a b c d e f g h i j k l m o p q n w : ℕ)
    → n ≡ a + b * 256 + c * 65536 + d * 16777216 + e * 4294967296 + f * 1099511627776 + g * 281474976710656 + h * 72057594037927936 + w * 18446744073709551616
    → w ≡ i + j * 256 + k * 65536 + l * 16777216 + m * 4294967296 + o * 1099511627776 + p * 281474976710656 + q * 72057594037927936 + 0 * 18446744073709551616
    → n ≡ q * 1329227995784915872903807060280344576 + p * 5192296858534827628530496329220096 + o * 20282409603651670423947251286016 + m * 79228162514264337593543950336 + l * 309485009821345068724781056 + k * 1208925819614629174706176 + j * 4722366482869645213696 + i * 18446744073709551616 + h * 72057594037927936 + g * 281474976710656 + f * 1099511627776 + e * 4294967296 + d * 16777216 + c * 65536 + b * 256 + a
whole_16 a b c d e f g h i j k l m o p q n w low high = omega arith

byte_and_rest : (n p : ℕ) → n / p ≡ n / p % 256 + n / (p * 256) * 256
byte_and_rest n p = omega (arith, nat.div-div-eq-div-mul n p 256)

-- the bytes of an address make it
number_again : (n : ℕ) → n < 2 ^ 128 → n ≡ from_be_bytes w128 (to_be_bytes w128 n)
number_again n fits =
    let first : n ≡ n % 256 + n / 256 * 256 = omega arith in
    let last : n / 1329227995784915872903807060280344576 ≡ n / 1329227995784915872903807060280344576 % 256 + 0 * 256 = omega arith in
    let low = joined_8 _ _ _ _ _ _ _ _ n _ _ _ _ _ _ _ _ first (byte_and_rest n 256) (byte_and_rest n 65536) (byte_and_rest n 16777216) (byte_and_rest n 4294967296) (byte_and_rest n 1099511627776) (byte_and_rest n 281474976710656) (byte_and_rest n 72057594037927936) in
    let high = joined_8 _ _ _ _ _ _ _ _ _ _ _ _ _ _ _ _ 0 (byte_and_rest n 18446744073709551616) (byte_and_rest n 4722366482869645213696) (byte_and_rest n 1208925819614629174706176) (byte_and_rest n 309485009821345068724781056) (byte_and_rest n 79228162514264337593543950336) (byte_and_rest n 20282409603651670423947251286016) (byte_and_rest n 5192296858534827628530496329220096) last in
    whole_16 _ _ _ _ _ _ _ _ _ _ _ _ _ _ _ _ n _ low high

dotless : (text : List ℕ) → All IsHexOrColon text → list_any (λ b. eqb b 46) text ≡ false
dotless [] h = refl
dotless (x ∷ text) h =
    let tail : All IsHexOrColon text = λ k d lt. h (suc k) d (omega arith) in
    rw (no_dot x (h 0 0 (omega arith)), dotless text tail) refl
  where
    no_dot : (x : ℕ) → IsHexOrColon x → eqb x 46 ≡ false
    no_dot x (inl digit) = ne_eqb x 46 (omega (arith, digit.0))
    no_dot x (inr letter) = ne_eqb x 46 (omega (arith, letter.0))

-- the written text spells its address
pub hex_groups_text-again : (text : List ℕ) (n : ℕ) → text ≡ hex_groups_text (groups_of n) → n < 2 ^ 128 → IsIp6Text text n
hex_groups_text-again text n e fits =
    let bytes = to_be_bytes w128 n in
    let small = segments_small bytes (bytes_small n) in
    record {
      spelled = record {
        segments = groups_of n;
        groups = rw e (IsColonHex-hex_groups_text (groups_of n) refl small);
        value = number_again n fits ∙ ap (from_be_bytes w128) (sym (octets_again bytes tt (bytes_small n)));
      };
      no_tail = rw e (dotless (hex_groups_text (groups_of n)) (All-hex_groups_text (groups_of n) small));
    }
