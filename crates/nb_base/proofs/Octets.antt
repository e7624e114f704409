-- IPv4 addresses as four octets joined by `.`.
use Rattle.std.proofs.Common.{◌≡◌, ℕ, zero, suc, ◌+◌, ◌<◌, ◌≤◌, ◌^◌, Bool, ◌&&◌, ◌||◌, not, true, false, cond, eqb, ltb, leb, List, [], ◌∷◌, length, get_or, map, Option, Some, None, refl, sym, ap, ◌∙◌, arith, inl, inr}
use Rattle.std.specs.Prelude.{decimal}
use Rattle.std.specs.Option.{option_and_then}
use Rattle.std.specs.Char.{digit_value, is_ascii_digit}
use Rattle.std.specs.Int.{w32, to_be_bytes, from_be_bytes}
use Rattle.std.specs.List.{AllByRecursion, list_all}
use Rattle.std.specs.Str.Parse.{AllDigits}
use Rattle.std.proofs.lemmas.Bool.{lt-ltb, ltb-true, le-leb}
use Rattle.std.proofs.lemmas.Bool.Decides.{eqb_tells, nat_tests}
use Rattle.std.proofs.lemmas.Fmt.{decimal_is_IsNumeral, length-decimal-le, first_decimal, decimal_digit}
use Rattle.std.proofs.lemmas.List.Elements.{All-cons, All-nil}
use Rattle.std.proofs.lemmas.Nat.{be_bytes_4, from_be_bytes-to_be_bytes_4}
use Rattle.std.proofs.lemmas.Str.Parse.{digit_from_value}
use Rattle.nb_base.specs.Parts.{parts_spelled, number_of, is_plain, octet_of}
use Rattle.nb_base.specs.Address.{IsIp4Text, ip4_of, ip4_text}
use Rattle.nb_base.proofs.Joined.{Lacks, Shuns, found_parts, joined_parts}

-- what a test lets through
passed : (t : Bool) (a n : ℕ) → cond t (Some a) None ≡ Some n → (t ≡ true) × (a ≡ n)
passed true a n e = (refl, cc)
passed false a n e = absurd cc

each_of_three : (a b c : Bool) → (a && b && c) ≡ true → (a ≡ true) × (b ≡ true) × (c ≡ true)
each_of_three true true true e = (refl, refl, refl)
each_of_three true true false e = absurd cc
each_of_three true false c e = absurd cc
each_of_three false b c e = absurd cc

each_of_two : (a b : Bool) → (a && b) ≡ true → (a ≡ true) × (b ≡ true)
each_of_two true true e = (refl, refl)
each_of_two true false e = absurd cc
each_of_two false b e = absurd cc

number-digits : (text : List ℕ) (n : ℕ) → number_of text ≡ Some n → list_all is_ascii_digit text ≡ true
number-digits text n e = (each_of_three (leb 1 (length text)) (leb (length text) 10) (list_all is_ascii_digit text) (passed _ _ _ e).0).2

octet_parts : (plain : Bool) (r : Option ℕ) (value : ℕ) → option_and_then (λ n. cond (ltb n 256 && plain) (Some n) None) r ≡ Some value → (r ≡ Some value) × (value < 256)
octet_parts plain None value e = absurd cc
octet_parts plain (Some n) value e =
    let p = passed (ltb n 256 && plain) n value e in
    let small : n < 256 = ltb-true n 256 (each_of_two (ltb n 256) plain p.0).0 in
    (ap (λ (m : ℕ). Some m) p.1, omega (arith, p.1))

digit-dot : (b : ℕ) → is_ascii_digit b ≡ true → eqb b 46 ≡ false
digit-dot b e =
    elim (eqb_tells b 46) [
      | inl same ↦ absurd (let bad = rw same.1 at e in cc)
      | inr apart ↦ apart.0
    ]

digits-lack : (text : List ℕ) → list_all is_ascii_digit text ≡ true → Lacks 46 text
digits-lack [] e = All-nil _
digits-lack (b ∷ text) e =
    let both = each_of_two (is_ascii_digit b) (list_all is_ascii_digit text) e in
    All-cons (λ b. eqb b 46 ≡ false) b text (digit-dot b both.0) (digits-lack text both.1)

octet-shuns : Shuns octet_of 46
octet-shuns part value e = digits-lack part (number-digits part value (octet_parts (is_plain part) (number_of part) value e).0)

octets-small : (parts : List (List ℕ)) (values : List ℕ) → map octet_of parts ≡ map Some values → (i : ℕ) → get_or values i 0 < 256
octets-small [] [] e i = omega arith
octets-small [] (v ∷ values) e i = absurd cc
octets-small (part ∷ parts) [] e i = absurd cc
octets-small (part ∷ parts) (v ∷ values) e zero =
    let first : octet_of part ≡ Some v = cc in
    (octet_parts (is_plain part) (number_of part) v first).1
octets-small (part ∷ parts) (v ∷ values) e (suc i) =
    let rest : map octet_of parts ≡ map Some values = cc in
    octets-small parts values rest i

from_be_bytes-lt_4 : (bs : List ℕ) → ((i : ℕ) → get_or bs i 0 < 256) → from_be_bytes w32 bs < 2 ^ 32
from_be_bytes-lt_4 bs small =
    let a = small 0 in let b = small 1 in let c = small 2 in let d = small 3 in
    omega arith

-- the address of four octets is spelled by their text
pub ip4_found : (text values : List ℕ) (n : ℕ) → Some values ≡ parts_spelled octet_of 4 46 text → n ≡ from_be_bytes w32 values → IsIp4Text text n
ip4_found text values n e number =
    let h = found_parts octet_of 4 46 text values (sym e) in
    let small = octets-small h.0.parts values h.0.each in
    let same : to_be_bytes w32 n ≡ values = be_bytes_4 values n h.1 small number in
    (rw same h.0, rw number (from_be_bytes-lt_4 values small))

-- an address that a text spells is read of it
pub ip4_of-only : (text : List ℕ) (n : ℕ) → IsIp4Text text n → ip4_of text ≡ Some n
ip4_of-only text n h = rw (joined_parts octet_of 4 46 (omega arith) octet-shuns text (to_be_bytes w32 n) h.0 refl) (ap (λ (m : ℕ). Some m) (from_be_bytes-to_be_bytes_4 n h.1))

digit-is : (b : ℕ) → digit_value b < 10 → is_ascii_digit b ≡ true
digit-is b lt = grind (arith, nat_tests, digit_from_value b lt)

digits-are : (text : List ℕ) → AllDigits 10 text → list_all is_ascii_digit text ≡ true
digits-are [] h = refl
digits-are (b ∷ text) h = rw (digit-is b h.0) (digits-are text h.1)

either : (a b : Bool) → b ≡ true → (a || b) ≡ true
either true b e = refl
either false b e = e

decimal-plain : (n : ℕ) → n < 256 → is_plain (decimal n) ≡ true
decimal-plain n lt =
    elim (eqb_tells n 0) [
      | inl zero_is ↦ (let one : decimal n ≡ 48 ∷ [] = decimal_digit n (omega arith) ∙ ap (λ (m : ℕ). (48 + m) ∷ []) zero_is.1 in ap is_plain one)
      | inr apart ↦ (let first : 48 < get_or (decimal n) 0 0 = first_decimal n (omega arith) (omega arith) in either (eqb (length (decimal n)) 1) _ (not_it _ first))
    ]
  where
    not_it : (b : ℕ) → 48 < b → not (eqb b 48) ≡ true
    not_it b more = grind (arith, nat_tests)

octet-decimal : (n : ℕ) → n < 256 → octet_of (decimal n) ≡ Some n
octet-decimal n lt =
    let numeral = decimal_is_IsNumeral n (omega arith) in
    let long : 1 ≤ length (decimal n) = omega (arith, numeral.0.0) in
    let short : length (decimal n) ≤ 10 = omega (arith, length-decimal-le 3 n (omega arith) (omega arith) (omega arith)) in
    rw (le-leb _ _ long, le-leb _ _ short, digits-are (decimal n) numeral.0.1, numeral.1, lt-ltb n 256 lt, decimal-plain n lt) refl

octets-decimal : (bytes : List ℕ) → AllByRecursion (λ b. b < 256) bytes → map octet_of (map decimal bytes) ≡ map Some bytes
octets-decimal [] h = refl
octets-decimal (b ∷ bytes) h = pair (octet-decimal b h.0) (octets-decimal bytes h.1)
  where
    pair : {x y : Option ℕ} {xs ys : List (Option ℕ)} → x ≡ y → xs ≡ ys → (x ∷ xs) ≡ (y ∷ ys)
    pair p q = cc

bytes-small : (n : ℕ) → n < 2 ^ 32 → AllByRecursion (λ b. b < 256) (to_be_bytes w32 n)
bytes-small n lt = (omega arith, (omega arith, (omega arith, (omega arith, tt))))

-- the written text of an address spells it
pub ip4_text-again : (text : List ℕ) (n : ℕ) → text ≡ ip4_text n → n < 2 ^ 32 → IsIp4Text text n
ip4_text-again text n e lt = (record { parts = map decimal (to_be_bytes w32 n); joined = e; each = octets-decimal (to_be_bytes w32 n) (bytes-small n lt) }, lt)
