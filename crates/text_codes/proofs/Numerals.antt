-- Numbers in texts.
use Rattle.std.proofs.Common.{◌≡◌, ℕ, ◌<◌, ◌≤◌, ◌^◌, Bool, ◌&&◌, not, true, false, cond, eqb, ltb, leb, List, [], ◌∷◌, length, Some, None, refl, sym, ap, ◌∙◌, arith}
use Rattle.std.specs.Prelude.{decimal}
use Rattle.std.specs.Char.{digit_value, is_ascii_digit}
use Rattle.std.specs.List.{list_all, list_any}
use Rattle.std.specs.Str.Parse.{AllDigits, digits_value}
use Rattle.std.proofs.lemmas.Bool.{both_ways, lt-ltb, le-leb, leb-true, and_parts, and_from}
use Rattle.std.proofs.lemmas.Bool.Decides.{nat_tests}
use Rattle.std.proofs.lemmas.Fmt.{decimal_is_IsNumeral_wide, length-decimal-le_wide}
use Rattle.std.proofs.lemmas.Str.Parse.{digit_from_value, numerals_by_value, tells_digits, digits_value_short}
use Rattle.text_codes.specs.Lines.{lacks}
use Rattle.text_codes.specs.Laws.{NumbersAgain, NumbersAreSmall, TextsTellNumbers, NumbersAreCodes, NumbersAreWords}
use Rattle.text_codes.proofs.Lacking.{list_all-weaker}
use Rattle.text_codes.proofs.Combining.{code-by_test}

digit-is : (b : ℕ) → digit_value b < 10 → is_ascii_digit b ≡ true
digit-is b lt = grind (arith, nat_tests, digit_from_value b lt)

pub digits-are : (text : List ℕ) → AllDigits 10 text → list_all is_ascii_digit text ≡ true
digits-are [] h = refl
digits-are (b ∷ text) h = rw (digit-is b h.0) (digits-are text h.1)

-- the digits of a number
pub decimal-digits : (n : ℕ) → n < 10 ^ 64 → list_all is_ascii_digit (decimal n) ≡ true
decimal-digits n lt = digits-are (decimal n) (decimal_is_IsNumeral_wide n lt).0.1

pub numbers_again : NumbersAgain
numbers_again n lt =
    let wide : n < 10 ^ 64 = omega arith in
    let numeral = decimal_is_IsNumeral_wide n wide in
    let long : 1 ≤ length (decimal n) = omega (arith, numeral.0.0) in
    let short : length (decimal n) ≤ 10 = length-decimal-le_wide 10 n (omega arith) lt wide in
    rw (le-leb _ _ long, le-leb _ _ short, decimal-digits n wide, numeral.1) refl

digit-value : (b : ℕ) → is_ascii_digit b ≡ true → digit_value b < 10
digit-value b e = grind (arith, nat_tests)

digits-values : (text : List ℕ) → list_all is_ascii_digit text ≡ true → AllDigits 10 text
digits-values [] e = tt
digits-values (b ∷ text) e =
    let both = and_parts (is_ascii_digit b) (list_all is_ascii_digit text) e in
    (digit-value b both.0, digits-values text both.1)

-- what a test lets through
passed : (t : Bool) (a n : ℕ) → cond t (Some a) None ≡ Some n → (t ≡ true) × (a ≡ n)
passed true a n e = (refl, cc)
passed false a n e = absurd cc

pub numbers_are_small : NumbersAreSmall
numbers_are_small text n e =
    let p = passed (leb 1 (length text) && leb (length text) 10 && list_all is_ascii_digit text) (digits_value 10 text) n e in
    let tests = and_parts (leb 1 (length text) && leb (length text) 10) (list_all is_ascii_digit text) p.0 in
    let short : length text ≤ 10 = leb-true (length text) 10 (and_parts (leb 1 (length text)) (leb (length text) 10) tests.0).1 in
    let small : digits_value 10 text < 10 ^ 10 = digits_value_short (numerals_by_value (AllDigits 10) tells_digits) text 10 (digits-values text tests.1) short in
    omega (arith, p.1)

pub texts_tell_numbers : TextsTellNumbers
texts_tell_numbers = record {
  tells = λ m n lm ln e. sym (decimal_is_IsNumeral_wide m lm).1 ∙ ap (digits_value 10) e ∙ (decimal_is_IsNumeral_wide n ln).1;
}

pub numbers_are_codes : NumbersAreCodes
numbers_are_codes = code-by_test is_ascii_digit texts_tell_numbers decimal-digits

digit-proper : (b : ℕ) → is_ascii_digit b ≡ true → not (list_any (λ c. eqb b c) (9 ∷ 10 ∷ 13 ∷ 32 ∷ [])) ≡ true
digit-proper b e = grind (arith, nat_tests)

pub numbers_are_words : NumbersAreWords
numbers_are_words n lt =
    and_from (ltb 0 (length (decimal n))) (lacks (9 ∷ 10 ∷ 13 ∷ 32 ∷ []) (decimal n)) (lt-ltb 0 _ (decimal_is_IsNumeral_wide n lt).0.0)
    (list_all-weaker is_ascii_digit (λ b. not (list_any (λ c. eqb b c) (9 ∷ 10 ∷ 13 ∷ 32 ∷ []))) digit-proper (decimal n) (decimal-digits n lt))

-- a number's text is no text in which something else than a digit stands
pub decimal-apart : (n : ℕ) (word : List ℕ) → n < 10 ^ 64 → list_all is_ascii_digit word ≡ false → decimal n ≡ word → ⊥
decimal-apart n word lt bad e = both_ways (list_all is_ascii_digit word) bad (ap (list_all is_ascii_digit) (sym e) ∙ decimal-digits n lt)
