-- The number of a text of digits, read as 64 bits.
use Rattle.std.proofs.Common.{◌≡◌, ℕ, ◌<◌, ◌≤◌, ◌^◌, ◌&&◌, true, List, [], ◌∷◌, length, refl, ap, sym, ◌∙◌, arith, Result, Ok, Err}
use Rattle.std.specs.Prelude.{nat_le}
use Rattle.std.specs.List.{list_all}
use Rattle.std.specs.Char.{is_ascii_digit}
use Rattle.std.specs.Str.{all_ascii_digits}
use Rattle.std.specs.Str.Parse.{digits_value, ParsesUnsigned}
use Rattle.std.specs.Result.{OkIff, result_ok}
use Rattle.std.proofs.lemmas.Str.Parse.{numerals_by_value, parse_digits, tells_all_ascii_digits}
use Rattle.std.proofs.lemmas.Bool.{and_parts, leb-true, le-ltb, lt-ltb}
use Rattle.neigh_words.specs.Settings.{generated_of, is_long_number}

same_test : (text : List ℕ) → list_all is_ascii_digit text ≡ all_ascii_digits text
same_test [] = refl
same_test (c ∷ cs) = ap (λ b. is_ascii_digit c && b) (same_test cs)

-- what `parse` answers at 1 to 20 digits
pub generated_from : {E : Type 0} → (text : List ℕ) (r : Result ℕ E) → is_long_number text ≡ true → ParsesUnsigned 64 10 text r → result_ok r ≡ generated_of text
generated_from text r long parsed =
    let parts = and_parts (nat_le 1 (length text) && nat_le (length text) 20) (list_all is_ascii_digit text) long in
    let least = and_parts (nat_le 1 (length text)) (nat_le (length text) 20) parts.0 in
    by_result r (leb-true 1 (length text) least.0) (parse_digits (numerals_by_value _ tells_all_ascii_digits) 64 text r parsed (sym (same_test text) ∙ parts.1))
  where
    by_result : {E : Type 0} → (r : Result ℕ E) → 0 < length text → OkIff r ((0 < length text) × (digits_value 10 text < 2 ^ 64)) (digits_value 10 text) → result_ok r ≡ generated_of text
    by_result (Ok n) some h = rw (long, lt-ltb (digits_value 10 text) (2 ^ 64) h.0.1, h.1) refl
    by_result (Err e) some h =
        let large : 2 ^ 64 ≤ digits_value 10 text = omega (arith, λ (below : digits_value 10 text < 2 ^ 64). h (some, below)) in
        rw (long, le-ltb (digits_value 10 text) (2 ^ 64) large) refl
