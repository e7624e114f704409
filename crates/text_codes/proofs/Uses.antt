-- How the combinators are used: two small writers, each told by its text.
use Rattle.std.proofs.Common.{◌≡◌, ℕ, ◌+◌, ◌<◌, true, false, ◌^◌, List, [], ◌∷◌, ◌++◌, length, map, Option, refl}
use Rattle.std.specs.Prelude.{decimal, codes, IfSome}
use Rattle.std.specs.Option.{option_map_or}
use Rattle.std.specs.List.{AllByRecursion, list_all}
use Rattle.text_codes.specs.Lines.{Words, is_set_in}
use Rattle.text_codes.specs.Codes.{IsCodeBefore, IsInjective, BeginsWithout, EachFrom}
use Rattle.text_codes.proofs.Combining.{code-pair, code-weaker, code-by_test, code-behind, code-at_end, code-one, injective-option, injective-from_code}
use Rattle.text_codes.proofs.Listing.{injective-map, code-counted, code-from}
use Rattle.text_codes.proofs.CodeRows.{injective-last_word}
use Rattle.text_codes.proofs.Numerals.{texts_tell_numbers, numbers_are_codes, numbers_are_words, decimal-apart}
use Rattle.text_codes.proofs.Lacking.{word-some}
use Rattle.text_codes.proofs.Each.{row-not_set_in}

-- two numbers with `/` between them, as one word
abbrev ratio : ℕ × ℕ → List ℕ
ratio z = decimal z.0 ++ 47 ∷ decimal z.1

ratio-tells : IsInjective (λ (z : ℕ × ℕ). (z.0 < 10 ^ 64) × (z.1 < 10 ^ 64)) ratio
ratio-tells = injective-from_code (code-pair numbers_are_codes (code-behind (47 ∷ []) numbers_are_codes) (λ y rest small begins. refl)) tt

-- `mark`, a number or `end`, and numbers however many, as a row
abbrev mark_row : Option ℕ × List ℕ → Words
mark_row z = codes "mark" ∷ option_map_or decimal z.0 (codes "end") ∷ map decimal z.1

mark_row-tells : IsInjective (λ (z : Option ℕ × List ℕ). IfSome z.0 (λ n. n < 10 ^ 64) × AllByRecursion (λ n. n < 10 ^ 64) z.1) mark_row
mark_row-tells =
    injective-from_code
    (code-behind (codes "mark" ∷ [])
    (code-pair (code-one (injective-option (codes "end") texts_tell_numbers (λ n small. decimal-apart n (codes "end") small refl)))
    (code-at_end (injective-map texts_tell_numbers))
    (λ y rest each none. tt)))
    refl

-- an entry's row, and its numbers in rows that are set in
abbrev act_row : ℕ → Words
act_row n = [] ∷ [] ∷ decimal n ∷ []

abbrev entry_rows : ℕ → ℕ × List ℕ → List Words
entry_rows place entry = (decimal place ∷ decimal entry.0 ∷ []) ∷ map act_row entry.1

-- entries from a place on
abbrev entries_rows : ℕ → List (ℕ × List ℕ) → List Words
entries_rows place [] = []
entries_rows place (entry ∷ entries) = entry_rows place entry ++ entries_rows (place + 1) entries

abbrev Small : ℕ → Type 0
Small n = n < 10 ^ 64

abbrev IsEntry : ℕ × List ℕ → Type 0
IsEntry entry = Small entry.0 × AllByRecursion Small entry.1

acts-set_in : (acts : List ℕ) → AllByRecursion Small acts → list_all is_set_in (map act_row acts) ≡ true
acts-set_in [] h = refl
acts-set_in (n ∷ acts) h = acts-set_in acts h.1

act_row-tells : IsInjective Small act_row
act_row-tells = injective-last_word ([] ∷ [] ∷ []) texts_tell_numbers

entry-code : (place : ℕ) → IsCodeBefore IsEntry (BeginsWithout is_set_in) (entry_rows place)
entry-code place =
    code-pair (code-one (injective-last_word (decimal place ∷ []) texts_tell_numbers)) (code-by_test is_set_in (injective-map act_row-tells) acts-set_in) (λ y rest each begins. tt)

-- a number starts with no space
place-set_in : (place : ℕ) (words : Words) → Small place → is_set_in (decimal place ∷ words) ≡ false
place-set_in place words small = row-not_set_in (decimal place) words (word-some (decimal place) (numbers_are_words place small))

-- the number of entries, and their rows
counted_entries : IsCodeBefore (λ entries. Small (length entries) × EachFrom (λ (place : ℕ) (entry : ℕ × List ℕ). place + 1) (λ (place : ℕ) (entry : ℕ × List ℕ). Small place × IsEntry entry) 0 entries) (BeginsWithout is_set_in)
    (λ entries. ((codes "entries" ∷ decimal (length entries) ∷ []) ∷ []) ++ entries_rows 0 entries)
counted_entries =
    code-counted (code-one (injective-last_word (codes "entries" ∷ []) texts_tell_numbers))
    (λ n. code-from (λ (place : ℕ) (entry : ℕ × List ℕ). place + 1) entries_rows (λ place. refl) (λ place entry entries. refl) (λ place. code-weaker (entry-code place) (λ entry h. h.1) (λ rest begins. begins)) (λ place entry rest h begins. place-set_in place (decimal entry.0 ∷ []) h.0) n 0)
    (λ entries rest each begins. tt)
