-- Prefix codes of rows.
use Rattle.std.proofs.Common.{◌≡◌, ℕ, ◌<◌, ◌^◌, true, List, [], ◌∷◌, ◌++◌, length, map, sym, ◌∙◌}
use Rattle.std.specs.Prelude.{decimal, ⊤}
use Rattle.std.specs.List.{list_all, AllByRecursion}
use Rattle.std.proofs.lemmas.List.{length-map}
use Rattle.text_codes.specs.Lines.{Words, text_of, is_set_in, IsCleanRow}
use Rattle.text_codes.specs.Codes.{IsCode, IsInjective}
use Rattle.text_codes.specs.CodeLaws.{PairsAreCodes, OptionsAreCodes, CountedListsAreCodes, KnownRowsAreCodes, CountedRowsAreCodes, SetInRowsAreCodes}
use Rattle.text_codes.proofs.Combining.{code-by_test, code-by_length, code-one, code-behind, code-pair, code-option, injective-from_code, injective-through}
use Rattle.text_codes.proofs.Listing.{injective-map, code-repeated, code-counted}
use Rattle.text_codes.proofs.Again.{lines_are_codes, texts_tell_rows}
use Rattle.text_codes.proofs.Numerals.{texts_tell_numbers}

-- a value is told by itself
pub injective-itself : {X : Type 0} (P : X → Type 0) → IsInjective P (λ x. x)
injective-itself P = record { tells = λ x y px py e. e }

-- a row of a front and one more word that tells the value
pub injective-last_word : {X : Type 0} {P : X → Type 0} {f : X → List ℕ} (front : Words) → IsInjective P f → IsInjective P (λ x. front ++ f x ∷ [])
injective-last_word front c = injective-from_code (code-behind front (code-one c)) tt

-- a known number of elements, each of which is one row
pub code-mapped : {X A : Type 0} {P : X → Type 0} {f : X → A} → IsInjective P f → (n : ℕ) → IsCode (λ xs. (length xs ≡ n) × AllByRecursion P xs) (map f)
code-mapped {f} c n =
    code-by_length (record { tells = λ xs ys h g e. (injective-map c).tells xs ys h.1 g.1 e })
    (λ xs ys h g. length-map xs f ∙ h.0 ∙ sym g.0 ∙ sym (length-map ys f))

-- the text of a value's rows tells the value
pub injective-text : {X : Type 0} {P : X → Type 0} {rows : X → List Words} → IsInjective P rows → ((x : X) → P x → AllByRecursion IsCleanRow (rows x)) → IsInjective P (λ x. text_of (rows x))
injective-text c h = injective-through texts_tell_rows c h

pub pairs_are_codes : (X Y A : Type 0) → PairsAreCodes X Y A
pairs_are_codes X Y A p q f g c d = code-pair c d (λ y rest h s. tt)

pub options_are_codes : (X A : Type 0) → OptionsAreCodes X A
options_are_codes X A p f none c apart = code-option none c (λ x r s h ends stops e. apart x r s h e)

pub counted_lists_are_codes : (X A : Type 0) → CountedListsAreCodes X A
counted_lists_are_codes X A n p count f c d = code-counted c (code-repeated d (λ x rest h s. tt)) (λ xs rest h s. tt)

pub known_rows_are_codes : KnownRowsAreCodes
known_rows_are_codes n = code-repeated lines_are_codes (λ row rest h s. tt) n

pub counted_rows_are_codes : CountedRowsAreCodes
counted_rows_are_codes front = record { tells = λ xs ys r s hx hy rr rs e. counted.tells xs ys r s (hx, tt) (hy, tt) rr rs e }
  where
    counted : IsCode (λ (rows : List Words). (length rows < 10 ^ 64) × ⊤) (λ (rows : List Words). ((front ++ decimal (length rows) ∷ []) ∷ []) ++ rows)
    counted = code-counted (code-one (injective-last_word front texts_tell_numbers)) (λ n. code-by_length (injective-itself _) (λ xs ys h g. h.0 ∙ sym g.0)) (λ rows rest h s. tt)

pub set_in_rows_are_codes : SetInRowsAreCodes
set_in_rows_are_codes = code-by_test is_set_in (injective-itself (λ rows. list_all is_set_in rows ≡ true)) (λ rows h. h)
