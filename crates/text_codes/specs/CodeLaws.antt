-- The laws of prefix codes, at each type and writer. Tests tell which values are meant.
use Rattle.std.specs.Prelude.{◌≡◌, ℕ, ◌<◌, ◌^◌, Bool, true, decimal, List, [], ◌∷◌, ◌++◌, length, Option, IfSome}
use Rattle.std.specs.Option.{option_map_or}
use Rattle.std.specs.List.{flat_map, list_all, AllByRecursion}
use Rattle.text_codes.specs.Lines.{Words, text_of, is_set_in, IsCleanRow}
use Rattle.text_codes.specs.Codes.{IsCode, IsCodeBefore, BeginsWithout}

-- the test gives true
abbrev pub Passes : {X : Type 0} → (X → Bool) → X → Type 0
Passes p x = p x ≡ true

-- two values, one behind the other
abbrev pub PairsAreCodes : Type 0 → Type 0 → Type 0 → Type 0
PairsAreCodes X Y A =
    (p : X → Bool) (q : Y → Bool) (f : X → List A) (g : Y → List A)
    → IsCode (Passes p) f
    → IsCode (Passes q) g
    → IsCode (λ (z : X × Y). Passes p z.0 × Passes q z.1) (λ (z : X × Y). f z.0 ++ g z.1)

-- a value or none, where what is written of none begins no written value
abbrev pub OptionsAreCodes : Type 0 → Type 0 → Type 0
OptionsAreCodes X A =
    (p : X → Bool) (f : X → List A) (none : List A)
    → IsCode (Passes p) f
    → ((x : X) (r s : List A) → Passes p x → f x ++ r ≡ none ++ s → ⊥)
    → IsCode (λ (o : Option X). IfSome o (Passes p)) (λ (o : Option X). option_map_or f o none)

-- a list's length, and then its elements
abbrev pub CountedListsAreCodes : Type 0 → Type 0 → Type 0
CountedListsAreCodes X A =
    (n : ℕ → Bool) (p : X → Bool) (count : ℕ → List A) (f : X → List A)
    → IsCode (Passes n) count
    → IsCode (Passes p) f
    → IsCode (λ (xs : List X). Passes n (length xs) × AllByRecursion (Passes p) xs) (λ (xs : List X). count (length xs) ++ flat_map f xs)

-- as many rows as are known, in a text
abbrev pub KnownRowsAreCodes : Type 0
KnownRowsAreCodes = (n : ℕ) → IsCode (λ rows. (length rows ≡ n) × AllByRecursion IsCleanRow rows) text_of

-- a row that ends with the number of rows that follow, and these rows
abbrev pub CountedRowsAreCodes : Type 0
CountedRowsAreCodes = (front : Words) → IsCode (λ (rows : List Words). length rows < 10 ^ 64) (λ (rows : List Words). (front ++ decimal (length rows) ∷ []) ∷ rows)

-- rows that are set in, however many, before rows that aren't
abbrev pub SetInRowsAreCodes : Type 0
SetInRowsAreCodes = IsCodeBefore (λ (rows : List Words). list_all is_set_in rows ≡ true) (BeginsWithout is_set_in) (λ (rows : List Words). rows)
