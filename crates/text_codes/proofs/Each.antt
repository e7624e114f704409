-- What holds of each word of a row, and of each row of a text.
use Rattle.std.proofs.Common.{◌≡◌, ℕ, ◌<◌, true, false, ltb, List, [], ◌∷◌, ◌++◌, length, map, refl, ◌∙◌, arith}
use Rattle.std.specs.List.{flat_map, AllByRecursion}
use Rattle.std.proofs.lemmas.Bool.{and_from, lt-ltb}
use Rattle.std.proofs.lemmas.List.{length-append}
use Rattle.std.proofs.lemmas.List.Folds.{list_all-append}
use Rattle.text_codes.specs.Lines.{Words, lacks, IsWord, IsClean, IsCleanRow, is_set_in}
use Rattle.text_codes.proofs.Lacking.{Each-weaker, word-some, word-lacks, word-clean}

pub Each-append : {X : Type 0} (P : X → Type 0) (xs ys : List X) → AllByRecursion P xs → AllByRecursion P ys → AllByRecursion P (xs ++ ys)
Each-append P [] ys h g = g
Each-append P (x ∷ xs) ys h g = (h.0, Each-append P xs ys h.1 g)

pub Each-map : {X Y : Type 0} (P : X → Type 0) (Q : Y → Type 0) (f : X → Y) → ((x : X) → P x → Q (f x)) → (xs : List X) → AllByRecursion P xs → AllByRecursion Q (map f xs)
Each-map P Q f c [] h = tt
Each-map P Q f c (x ∷ xs) h = (c x h.0, Each-map P Q f c xs h.1)

pub Each-flat_map : {X Y : Type 0} (P : X → Type 0) (Q : Y → Type 0) (f : X → List Y) → ((x : X) → P x → AllByRecursion Q (f x)) → (xs : List X) → AllByRecursion P xs → AllByRecursion Q (flat_map f xs)
Each-flat_map P Q f c [] h = tt
Each-flat_map P Q f c (x ∷ xs) h = Each-append Q (f x) (flat_map f xs) (c x h.0) (Each-flat_map P Q f c xs h.1)

-- two texts without these bytes, one behind the other
pub lacks-append : (bytes xs ys : List ℕ) → lacks bytes xs ≡ true → lacks bytes ys ≡ true → lacks bytes (xs ++ ys) ≡ true
lacks-append bytes xs ys h g = list_all-append _ xs ys ∙ and_from (lacks bytes xs) (lacks bytes ys) h g

-- two proper words written as one
pub word-append : (xs ys : List ℕ) → IsWord xs → IsWord ys → IsWord (xs ++ ys)
word-append xs ys h g =
    let some : 0 < length (xs ++ ys) = (let long = word-some xs h in omega (arith, length-append xs ys)) in
    and_from (ltb 0 (length (xs ++ ys))) (lacks (9 ∷ 10 ∷ 13 ∷ 32 ∷ []) (xs ++ ys)) (lt-ltb 0 (length (xs ++ ys)) some) (lacks-append (9 ∷ 10 ∷ 13 ∷ 32 ∷ []) xs ys (word-lacks xs h) (word-lacks ys g))

-- a row of proper words
pub row-of_words : (row : Words) → 0 < length row → AllByRecursion IsWord row → IsCleanRow row
row-of_words row some h = (some, Each-weaker IsWord IsClean word-clean row h)

-- and one that is set in by two empty words
pub row-set_in : (row : Words) → AllByRecursion IsWord row → IsCleanRow ([] ∷ [] ∷ row)
row-set_in row h = (omega arith, (refl, (refl, Each-weaker IsWord IsClean word-clean row h)))

-- a row that begins with a word isn't set in
pub row-not_set_in : (word : List ℕ) (words : Words) → 0 < length word → is_set_in (word ∷ words) ≡ false
row-not_set_in [] words some = absurd (omega arith)
row-not_set_in (b ∷ word) words some = refl
