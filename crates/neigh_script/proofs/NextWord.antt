-- The next word of a line.
use Rattle.std.proofs.Common.{◌≡◌, ℕ, suc, ◌+◌, ◌<◌, ◌≤◌, Bool, not, true, false, cond, ltb, List, [], ◌∷◌, length, take, drop, Some, None, refl, sym, ap, subst, ◌∙◌, arith}
use Rattle.std.specs.List.{position, position_or_len}
use Rattle.std.specs.Option.{unwrap_or}
use Rattle.std.proofs.lemmas.List.Sums.{prefix_len-le-length}
use Rattle.std.proofs.lemmas.List.{take-append-drop}
use Rattle.text_codes.specs.Lines.{words_of, is_blank, has_blank}
use Rattle.text_codes.specs.Codes.{BeginsWithout}
use Rattle.text_codes.proofs.Fronts.{words_of-nil, words_of-blank, words_of-front}

place_from : (i n : ℕ) (b : Bool) → ltb i n ≡ b → i ≤ n → unwrap_or (cond (ltb i n) (Some i) None) n ≡ i
place_from i n true e le = rw e refl
place_from i n false e le = grind arith

-- a place that is the length where there is none
pub place_or_len : (p : ℕ → Bool) (xs : List ℕ) → unwrap_or (position p xs) (length xs) ≡ position_or_len p xs
place_or_len p xs = place_from (position_or_len p xs) (length xs) (ltb (position_or_len p xs) (length xs)) refl (prefix_len-le-length (λ x. not (p x)) xs)

drop_more : (n x : ℕ) (xs : List ℕ) → drop (1 + n) (x ∷ xs) ≡ drop n xs
drop_more n x xs = let next : 1 + n ≡ suc n = omega arith in rw next refl

take_more : (n x : ℕ) (xs : List ℕ) → take (1 + n) (x ∷ xs) ≡ x ∷ take n xs
take_more n x xs = let next : 1 + n ≡ suc n = omega arith in rw next refl

abbrev pub is_sign : ℕ → Bool
is_sign b = not (is_blank b)

blanks_more : (x : ℕ) (xs : List ℕ) → is_blank x ≡ true → drop (position_or_len is_sign (x ∷ xs)) (x ∷ xs) ≡ drop (position_or_len is_sign xs) xs
blanks_more x xs e = let at : position_or_len is_sign (x ∷ xs) ≡ 1 + position_or_len is_sign xs = rw e refl in ap (λ (k : ℕ). drop k (x ∷ xs)) at ∙ drop_more (position_or_len is_sign xs) x xs

blanks_none : (x : ℕ) (xs : List ℕ) → is_blank x ≡ false → drop (position_or_len is_sign (x ∷ xs)) (x ∷ xs) ≡ x ∷ xs
blanks_none x xs e = let at : position_or_len is_sign (x ∷ xs) ≡ 0 = rw e refl in ap (λ (k : ℕ). drop k (x ∷ xs)) at

behind_first : (x : ℕ) (xs : List ℕ) (b : Bool) → is_blank x ≡ b → words_of xs ≡ words_of (drop (position_or_len is_sign xs) xs)
    → words_of (x ∷ xs) ≡ words_of (drop (position_or_len is_sign (x ∷ xs)) (x ∷ xs))
behind_first x xs true e more = words_of-blank x xs e ∙ more ∙ sym (ap words_of (blanks_more x xs e))
behind_first x xs false e more = sym (ap words_of (blanks_none x xs e))

-- spaces and tabs in front are no words
pub words_of-behind_blanks : (xs : List ℕ) → words_of xs ≡ words_of (drop (position_or_len is_sign xs) xs)
words_of-behind_blanks [] = refl
words_of-behind_blanks (x ∷ xs) = behind_first x xs (is_blank x) refl (words_of-behind_blanks xs)

first_kept : (x : ℕ) (xs : List ℕ) (b : Bool) → is_blank x ≡ b → BeginsWithout is_blank (drop (position_or_len is_sign xs) xs) → BeginsWithout is_blank (drop (position_or_len is_sign (x ∷ xs)) (x ∷ xs))
first_kept x xs true e more = subst (λ (ys : List ℕ). BeginsWithout is_blank ys) (sym (blanks_more x xs e)) more
first_kept x xs false e more = subst (λ (ys : List ℕ). BeginsWithout is_blank ys) (sym (blanks_none x xs e)) e

-- behind the blanks in front stands a word or nothing
pub word_behind_blanks : (xs : List ℕ) → BeginsWithout is_blank (drop (position_or_len is_sign xs) xs)
word_behind_blanks [] = tt {0}
word_behind_blanks (x ∷ xs) = first_kept x xs (is_blank x) refl (word_behind_blanks xs)

word_more : (x : ℕ) (xs : List ℕ) → is_blank x ≡ false → position_or_len is_blank (x ∷ xs) ≡ 1 + position_or_len is_blank xs
word_more x xs e = rw e refl

word_none : (x : ℕ) (xs : List ℕ) → is_blank x ≡ true → position_or_len is_blank (x ∷ xs) ≡ 0
word_none x xs e = rw e refl

word_first : (x : ℕ) (xs : List ℕ) (b : Bool) → is_blank x ≡ b → has_blank (take (position_or_len is_blank xs) xs) ≡ false → has_blank (take (position_or_len is_blank (x ∷ xs)) (x ∷ xs)) ≡ false
word_first x xs true e more = ap (λ (k : ℕ). has_blank (take k (x ∷ xs))) (word_none x xs e)
word_first x xs false e more = ap (λ (k : ℕ). has_blank (take k (x ∷ xs))) (word_more x xs e) ∙ ap has_blank (take_more (position_or_len is_blank xs) x xs) ∙ rw (e, more) refl

no_blank : (xs : List ℕ) → has_blank (take (position_or_len is_blank xs) xs) ≡ false
no_blank [] = refl
no_blank (x ∷ xs) = word_first x xs (is_blank x) refl (no_blank xs)

rest_first : (x : ℕ) (xs : List ℕ) (b : Bool) → is_blank x ≡ b → BeginsWithout is_sign (drop (position_or_len is_blank xs) xs) → BeginsWithout is_sign (drop (position_or_len is_blank (x ∷ xs)) (x ∷ xs))
rest_first x xs true e more = subst (λ (k : ℕ). BeginsWithout is_sign (drop k (x ∷ xs))) (sym (word_none x xs e)) (ap not e)
rest_first x xs false e more = subst (λ (ys : List ℕ). BeginsWithout is_sign ys) (sym (ap (λ (k : ℕ). drop k (x ∷ xs)) (word_more x xs e) ∙ drop_more (position_or_len is_blank xs) x xs)) more

blank_behind : (xs : List ℕ) → BeginsWithout is_sign (drop (position_or_len is_blank xs) xs)
blank_behind [] = tt {0}
blank_behind (x ∷ xs) = rest_first x xs (is_blank x) refl (blank_behind xs)

filled : (x : ℕ) (xs : List ℕ) → is_blank x ≡ false → 0 < length (take (position_or_len is_blank (x ∷ xs)) (x ∷ xs))
filled x xs e = let some = ap length (ap (λ (k : ℕ). take k (x ∷ xs)) (word_more x xs e) ∙ take_more (position_or_len is_blank xs) x xs) in omega (arith, some)

-- the word in front, and the words behind it
pub words_of-word : (xs : List ℕ) → BeginsWithout is_blank xs → 0 < length xs → words_of xs ≡ take (position_or_len is_blank xs) xs ∷ words_of (drop (position_or_len is_blank xs) xs)
words_of-word [] begins some = absurd (omega arith)
words_of-word (x ∷ xs) begins some =
    let n = position_or_len is_blank (x ∷ xs) in
    ap words_of (sym (take-append-drop n (x ∷ xs))) ∙ words_of-front (take n (x ∷ xs)) (drop n (x ∷ xs)) (filled x xs begins) (no_blank (x ∷ xs)) (blank_behind (x ∷ xs))

pub words_of-empty : (xs : List ℕ) → length xs ≡ 0 → words_of xs ≡ []
words_of-empty [] e = words_of-nil
words_of-empty (x ∷ xs) e = absurd (omega (arith, e))
