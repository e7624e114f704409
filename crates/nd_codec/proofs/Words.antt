-- The plain sum of the words of bytes, over one more pair of bytes and over bytes that are joined.
use Rattle.std.proofs.Common.{◌≡◌, ℕ, zero, suc, ◌+◌, ◌*◌, ◌≤◌, List, [], ◌∷◌, ◌++◌, length, get_or, drop, refl, arith}
use Rattle.std.proofs.lemmas.List.Sums.{sum_by-cons}
use Rattle.nd_codec.specs.Checksum.{words_of, word_sum}

pub word_sum-none : word_sum [] ≡ 0
unfolding word_sum words_of
word_sum-none = refl

pub word_sum-cons : (high low : ℕ) (rest : List ℕ) → word_sum (high ∷ low ∷ rest) ≡ 256 * high + low + word_sum rest
unfolding word_sum words_of
word_sum-cons high low rest = sum_by-cons (λ (x : ℕ). x) (256 * high + low) (words_of rest)

pub word_sum-single : (high : ℕ) → word_sum (high ∷ []) ≡ 256 * high
unfolding word_sum words_of
word_sum-single high = let h : word_sum (high ∷ []) ≡ 256 * high + 0 = sum_by-cons (λ (x : ℕ). x) (256 * high) [] in omega (arith, h)

-- the next pair of bytes
pub word_sum-pair : (xs : List ℕ) → 2 ≤ length xs → word_sum xs ≡ 256 * get_or xs 0 0 + get_or xs 1 0 + word_sum (drop 2 xs)
word_sum-pair [] le = absurd (omega arith)
word_sum-pair (a ∷ []) le = absurd (omega arith)
word_sum-pair (a ∷ b ∷ more) le = word_sum-cons a b more

-- a last byte that stands alone
pub word_sum-last : (xs : List ℕ) → length xs ≡ 1 → word_sum xs ≡ 256 * get_or xs 0 0
word_sum-last [] e = absurd (omega arith)
word_sum-last (a ∷ []) e = word_sum-single a
word_sum-last (a ∷ b ∷ more) e = absurd (omega arith)

-- no byte left
pub word_sum-end : (xs : List ℕ) → length xs ≡ 0 → word_sum xs ≡ 0
word_sum-end [] e = word_sum-none
word_sum-end (a ∷ more) e = absurd (omega arith)

-- behind an even number of bytes a word begins
pub word_sum-append : (n : ℕ) (xs ys : List ℕ) → length xs ≡ 2 * n → word_sum (xs ++ ys) ≡ word_sum xs + word_sum ys
word_sum-append zero [] ys e = omega (arith, word_sum-none)
word_sum-append zero (a ∷ more) ys e = absurd (omega arith)
word_sum-append (suc n) [] ys e = absurd (omega arith)
word_sum-append (suc n) (a ∷ []) ys e = absurd (omega arith)
word_sum-append (suc n) (a ∷ b ∷ more) ys e =
    omega (arith, word_sum-cons a b (more ++ ys), word_sum-cons a b more, word_sum-append n more ys (omega arith))
