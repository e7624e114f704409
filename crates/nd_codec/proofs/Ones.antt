-- Ones' complement sums, from plain sums.
use Rattle.std.proofs.Common.{◌≡◌, ℕ, zero, suc, ◌+◌, ◌-◌, ◌*◌, ◌/◌, ◌%◌, ◌^◌, ◌<◌, ◌≤◌, ◌∙◌, List, [], ◌∷◌, ◌++◌, length, get_or, take, drop, refl, sym, ap, arith}
use Rattle.std.specs.Int.{byte_at}
use Rattle.byteorder.specs.Endian.{big_bytes}
use Rattle.std.proofs.lemmas.List.{length-take-le, get_or-drop}
use Rattle.nd_codec.specs.Checksum.{words_of, ones_add, ones_sum, word_sum, ones_of, pseudo_header, checksum_of, cleared}
use Rattle.nd_codec.proofs.Words.{word_sum-none, word_sum-cons, word_sum-single, word_sum-append}

abbrev pub IsBytes : List ℕ → Type 0
IsBytes bytes = (i : ℕ) → get_or bytes i 0 < 256

ones_of-zero : ones_of 0 ≡ 0
unfolding ones_of
ones_of-zero = refl

ones_of-suc : (n : ℕ) → ones_of (suc n) ≡ n % 65535 + 1
unfolding ones_of
ones_of-suc n = refl

pub ones_of-below : (s : ℕ) → ones_of s < 65536
ones_of-below zero = omega (arith, ones_of-zero)
ones_of-below (suc n) = omega (arith, ones_of-suc n)

-- by how many turns of 65535 the plain sum is greater
turns : (s : ℕ) → s ≡ ones_of s + 65535 * ((s - 1) / 65535)
turns zero = omega (arith, ones_of-zero)
turns (suc n) = omega (arith, ones_of-suc n)

none_left : (s : ℕ) → ones_of s ≡ 0 → s ≡ 0
none_left zero e = refl
none_left (suc n) e = absurd (omega (arith, ones_of-suc n))

-- 16 bits that differ from the plain sum by a multiple of 65535, and are zero only for zero
is_ones : (s r k : ℕ) → s ≡ r + 65535 * k → r < 65536 → (r ≡ 0 → s ≡ 0) → r ≡ ones_of s
is_ones zero r k e lt none = omega (arith, ones_of-zero)
is_ones (suc n) zero k e lt none = absurd (let bad = none refl in omega arith)
is_ones (suc n) (suc r) k e lt none = omega (arith, ones_of-suc n)

-- one word more
ones_add-of : (w s : ℕ) → w < 65536 → ones_add w (ones_of s) ≡ ones_of (w + s)
ones_add-of w s lt =
    let below = ones_of-below s in
    let more = turns s in
    is_ones (w + s) (ones_add w (ones_of s)) ((w + ones_of s) / 65536 + (s - 1) / 65535) (omega arith) (omega arith)
    (λ e. let nothing : ones_of s ≡ 0 = omega arith in let all = none_left s nothing in omega arith)

-- the carries of a sum of 32 bits are all in after two turns
pub folded_twice : (s : ℕ) → s < 2 ^ 32 → (s % 65536 + s / 65536) % 65536 + (s % 65536 + s / 65536) / 65536 ≡ ones_of s
folded_twice s lt =
    is_ones s ((s % 65536 + s / 65536) % 65536 + (s % 65536 + s / 65536) / 65536) (s / 65536 + (s % 65536 + s / 65536) / 65536)
    (omega arith) (omega arith) (λ e. omega arith)

IsBytes-rest : (a b : ℕ) (bytes : List ℕ) → IsBytes (a ∷ b ∷ bytes) → IsBytes bytes
IsBytes-rest a b bytes h i = h (suc (suc i))

-- the ones' complement sum of bytes is that of their plain sum
pub ones_sum-bytes : (bytes : List ℕ) → IsBytes bytes → ones_sum (words_of bytes) ≡ ones_of (word_sum bytes)
unfolding words_of
ones_sum-bytes [] h = rw (word_sum-none, ones_of-zero) refl
ones_sum-bytes (a ∷ []) h =
    let small = h 0 in
    let one = ones_add-of (256 * a) 0 (omega arith) in
    let same : 256 * a + 0 ≡ word_sum (a ∷ []) = omega (arith, word_sum-single a) in
    (rw ones_of-zero at one) ∙ ap ones_of same
ones_sum-bytes (a ∷ b ∷ bytes) h =
    let high = h 0 in
    let low = h 1 in
    ap (ones_add (256 * a + b)) (ones_sum-bytes bytes (IsBytes-rest a b bytes h)) ∙ ones_add-of (256 * a + b) (word_sum bytes) (omega arith) ∙ ap ones_of (sym (word_sum-cons a b bytes))

IsBytes-append : (xs ys : List ℕ) → IsBytes xs → IsBytes ys → IsBytes (xs ++ ys)
IsBytes-append [] ys front behind i = behind i
IsBytes-append (x ∷ xs) ys front behind zero = front 0
IsBytes-append (x ∷ xs) ys front behind (suc i) = IsBytes-append xs ys (λ j. front (suc j)) behind i

IsBytes-drop : (n : ℕ) (bytes : List ℕ) → IsBytes bytes → IsBytes (drop n bytes)
IsBytes-drop n bytes h i = rw get_or-drop (h (n + i))

IsBytes-take : (n : ℕ) (bytes : List ℕ) → IsBytes bytes → IsBytes (take n bytes)
IsBytes-take zero bytes h i = omega arith
IsBytes-take (suc n) [] h i = omega arith
IsBytes-take (suc n) (x ∷ xs) h zero = h 0
IsBytes-take (suc n) (x ∷ xs) h (suc i) = IsBytes-take n xs (λ j. h (suc j)) i

byte-below : (k n : ℕ) → byte_at k n < 256
byte-below zero n = omega arith
byte-below (suc k) n = omega arith

pub IsBytes-big_bytes : (k n : ℕ) → IsBytes (big_bytes k n)
IsBytes-big_bytes zero n i = omega arith
IsBytes-big_bytes (suc k) n zero = byte-below k n
IsBytes-big_bytes (suc k) n (suc i) = IsBytes-big_bytes k n i

-- ---- the pseudo-header

next_header_fits : IsBytes (0 ∷ 0 ∷ 0 ∷ 58 ∷ [])
next_header_fits zero = omega arith
next_header_fits (suc zero) = omega arith
next_header_fits (suc (suc zero)) = omega arith
next_header_fits (suc (suc (suc zero))) = omega arith
next_header_fits (suc (suc (suc (suc i)))) = omega arith

pseudo_header-fits : (s d l : ℕ) → IsBytes (pseudo_header s d l)
unfolding pseudo_header
pseudo_header-fits s d l =
    IsBytes-append (big_bytes 16 s) (big_bytes 16 d ++ big_bytes 4 l ++ 0 ∷ 0 ∷ 0 ∷ 58 ∷ []) (IsBytes-big_bytes 16 s)
    (IsBytes-append (big_bytes 16 d) (big_bytes 4 l ++ 0 ∷ 0 ∷ 0 ∷ 58 ∷ []) (IsBytes-big_bytes 16 d)
    (IsBytes-append (big_bytes 4 l) (0 ∷ 0 ∷ 0 ∷ 58 ∷ []) (IsBytes-big_bytes 4 l) next_header_fits))

length-pseudo_header : (s d l : ℕ) → length (pseudo_header s d l) ≡ 2 * 20
unfolding pseudo_header
length-pseudo_header s d l = refl

-- its sum, part by part
pub pseudo_header-sum : (s d l : ℕ) → word_sum (pseudo_header s d l) ≡ word_sum (big_bytes 16 s) + (word_sum (big_bytes 16 d) + (word_sum (big_bytes 4 l) + word_sum (0 ∷ 0 ∷ 0 ∷ 58 ∷ [])))
unfolding pseudo_header
pseudo_header-sum s d l =
    word_sum-append 8 (big_bytes 16 s) (big_bytes 16 d ++ big_bytes 4 l ++ 0 ∷ 0 ∷ 0 ∷ 58 ∷ []) refl
    ∙ ap (λ x. word_sum (big_bytes 16 s) + x)
    (word_sum-append 8 (big_bytes 16 d) (big_bytes 4 l ++ 0 ∷ 0 ∷ 0 ∷ 58 ∷ []) refl
    ∙ ap (λ x. word_sum (big_bytes 16 d) + x) (word_sum-append 2 (big_bytes 4 l) (0 ∷ 0 ∷ 0 ∷ 58 ∷ []) refl))

-- ---- the checksum, from plain sums

pub checksum_of-is : (s d : ℕ) (m : List ℕ) → IsBytes m → checksum_of s d m ≡ 65535 - ones_of (word_sum (pseudo_header s d (length m)) + word_sum m)
unfolding checksum_of
checksum_of-is s d m h =
    ap (λ x. 65535 - x)
    (ones_sum-bytes (pseudo_header s d (length m) ++ m) (IsBytes-append (pseudo_header s d (length m)) m (pseudo_header-fits s d (length m)) h)
    ∙ ap ones_of (word_sum-append 20 (pseudo_header s d (length m)) m (length-pseudo_header s d (length m))))

length-cleared : (m : List ℕ) → 4 ≤ length m → length (cleared m) ≡ length m
length-cleared [] le = absurd (omega arith)
length-cleared (a ∷ []) le = absurd (omega arith)
length-cleared (a ∷ b ∷ []) le = absurd (omega arith)
length-cleared (a ∷ b ∷ c ∷ []) le = absurd (omega arith)
length-cleared (a ∷ b ∷ c ∷ d ∷ more) le = refl

zeros_fit : (m : List ℕ) → IsBytes m → IsBytes (0 ∷ 0 ∷ m)
zeros_fit m h zero = omega arith
zeros_fit m h (suc zero) = omega arith
zeros_fit m h (suc (suc i)) = h i

cleared-fits : (m : List ℕ) → IsBytes m → IsBytes (cleared m)
cleared-fits m h = IsBytes-append (take 2 m) (0 ∷ 0 ∷ drop 4 m) (IsBytes-take 2 m h) (zeros_fit (drop 4 m) (IsBytes-drop 4 m h))

-- the checksum with the two bytes at 2 as zero, from the sums of what stands before and behind them
pub checksum_cleared-is : (s d : ℕ) (m : List ℕ) → 4 ≤ length m → IsBytes m → checksum_of s d (cleared m) ≡ 65535 - ones_of (word_sum (pseudo_header s d (length m)) + word_sum (take 2 m) + word_sum (drop 4 m))
checksum_cleared-is s d m le h =
    let two = word_sum-append 1 (take 2 m) (0 ∷ 0 ∷ drop 4 m) (length-take-le 2 m (omega arith)) in
    let zeros = word_sum-cons 0 0 (drop 4 m) in
    let parts : word_sum (pseudo_header s d (length m)) + word_sum (cleared m) ≡ word_sum (pseudo_header s d (length m)) + word_sum (take 2 m) + word_sum (drop 4 m) = omega (arith, two, zeros) in
    checksum_of-is s d (cleared m) (cleared-fits m h)
    ∙ ap (λ n. 65535 - ones_of (word_sum (pseudo_header s d n) + word_sum (cleared m))) (length-cleared m le)
    ∙ ap (λ x. 65535 - ones_of x) parts
