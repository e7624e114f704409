-- What stands at a place of bytes.
use Rattle.std.proofs.Common.{◌≡◌, ℕ, zero, suc, ◌+◌, ◌<◌, ◌≤◌, ◌^◌, List, [], ◌∷◌, ◌++◌, length, take, drop, get_or, refl, sym, ap, ◌∙◌, arith}
use Rattle.std.specs.Int.{w16, w32, to_be_bytes}
use Rattle.std.proofs.lemmas.Nat.{be_bytes_2, be_bytes_4}
use Rattle.std.proofs.lemmas.List.{take-append-drop, length-take-le, length-drop, get_or-drop}
use Rattle.link_codec.specs.Ethernet.{IsFrame}
use Rattle.link_codec.proofs.Frames.{IsFrame-taken}
use Rattle.heard_frames.specs.Fields.{mac_at, number_2_at, number_4_at}

abbrev pub IsBytes : List ℕ → Type 0
IsBytes xs = (i : ℕ) → get_or xs i 0 < 256

bytes_take : (n : ℕ) (xs : List ℕ) → IsBytes xs → IsBytes (take n xs)
bytes_take zero xs h i = omega arith
bytes_take (suc n) [] h i = h i
bytes_take (suc n) (x ∷ xs) h zero = h 0
bytes_take (suc n) (x ∷ xs) h (suc i) = bytes_take n xs (λ j. h (suc j)) i

pub bytes_drop : (n : ℕ) (xs : List ℕ) → IsBytes xs → IsBytes (drop n xs)
bytes_drop n xs h i = rw (get_or-drop n xs i 0) (h (n + i))

drop_nil : (n : ℕ) → drop {A = ℕ} n [] ≡ []
drop_nil zero = refl
drop_nil (suc n) = refl

drop-drop : (m n : ℕ) (xs : List ℕ) → drop n (drop m xs) ≡ drop (m + n) xs
drop-drop zero n xs = let same : n ≡ 0 + n = omega arith in ap (λ (k : ℕ). drop k xs) same
drop-drop (suc m) n [] = drop_nil n ∙ sym (drop_nil (suc m + n))
drop-drop (suc m) n (x ∷ xs) = let same : suc (m + n) ≡ suc m + n = omega arith in drop-drop m n xs ∙ ap (λ (k : ℕ). drop k (x ∷ xs)) same

-- from a place on: so many bytes, and what is behind them
pub cut_at : (place n : ℕ) (xs : List ℕ) → drop place xs ≡ take n (drop place xs) ++ drop (place + n) xs
cut_at place n xs = sym (take-append-drop n (drop place xs)) ∙ ap (λ (ys : List ℕ). take n (drop place xs) ++ ys) (drop-drop place n xs)

pub size_at : (place n : ℕ) (xs : List ℕ) → place + n ≤ length xs → length (take n (drop place xs)) ≡ n
size_at place n xs within = length-take-le n (drop place xs) (omega (arith, length-drop place xs))

bytes_at : (place n : ℕ) (xs : List ℕ) → IsBytes xs → IsBytes (take n (drop place xs))
bytes_at place n xs h = bytes_take n (drop place xs) (bytes_drop place xs h)

pub spelled_2 : (place : ℕ) (xs : List ℕ) → IsBytes xs → place + 2 ≤ length xs → drop place xs ≡ to_be_bytes w16 (number_2_at place xs) ++ drop (place + 2) xs
spelled_2 place xs h within =
    cut_at place 2 xs ∙ ap (λ (ys : List ℕ). ys ++ drop (place + 2) xs) (sym (be_bytes_2 (take 2 (drop place xs)) (number_2_at place xs) (size_at place 2 xs within) (bytes_at place 2 xs h) refl))

pub spelled_4 : (place : ℕ) (xs : List ℕ) → IsBytes xs → place + 4 ≤ length xs → drop place xs ≡ to_be_bytes w32 (number_4_at place xs) ++ drop (place + 4) xs
spelled_4 place xs h within =
    cut_at place 4 xs ∙ ap (λ (ys : List ℕ). ys ++ drop (place + 4) xs) (sym (be_bytes_4 (take 4 (drop place xs)) (number_4_at place xs) (size_at place 4 xs within) (bytes_at place 4 xs h) refl))

pub fits_2 : (place : ℕ) (xs : List ℕ) → IsBytes xs → number_2_at place xs < 2 ^ 16
fits_2 place xs h = omega (arith, bytes_at place 2 xs h 0, bytes_at place 2 xs h 1)

pub fits_4 : (place : ℕ) (xs : List ℕ) → IsBytes xs → number_4_at place xs < 2 ^ 32
fits_4 place xs h = omega (arith, bytes_at place 4 xs h 0, bytes_at place 4 xs h 1, bytes_at place 4 xs h 2, bytes_at place 4 xs h 3)

-- 14 bytes and more are a frame
pub frame_of_fields : (xs : List ℕ) → IsBytes xs → 14 ≤ length xs → IsFrame xs (mac_at 0 xs) (mac_at 6 xs) (number_2_at 12 xs) (drop 14 xs)
frame_of_fields xs h long =
    IsFrame-taken (mac_at 0 xs) (mac_at 6 xs) (number_2_at 12 xs) xs (drop 6 xs) (drop 12 xs) (drop 14 xs)
    (cut_at 0 6 xs) (cut_at 6 6 xs) (spelled_2 12 xs h (omega (arith, long))) (size_at 0 6 xs (omega (arith, long))) (size_at 6 6 xs (omega (arith, long))) (fits_2 12 xs h)
