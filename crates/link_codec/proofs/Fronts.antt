-- What stands at the front of bytes.
use Rattle.std.proofs.Common.{◌≡◌, ℕ, ◌+◌, ◌<◌, ◌≤◌, ◌^◌, List, [], ◌∷◌, ◌++◌, length, take, refl, sym, ap, ◌∙◌, append_assoc, arith}
use Rattle.std.specs.Int.{w16, w32, to_be_bytes, from_be_bytes}
use Rattle.std.proofs.lemmas.Nat.{from_be_bytes-to_be_bytes_2, from_be_bytes-to_be_bytes_4}
use Rattle.std.proofs.lemmas.List.{take_at, length-append, length-take-le}
use Rattle.nb_base.specs.declared.mac.Mac.{Mac}

-- of two equal lists the fronts of one length are equal, and so is what follows them
pub fronts : (xs ys r s : List ℕ) → length xs ≡ length ys → xs ++ r ≡ ys ++ s → (xs ≡ ys) × (r ≡ s)
fronts [] [] r s l e = (refl, e)
fronts [] (y ∷ ys) r s l e = absurd (omega arith)
fronts (x ∷ xs) [] r s l e = absurd (omega arith)
fronts (x ∷ xs) (y ∷ ys) r s l e =
    let first : x ≡ y = cc in
    let more : xs ++ r ≡ ys ++ s = cc in
    let same = fronts xs ys r s (omega arith) more in
    (λ i. first i ∷ same.0 i, same.1)

pub macs : (a b : Mac) (r s : List ℕ) → length a.0 ≡ 6 → length b.0 ≡ 6 → a.0 ++ r ≡ b.0 ++ s → (a ≡ b) × (r ≡ s)
macs a b r s in_a in_b e =
    let same = fronts a.0 b.0 r s (in_a ∙ sym in_b) e in
    (ap (λ (bytes : List ℕ). (let mac : Mac = record { 0 = bytes } in mac)) same.0, same.1)

pub numbers_2 : (m n : ℕ) (r s : List ℕ) → m < 2 ^ 16 → n < 2 ^ 16 → to_be_bytes w16 m ++ r ≡ to_be_bytes w16 n ++ s → (m ≡ n) × (r ≡ s)
numbers_2 m n r s m_fits n_fits e =
    let same = fronts (to_be_bytes w16 m) (to_be_bytes w16 n) r s refl e in
    (sym (from_be_bytes-to_be_bytes_2 m m_fits) ∙ ap (from_be_bytes w16) same.0 ∙ from_be_bytes-to_be_bytes_2 n n_fits, same.1)

pub numbers_4 : (m n : ℕ) (r s : List ℕ) → m < 2 ^ 32 → n < 2 ^ 32 → to_be_bytes w32 m ++ r ≡ to_be_bytes w32 n ++ s → (m ≡ n) × (r ≡ s)
numbers_4 m n r s m_fits n_fits e =
    let same = fronts (to_be_bytes w32 m) (to_be_bytes w32 n) r s refl e in
    (sym (from_be_bytes-to_be_bytes_4 m m_fits) ∙ ap (from_be_bytes w32) same.0 ∙ from_be_bytes-to_be_bytes_4 n n_fits, same.1)

-- bytes that are put behind a front
pub put_behind : (old bytes rest : List ℕ) (from end : ℕ) → from ≤ length old → end ≡ from + length bytes → take end (take from old ++ (bytes ++ rest)) ≡ take from old ++ bytes
put_behind old bytes rest from end within is =
    let size : length (take from old ++ bytes) ≡ end = omega (arith, length-append (take from old) bytes, length-take-le from old within) in
    ap (take end) (sym (append_assoc (take from old) bytes rest)) ∙ take_at (take from old ++ bytes) rest end size
