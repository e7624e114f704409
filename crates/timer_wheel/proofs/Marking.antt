-- A bit set, a bit cleared, and the first that is set.
use Rattle.std.proofs.Common.{◌≡◌, ◌≢◌, ℕ, zero, suc, ◌+◌, ◌-◌, ◌*◌, ◌/◌, ◌%◌, ◌^◌, ◌<◌, List, [], ◌∷◌, length, refl, sym, ap, ◌∙◌, subst, arith}
use Rattle.std.specs.Prelude.{slice_set, slice_index_or, bit_and, bit_or}
use Rattle.std.specs.Int.{bit_at, bit_not, trailing_zeros, w64}
use Rattle.std.proofs.lemmas.Nat.Bits.{bit_at_set_same, bit_at_set_other, bit_at_clear_same, bit_at_clear_other, bit_at-trailing_zeros}
use Rattle.std.proofs.lemmas.List.{get_or-set_same, get_or-set_other}
use mathlib.Core.Logic.{dite}
use native.Mathlib.Decide.{ℕ_discrete, dec_lt}
use Rattle.timer_wheel.specs.Marked.{mark_of, Marks, IsFirst}

-- a word that is there is the same at every default
same_default : (xs : List ℕ) (k d e : ℕ) → k < length xs → slice_index_or xs k d ≡ slice_index_or xs k e
same_default [] k d e h = absurd (omega arith)
same_default (x ∷ xs) zero d e h = refl
same_default (x ∷ xs) (suc k) d e h = same_default xs k d e (omega arith)

pub word_at : (words old : List ℕ) (k n : ℕ) → words ≡ old → k < length old → n ≡ slice_index_or words k n → n ≡ slice_index_or old k 0
word_at words old k n same small is = is ∙ (ap (λ (ws : List ℕ). slice_index_or ws k n) same ∙ same_default old k n 0 small)

-- one bit of one word changes
one_bit : (words old : List ℕ) (slot n made mark : ℕ) → words ≡ old → length old ≡ 11 → slot < 704 → n ≡ slice_index_or old (slot / 64) 0 → bit_at made (slot % 64) ≡ mark → ((i : ℕ) → i < 64 → i ≢ slot % 64 → bit_at made i ≡ bit_at n i)
    → Marks old (slice_set words (slot / 64) made) slot mark
one_bit words old slot n made mark same long small was here others =
    let F : List ℕ → Type 0 = λ ws. Marks old (slice_set ws (slot / 64) made) slot mark in
    let now : Marks old (slice_set old (slot / 64) made) slot mark = record {
      here = ap (λ (w : ℕ). bit_at w (slot % 64)) (get_or-set_same old (slot / 64) made 0 (omega (arith, long, small))) ∙ here;
      others = λ other within apart. dite (ℕ_discrete (other / 64) (slot / 64))
          (λ e.
          let word : slice_index_or (slice_set old (slot / 64) made) (other / 64) 0 ≡ made = ap (λ (k : ℕ). slice_index_or (slice_set old (slot / 64) made) k 0) e ∙ get_or-set_same old (slot / 64) made 0 (omega (arith, long, small)) in
          let mine : n ≡ slice_index_or old (other / 64) 0 = was ∙ ap (λ (k : ℕ). slice_index_or old k 0) (sym e) in
          let differ : other % 64 ≢ slot % 64 = λ same_bit. apart (omega (arith, e, same_bit)) in
          ap (λ (w : ℕ). bit_at w (other % 64)) word ∙ (others (other % 64) (omega arith) differ ∙ ap (λ (w : ℕ). bit_at w (other % 64)) mine))
          (λ ne. ap (λ (w : ℕ). bit_at w (other % 64)) (get_or-set_other old (slot / 64) (other / 64) made 0 ne));
    } in
    subst F (sym same) now

pub set_marks : (words old : List ℕ) (slot n : ℕ) → words ≡ old → length old ≡ 11 → slot < 704 → n ≡ slice_index_or old (slot / 64) 0
    → Marks old (slice_set words (slot / 64) (bit_or n (1 * 2 ^ (slot % 64) % 18446744073709551616))) slot 1
set_marks words old slot n same long small was =
    let low : slot % 64 < 64 = omega arith in
    one_bit words old slot n (bit_or n (1 * 2 ^ (slot % 64) % 18446744073709551616)) 1 same long small was (bit_at_set_same w64 n (slot % 64) low) (λ i within apart. bit_at_set_other w64 n (slot % 64) low i apart)

pub clear_marks : (words old : List ℕ) (slot n : ℕ) → words ≡ old → length old ≡ 11 → slot < 704 → n ≡ slice_index_or old (slot / 64) 0
    → Marks old (slice_set words (slot / 64) (bit_and n (18446744073709551615 - 1 * 2 ^ (slot % 64) % 18446744073709551616))) slot 0
clear_marks words old slot n same long small was =
    let low : slot % 64 < 64 = omega arith in
    one_bit words old slot n (bit_and n (bit_not w64 (1 * 2 ^ (slot % 64) % 18446744073709551616))) 0 same long small was (bit_at_clear_same w64 n (slot % 64) low) (λ i within apart. bit_at_clear_other w64 n (slot % 64) low i within apart)

-- the lowest bit of the first word that isn't 0
pub first_mark : (words : List ℕ) (level n : ℕ) → level < 11 → n ≡ slice_index_or words level 0 → 0 < n → n < 18446744073709551616 → ((slot : ℕ) → slot < 64 * level → mark_of words slot ≡ 0) → IsFirst words (64 * level + trailing_zeros w64 n)
first_mark words level n small was some fits none =
    let t = bit_at-trailing_zeros w64 n some fits in
    let k : ℕ = trailing_zeros w64 n in
    let low : k < 64 = t.0 in
    let row : (64 * level + k) / 64 ≡ level = omega (arith, low) in
    let column : (64 * level + k) % 64 ≡ k = omega (arith, low) in
    record {
      within = omega (arith, small, low);
      here = ap (λ (x : ℕ × ℕ). bit_at (slice_index_or words x.0 0) x.1) (λ i. (row i, column i)) ∙ (ap (λ (w : ℕ). bit_at w k) (sym was) ∙ t.1);
      none = λ other less. dite (dec_lt other (64 * level))
          (λ l. none other l)
          (λ g.
          let its : other / 64 ≡ level = omega (arith, low, less, g) in
          let bit : other % 64 < k = omega (arith, low, less, g) in
          ap (λ (r : ℕ). bit_at (slice_index_or words r 0) (other % 64)) its ∙ (ap (λ (w : ℕ). bit_at w (other % 64)) (sym was) ∙ t.2 (other % 64) bit));
    }
