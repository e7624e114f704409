-- Two numbers and the record that they are.
use Rattle.std.proofs.Common.{◌≡◌, ℕ, ◌/◌, ◌%◌, ◌<◌, ◌^◌, Bool, true, false, List, [], ◌∷◌, ◌++◌, length, take, drop, Some, None, refl, sym, ap, ◌∙◌, arith}
use Rattle.std.specs.Int.{w64, to_be_bytes, from_be_bytes}
use Rattle.std.proofs.lemmas.List.{take_at, drop_at, length-append}
use Rattle.std.proofs.lemmas.Nat.{from_be_bytes-to_be_bytes_8}
use Rattle.nb_base.specs.declared.record.Record.{Record}
use Rattle.nb_base.specs.Words.{AreWords, usable_byte}
use Rattle.nb_base.specs.Usable.{usable_in}

word-one : (a b : ℕ) → a < 2 ^ 64 → b < 2 ^ 64 → to_be_bytes w64 a ≡ to_be_bytes w64 b → a ≡ b
word-one a b a_fits b_fits e = sym (from_be_bytes-to_be_bytes_8 a a_fits) ∙ ap (from_be_bytes w64) e ∙ from_be_bytes-to_be_bytes_8 b b_fits

pub AreWords-one : (a b a' b' : ℕ) (r : Record) → a < 2 ^ 64 → b < 2 ^ 64 → a' < 2 ^ 64 → b' < 2 ^ 64 → AreWords a b r → AreWords a' b' r → (a ≡ a') × (b ≡ b')
AreWords-one a b a' b' r a_fits b_fits a'_fits b'_fits h h' =
    let same : to_be_bytes w64 a ++ to_be_bytes w64 b ≡ to_be_bytes w64 a' ++ to_be_bytes w64 b' = h.spelled ∙ sym h'.spelled in
    (word-one a a' a_fits a'_fits (ap (take 8) same), word-one b b' b_fits b'_fits (ap (drop 8) same))

-- the header of a record and what stands behind it, as two numbers have them
pub AreWords-header : (a b : ℕ) (r : Record) → AreWords a b r → r.header ≡ to_be_bytes w64 a ++ take 6 (to_be_bytes w64 b)
AreWords-header a b r h =
    let size : length r.header ≡ 14 = omega (arith, ap length h.spelled, length-append r.header (usable_byte r.usable ∷ 0 ∷ [])) in
    sym (ap (take 14) h.spelled ∙ take_at r.header (usable_byte r.usable ∷ 0 ∷ []) 14 size)

pub AreWords-last : (a b : ℕ) (r : Record) → AreWords a b r → drop 6 (to_be_bytes w64 b) ≡ usable_byte r.usable ∷ 0 ∷ []
AreWords-last a b r h =
    let size : length r.header ≡ 14 = omega (arith, ap length h.spelled, length-append r.header (usable_byte r.usable ∷ 0 ∷ [])) in
    ap (drop 14) h.spelled ∙ drop_at r.header (usable_byte r.usable ∷ 0 ∷ []) 14 size

-- the last two bytes of a number
last_two : (b x y : ℕ) → drop 6 (to_be_bytes w64 b) ≡ x ∷ y ∷ [] → (b / 256 % 256 ≡ x) × (b % 256 ≡ y)
last_two b x y e = (cc, cc)

usable-last : (b : ℕ) (usable : Bool) → b / 256 % 256 ≡ usable_byte usable → b % 256 ≡ 0 → usable_in b ≡ Some usable
usable-last b true high low =
    let whole : b % 0x10000 ≡ 0x100 = omega arith in rw whole refl
usable-last b false high low =
    let whole : b % 0x10000 ≡ 0 = omega arith in rw whole refl

-- a record that two numbers are is the one read of them
pub AreWords-usable : (a b : ℕ) (r : Record) → AreWords a b r → usable_in b ≡ Some r.usable
AreWords-usable a b r h = let last = last_two b (usable_byte r.usable) 0 (AreWords-last a b r h) in usable-last b r.usable last.0 last.1

-- and no record is where nothing is read
pub AreWords-none : (a b : ℕ) (r : Record) → None ≡ usable_in b → AreWords a b r → ⊥
AreWords-none a b r e h = let bad = e ∙ AreWords-usable a b r h in cc

pub record_is : (usable : Bool) (header : List ℕ) (r : Record) → usable ≡ r.usable → header ≡ r.header → (let made : Record = record { usable = usable; header = header } in made ≡ r)
record_is usable header r same_usable same_header = λ i. record { usable = same_usable i; header = same_header i }
