-- Where a due is kept, for the proofs alone: which contracts of the public calls cite none of this (this project's own).
use Rattle.std.specs.Prelude.{ℕ, zero, suc, ◌+◌, ◌*◌, ◌/◌, ◌%◌, eqb, cond}

-- the number of the slot of a due, where numbers have at most so many digits of base 64 above the lowest: 64 for each level below the highest digit in which the due differs from now, plus the due's digit there; where they don't differ it is the lowest digit
unfoldable pub slot_by : ℕ → ℕ → ℕ → ℕ
slot_by zero now due = due % 64
slot_by (suc digits) now due = cond (eqb (now / 64) (due / 64)) (due % 64) (64 + slot_by digits (now / 64) (due / 64))

-- a number of 64 bits has eleven digits
abbrev pub slot_of : ℕ → ℕ → ℕ
slot_of now due = slot_by 10 now due

-- the numbers with at most so many digits above the lowest are those below this one
abbrev pub limit_of : ℕ → ℕ
limit_of zero = 64
limit_of (suc digits) = 64 * limit_of digits
