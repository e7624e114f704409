-- Which of 704 slots are marked, in eleven words of 64 bits, for the proofs alone (this project's own).
use Rattle.std.specs.Prelude.{◌≡◌, ◌≢◌, ℕ, ◌/◌, ◌%◌, ◌<◌, List, slice_index_or}
use Rattle.std.specs.Int.{bit_at}

-- 1 where the slot is marked, and 0 where it isn't
abbrev pub mark_of : List ℕ → ℕ → ℕ
mark_of words slot = bit_at (slice_index_or words (slot / 64) 0) (slot % 64)

-- one slot has this mark, and the others stay
pub record Marks (old new : List ℕ) (slot mark : ℕ) : Type 0 where
  pub here : mark_of new slot ≡ mark
  pub others : (other : ℕ) → other < 704 → other ≢ slot → mark_of new other ≡ mark_of old other

-- the first slot that is marked
pub record IsFirst (words : List ℕ) (slot : ℕ) : Type 0 where
  pub within : slot < 704
  pub here : mark_of words slot ≡ 1
  pub none : (other : ℕ) → other < slot → mark_of words other ≡ 0
