-- Counts of faults and of calls, and what an answer says of them. (This project's own.)
use Rattle.std.specs.Prelude.{ℕ, ◌+◌, ◌-◌, ◌^◌, ◌==◌, ◌≤◌, Bool, List, min, Result, OnErr}
use Rattle.std.specs.List.{list_any}

-- a count that rises by one; it stays at its last value, 2^64 - 1
abbrev pub risen : ℕ → ℕ
risen count = min (count + 1) (2 ^ 64 - 1)

-- a count rose, or it stands at its last value
abbrev pub Rose : ℕ → ℕ → Type 0
Rose before now = risen before ≤ now

-- the count doesn't fall, and where the call failed it rose
pub record HasCause {T E : Type 0} (before now : ℕ) (result : Result T E) : Type 0 where
  pub later : before ≤ now
  pub failed : OnErr result (Rose before now)

-- the number of the next call, where so many were made: the first call has number 1
abbrev pub next_call : ℕ → ℕ
next_call made = risen made

-- whether the call of this number is among those that are to fail
abbrev pub fails_at : List ℕ → ℕ → Bool
fails_at fails call = list_any (λ fail. fail == call) fails
