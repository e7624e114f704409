-- The sequence lock as data: the number and two words of a cached header, what was published, the writer and the readers (Linux, seqlock_t round hh_cache; that a step is one load or one store is this project's own).
use Rattle.std.specs.Prelude.{ℕ, zero, suc, ◌-◌, List, [], ◌∷◌, ◌++◌, length, replicate, slice_get, Option}
use Rattle.std.specs.Option.{option_map}
use Rattle.hh_core.specs.declared.step.WriterPhase.{WriterPhase}
use Rattle.hh_core.specs.declared.step.WriterPhase.TheVariants.{Idle}
use Rattle.hh_core.specs.declared.reader.ReaderPhase.{ReaderPhase}
use Rattle.hh_core.specs.declared.reader.ReaderPhase.TheVariants.{Rest}

-- a reader: its phase, the pairs that it knows with their numbers, the number that it is past, and its tries
pub record ReaderState : Type 0 where
  pub phase : ReaderPhase
  pub known : List (ℕ × (ℕ × ℕ))
  pub floor : ℕ
  pub tries : List (ℕ × ℕ)

-- the whole lock; pairs are numbered from 0 in the order of their publication
pub record State : Type 0 where
  pub number : ℕ
  pub a : ℕ
  pub b : ℕ
  pub published : List (ℕ × ℕ)
  pub writer : WriterPhase
  pub readers : List ReaderState

-- the number of the last published pair
abbrev pub last_number : State → ℕ
last_number s = length s.published - 1

-- a reader that has seen nothing
abbrev pub fresh_reader : ReaderState
fresh_reader = record { phase = Rest; known = []; floor = 0; tries = [] }

-- at first one pair is published, its words are stored, and all rest
abbrev pub at_first : ℕ × ℕ → ℕ → State
at_first pair readers = record { number = 0; a = pair.0; b = pair.1; published = pair ∷ []; writer = Idle; readers = replicate readers fresh_reader }

-- one more reader, which has seen nothing
abbrev pub with_fresh_reader : State → State
with_fresh_reader s = record s { readers = s.readers ++ fresh_reader ∷ [] }

-- the phase of a reader, if there is that reader
abbrev pub phase_of : List ReaderState → ℕ → Option ReaderPhase
phase_of readers r = option_map (λ reader. reader.phase) (slice_get readers r)

-- one reader changes, the others stay
abbrev pub change_at : (ReaderState → ReaderState) → List ReaderState → ℕ → List ReaderState
change_at change [] r = []
change_at change (x ∷ xs) zero = change x ∷ xs
change_at change (x ∷ xs) (suc r) = x ∷ change_at change xs r
