-- What is proved of the sequence lock, over every order of its steps.
use Rattle.std.specs.Prelude.{◌≡◌, ℕ, ◌-◌, ◌*◌, ◌/◌, ◌≤◌, true, List, [], ◌∷◌, ◌++◌, length, slice_get, Some, IsTrue}
use Rattle.std.specs.List.{All}
use Rattle.std.specs.List.Sorted.{IsNonDecreasing}
use Rattle.std.specs.Option.{option_map_or}
use Rattle.hh_core.specs.declared.step.Step.{Step}
use Rattle.hh_core.specs.declared.step.WriterPhase.TheVariants.{Idle}
use Rattle.hh_core.specs.declared.reader.ReaderPhase.TheVariants.{Rest, HasB}
use Rattle.hh_core.specs.State.{State, ReaderState, at_first, with_fresh_reader, last_number, phase_of}
use Rattle.hh_core.specs.Step.{is_good, allowed, after, run}
use Rattle.hh_core.specs.Safe.{IsSafe, both_numbers}

-- the first state is safe
abbrev pub SafeAtFirst : Type 0
SafeAtFirst = (pair : ℕ × ℕ) (readers : ℕ) → IsSafe (at_first pair readers)

-- one more reader, which has seen nothing, leaves a state safe
abbrev pub SafeWithFreshReader : Type 0
SafeWithFreshReader = (s : State) → IsSafe s → IsSafe (with_fresh_reader s)

-- each allowed step keeps a state safe
abbrev pub SafeStep : Type 0
SafeStep = (x : Step) (s : State) → IsTrue (allowed x s) → IsSafe s → IsSafe (after x s)

-- every list of steps keeps a state safe
abbrev pub SafeRun : Type 0
SafeRun = (steps : List Step) (s : State) → IsSafe s → IsSafe (run steps s)

-- a reader has this number and this pair in hand, and the second load of the number will make its try good
pub record EndsWell (s : State) (r : ℕ) (n : ℕ) (pair : ℕ × ℕ) : Type 0 where
  pub loaded : phase_of s.readers r ≡ Some (HasB n pair.0 pair.1)
  pub good : is_good (n, s.number) ≡ true

-- The words of a good try are one whole published pair, the one of its number. It is the last published at the try's second load.
abbrev pub GoodTry : Type 0
GoodTry = (s : State) (r n : ℕ) (pair : ℕ × ℕ) → IsSafe s → EndsWell s r n pair
    → (n / 2 ≡ last_number s) × (slice_get s.published (n / 2) ≡ Some pair)

-- what was published keeps its number
abbrev pub PublishedStays : Type 0
PublishedStays = (steps : List Step) (s : State) (k : ℕ) (pair : ℕ × ℕ) → slice_get s.published k ≡ Some pair → slice_get (run steps s).published k ≡ Some pair

-- a reader's floor, or 0 where there is no such reader
abbrev pub floor_of : List ReaderState → ℕ → ℕ
floor_of readers r = option_map_or (λ reader. reader.floor) (slice_get readers r) 0

-- no reader's floor falls
abbrev pub FloorsRise : Type 0
FloorsRise = (steps : List Step) (s : State) (r : ℕ) → IsSafe s → floor_of s.readers r ≤ floor_of (run steps s).readers r

-- a reader agrees with what was published: each pair that it knows is the published pair of that number, and neither its floor nor its tries' numbers go past the last
pub record AgreesWithPublished (published : List (ℕ × ℕ)) (reader : ReaderState) : Type 0 where
  pub known : All (λ known. slice_get published known.0 ≡ Some known.1) reader.known
  pub floor : reader.floor ≤ length published - 1
  pub tries : All (λ n. n ≤ 2 * (length published - 1)) (both_numbers reader.tries)

-- where the writer rests, each reader that rests agrees with what was published
abbrev pub RestingReadersAgree : Type 0
RestingReadersAgree = (s : State) (r : ℕ) (reader : ReaderState) → IsSafe s → s.writer ≡ Idle → slice_get s.readers r ≡ Some reader → reader.phase ≡ Rest → AgreesWithPublished s.published reader

-- a try that ends with this second number: its first is at least twice the floor and at most the second, and behind those of the tries before it both rise
pub record IsNextTry (floor : ℕ) (tries : List (ℕ × ℕ)) (first second : ℕ) : Type 0 where
  pub above : 2 * floor ≤ first
  pub order : first ≤ second
  pub rises : IsNonDecreasing (both_numbers (tries ++ (first, second) ∷ []))

-- each try that ends is such a one
abbrev pub TriesGoOn : Type 0
TriesGoOn = (s : State) (r : ℕ) (reader : ReaderState) (n a b : ℕ) → IsSafe s → slice_get s.readers r ≡ Some reader → reader.phase ≡ HasB n a b → IsNextTry reader.floor reader.tries n s.number
