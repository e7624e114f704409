-- What holds of the sequence lock in every state that its steps reach.
use Rattle.std.specs.Prelude.{◌≡◌, ℕ, ◌+◌, ◌-◌, ◌*◌, ◌/◌, ◌%◌, ◌≤◌, if◌then◌else◌, List, [], ◌∷◌, ◌++◌, length, map, slice_get, Option, Some, None, IfSome, IsSomeAnd}
use Rattle.std.specs.List.{All}
use Rattle.std.specs.List.Sorted.{IsNonDecreasing}
use Rattle.hh_core.specs.declared.step.WriterPhase.{WriterPhase}
use Rattle.hh_core.specs.declared.step.WriterPhase.TheVariants.{Idle, Begun, WroteA, WroteB}
use Rattle.hh_core.specs.declared.reader.ReaderPhase.{ReaderPhase}
use Rattle.hh_core.specs.declared.reader.ReaderPhase.TheVariants.{Rest, HasFirst, HasA, HasB}
use Rattle.hh_core.specs.State.{State, ReaderState, last_number}
use Rattle.hh_core.specs.Step.{is_idle}

-- the numbers never fall, and are at most this
pub record RisesTo (most : ℕ) (numbers : List ℕ) : Type 0 where
  pub rises : IsNonDecreasing numbers
  pub within : All (λ n. n ≤ most) numbers

-- the two words, by the writer's phase, where this is the last published pair
abbrev pub words_in : WriterPhase → ℕ × ℕ → ℕ × ℕ
words_in Idle last = last
words_in (Begun x y) last = last
words_in (WroteA x y) last = (x, last.1)
words_in (WroteB x y) last = (x, y)

-- The number is twice that of the last published pair where the writer rests, and one more otherwise.
-- The words are the last pair's, but for those that the writer has stored of a new one.
pub record IsWritten (s : State) : Type 0 where
  pub number : s.number ≡ 2 * last_number s + (if is_idle s.writer then 0 else 1)
  pub words : IsSomeAnd (slice_get s.published (last_number s)) (λ last. (s.a, s.b) ≡ words_in s.writer last)

-- the number that a reader has loaded in the try that it is in
abbrev pub first_number : ReaderPhase → Option ℕ
first_number Rest = None
first_number (HasFirst n) = Some n
first_number (HasA n x) = Some n
first_number (HasB n x y) = Some n

-- the words that were loaded so far are the pair's
abbrev pub HoldsWords : ReaderPhase → ℕ × ℕ → Type 0
HoldsWords Rest pair = Unit {0}
HoldsWords (HasFirst n) pair = Unit {0}
HoldsWords (HasA n x) pair = x ≡ pair.0
HoldsWords (HasB n x y) pair = (x ≡ pair.0) × (y ≡ pair.1)

-- the first number of a try is at least twice the floor, and at most the number
abbrev pub IsFirstWithin : ℕ → ℕ → ReaderPhase → Type 0
IsFirstWithin number floor phase = IfSome (first_number phase) (λ n. (2 * floor ≤ n) × (n ≤ number))

-- where the first number of a try is even and still the number, the words loaded so far are those of the pair whose number is half of it
abbrev pub HoldsPair : ℕ → List (ℕ × ℕ) → ReaderPhase → Type 0
HoldsPair number published phase =
    IfSome (first_number phase) (λ n. n % 2 ≡ 0 → number ≡ n → IsSomeAnd (slice_get published (n / 2)) (HoldsWords phase))

-- a reader in a try
pub record IsReading (number : ℕ) (published : List (ℕ × ℕ)) (reader : ReaderState) : Type 0 where
  pub floor : reader.floor ≤ length published - 1
  pub first : IsFirstWithin number reader.floor reader.phase
  pub words : HoldsPair number published reader.phase

-- Each pair that a reader knows is the published pair of that number. The numbers never fall, and are at most the floor.
pub record KnowsPublished (published : List (ℕ × ℕ)) (reader : ReaderState) : Type 0 where
  pub pairs : All (λ known. slice_get published known.0 ≡ Some known.1) reader.known
  pub numbers : RisesTo reader.floor (map (λ known. known.0) reader.known)

-- both numbers of each try, in order
abbrev pub both_numbers : List (ℕ × ℕ) → List ℕ
both_numbers [] = []
both_numbers (t ∷ ts) = t.0 ∷ t.1 ∷ both_numbers ts

-- the number in hand, if there is one
abbrev pub in_hand : ReaderPhase → List ℕ
in_hand Rest = []
in_hand (HasFirst n) = n ∷ []
in_hand (HasA n x) = n ∷ []
in_hand (HasB n x y) = n ∷ []

-- the numbers of a reader's tries, in order, with the first number in hand behind them, never fall, and are at most the number
abbrev pub TriesRise : ℕ → ReaderState → Type 0
TriesRise number reader = RisesTo number (both_numbers reader.tries ++ in_hand reader.phase)

-- what holds of one reader, by the number and what was published: of its try, of what it knows, and of its tries' numbers
pub record IsSafeReader (number : ℕ) (published : List (ℕ × ℕ)) (reader : ReaderState) : Type 0 where
  pub reading : IsReading number published reader
  pub known : KnowsPublished published reader
  pub tries : TriesRise number reader

-- what the steps keep: of the number and the words, and of each reader
pub record IsSafe (s : State) : Type 0 where
  pub written : IsWritten s
  pub readers : All (IsSafeReader s.number s.published) s.readers
