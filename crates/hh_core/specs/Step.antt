-- The nine steps: where each is allowed, and what it does (Linux, write_seqlock and read_seqbegin with read_seqretry; Meet is this project's own).
use Rattle.std.specs.Prelude.{ℕ, ◌+◌, ◌/◌, ◌%◌, ◌==◌, Bool, true, false, ◌&&◌, if◌then◌else◌, List, [], ◌∷◌, ◌++◌, Option, Some, None}
use Rattle.std.specs.Option.{option_map}
use Rattle.hh_core.specs.declared.step.Step.{Step}
use Rattle.hh_core.specs.declared.step.Step.TheVariants as step
use Rattle.hh_core.specs.declared.step.WriterPhase.{WriterPhase}
use Rattle.hh_core.specs.declared.step.WriterPhase.TheVariants.{Idle, Begun, WroteA, WroteB}
use Rattle.hh_core.specs.declared.reader.ReaderPhase.{ReaderPhase}
use Rattle.hh_core.specs.declared.reader.ReaderPhase.TheVariants.{Rest, HasFirst, HasA, HasB}
use Rattle.hh_core.specs.State.{State, ReaderState, last_number, phase_of, change_at}

-- a try is good where the number was even and the same at both loads
abbrev pub is_good : ℕ × ℕ → Bool
is_good loaded = (loaded.0 % 2 == 0) && (loaded.1 == loaded.0)

abbrev pub is_idle : WriterPhase → Bool
is_idle Idle = true
is_idle _ = false

abbrev pub has_begun : WriterPhase → Bool
has_begun (Begun x y) = true
has_begun _ = false

abbrev pub wrote_a : WriterPhase → Bool
wrote_a (WroteA x y) = true
wrote_a _ = false

abbrev pub wrote_b : WriterPhase → Bool
wrote_b (WroteB x y) = true
wrote_b _ = false

-- there is the reader, and it rests
abbrev pub rests : Option ReaderPhase → Bool
rests (Some Rest) = true
rests _ = false

abbrev pub has_first : Option ReaderPhase → Bool
has_first (Some (HasFirst n)) = true
has_first _ = false

abbrev pub has_a : Option ReaderPhase → Bool
has_a (Some (HasA n x)) = true
has_a _ = false

abbrev pub has_b : Option ReaderPhase → Bool
has_b (Some (HasB n x y)) = true
has_b _ = false

-- where a step is allowed
abbrev pub allowed : Step → State → Bool
allowed (step.Begin x y) s = is_idle s.writer
allowed step.StoreA s = has_begun s.writer
allowed step.StoreB s = wrote_a s.writer
allowed step.End s = wrote_b s.writer
allowed (step.First r) s = rests (phase_of s.readers r)
allowed (step.LoadA r) s = has_first (phase_of s.readers r)
allowed (step.LoadB r) s = has_a (phase_of s.readers r)
allowed (step.Second r) s = has_b (phase_of s.readers r)
allowed (step.Meet r) s = rests (phase_of s.readers r) && is_idle s.writer

-- the first word is stored
abbrev pub stores_a : WriterPhase → State → State
stores_a (Begun x y) s = record s { a = x; writer = WroteA x y }
stores_a _ s = s

-- the second word is stored
abbrev pub stores_b : WriterPhase → State → State
stores_b (WroteA x y) s = record s { b = y; writer = WroteB x y }
stores_b _ s = s

-- the number is even again, and the pair is published
abbrev pub ends : WriterPhase → State → State
ends (WroteB x y) s = record s { number = s.number + 1; published = s.published ++ (x, y) ∷ []; writer = Idle }
ends _ s = s

-- a reader's phase becomes this
abbrev pub to_phase : ReaderPhase → ReaderState → ReaderState
to_phase phase reader = record reader { phase = phase }

-- a reader's floor becomes this
abbrev pub to_floor : ℕ → ReaderState → ReaderState
to_floor floor reader = record reader { floor = floor }

-- the first word is loaded
abbrev pub loads_a : ℕ → ReaderPhase → ReaderPhase
loads_a a (HasFirst n) = HasA n a
loads_a a phase = phase

-- the second word is loaded
abbrev pub loads_b : ℕ → ReaderPhase → ReaderPhase
loads_b b (HasA n x) = HasB n x b
loads_b b phase = phase

-- the numbers of a try are kept, and the reader rests
abbrev pub tries_once : ℕ × ℕ → ReaderState → ReaderState
tries_once loaded reader = record reader { phase = Rest; tries = reader.tries ++ loaded ∷ [] }

-- a pair becomes known, and its number the floor
abbrev pub learns : ℕ × (ℕ × ℕ) → ReaderState → ReaderState
learns pair reader = record reader { known = reader.known ++ pair ∷ []; floor = pair.0 }

-- a try ends with the second load of the number; a good one is learnt by half of its number
abbrev pub ends_try : ℕ → ReaderPhase → ReaderState → ReaderState
ends_try second (HasB n x y) reader =
    if is_good (n, second) then learns (n / 2, (x, y)) (tries_once (n, second) reader) else tries_once (n, second) reader
ends_try second phase reader = reader

-- one reader changes
abbrev pub with_reader : State → ℕ → (ReaderState → ReaderState) → State
with_reader s r change = record s { readers = change_at change s.readers r }

-- what a step does
abbrev pub after : Step → State → State
after (step.Begin x y) s = record s { number = s.number + 1; writer = Begun x y }
after step.StoreA s = stores_a s.writer s
after step.StoreB s = stores_b s.writer s
after step.End s = ends s.writer s
after (step.First r) s = with_reader s r (to_phase (HasFirst s.number))
after (step.LoadA r) s = with_reader s r (λ reader. to_phase (loads_a s.a reader.phase) reader)
after (step.LoadB r) s = with_reader s r (λ reader. to_phase (loads_b s.b reader.phase) reader)
after (step.Second r) s = with_reader s r (λ reader. ends_try s.number reader.phase reader)
after (step.Meet r) s = with_reader s r (to_floor (last_number s))

-- the steps one after another, as long as each is allowed; what is left stands behind the first that isn't
abbrev pub run : List Step → State → State
run [] s = s
run (x ∷ xs) s = if allowed x s then run xs (after x s) else s

-- the place of the first step that isn't allowed, counted from 0, if there is one
abbrev pub first_refused : List Step → State → Option ℕ
first_refused [] s = None
first_refused (x ∷ xs) s = if allowed x s then option_map (λ k. k + 1) (first_refused xs (after x s)) else Some 0
