-- What holds over every order of the steps.
use Rattle.std.proofs.Common.{◌≡◌, ℕ, zero, suc, ◌+◌, ◌/◌, ◌≤◌, Bool, true, false, ◌&&◌, if◌then◌else◌, List, [], ◌∷◌, length, Option, Some, None, refl, arith, length-append, IsTrue}
use Rattle.std.specs.List.{slice_get}
use Rattle.std.proofs.lemmas.Bool.{false≢true}
use Rattle.std.proofs.lemmas.List.Elements.{All-nil, All-replicate}
use Rattle.std.proofs.lemmas.List.Sorted.{IsNonDecreasingBy-short}
use Rattle.hh_core.specs.declared.step.Step.{Step}
use Rattle.hh_core.specs.declared.step.Step.TheVariants as step
use Rattle.hh_core.specs.declared.step.WriterPhase.{WriterPhase}
use Rattle.hh_core.specs.declared.step.WriterPhase.TheVariants.{Idle, Begun, WroteA, WroteB}
use Rattle.hh_core.specs.declared.reader.ReaderPhase.{ReaderPhase}
use Rattle.hh_core.specs.declared.reader.ReaderPhase.TheVariants.{Rest, HasFirst, HasA, HasB}
use Rattle.hh_core.specs.State.{State, ReaderState, fresh_reader, last_number, phase_of, change_at}
use Rattle.hh_core.specs.Step.{is_good, is_idle, has_begun, wrote_a, wrote_b, rests, has_first, has_a, has_b, allowed, stores_a, stores_b, ends, to_floor, tries_once, learns, ends_try, after, run}
use Rattle.hh_core.specs.Safe.{RisesTo, IsFirstWithin, IsSafeReader, IsSafe}
use Rattle.hh_core.specs.Laws.{SafeAtFirst, SafeStep, SafeRun, GoodTry, PublishedStays, FloorsRise, floor_of}
use Rattle.hh_core.proofs.Lists.{All-found, slice_get-grown}
use Rattle.hh_core.proofs.OneReader.{phase_found, good_is, pair_read}
use Rattle.hh_core.proofs.Steps.{safe_begin, safe_store_a, safe_store_b, safe_end, safe_first, safe_load_a, safe_load_b, safe_second, safe_meet}

-- the first state
none_rise : (n : ℕ) → RisesTo n []
none_rise n = record { rises = IsNonDecreasingBy-short (λ k. k) [] (omega arith); within = All-nil (λ k. k ≤ n) }

-- a reader that has seen nothing
pub safe_fresh : (number : ℕ) (published : List (ℕ × ℕ)) → IsSafeReader number published fresh_reader
safe_fresh number published = record {
  reading = record { floor = omega arith; first = tt; words = tt };
  known = record { pairs = All-nil (λ known. slice_get published known.0 ≡ Some known.1); numbers = none_rise 0 };
  tries = none_rise number;
}

pub safe_at_first : SafeAtFirst
safe_at_first pair readers = record {
  written = record { number = refl; words = refl };
  readers = All-replicate (IsSafeReader 0 (pair ∷ [])) readers fresh_reader (safe_fresh 0 (pair ∷ []));
}

-- where the writer's steps are allowed
idle_is : (w : WriterPhase) → IsTrue (is_idle w) → w ≡ Idle
idle_is Idle ok = refl
idle_is (Begun x y) ok = absurd (false≢true ok)
idle_is (WroteA x y) ok = absurd (false≢true ok)
idle_is (WroteB x y) ok = absurd (false≢true ok)

by_store_a : (w : WriterPhase) (s : State) → s.writer ≡ w → IsTrue (has_begun w) → IsSafe s → IsSafe (stores_a w s)
by_store_a Idle s is ok h = absurd (false≢true ok)
by_store_a (Begun x y) s is ok h = safe_store_a s x y is h
by_store_a (WroteA x y) s is ok h = absurd (false≢true ok)
by_store_a (WroteB x y) s is ok h = absurd (false≢true ok)

by_store_b : (w : WriterPhase) (s : State) → s.writer ≡ w → IsTrue (wrote_a w) → IsSafe s → IsSafe (stores_b w s)
by_store_b Idle s is ok h = absurd (false≢true ok)
by_store_b (Begun x y) s is ok h = absurd (false≢true ok)
by_store_b (WroteA x y) s is ok h = safe_store_b s x y is h
by_store_b (WroteB x y) s is ok h = absurd (false≢true ok)

by_end : (w : WriterPhase) (s : State) → s.writer ≡ w → IsTrue (wrote_b w) → IsSafe s → IsSafe (ends w s)
by_end Idle s is ok h = absurd (false≢true ok)
by_end (Begun x y) s is ok h = absurd (false≢true ok)
by_end (WroteA x y) s is ok h = absurd (false≢true ok)
by_end (WroteB x y) s is ok h = safe_end s x y is h

-- where a reader's steps are allowed
rests_is : (o : Option ReaderPhase) → IsTrue (rests o) → o ≡ Some Rest
rests_is None ok = absurd (false≢true ok)
rests_is (Some Rest) ok = refl
rests_is (Some (HasFirst n)) ok = absurd (false≢true ok)
rests_is (Some (HasA n x)) ok = absurd (false≢true ok)
rests_is (Some (HasB n x y)) ok = absurd (false≢true ok)

first_is : (o : Option ReaderPhase) → IsTrue (has_first o) → (n : ℕ) × (o ≡ Some (HasFirst n))
first_is None ok = absurd (false≢true ok)
first_is (Some Rest) ok = absurd (false≢true ok)
first_is (Some (HasFirst n)) ok = (n, refl)
first_is (Some (HasA n x)) ok = absurd (false≢true ok)
first_is (Some (HasB n x y)) ok = absurd (false≢true ok)

a_is : (o : Option ReaderPhase) → IsTrue (has_a o) → (n : ℕ) × (x : ℕ) × (o ≡ Some (HasA n x))
a_is None ok = absurd (false≢true ok)
a_is (Some Rest) ok = absurd (false≢true ok)
a_is (Some (HasFirst n)) ok = absurd (false≢true ok)
a_is (Some (HasA n x)) ok = (n, x, refl)
a_is (Some (HasB n x y)) ok = absurd (false≢true ok)

b_is : (o : Option ReaderPhase) → IsTrue (has_b o) → (n : ℕ) × (x : ℕ) × (y : ℕ) × (o ≡ Some (HasB n x y))
b_is None ok = absurd (false≢true ok)
b_is (Some Rest) ok = absurd (false≢true ok)
b_is (Some (HasFirst n)) ok = absurd (false≢true ok)
b_is (Some (HasA n x)) ok = absurd (false≢true ok)
b_is (Some (HasB n x y)) ok = (n, x, y, refl)

first_of_both : (a b : Bool) → IsTrue (a && b) → IsTrue a
first_of_both true b ok = refl
first_of_both false b ok = absurd (false≢true ok)

-- each allowed step
pub safe_step : SafeStep
safe_step (step.Begin x y) s ok h = safe_begin s x y (idle_is s.writer ok) h
safe_step step.StoreA s ok h = by_store_a s.writer s refl ok h
safe_step step.StoreB s ok h = by_store_b s.writer s refl ok h
safe_step step.End s ok h = by_end s.writer s refl ok h
safe_step (step.First r) s ok h = safe_first s r (rests_is (phase_of s.readers r) ok) h
safe_step (step.LoadA r) s ok h = let is = first_is (phase_of s.readers r) ok in safe_load_a s r is.0 is.1 h
safe_step (step.LoadB r) s ok h = let is = a_is (phase_of s.readers r) ok in safe_load_b s r is.0 is.1 is.2 h
safe_step (step.Second r) s ok h = let is = b_is (phase_of s.readers r) ok in safe_second s r is.0 is.1 is.2 is.3 h
safe_step (step.Meet r) s ok h = safe_meet s r (rests_is (phase_of s.readers r) (first_of_both (rests (phase_of s.readers r)) (is_idle s.writer) ok)) h

-- what holds of both outcomes of a test
by_test : (P : State → Type 0) (b : Bool) (next last : State) → (IsTrue b → P next) → P last → P (if b then next else last)
by_test P true next last f h = f refl
by_test P false next last f h = h

-- every list of steps
pub safe_run : SafeRun
safe_run [] s h = h
safe_run (x ∷ xs) s h = by_test IsSafe (allowed x s) (run xs (after x s)) s (λ ok. safe_run xs (after x s) (safe_step x s ok h)) h

-- what was published stays
published_step : (x : Step) (s : State) (k : ℕ) (pair : ℕ × ℕ) → slice_get s.published k ≡ Some pair → slice_get (after x s).published k ≡ Some pair
published_step (step.Begin x y) s k pair e = e
published_step step.StoreA s k pair e = by_writer s.writer
  where
    by_writer : (w : WriterPhase) → slice_get (stores_a w s).published k ≡ Some pair
    by_writer Idle = e
    by_writer (Begun x y) = e
    by_writer (WroteA x y) = e
    by_writer (WroteB x y) = e
published_step step.StoreB s k pair e = by_writer s.writer
  where
    by_writer : (w : WriterPhase) → slice_get (stores_b w s).published k ≡ Some pair
    by_writer Idle = e
    by_writer (Begun x y) = e
    by_writer (WroteA x y) = e
    by_writer (WroteB x y) = e
published_step step.End s k pair e = by_writer s.writer
  where
    by_writer : (w : WriterPhase) → slice_get (ends w s).published k ≡ Some pair
    by_writer Idle = e
    by_writer (Begun x y) = e
    by_writer (WroteA x y) = e
    by_writer (WroteB x y) = slice_get-grown s.published ((x, y) ∷ []) k pair e
published_step (step.First r) s k pair e = e
published_step (step.LoadA r) s k pair e = e
published_step (step.LoadB r) s k pair e = e
published_step (step.Second r) s k pair e = e
published_step (step.Meet r) s k pair e = e

pub published_stays : PublishedStays
published_stays [] s k pair e = e
published_stays (x ∷ xs) s k pair e = by_test (λ t. slice_get t.published k ≡ Some pair) (allowed x s) (run xs (after x s)) s (λ ok. published_stays xs (after x s) k pair (published_step x s k pair e)) e

-- a good try
pub good_try : GoodTry
good_try s r n pair h e = good_read (slice_get s.readers r) refl
  where
    good_read : (o : Option ReaderState) → slice_get s.readers r ≡ o → (n / 2 ≡ last_number s) × (slice_get s.published (n / 2) ≡ Some pair)
    good_read None found = absurd (nothing_loaded found)
      where
        nothing_loaded : slice_get s.readers r ≡ None → ⊥
        nothing_loaded found = let no = rw found at e.loaded in cc
    good_read (Some x) found =
        let seen = good_is n s.number e.good in
        pair_read s x n pair.0 pair.1 (phase_found s.readers r x (HasB n pair.0 pair.1) found e.loaded) seen.0 seen.1 h.written (All-found (IsSafeReader s.number s.published) s.readers r x found h.readers).reading

-- floors
floors_change : (f : ReaderState → ReaderState) (xs : List ReaderState) (q r : ℕ) → ((x : ReaderState) → slice_get xs q ≡ Some x → x.floor ≤ (f x).floor) → floor_of xs r ≤ floor_of (change_at f xs q) r
floors_change f [] q r g = omega arith
floors_change f (x ∷ xs) zero zero g = g x refl
floors_change f (x ∷ xs) zero (suc r) g = omega arith
floors_change f (x ∷ xs) (suc q) zero g = omega arith
floors_change f (x ∷ xs) (suc q) (suc r) g = floors_change f xs q r g

by_learning : (good : Bool) (learnt tried x : ReaderState) → x.floor ≤ learnt.floor → x.floor ≤ tried.floor → x.floor ≤ (if good then learnt else tried).floor
by_learning true learnt tried x a b = a
by_learning false learnt tried x a b = b

floor_second : (p : ReaderPhase) (x : ReaderState) (number : ℕ) → IsFirstWithin number x.floor p → x.floor ≤ (ends_try number p x).floor
floor_second Rest x number h = omega arith
floor_second (HasFirst n) x number h = omega arith
floor_second (HasA n a) x number h = omega arith
floor_second (HasB n a b) x number h = by_learning (is_good (n, number)) (learns (n / 2, (a, b)) (tries_once (n, number) x)) (tries_once (n, number) x) x (omega (arith, h.0)) (omega arith)

floors_step : (x : Step) (s : State) (r : ℕ) → IsSafe s → floor_of s.readers r ≤ floor_of (after x s).readers r
floors_step (step.Begin x y) s r h = omega arith
floors_step step.StoreA s r h = by_writer s.writer
  where
    by_writer : (w : WriterPhase) → floor_of s.readers r ≤ floor_of (stores_a w s).readers r
    by_writer Idle = omega arith
    by_writer (Begun x y) = omega arith
    by_writer (WroteA x y) = omega arith
    by_writer (WroteB x y) = omega arith
floors_step step.StoreB s r h = by_writer s.writer
  where
    by_writer : (w : WriterPhase) → floor_of s.readers r ≤ floor_of (stores_b w s).readers r
    by_writer Idle = omega arith
    by_writer (Begun x y) = omega arith
    by_writer (WroteA x y) = omega arith
    by_writer (WroteB x y) = omega arith
floors_step step.End s r h = by_writer s.writer
  where
    by_writer : (w : WriterPhase) → floor_of s.readers r ≤ floor_of (ends w s).readers r
    by_writer Idle = omega arith
    by_writer (Begun x y) = omega arith
    by_writer (WroteA x y) = omega arith
    by_writer (WroteB x y) = omega arith
floors_step (step.First q) s r h = floors_change _ s.readers q r (λ x e. omega arith)
floors_step (step.LoadA q) s r h = floors_change _ s.readers q r (λ x e. omega arith)
floors_step (step.LoadB q) s r h = floors_change _ s.readers q r (λ x e. omega arith)
floors_step (step.Second q) s r h = floors_change (λ x. ends_try s.number x.phase x) s.readers q r (λ x e. let found = All-found (IsSafeReader s.number s.published) s.readers q x e h.readers in floor_second x.phase x s.number found.reading.first)
floors_step (step.Meet q) s r h = floors_change (to_floor (last_number s)) s.readers q r (λ x e. let found = All-found (IsSafeReader s.number s.published) s.readers q x e h.readers in found.reading.floor)

≤_through : (a b c : ℕ) → a ≤ b → b ≤ c → a ≤ c
≤_through a b c p q = omega arith

pub floors_rise : FloorsRise
floors_rise [] s r h = omega arith
floors_rise (x ∷ xs) s r h = by_test (λ t. floor_of s.readers r ≤ floor_of t.readers r) (allowed x s) (run xs (after x s)) s (λ ok. ≤_through (floor_of s.readers r) (floor_of (after x s).readers r) (floor_of (run xs (after x s)).readers r) (floors_step x s r h) (floors_rise xs (after x s) r (safe_step x s ok h))) (omega arith)

-- a step publishes one pair at most
pub published_grows : (x : Step) (s : State) → length (after x s).published ≤ length s.published + 1
published_grows (step.Begin x y) s = omega arith
published_grows step.StoreA s = by_writer s.writer
  where
    by_writer : (w : WriterPhase) → length (stores_a w s).published ≤ length s.published + 1
    by_writer Idle = omega arith
    by_writer (Begun x y) = omega arith
    by_writer (WroteA x y) = omega arith
    by_writer (WroteB x y) = omega arith
published_grows step.StoreB s = by_writer s.writer
  where
    by_writer : (w : WriterPhase) → length (stores_b w s).published ≤ length s.published + 1
    by_writer Idle = omega arith
    by_writer (Begun x y) = omega arith
    by_writer (WroteA x y) = omega arith
    by_writer (WroteB x y) = omega arith
published_grows step.End s = by_writer s.writer
  where
    by_writer : (w : WriterPhase) → length (ends w s).published ≤ length s.published + 1
    by_writer Idle = omega arith
    by_writer (Begun x y) = omega arith
    by_writer (WroteA x y) = omega arith
    by_writer (WroteB x y) = omega (arith, length-append s.published ((x, y) ∷ []))
published_grows (step.First r) s = omega arith
published_grows (step.LoadA r) s = omega arith
published_grows (step.LoadB r) s = omega arith
published_grows (step.Second r) s = omega arith
published_grows (step.Meet r) s = omega arith
