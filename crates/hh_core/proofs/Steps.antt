-- Each of the nine steps keeps a safe state.
use Rattle.std.proofs.Common.{◌≡◌, ℕ, ◌+◌, ◌-◌, ◌*◌, ◌<◌, ◌≤◌, if◌then◌else◌, List, [], ◌∷◌, ◌++◌, length, Option, Some, None, ap, ◌∙◌, subst, arith, length-append, IsSomeAnd}
use Rattle.std.specs.List.{slice_get}
use Rattle.std.proofs.lemmas.List.Elements.{All-weaker}
use Rattle.hh_core.specs.declared.step.WriterPhase.{WriterPhase}
use Rattle.hh_core.specs.declared.step.WriterPhase.TheVariants.{Idle, Begun, WroteA, WroteB}
use Rattle.hh_core.specs.declared.reader.ReaderPhase.{ReaderPhase}
use Rattle.hh_core.specs.declared.reader.ReaderPhase.TheVariants.{Rest, HasFirst, HasA, HasB}
use Rattle.hh_core.specs.State.{State, ReaderState, last_number, phase_of}
use Rattle.hh_core.specs.Step.{is_idle, to_phase, loads_a, loads_b, to_floor, ends_try, with_reader}
use Rattle.hh_core.specs.Safe.{KnowsPublished, words_in, IsSafeReader, IsSafe}
use Rattle.hh_core.proofs.Lists.{All-change_at, slice_get-last}
use Rattle.hh_core.proofs.OneReader.{phase_found, some_and_is, reading_more, known_more, tries_more, reading_first, tries_first, reading_a, tries_a, reading_b, tries_b, reading_meet, known_meet, tries_second, reading_second, known_second}

-- there is a last pair
some_last : (xs : List (ℕ × ℕ)) (P : ℕ × ℕ → Type 0) → IsSomeAnd (slice_get xs (length xs - 1)) P → 0 < length xs
some_last [] P h = absurd h
some_last (x ∷ xs) P h = omega arith

-- a greater number, and one pair more
safe_reader_more : (n m : ℕ) (old new : List (ℕ × ℕ)) → n < m → length old ≤ length new → ((x : ReaderState) → KnowsPublished old x → KnowsPublished new x) → (x : ReaderState) → IsSafeReader n old x → IsSafeReader m new x
safe_reader_more n m old new up grown known x h = record {
  reading = reading_more n m old new up grown x h.reading;
  known = known x h.known;
  tries = tries_more n m (omega arith) x h.tries;
}

changed : {X : Type 0} (o : Option X) (P Q : X → Type 0) → ((x : X) → P x → Q x) → IsSomeAnd o P → IsSomeAnd o Q
changed None P Q f h = h
changed (Some x) P Q f h = f x h

-- the number becomes odd
pub safe_begin : (s : State) (x y : ℕ) → s.writer ≡ Idle → IsSafe s → IsSafe (record s { number = s.number + 1; writer = Begun x y })
safe_begin s x y is h =
    let N : WriterPhase → Type 0 = λ w. s.number ≡ 2 * last_number s + (if is_idle w then 0 else 1) in
    let W : WriterPhase → Type 0 = λ w. IsSomeAnd (slice_get s.published (last_number s)) (λ last. (s.a, s.b) ≡ words_in w last) in
    let even : s.number ≡ 2 * last_number s + 0 = subst N is h.written.number in
    record {
      written = record { number = omega (arith, even); words = subst W is h.written.words };
      readers = All-weaker (IsSafeReader s.number s.published) (IsSafeReader (s.number + 1) s.published) (safe_reader_more s.number (s.number + 1) s.published s.published (omega arith) (omega arith) (λ x known. known)) s.readers h.readers;
    }

-- the first word is stored
pub safe_store_a : (s : State) (x y : ℕ) → s.writer ≡ Begun x y → IsSafe s → IsSafe (record s { a = x; writer = WroteA x y })
safe_store_a s x y is h =
    let N : WriterPhase → Type 0 = λ w. s.number ≡ 2 * last_number s + (if is_idle w then 0 else 1) in
    let W : WriterPhase → Type 0 = λ w. IsSomeAnd (slice_get s.published (last_number s)) (λ last. (s.a, s.b) ≡ words_in w last) in
    record {
      written = record { number = subst N is h.written.number; words = changed (slice_get s.published (last_number s)) (λ last. (s.a, s.b) ≡ last) (λ last. (x, s.b) ≡ (x, last.1)) (λ last e. ap (λ (p : ℕ × ℕ). (x, p.1)) e) (subst W is h.written.words) };
      readers = h.readers;
    }

-- the second word is stored
pub safe_store_b : (s : State) (x y : ℕ) → s.writer ≡ WroteA x y → IsSafe s → IsSafe (record s { b = y; writer = WroteB x y })
safe_store_b s x y is h =
    let N : WriterPhase → Type 0 = λ w. s.number ≡ 2 * last_number s + (if is_idle w then 0 else 1) in
    let W : WriterPhase → Type 0 = λ w. IsSomeAnd (slice_get s.published (last_number s)) (λ last. (s.a, s.b) ≡ words_in w last) in
    record {
      written = record { number = subst N is h.written.number; words = changed (slice_get s.published (last_number s)) (λ last. (s.a, s.b) ≡ (x, last.1)) (λ last. (s.a, y) ≡ (x, y)) (λ last e. ap (λ (p : ℕ × ℕ). (p.0, y)) e) (subst W is h.written.words) };
      readers = h.readers;
    }

-- the number becomes even, and the pair is published
pub safe_end : (s : State) (x y : ℕ) → s.writer ≡ WroteB x y → IsSafe s → IsSafe (record s { number = s.number + 1; published = s.published ++ (x, y) ∷ []; writer = Idle })
safe_end s x y is h =
    let N : WriterPhase → Type 0 = λ w. s.number ≡ 2 * last_number s + (if is_idle w then 0 else 1) in
    let W : WriterPhase → Type 0 = λ w. IsSomeAnd (slice_get s.published (last_number s)) (λ last. (s.a, s.b) ≡ words_in w last) in
    let new : List (ℕ × ℕ) = s.published ++ (x, y) ∷ [] in
    let odd : s.number ≡ 2 * last_number s + 1 = subst N is h.written.number in
    let more : length new ≡ length s.published + 1 = length-append s.published ((x, y) ∷ []) in
    let P : ℕ × ℕ → Type 0 = λ last. ◌≡◌ {A = ℕ × ℕ} (s.a, s.b) (words_in s.writer last) in
    let some : 0 < length s.published = some_last s.published P h.written.words in
    let words : IsSomeAnd (slice_get s.published (last_number s)) (λ last. ◌≡◌ {A = ℕ × ℕ} (s.a, s.b) (x, y)) = subst W is h.written.words in
    let place : length new - 1 ≡ length s.published = omega arith in
    record {
      written = record {
        number = omega (arith, odd, more, some);
        words = some_and_is (slice_get new (length new - 1)) (λ last. ◌≡◌ {A = ℕ × ℕ} (s.a, s.b) last) (x, y) (ap (λ k. slice_get new k) place ∙ slice_get-last s.published (x, y)) (same_pair (slice_get s.published (last_number s)) words);
      };
      readers = All-weaker (IsSafeReader s.number s.published) (IsSafeReader (s.number + 1) new) (safe_reader_more s.number (s.number + 1) s.published new (omega arith) (omega arith) (known_more s.published (x, y))) s.readers h.readers;
    }
  where
    same_pair : (o : Option (ℕ × ℕ)) → IsSomeAnd o (λ last. ◌≡◌ {A = ℕ × ℕ} (s.a, s.b) (x, y)) → ◌≡◌ {A = ℕ × ℕ} (s.a, s.b) (x, y)
    same_pair None e = absurd e
    same_pair (Some last) e = e

-- a reader's step: what it keeps of that reader, it keeps of all
safe_reader : (s : State) (r : ℕ) (change : ReaderState → ReaderState) → IsSafe s
    → ((x : ReaderState) → slice_get s.readers r ≡ Some x → IsSafeReader s.number s.published x → IsSafeReader s.number s.published (change x))
    → IsSafe (with_reader s r change)
safe_reader s r change h keeps = record {
  written = record { number = h.written.number; words = h.written.words };
  readers = All-change_at (IsSafeReader s.number s.published) change s.readers r keeps h.readers;
}

-- a change of phase leaves what a reader knows
known_same : (published : List (ℕ × ℕ)) (x : ReaderState) (p : ReaderPhase) → KnowsPublished published x → KnowsPublished published (to_phase p x)
known_same published x p h = record { pairs = h.pairs; numbers = h.numbers }

-- a reader loads the number
pub safe_first : (s : State) (r : ℕ) → phase_of s.readers r ≡ Some Rest → IsSafe s → IsSafe (with_reader s r (to_phase (HasFirst s.number)))
safe_first s r is h = safe_reader s r (to_phase (HasFirst s.number)) h (λ x e q. record {
  reading = reading_first s x h.written q.reading;
  known = known_same s.published x (HasFirst s.number) q.known;
  tries = tries_first s.number x (phase_found s.readers r x Rest e is) q.tries;
})

-- it loads the first word
pub safe_load_a : (s : State) (r n : ℕ) → phase_of s.readers r ≡ Some (HasFirst n) → IsSafe s → IsSafe (with_reader s r (λ x. to_phase (loads_a s.a x.phase) x))
safe_load_a s r n is h = safe_reader s r (λ x. to_phase (loads_a s.a x.phase) x) h (λ x e q. record {
  reading = reading_a s x n (phase_found s.readers r x (HasFirst n) e is) h.written q.reading;
  known = known_same s.published x (loads_a s.a x.phase) q.known;
  tries = tries_a s.number s.a x n (phase_found s.readers r x (HasFirst n) e is) q.tries;
})

-- it loads the second word
pub safe_load_b : (s : State) (r n a : ℕ) → phase_of s.readers r ≡ Some (HasA n a) → IsSafe s → IsSafe (with_reader s r (λ x. to_phase (loads_b s.b x.phase) x))
safe_load_b s r n a is h = safe_reader s r (λ x. to_phase (loads_b s.b x.phase) x) h (λ x e q. record {
  reading = reading_b s x n a (phase_found s.readers r x (HasA n a) e is) h.written q.reading;
  known = known_same s.published x (loads_b s.b x.phase) q.known;
  tries = tries_b s.number s.b x n a (phase_found s.readers r x (HasA n a) e is) q.tries;
})

-- it loads the number again
pub safe_second : (s : State) (r n a b : ℕ) → phase_of s.readers r ≡ Some (HasB n a b) → IsSafe s → IsSafe (with_reader s r (λ x. ends_try s.number x.phase x))
safe_second s r n a b is h = safe_reader s r (λ x. ends_try s.number x.phase x) h (λ x e q. record {
  reading = reading_second s x n a b (phase_found s.readers r x (HasB n a b) e is) h.written q.reading;
  known = known_second s x n a b (phase_found s.readers r x (HasB n a b) e is) h.written q.reading q.known;
  tries = tries_second s.number n a b x (phase_found s.readers r x (HasB n a b) e is) q.tries;
})

-- it meets the writer
pub safe_meet : (s : State) (r : ℕ) → phase_of s.readers r ≡ Some Rest → IsSafe s → IsSafe (with_reader s r (to_floor (last_number s)))
safe_meet s r is h = safe_reader s r (to_floor (last_number s)) h (λ x e q. record {
  reading = reading_meet s x (phase_found s.readers r x Rest e is) q.reading;
  known = known_meet s x q.reading.floor q.known;
  tries = q.tries;
})
