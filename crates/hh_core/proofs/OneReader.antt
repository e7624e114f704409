-- What one reader's step keeps of that reader, and what the writer's steps keep of every reader.
use Rattle.std.proofs.Common.{◌≡◌, ℕ, ◌+◌, ◌*◌, ◌/◌, ◌%◌, ◌<◌, ◌≤◌, Bool, true, false, if◌then◌else◌, List, [], ◌∷◌, ◌++◌, length, map, Option, Some, None, refl, sym, ap, ◌∙◌, subst, arith, IsSomeAnd}
use Rattle.std.specs.List.{slice_get}
use Rattle.std.proofs.lemmas.List.{append-nil, map-append}
use Rattle.std.proofs.lemmas.List.Elements.{All-push, All-weaker}
use Rattle.std.proofs.lemmas.Option.{same_Some}
use Rattle.std.proofs.lemmas.Bool.Decides.{nat_tests}
use Rattle.hh_core.specs.declared.step.WriterPhase.{WriterPhase}
use Rattle.hh_core.specs.declared.step.WriterPhase.TheVariants.{Idle, Begun, WroteA, WroteB}
use Rattle.hh_core.specs.declared.reader.ReaderPhase.{ReaderPhase}
use Rattle.hh_core.specs.declared.reader.ReaderPhase.TheVariants.{Rest, HasFirst, HasA, HasB}
use Rattle.hh_core.specs.State.{State, ReaderState, last_number, phase_of}
use Rattle.hh_core.specs.Step.{is_good, is_idle, to_phase, loads_a, loads_b, tries_once, learns, ends_try}
use Rattle.hh_core.specs.Safe.{RisesTo, IsWritten, IsReading, IsFirstWithin, HoldsPair, KnowsPublished, TriesRise, both_numbers, in_hand, words_in}
use Rattle.hh_core.proofs.Lists.{slice_get-grown, RisesTo-push, RisesTo-more}

-- the phase of the reader that is found
pub phase_found : (readers : List ReaderState) (r : ℕ) (x : ReaderState) (p : ReaderPhase) → slice_get readers r ≡ Some x → phase_of readers r ≡ Some p → x.phase ≡ p
phase_found readers r x p e is = same_Some x.phase p (rw e at is)

some_and : {X : Type 0} (o : Option X) (P Q : X → Type 0) → ((x : X) → P x → Q x) → IsSomeAnd o P → IsSomeAnd o Q
some_and None P Q f h = h
some_and (Some x) P Q f h = f x h

pub some_and_is : {X : Type 0} (o : Option X) (P : X → Type 0) (x : X) → o ≡ Some x → P x → IsSomeAnd o P
some_and_is {X = X} o P x e h = let F : Option X → Type 0 = λ v. IsSomeAnd v P in subst F (sym e) h

pub some_and_at : {X : Type 0} (o : Option X) (P : X → Type 0) (x : X) → o ≡ Some x → IsSomeAnd o P → P x
some_and_at {X = X} o P x e h = let F : Option X → Type 0 = λ v. IsSomeAnd v P in subst F e h

-- an even number is settled: the writer rests, and the words are those of the last published pair, whose number is half of it
pub record IsSettled (s : State) : Type 0 where
  pub idle : s.writer ≡ Idle
  pub half : s.number / 2 ≡ last_number s
  pub pair : slice_get s.published (last_number s) ≡ Some (s.a, s.b)

settled_by : (w : WriterPhase) (s : State) → s.writer ≡ w → s.number % 2 ≡ 0 → (s.number ≡ 2 * last_number s + (if is_idle w then 0 else 1)) → IsSomeAnd (slice_get s.published (last_number s)) (λ last. (s.a, s.b) ≡ words_in w last) → IsSettled s
settled_by Idle s is even number words = record { idle = is; half = omega (arith, number, even); pair = pair_of (slice_get s.published (last_number s)) words }
  where
    pair_of : (o : Option (ℕ × ℕ)) → IsSomeAnd o (λ last. (s.a, s.b) ≡ last) → o ≡ Some (s.a, s.b)
    pair_of None h = absurd h
    pair_of (Some last) h = ap (λ (p : ℕ × ℕ). Some p) (sym h)
settled_by (Begun x y) s is even number words = absurd (omega (arith, number, even))
settled_by (WroteA x y) s is even number words = absurd (omega (arith, number, even))
settled_by (WroteB x y) s is even number words = absurd (omega (arith, number, even))

pub settled : (s : State) → IsWritten s → s.number % 2 ≡ 0 → IsSettled s
settled s h even = settled_by s.writer s refl even h.number h.words

-- the number rises: a first number stays at most it
first_more : (p : ReaderPhase) (n m floor : ℕ) → n ≤ m → IsFirstWithin n floor p → IsFirstWithin m floor p
first_more Rest n m floor up h = h
first_more (HasFirst k) n m floor up h = (h.0, omega (arith, h.1))
first_more (HasA k x) n m floor up h = (h.0, omega (arith, h.1))
first_more (HasB k x y) n m floor up h = (h.0, omega (arith, h.1))

-- the number rises: no first number is still the number
words_more : (p : ReaderPhase) (n m floor : ℕ) (published : List (ℕ × ℕ)) → n < m → IsFirstWithin n floor p → HoldsPair m published p
words_more Rest n m floor published up h = h
words_more (HasFirst k) n m floor published up h = λ even same. absurd (omega (arith, h.1, same))
words_more (HasA k x) n m floor published up h = λ even same. absurd (omega (arith, h.1, same))
words_more (HasB k x y) n m floor published up h = λ even same. absurd (omega (arith, h.1, same))

-- the writer's number rises, and it may have published
pub reading_more : (n m : ℕ) (old new : List (ℕ × ℕ)) → n < m → length old ≤ length new → (reader : ReaderState) → IsReading n old reader → IsReading m new reader
reading_more n m old new up grown reader h = record {
  floor = omega (arith, h.floor);
  first = first_more reader.phase n m reader.floor (omega arith) h.first;
  words = words_more reader.phase n m reader.floor new up h.first;
}

pub known_more : (published : List (ℕ × ℕ)) (pair : ℕ × ℕ) (reader : ReaderState) → KnowsPublished published reader → KnowsPublished (published ++ pair ∷ []) reader
known_more published pair reader h = record {
  pairs = All-weaker (λ known. slice_get published known.0 ≡ Some known.1) (λ known. slice_get (published ++ pair ∷ []) known.0 ≡ Some known.1) (λ known e. slice_get-grown published (pair ∷ []) known.0 known.1 e) reader.known h.pairs;
  numbers = h.numbers;
}

pub tries_more : (n m : ℕ) → n ≤ m → (reader : ReaderState) → TriesRise n reader → TriesRise m reader
tries_more n m up reader h = RisesTo-more n m (both_numbers reader.tries ++ in_hand reader.phase) up h

-- the first load
pub reading_first : (s : State) (x : ReaderState) → IsWritten s → IsReading s.number s.published x → IsReading s.number s.published (to_phase (HasFirst s.number) x)
reading_first s x written h = record {
  floor = h.floor;
  first = (omega (arith, h.floor, written.number), omega arith);
  words = λ even same. let is = settled s written even in some_and_is (slice_get s.published (s.number / 2)) (λ pair. Unit {0}) (s.a, s.b) (ap (λ k. slice_get s.published k) is.half ∙ is.pair) tt;
}

pub tries_first : (number : ℕ) (x : ReaderState) → x.phase ≡ Rest → TriesRise number x → TriesRise number (to_phase (HasFirst number) x)
tries_first number x is h =
    let F : ReaderPhase → Type 0 = λ p. RisesTo number (both_numbers x.tries ++ in_hand p) in
    let G : List ℕ → Type 0 = λ xs. RisesTo number xs in
    RisesTo-push number (both_numbers x.tries) number (omega arith) (subst G (append-nil (both_numbers x.tries)) (subst F is h))

-- the loads of the words
pub reading_a : (s : State) (x : ReaderState) (n : ℕ) → x.phase ≡ HasFirst n → IsWritten s → IsReading s.number s.published x → IsReading s.number s.published (to_phase (loads_a s.a x.phase) x)
reading_a s x n is written h =
    let F : ReaderPhase → Type 0 = λ p. IsReading s.number s.published (to_phase (loads_a s.a p) x) in
    let G : ReaderPhase → Type 0 = λ p. IsFirstWithin s.number x.floor p in
    subst F (sym is) (record {
      floor = h.floor;
      first = subst G is h.first;
      words = λ even same. let now = settled s written (ap (λ k. k % 2) same ∙ even) in some_and_is (slice_get s.published (n / 2)) (λ pair. s.a ≡ pair.0) (s.a, s.b) (ap (λ k. slice_get s.published (k / 2)) (sym same) ∙ ap (λ k. slice_get s.published k) now.half ∙ now.pair) refl;
    })

pub tries_a : (number a : ℕ) (x : ReaderState) (n : ℕ) → x.phase ≡ HasFirst n → TriesRise number x → TriesRise number (to_phase (loads_a a x.phase) x)
tries_a number a x n is h =
    let F : ReaderPhase → Type 0 = λ p. TriesRise number (to_phase (loads_a a p) x) in
    let G : ReaderPhase → Type 0 = λ p. RisesTo number (both_numbers x.tries ++ in_hand p) in
    subst F (sym is) (subst G is h)

pub reading_b : (s : State) (x : ReaderState) (n first : ℕ) → x.phase ≡ HasA n first → IsWritten s → IsReading s.number s.published x → IsReading s.number s.published (to_phase (loads_b s.b x.phase) x)
reading_b s x n first is written h =
    let F : ReaderPhase → Type 0 = λ p. IsReading s.number s.published (to_phase (loads_b s.b p) x) in
    let G : ReaderPhase → Type 0 = λ p. IsFirstWithin s.number x.floor p in
    let H : ReaderPhase → Type 0 = λ p. HoldsPair s.number s.published p in
    subst F (sym is) (record {
      floor = h.floor;
      first = subst G is h.first;
      words = λ even same.
          let now = settled s written (ap (λ k. k % 2) same ∙ even) in
          let pair : slice_get s.published (n / 2) ≡ Some (s.a, s.b) = ap (λ k. slice_get s.published (k / 2)) (sym same) ∙ ap (λ k. slice_get s.published k) now.half ∙ now.pair in
          let had = subst H is h.words even same in
          some_and_is (slice_get s.published (n / 2)) (λ p. (first ≡ p.0) × (s.b ≡ p.1)) (s.a, s.b) pair (some_and_at (slice_get s.published (n / 2)) (λ p. first ≡ p.0) (s.a, s.b) pair had, refl);
    })

pub tries_b : (number b : ℕ) (x : ReaderState) (n first : ℕ) → x.phase ≡ HasA n first → TriesRise number x → TriesRise number (to_phase (loads_b b x.phase) x)
tries_b number b x n first is h =
    let F : ReaderPhase → Type 0 = λ p. TriesRise number (to_phase (loads_b b p) x) in
    let G : ReaderPhase → Type 0 = λ p. RisesTo number (both_numbers x.tries ++ in_hand p) in
    subst F (sym is) (subst G is h)

-- a rest at a greater floor, up to the last pair's number
pub reading_meet : (s : State) (x : ReaderState) → x.phase ≡ Rest → IsReading s.number s.published x → IsReading s.number s.published (record x { floor = last_number s })
reading_meet s x is h =
    let F : ReaderPhase → Type 0 = λ p. IsFirstWithin s.number (last_number s) p in
    record { floor = omega arith; first = subst F (sym is) tt; words = h.words }

pub known_meet : (s : State) (x : ReaderState) → x.floor ≤ last_number s → KnowsPublished s.published x → KnowsPublished s.published (record x { floor = last_number s })
known_meet s x up h = record { pairs = h.pairs; numbers = RisesTo-more x.floor (last_number s) (map (λ known. known.0) x.known) up h.numbers }

-- two numbers more
both_numbers-push : (ts : List (ℕ × ℕ)) (n m : ℕ) → both_numbers (ts ++ (n, m) ∷ []) ≡ (both_numbers ts ++ n ∷ []) ++ m ∷ []
both_numbers-push [] n m = refl
both_numbers-push (t ∷ ts) n m = ap (λ (xs : List ℕ). t.0 ∷ t.1 ∷ xs) (both_numbers-push ts n m)

-- the end of a try
tries_once_rise : (number n a b : ℕ) (x : ReaderState) → x.phase ≡ HasB n a b → TriesRise number x → RisesTo number (both_numbers (x.tries ++ (n, number) ∷ []) ++ [])
tries_once_rise number n a b x is h =
    let G : ReaderPhase → Type 0 = λ p. RisesTo number (both_numbers x.tries ++ in_hand p) in
    let F : List ℕ → Type 0 = λ xs. RisesTo number xs in
    subst F (sym (append-nil (both_numbers (x.tries ++ (n, number) ∷ [])) ∙ both_numbers-push x.tries n number)) (RisesTo-push number (both_numbers x.tries ++ n ∷ []) number (omega arith) (subst G is h))

-- what holds of a try that ended in either way holds of the try
either : (P : ReaderState → Type 0) (good : Bool) (learnt tried : ReaderState) → (good ≡ true → P learnt) → P tried → P (if good then learnt else tried)
either P true learnt tried f h = f refl
either P false learnt tried f h = h

pub tries_second : (number n a b : ℕ) (x : ReaderState) → x.phase ≡ HasB n a b → TriesRise number x → TriesRise number (ends_try number x.phase x)
tries_second number n a b x is h =
    let F : ReaderPhase → Type 0 = λ p. TriesRise number (ends_try number p x) in
    let P : ReaderState → Type 0 = λ y. TriesRise number y in
    let rise = tries_once_rise number n a b x is h in
    subst F (sym is) (either P (is_good (n, number)) (learns (n / 2, (a, b)) (tries_once (n, number) x)) (tries_once (n, number) x) (λ good. rise) rise)

-- what a good try says of its numbers
pub good_is : (n m : ℕ) → is_good (n, m) ≡ true → (n % 2 ≡ 0) × (m ≡ n)
good_is n m h = grind (arith, nat_tests)

-- a good try's pair is the last published one
pub pair_read : (s : State) (x : ReaderState) (n a b : ℕ) → x.phase ≡ HasB n a b → n % 2 ≡ 0 → s.number ≡ n → IsWritten s → IsReading s.number s.published x → (n / 2 ≡ last_number s) × (slice_get s.published (n / 2) ≡ Some (a, b))
pair_read s x n a b is even same written h =
    let H : ReaderPhase → Type 0 = λ p. HoldsPair s.number s.published p in
    let now = settled s written (ap (λ k. k % 2) same ∙ even) in
    let half : n / 2 ≡ last_number s = ap (λ k. k / 2) (sym same) ∙ now.half in
    let pair : slice_get s.published (n / 2) ≡ Some (s.a, s.b) = ap (λ k. slice_get s.published k) half ∙ now.pair in
    let had : (a ≡ s.a) × (b ≡ s.b) = some_and_at (slice_get s.published (n / 2)) (λ p. (a ≡ p.0) × (b ≡ p.1)) (s.a, s.b) pair (subst H is h.words even same) in
    (half, pair ∙ cc)

-- the first number in hand is at least twice the floor
first_of_try : (s : State) (x : ReaderState) (n a b : ℕ) → x.phase ≡ HasB n a b → IsReading s.number s.published x → (2 * x.floor ≤ n) × (n ≤ s.number)
first_of_try s x n a b is h = let G : ReaderPhase → Type 0 = λ p. IsFirstWithin s.number x.floor p in subst G is h.first

pub reading_second : (s : State) (x : ReaderState) (n a b : ℕ) → x.phase ≡ HasB n a b → IsWritten s → IsReading s.number s.published x → IsReading s.number s.published (ends_try s.number x.phase x)
reading_second s x n a b is written h =
    let F : ReaderPhase → Type 0 = λ p. IsReading s.number s.published (ends_try s.number p x) in
    let P : ReaderState → Type 0 = λ y. IsReading s.number s.published y in
    subst F (sym is) (either P (is_good (n, s.number)) (learns (n / 2, (a, b)) (tries_once (n, s.number) x)) (tries_once (n, s.number) x)
    (λ good.
    let seen = good_is n s.number good in
    let pair = pair_read s x n a b is seen.0 seen.1 written h in
    record { floor = omega (arith, pair.0); first = tt; words = tt })
    (record { floor = h.floor; first = tt; words = tt }))

pub known_second : (s : State) (x : ReaderState) (n a b : ℕ) → x.phase ≡ HasB n a b → IsWritten s → IsReading s.number s.published x → KnowsPublished s.published x → KnowsPublished s.published (ends_try s.number x.phase x)
known_second s x n a b is written h known =
    let F : ReaderPhase → Type 0 = λ p. KnowsPublished s.published (ends_try s.number p x) in
    let P : ReaderState → Type 0 = λ y. KnowsPublished s.published y in
    let G : List ℕ → Type 0 = λ xs. RisesTo (n / 2) xs in
    subst F (sym is) (either P (is_good (n, s.number)) (learns (n / 2, (a, b)) (tries_once (n, s.number) x)) (tries_once (n, s.number) x)
    (λ good.
    let seen = good_is n s.number good in
    let pair = pair_read s x n a b is seen.0 seen.1 written h in
    let first = first_of_try s x n a b is h in
    record {
      pairs = All-push (λ k. slice_get s.published k.0 ≡ Some k.1) x.known (n / 2, (a, b)) known.pairs pair.1;
      numbers = subst G (sym (map-append (λ (k : ℕ × (ℕ × ℕ)). k.0) x.known ((n / 2, (a, b)) ∷ []))) (RisesTo-push x.floor (map (λ (k : ℕ × (ℕ × ℕ)). k.0) x.known) (n / 2) (omega (arith, first.0)) known.numbers);
    })
    (record { pairs = known.pairs; numbers = known.numbers }))
