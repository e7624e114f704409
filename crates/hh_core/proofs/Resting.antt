-- Readers that come, that rest, and that end a try.
use Rattle.std.proofs.Common.{◌≡◌, ℕ, ◌+◌, ◌-◌, ◌*◌, ◌/◌, ◌≤◌, Bool, true, false, if◌then◌else◌, List, [], ◌∷◌, ◌++◌, length, subst, arith}
use Rattle.std.specs.List.{All}
use Rattle.std.specs.List.Sorted.{IsNonDecreasing}
use Rattle.std.proofs.lemmas.List.{append-nil}
use Rattle.std.proofs.lemmas.List.Elements.{All-push, All-weaker}
use Rattle.hh_core.specs.declared.step.WriterPhase.{WriterPhase}
use Rattle.hh_core.specs.declared.reader.ReaderPhase.{ReaderPhase}
use Rattle.hh_core.specs.State.{ReaderState, fresh_reader, last_number}
use Rattle.hh_core.specs.Step.{is_idle, is_good, ends_try, tries_once, learns}
use Rattle.hh_core.specs.Safe.{RisesTo, IsFirstWithin, TriesRise, IsSafeReader, both_numbers, in_hand}
use Rattle.hh_core.specs.Laws.{SafeWithFreshReader, RestingReadersAgree, TriesGoOn}
use Rattle.hh_core.proofs.Lists.{All-found}
use Rattle.hh_core.proofs.OneReader.{tries_second}
use Rattle.hh_core.proofs.Orders.{safe_fresh}

pub safe_with_fresh_reader : SafeWithFreshReader
safe_with_fresh_reader s h = record {
  written = record { number = h.written.number; words = h.written.words };
  readers = All-push (IsSafeReader s.number s.published) s.readers fresh_reader h.readers (safe_fresh s.number s.published);
}

pub resting_readers_agree : RestingReadersAgree
resting_readers_agree s r x safe idle found rest =
    let N : WriterPhase → Type 0 = λ q. s.number ≡ 2 * last_number s + (if is_idle q then 0 else 1) in
    let number : s.number ≡ 2 * last_number s + 0 = subst N idle safe.written.number in
    let is = All-found (IsSafeReader s.number s.published) s.readers r x found safe.readers in
    let T : ReaderPhase → Type 0 = λ p. RisesTo s.number (both_numbers x.tries ++ in_hand p) in
    let tries = subst T rest is.tries in
    let L : List ℕ → Type 0 = λ xs. All (λ n. n ≤ s.number) xs in
    let within : All (λ n. n ≤ s.number) (both_numbers x.tries) = subst L (append-nil (both_numbers x.tries)) tries.within in
    record {
      known = is.known.pairs;
      floor = is.reading.floor;
      tries = All-weaker (λ n. n ≤ s.number) (λ n. n ≤ 2 * (length s.published - 1)) (λ n small. omega (arith, number)) (both_numbers x.tries) within;
    }

-- a good try's numbers are those of the try
learnt_tries : (b : Bool) (pair : ℕ × (ℕ × ℕ)) (x : ReaderState) (m : ℕ) → TriesRise m (if b then learns pair x else x) → TriesRise m x
learnt_tries true pair x m h = h
learnt_tries false pair x m h = h

pub tries_go_on : TriesGoOn
tries_go_on s r x n a b safe found is =
    let reader = All-found (IsSafeReader s.number s.published) s.readers r x found safe.readers in
    let W : ReaderPhase → Type 0 = λ p. IsFirstWithin s.number x.floor p in
    let within : (2 * x.floor ≤ n) × (n ≤ s.number) = subst W is reader.reading.first in
    let T : ReaderPhase → Type 0 = λ p. TriesRise s.number (ends_try s.number p x) in
    let ended = subst T is (tries_second s.number n a b x is reader.tries) in
    let rise : TriesRise s.number (tries_once (n, s.number) x) = learnt_tries (is_good (n, s.number)) (n / 2, (a, b)) (tries_once (n, s.number) x) s.number ended in
    let L : List ℕ → Type 0 = λ xs. IsNonDecreasing xs in
    record {
      above = within.0;
      order = within.1;
      rises = subst L (append-nil (both_numbers (x.tries ++ (n, s.number) ∷ []))) rise.rises;
    }
