-- Moments one after the other, as a clock gives them.
use Rattle.std.proofs.Common.{◌≡◌, ℕ, ◌-◌, max, List, [], ◌∷◌, ◌++◌, map, Some, refl, ap, sym, ◌∙◌}
use Rattle.pcap_records.specs.declared.clock.Clock.{Clock}
use Rattle.pcap_records.specs.Records.{never_falling, moments}
use Rattle.pcap_records.specs.Capture.{IsMomentBehind}
use Rattle.pcap_records.specs.Reading.{tick, start_clock}

-- the moments that a clock gives to stamps
abbrev pub moments_from : Clock → List ℕ → List ℕ
moments_from clock [] = []
moments_from clock (s ∷ ss) = (tick clock s).last ∷ moments_from (tick clock s) ss

-- the clock behind stamps
abbrev pub clock_behind : Clock → List ℕ → Clock
clock_behind clock [] = clock
clock_behind clock (s ∷ ss) = clock_behind (tick clock s) ss

never_falling-from : (first floor : ℕ) (ss : List ℕ) → moments_from (record { first = Some first; last = floor }) ss ≡ never_falling floor (map (λ s. s - first) ss)
unfolding tick
never_falling-from first floor [] = refl
never_falling-from first floor (s ∷ ss) = ap (λ (ms : List ℕ). max floor (s - first) ∷ ms) (never_falling-from first (max floor (s - first)) ss)

pub moments_from-start : (ss : List ℕ) → moments_from start_clock ss ≡ moments ss
unfolding tick
moments_from-start [] = refl
moments_from-start (s ∷ ss) = ap (λ (ms : List ℕ). max 0 (s - s) ∷ ms) (never_falling-from s (max 0 (s - s)) ss)

pub moments_from-append : (clock : Clock) (xs ys : List ℕ) → moments_from clock (xs ++ ys) ≡ moments_from clock xs ++ moments_from (clock_behind clock xs) ys
moments_from-append clock [] ys = refl
moments_from-append clock (x ∷ xs) ys = ap (λ (ms : List ℕ). (tick clock x).last ∷ ms) (moments_from-append (tick clock x) xs ys)

last_is : (xs : List ℕ) (m n : ℕ) → xs ++ m ∷ [] ≡ xs ++ n ∷ [] → m ≡ n
last_is [] m n e = cc
last_is (x ∷ xs) m n e = last_is xs m n (cc)

-- the moment behind others is the clock's
pub moment_behind : (before : List ℕ) (stamp : ℕ) → IsMomentBehind before stamp (tick (clock_behind start_clock before) stamp).last
moment_behind before stamp =
    sym (moments_from-start (before ++ stamp ∷ [])) ∙ moments_from-append start_clock before (stamp ∷ [])
    ∙ ap (λ (ms : List ℕ). ms ++ (tick (clock_behind start_clock before) stamp).last ∷ []) (moments_from-start before)

pub moment_behind-only : (before : List ℕ) (stamp m : ℕ) → IsMomentBehind before stamp m → m ≡ (tick (clock_behind start_clock before) stamp).last
moment_behind-only before stamp m e = last_is (moments before) m (tick (clock_behind start_clock before) stamp).last (sym e ∙ moment_behind before stamp)
