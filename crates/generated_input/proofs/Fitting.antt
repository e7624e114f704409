-- The records fit into a capture, and the script is within its limits.
use Rattle.std.proofs.Common.{◌≡◌, ℕ, zero, suc, ◌+◌, ◌*◌, ◌<◌, ◌≤◌, ◌&&◌, ◌==◌, not, Bool, true, false, length, map, refl, arith, rules}
use Rattle.std.specs.Prelude.{nat_lt, sum_by}
use Rattle.std.specs.List.{range_with_len, AllByRecursion}
use Rattle.std.proofs.lemmas.Bool.Decides.{nat_tests}
use Rattle.std.proofs.lemmas.List.{length-append, length-map}
use Rattle.std.proofs.lemmas.List.FromFn.{length-map-range_with_len}
use Rattle.std.proofs.lemmas.List.Sums.{sum_by-cons}
use Rattle.nb_base.specs.Params.{default_params}
use Rattle.nb_base.proofs.Defaults.{default_in_range}
use Rattle.pcap_records.specs.Writing.{IsFrame, NeverFalls, BeginsAtZero, AreFrames, moments_of}
use Rattle.neigh_script.specs.Context.{shows_in}
use Rattle.neigh_script.specs.Parameter.{parameters}
use Rattle.neigh_script.specs.Written.{IsScriptItem, script_rows, param_words, item_words}
use Rattle.neigh_script.specs.Limits.{IsItemWithin, AreInOrder, IsWithinLimits, IsShort}
use Rattle.generated_input.specs.Draws.{draw, neighbour}
use Rattle.generated_input.specs.Heard.{heard, heard_at, heard_bytes, host, neighbour_ip4}
use Rattle.generated_input.specs.Sent.{sent, sent_at}
use Rattle.generated_input.specs.Files.{frames_of, script_from, script_of}

-- ---- the records

heard_size : (asks : Bool) (d : ℕ) → length (heard_bytes asks d) ≡ 42
heard_size true d = refl
heard_size false d = refl

each_heard : (x a n : ℕ) → a + n ≤ 10000 → AllByRecursion IsFrame (map (heard_at x) (range_with_len a n))
each_heard x a zero h = tt
each_heard x a (suc n) h = (record { size = rw (heard_size _ _) (omega arith); span = omega arith }, each_heard x (a + 1) n (omega arith))

none_falls : (x a n floor : ℕ) → floor ≤ 10 * a → NeverFalls floor (moments_of (map (heard_at x) (range_with_len a n)))
none_falls x a zero floor h = tt
none_falls x a (suc n) floor h = (h, none_falls x (a + 1) n (10 * a) (omega arith))

begins : (x n : ℕ) → BeginsAtZero (moments_of (map (heard_at x) (range_with_len 0 n)))
begins x zero = tt
begins x (suc n) = refl

heard_fit : (n x : ℕ) → n ≤ 10000 → AreFrames (heard n x)
unfolding heard
heard_fit n x h = record {
  few = omega (arith, length-map-range_with_len (heard_at x) 0 n);
  each = each_heard x 0 n (omega arith);
  first = begins x n;
  order = none_falls x 0 n 0 (omega arith);
}

pub frames_fit : (number : ℕ) → AreFrames (frames_of number)
unfolding frames_of
frames_fit number = heard_fit 10000 number (omega arith)

-- ---- the script

is_other : (n : ℕ) → 0x0a000002 < n → n < 0xe0000000 → (not (n == 0x0a000002) && not (n == 0) && nat_lt n 0xe0000000) ≡ true
is_other n above below = grind (arith, nat_tests)

each_sent : (x a n : ℕ) → a + n ≤ 20000 → AllByRecursion (IsItemWithin host 4) (map (sent_at x) (range_with_len a n))
each_sent x a zero h = tt
each_sent x a (suc n) h = (
  (omega arith, record { known = (omega arith, omega arith); neighbour = is_other (neighbour_ip4 (neighbour (draw a x))) (omega arith) (omega arith); size = (omega arith, omega arith) }),
  each_sent x (a + 1) n (omega arith),
)

in_order : (x a n at : ℕ) → at ≤ 5 * a → AreInOrder at (map (sent_at x) (range_with_len a n))
in_order x a zero at h = tt
in_order x a (suc n) at h = (h, in_order x (a + 1) n (5 * a) (omega arith))

no_shows : (x a n : ℕ) → sum_by shows_in (map (sent_at x) (range_with_len a n)) ≡ 0
no_shows x a zero = refl
no_shows x a (suc n) = omega (arith, sum_by-cons shows_in (sent_at x a) (map (sent_at x) (range_with_len (a + 1) n)), no_shows x (a + 1) n)

each_written : (x a n : ℕ) → AllByRecursion IsScriptItem (map (sent_at x) (range_with_len a n))
each_written x a zero = tt
each_written x a (suc n) = (refl, each_written x (a + 1) n)

sent_written : (n x : ℕ) → AllByRecursion IsScriptItem (sent n x)
unfolding sent
sent_written n x = each_written x 0 n

sent_within : (n x : ℕ) → n ≤ 20000 → AllByRecursion (IsItemWithin host 4) (sent n x) × AreInOrder 0 (sent n x) × (sum_by shows_in (sent n x) ≡ 0) × (length (sent n x) ≡ n)
unfolding sent
sent_within n x h = (each_sent x 0 n (omega arith), in_order x 0 n 0 (omega arith), no_shows x 0 n, length-map-range_with_len (sent_at x) 0 n)

within_from : (state : ℕ) → IsWithinLimits (script_from state)
within_from state =
    let each = sent_within 20000 state (omega arith) in
    record { dev = refl; senders = (omega arith, omega arith); params = default_in_range; items = each.0; order = each.1; shows = omega (arith, each.2) }

short_from : (state : ℕ) → IsShort (script_from state)
unfolding script_rows
short_from state =
    let s = script_from state in
    omega (arith, (sent_within 20000 state (omega arith)).3, length-append (map (param_words s.params) parameters) (map (item_words s.host) s.items), length-map s.items (item_words s.host))

pub script_written : (number : ℕ) → AllByRecursion IsScriptItem (script_of number).items
unfolding script_of
script_written number = sent_written 20000 _

pub script_within : (number : ℕ) → IsWithinLimits (script_of number)
unfolding script_of
script_within number = within_from _

pub script_short : (number : ℕ) → IsShort (script_of number)
unfolding script_of
script_short number = short_from _
