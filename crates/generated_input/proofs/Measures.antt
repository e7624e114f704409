-- How many items a generated input has, and how late they are.
use Rattle.std.proofs.Common.{◌≡◌, ℕ, zero, suc, ◌+◌, ◌≤◌, true, length, map, refl, arith}
use Rattle.std.specs.List.{range_with_len, AllByRecursion}
use Rattle.std.proofs.lemmas.List.FromFn.{length-map-range_with_len}
use Rattle.pcap_records.specs.declared.capture.Frame.{Frame}
use Rattle.pcap_records.proofs.Written.{written_is}
use Rattle.neigh_script.specs.Context.{at_of}
use Rattle.generated_input.specs.Heard.{heard, heard_at}
use Rattle.generated_input.specs.Sent.{sent, sent_at}
use Rattle.generated_input.specs.Files.{frames_of, script_of}
use Rattle.generated_input.specs.Laws.{is_packet, HasFrames, HasPackets}
use Rattle.generated_input.proofs.Fitting.{frames_fit, script_within, script_short}

frames_until : (x a n : ℕ) → a + n ≤ 10000 → AllByRecursion (λ (f : Frame). f.at ≤ 99_990) (map (heard_at x) (range_with_len a n))
frames_until x a zero h = tt
frames_until x a (suc n) h = (omega arith, frames_until x (a + 1) n (omega arith))

packets_until : (x a n : ℕ) → a + n ≤ 20000 → AllByRecursion (λ item. at_of item ≤ 99_995) (map (sent_at x) (range_with_len a n))
packets_until x a zero h = tt
packets_until x a (suc n) h = (omega arith, packets_until x (a + 1) n (omega arith))

all_packets : (x a n : ℕ) → AllByRecursion (λ item. is_packet item ≡ true) (map (sent_at x) (range_with_len a n))
all_packets x a zero = tt
all_packets x a (suc n) = (refl, all_packets x (a + 1) n)

frames_measured : (n x : ℕ) → n ≤ 10000 → (length (heard n x) ≡ n) × AllByRecursion (λ (f : Frame). f.at ≤ 99_990) (heard n x)
unfolding heard
frames_measured n x h = (length-map-range_with_len (heard_at x) 0 n, frames_until x 0 n (omega arith))

packets_measured : (n x : ℕ) → n ≤ 20000
    → (length (sent n x) ≡ n) × AllByRecursion (λ item. is_packet item ≡ true) (sent n x) × AllByRecursion (λ item. at_of item ≤ 99_995) (sent n x)
unfolding sent
packets_measured n x h = (length-map-range_with_len (sent_at x) 0 n, all_packets x 0 n, packets_until x 0 n (omega arith))

pub has_frames : (number : ℕ) → HasFrames number
unfolding frames_of
has_frames number =
    let measured = frames_measured 10000 number (omega arith) in
    record { many = measured.0; until = measured.1; fit = frames_fit number; again = written_is (frames_of number) (frames_fit number) }

pub has_packets : (number : ℕ) → HasPackets number
unfolding script_of
has_packets number =
    let measured = packets_measured 20000 _ (omega arith) in
    record { many = measured.0; packets = measured.1; until = measured.2; within = script_within number; short = script_short number }
