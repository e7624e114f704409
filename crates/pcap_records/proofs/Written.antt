-- What is written is a capture, which holds the frames.
use Rattle.std.proofs.Common.{◌≡◌, ◌≤◌, ℕ, ◌+◌, ◌-◌, ◌*◌, ◌/◌, ◌%◌, max, List, [], ◌∷◌, ◌++◌, length, map, take, drop, Result, Ok, Err, All, refl, sym, ap, subst, ◌∙◌, arith, append_assoc, length-append}
use Rattle.std.specs.Prelude.{IfOk}
use Rattle.std.specs.List.{flat_map, AllByRecursion}
use Rattle.std.proofs.lemmas.List.{append-nil, drop_at, take_at, length-map}
use Rattle.std.proofs.Math.Nat.{max-eq_right}
use Rattle.std.proofs.lemmas.List.Concat.{flat_map-cons}
use Rattle.std.proofs.lemmas.List.Elements.{All-from_recursion}
use Rattle.byteorder.specs.Endian.{big_bytes}
use Rattle.byteorder.specs.Numbers.{big_number-reads_back}
use Rattle.pcap_records.specs.declared.capture.Frame.{Frame}
use Rattle.pcap_records.specs.declared.form.Order.TheVariants.{Big}
use Rattle.pcap_records.specs.declared.form.Fraction.TheVariants.{Microseconds}
use Rattle.pcap_records.specs.declared.form.Form.{Form}
use Rattle.pcap_records.specs.Form.{field, stamp_of, captured_len, IsHeader}
use Rattle.pcap_records.specs.Records.{Laid, bytes_of, IsLaid, stamps, never_falling, moments, placed, frames_of}
use Rattle.pcap_records.specs.Capture.{greatest_moment, IsCapture}
use Rattle.pcap_records.specs.Writing.{NeverFalls, BeginsAtZero, IsFrame, AreFrames, moments_of, written_header, written_record_header, written_record, written, IsCaptureOf}

abbrev written_form : Form
written_form = record { order = Big; unit = Microseconds }

abbrev laid_of : Frame → Laid
laid_of f = record { header = written_record_header f; captured = f.bytes }

header_is_written : IsHeader written_form written_header
unfolding field
header_is_written = record { size = refl; magic_number = refl; version = (refl, refl); link = refl }

counted_as_written : (f : Frame) → length f.bytes ≤ 262144 → captured_len written_form (written_record_header f) ≡ length f.bytes
unfolding field
counted_as_written f small = big_number-reads_back 4 (length f.bytes) (big_bytes 4 (length f.bytes)) (omega arith)

is_laid : (f : Frame) → IsFrame f → IsLaid written_form (laid_of f)
is_laid f h = record { size = refl; counted = counted_as_written f h.size; limit = h.size }

seconds_as_written : (f : Frame) → f.at ≤ greatest_moment → field Big 4 0 (written_record_header f) ≡ f.at / 1000
unfolding field
seconds_as_written f small =
    big_number-reads_back 4 (f.at / 1000) (big_bytes 4 (f.at % 1000 * 1000) ++ big_bytes 4 (length f.bytes) ++ big_bytes 4 (length f.bytes)) (omega arith)

fraction_as_written : (f : Frame) → field Big 4 4 (written_record_header f) ≡ f.at % 1000 * 1000
unfolding field
fraction_as_written f =
    big_number-reads_back 4 (f.at % 1000 * 1000) (big_bytes 4 (length f.bytes) ++ big_bytes 4 (length f.bytes)) (omega arith)

stamp_as_written : (f : Frame) → f.at ≤ greatest_moment → stamp_of written_form (written_record_header f) ≡ f.at
unfolding stamp_of
stamp_as_written f small =
    rw (seconds_as_written f small, fraction_as_written f) (let e : f.at / 1000 * 1000 + f.at % 1000 * 1000 / 1000 ≡ f.at = omega arith in e)

stamps_as_written : (frames : List Frame) → AllByRecursion IsFrame frames → stamps written_form (map laid_of frames) ≡ moments_of frames
stamps_as_written [] h = refl
stamps_as_written (f ∷ frames) h =
    ap (λ (s : ℕ). s ∷ stamps written_form (map laid_of frames)) (stamp_as_written f h.0.span) ∙ ap (λ (ss : List ℕ). f.at ∷ ss) (stamps_as_written frames h.1)

all_laid : (frames : List Frame) → AllByRecursion IsFrame frames → AllByRecursion (IsLaid written_form) (map laid_of frames)
all_laid [] h = tt
all_laid (f ∷ frames) h = (is_laid f h.0, all_laid frames h.1)

all_timely : (frames : List Frame) → AllByRecursion IsFrame frames → AllByRecursion (λ m. m ≤ greatest_moment) (moments_of frames)
all_timely [] h = tt
all_timely (f ∷ frames) h = (h.0.span, all_timely frames h.1)

kept : (floor : ℕ) (ns : List ℕ) → NeverFalls floor ns → never_falling floor (map (λ n. n - 0) ns) ≡ ns
kept floor [] h = refl
kept floor (n ∷ ns) h =
    let above = h.0 in
    let high : floor ≤ n - 0 = omega arith in
    let plain : n - 0 ≡ n = omega arith in
    let e : max floor (n - 0) ≡ n = max-eq_right high ∙ plain in
    ap (λ (m : ℕ). m ∷ never_falling m (map (λ k. k - 0) ns)) e ∙ ap (λ (ms : List ℕ). n ∷ ms) (kept n ns h.1)

moments_as_given : (ns : List ℕ) → BeginsAtZero ns → NeverFalls 0 ns → moments ns ≡ ns
moments_as_given [] first h = refl
moments_as_given (n ∷ ns) first h =
    ap (λ (k : ℕ). never_falling 0 (map (λ s. s - k) (n ∷ ns))) first ∙ kept 0 (n ∷ ns) h

bytes_as_written : (frames : List Frame) → flat_map bytes_of (map laid_of frames) ≡ flat_map written_record frames
unfolding written_record
bytes_as_written [] = refl
bytes_as_written (f ∷ frames) =
    flat_map-cons bytes_of (laid_of f) (map laid_of frames) ∙ ap (λ (x : List ℕ). written_record f ++ x) (bytes_as_written frames) ∙ sym (flat_map-cons written_record f frames)

long_as_written : (f : Frame) → length (written_record f) ≡ 16 + length f.bytes
unfolding written_record
long_as_written f = omega (arith, length-append (written_record_header f) f.bytes)

cut_as_written : (f : Frame) (front more bytes : List ℕ) (place : ℕ) → length front ≡ place → bytes ≡ front ++ (written_record f ++ more) → take (length f.bytes) (drop (place + 16) bytes) ≡ f.bytes
unfolding written_record
cut_as_written f front more bytes place at whole =
    let parts : bytes ≡ (front ++ written_record_header f) ++ (f.bytes ++ more) =
    whole ∙ ap (λ (x : List ℕ). front ++ x) (append_assoc (written_record_header f) f.bytes more) ∙ sym (append_assoc front (written_record_header f) (f.bytes ++ more)) in
    let size : length (front ++ written_record_header f) ≡ place + 16 = omega (arith, length-append front (written_record_header f)) in
    ap (λ (x : List ℕ). take (length f.bytes) (drop (place + 16) x)) parts
    ∙ ap (take (length f.bytes)) (drop_at (front ++ written_record_header f) (f.bytes ++ more) (place + 16) size)
    ∙ take_at f.bytes more (length f.bytes) refl

frames_as_written : (frames : List Frame) (front bytes : List ℕ) (place : ℕ) → length front ≡ place → bytes ≡ front ++ flat_map written_record frames → frames_of bytes (placed place (moments_of frames) (map laid_of frames)) ≡ frames
frames_as_written [] front bytes place at whole = refl
frames_as_written (f ∷ frames) front bytes place at whole =
    let more : List ℕ = flat_map written_record frames in
    let parts : bytes ≡ front ++ (written_record f ++ more) = whole ∙ ap (λ (x : List ℕ). front ++ x) (flat_map-cons written_record f frames) in
    let behind : bytes ≡ (front ++ written_record f) ++ more = parts ∙ sym (append_assoc front (written_record f) more) in
    let next : length (front ++ written_record f) ≡ place + 16 + length f.bytes = omega (arith, length-append front (written_record f), long_as_written f) in
    ap (λ (b : List ℕ). (let made : Frame = record { at = f.at; bytes = b } in made) ∷ frames_of bytes (placed (place + 16 + length f.bytes) (moments_of frames) (map laid_of frames))) (cut_as_written f front more bytes place at parts)
    ∙ ap (λ (fs : List Frame). f ∷ fs) (frames_as_written frames (front ++ written_record f) bytes (place + 16 + length f.bytes) next behind)

pub written_is : (frames : List Frame) → AreFrames frames → IsCaptureOf (written frames) frames
unfolding written
written_is frames h =
    let few = h.few in
    let same : moments (stamps written_form (map laid_of frames)) ≡ moments_of frames = ap moments (stamps_as_written frames h.each) ∙ moments_as_given (moments_of frames) h.first h.order in
    let whole : written frames ≡ written_header ++ (flat_map bytes_of (map laid_of frames) ++ []) =
    ap (λ (x : List ℕ). written_header ++ x) (sym (append-nil (flat_map bytes_of (map laid_of frames)) ∙ bytes_as_written frames)) in
    let capture : IsCapture (written frames) (placed 24 (moments_of frames) (map laid_of frames)) = record {
      form = written_form;
      laid = map laid_of frames;
      begins = record {
        header = written_header;
        is_header = header_is_written;
        whole = whole;
        few = omega (arith, length-map frames laid_of);
        each = all_laid frames h.each;
        span = subst (λ (ms : List ℕ). AllByRecursion (λ m. m ≤ greatest_moment) ms) (sym same) (all_timely frames h.each);
      };
      places = ap (λ (ms : List ℕ). placed 24 ms (map laid_of frames)) (sym same);
    } in
    (placed 24 (moments_of frames) (map laid_of frames), capture, frames_as_written frames written_header (written frames) 24 refl refl)

pub is_written : {E : Type 0} (r : Result (List ℕ) E) (frames : List Frame) → AreFrames frames → IfOk r (λ bytes. bytes ≡ written frames) → IfOk r (λ bytes. IsCaptureOf bytes frames)
is_written (Ok bytes) frames h e = subst (λ (b : List ℕ). IsCaptureOf b frames) (sym e) (written_is frames h)
is_written (Err x) frames h e = tt

-- each frame, by its place
pub frame_at : (frames : List Frame) → AreFrames frames → All IsFrame frames
frame_at frames h = All-from_recursion IsFrame frames h.each
