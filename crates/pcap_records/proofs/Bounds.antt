-- The records of a capture lie within its bytes, in the order of their moments.
use Rattle.std.proofs.Common.{◌≡◌, ◌≤◌, ◌<◌, ℕ, zero, suc, ◌+◌, ◌-◌, max, List, [], ◌∷◌, ◌++◌, length, map, get_or, Result, Ok, Err, IfOk, refl, sym, ap, ◌∙◌, subst, arith, length-append}
use Rattle.std.specs.List.{flat_map, AllByRecursion}
use Rattle.std.specs.List.Sorted.{IsNonDecreasing}
use Rattle.std.proofs.lemmas.List.{append-nil, length-map}
use Rattle.std.proofs.lemmas.List.Concat.{flat_map-cons}
use Rattle.std.proofs.lemmas.List.Elements.{All-from_recursion}
use Rattle.std.proofs.lemmas.List.Sorted.{IsNonDecreasingBy-from_default}
use Rattle.pcap_records.specs.declared.capture.Rec.{Rec}
use Rattle.pcap_records.specs.declared.fail.CaptureFail.{CaptureFail}
use Rattle.pcap_records.specs.declared.form.Form.{Form}
use Rattle.pcap_records.specs.Form.{stamp_of}
use Rattle.pcap_records.specs.Records.{Laid, bytes_of, IsLaid, stamps, never_falling, moments, placed}
use Rattle.pcap_records.specs.Capture.{greatest_moment, IsCapture, AreBounded, CapturesAreBounded}

-- each raised number is at least the floor
above_floor : (floor : ℕ) (ns : List ℕ) (i : ℕ) → i < length (never_falling floor ns) → floor ≤ get_or (never_falling floor ns) i 0
above_floor floor [] i small = absurd (omega arith)
above_floor floor (n ∷ ns) zero small = omega arith
above_floor floor (n ∷ ns) (suc i) small = let later = above_floor (max floor n) ns i (omega arith) in omega arith

never_fall : (floor : ℕ) (ns : List ℕ) (i j : ℕ) → i ≤ j → j < length (never_falling floor ns) → get_or (never_falling floor ns) i 0 ≤ get_or (never_falling floor ns) j 0
never_fall floor [] i j up small = absurd (omega arith)
never_fall floor (n ∷ ns) zero zero up small = omega arith
never_fall floor (n ∷ ns) zero (suc j) up small = above_floor (max floor n) ns j (omega arith)
never_fall floor (n ∷ ns) (suc i) zero up small = absurd (omega arith)
never_fall floor (n ∷ ns) (suc i) (suc j) up small = never_fall (max floor n) ns i j (omega arith) (omega arith)

moments_order : (stamps : List ℕ) → IsNonDecreasing (moments stamps)
moments_order [] = IsNonDecreasingBy-from_default (λ n. n) [] 0 (λ i j up small. absurd (omega arith))
moments_order (first ∷ others) = IsNonDecreasingBy-from_default (λ n. n) (moments (first ∷ others)) 0 (never_fall 0 (map (λ stamp. stamp - first) (first ∷ others)))

length-never_falling : (floor : ℕ) (ns : List ℕ) → length (never_falling floor ns) ≡ length ns
length-never_falling floor [] = refl
length-never_falling floor (n ∷ ns) = ap suc (length-never_falling (max floor n) ns)

length-moments : (stamps : List ℕ) → length (moments stamps) ≡ length stamps
length-moments [] = refl
length-moments (first ∷ others) = length-never_falling 0 (map (λ stamp. stamp - first) (first ∷ others)) ∙ length-map (first ∷ others) (λ stamp. stamp - first)

-- the moments of placed records are the given ones
placed_moments : (place : ℕ) (ms : List ℕ) (laid : List Laid) → length ms ≡ length laid → map (λ r. r.at) (placed place ms laid) ≡ ms
placed_moments place [] laid same = refl
placed_moments place (m ∷ ms) [] same = absurd (omega arith)
placed_moments place (m ∷ ms) (r ∷ rs) same = ap (λ (ns : List ℕ). m ∷ ns) (placed_moments (place + 16 + length r.captured) ms rs (omega arith))

placed_span : (place : ℕ) (ms : List ℕ) (laid : List Laid) → AllByRecursion (λ m. m ≤ greatest_moment) ms → AllByRecursion (λ r. r.at ≤ greatest_moment) (placed place ms laid)
placed_span place [] laid h = tt
placed_span place (m ∷ ms) [] h = tt
placed_span place (m ∷ ms) (r ∷ rs) h = (h.0, placed_span (place + 16 + length r.captured) ms rs h.1)

-- as many as were laid
placed_few : (place : ℕ) (ms : List ℕ) (laid : List Laid) → length (placed place ms laid) ≤ length laid
placed_few place [] laid = omega arith
placed_few place (m ∷ ms) [] = omega arith
placed_few place (m ∷ ms) (r ∷ rs) = let fewer = placed_few (place + 16 + length r.captured) ms rs in omega arith

-- records that are laid end to end lie before their common end
placed_within : (form : Form) (place size : ℕ) (ms : List ℕ) (laid : List Laid) → AllByRecursion (IsLaid form) laid → place + length (flat_map bytes_of laid) ≤ size → AllByRecursion (λ r. r.start + r.len ≤ size) (placed place ms laid)
placed_within form place size [] laid each within = tt
placed_within form place size (m ∷ ms) [] each within = tt
placed_within form place size (m ∷ ms) (r ∷ rs) each within =
    let header : length r.header ≡ 16 = each.0.size in
    let one : length (bytes_of r) ≡ length r.header + length r.captured = length-append r.header r.captured in
    let all : length (flat_map bytes_of (r ∷ rs)) ≡ length (bytes_of r) + length (flat_map bytes_of rs) = ap length (flat_map-cons bytes_of r rs) ∙ length-append (bytes_of r) (flat_map bytes_of rs) in
    (omega arith, placed_within form (place + 16 + length r.captured) size ms rs each.1 (omega arith))

pub captures_are_bounded : CapturesAreBounded
captures_are_bounded bytes records h =
    let begins = h.begins in
    let laid : List Laid = h.laid in
    let ms : List ℕ = moments (stamps h.form laid) in
    let header : length begins.header ≡ 24 = begins.is_header.size in
    let size : length bytes ≡ 24 + length (flat_map bytes_of laid) =
    ap length (begins.whole ∙ ap (λ (bs : List ℕ). begins.header ++ bs) (append-nil (flat_map bytes_of laid))) ∙ length-append begins.header (flat_map bytes_of laid) ∙ ap (λ (n : ℕ). n + length (flat_map bytes_of laid)) header in
    let same : length ms ≡ length laid = length-moments (stamps h.form laid) ∙ length-map laid (λ r. stamp_of h.form r.header) in
    let fewer = placed_few 24 ms laid in
    let few = begins.few in
    let F : List Rec → Type 0 = AreBounded (length bytes) in
    subst F (sym h.places) (record {
      within = All-from_recursion (λ r. r.start + r.len ≤ length bytes) (placed 24 ms laid) (placed_within h.form 24 (length bytes) ms laid begins.each (omega arith));
      order = let G : List ℕ → Type 0 = IsNonDecreasing in subst G (sym (placed_moments 24 ms laid same)) (moments_order (stamps h.form laid));
      span = All-from_recursion (λ r. r.at ≤ greatest_moment) (placed 24 ms laid) (placed_span 24 ms laid begins.span);
      few = omega arith;
    })

-- what is read keeps it
pub read_is_bounded : (bytes : List ℕ) (r : Result (List Rec) CaptureFail) → IfOk r (λ records. IsCapture bytes records) → IfOk r (λ records. AreBounded (length bytes) records)
read_is_bounded bytes (Ok records) h = captures_are_bounded bytes records h
read_is_bounded bytes (Err fail) h = tt
