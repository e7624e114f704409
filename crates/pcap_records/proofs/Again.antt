-- Records that lie there are read, and one that fails is refused.
use Rattle.std.proofs.Common.{◌≡◌, ◌≢◌, ◌<◌, ◌≤◌, ℕ, zero, suc, ◌+◌, List, [], ◌∷◌, ◌++◌, length, drop, Result, Ok, Err, refl, sym, ap, ◌∙◌, arith, append_assoc, length-append}
use Rattle.std.specs.List.{flat_map, AllByRecursion}
use Rattle.std.proofs.lemmas.List.{drop_at}
use Rattle.std.proofs.lemmas.List.Concat.{flat_map-cons}
use Rattle.pcap_records.specs.declared.capture.Rec.{Rec}
use Rattle.pcap_records.specs.declared.clock.Clock.{Clock}
use Rattle.pcap_records.specs.declared.fail.CaptureFail.{CaptureFail}
use Rattle.pcap_records.specs.declared.fail.CaptureFail.TheVariants.{ShortHeader, BadMagic, BadVersion, BadLink, ShortRecord, HugeRecord, TooMany, SpanTooLong, Memory}
use Rattle.pcap_records.specs.declared.form.Form.{Form}
use Rattle.pcap_records.specs.Form.{captured_len, stamp_of}
use Rattle.pcap_records.specs.Records.{Laid, bytes_of, IsLaid, stamps, placed}
use Rattle.pcap_records.specs.Capture.{greatest_moment, IsCut}
use Rattle.pcap_records.specs.Capture.IsCut.{in_header, in_captured}
use Rattle.pcap_records.specs.Reading.{◌>>=◌, len_at, tick, record_at, with_front, records_from}
use Rattle.pcap_records.proofs.Fields.{stamp_of-append, captured_len-append}
use Rattle.pcap_records.proofs.Moments.{moments_from, clock_behind}
use Rattle.pcap_records.proofs.Steps.{HasLen, len_short, len_huge, len_cut, record_fails, record_late, record_whole, from_many, behind_one, from_one}
use Rattle.pcap_records.proofs.Walk.{Fails, one_of}

record_again : (form : Form) (clock : Clock) (place : ℕ) (one : Laid) (more : List ℕ) → IsLaid form one → (tick clock (stamp_of form one.header)).last ≤ greatest_moment → record_at form clock place (bytes_of one ++ more) ≡ Ok (one_of form clock place one)
record_again form clock place one more is_laid timely =
    let size = is_laid.size in
    let regroup : bytes_of one ++ more ≡ one.header ++ (one.captured ++ more) = append_assoc one.header one.captured more in
    let stamp : stamp_of form (bytes_of one ++ more) ≡ stamp_of form one.header = ap (stamp_of form) regroup ∙ stamp_of-append form one.header (one.captured ++ more) (omega arith) in
    let counted : captured_len form (bytes_of one ++ more) ≡ length one.captured = ap (captured_len form) regroup ∙ captured_len-append form one.header (one.captured ++ more) (omega arith) ∙ is_laid.counted in
    let whole : HasLen form (bytes_of one ++ more) (length one.captured) = record {
      counted = counted;
      limit = is_laid.limit;
      whole = omega (arith, length-append (bytes_of one) more, length-append one.header one.captured);
    } in
    record_whole form clock place (bytes_of one ++ more) (length one.captured) whole (rw stamp timely) ∙ ap (λ (s : ℕ). Ok (record { at = (tick clock s).last; start = place + 16; len = length one.captured }, tick clock s)) stamp

not_empty : (one : Laid) (form : Form) (more : List ℕ) → IsLaid form one → bytes_of one ++ more ≢ []
not_empty one form more is_laid e =
    let size = is_laid.size in
    let none : length (bytes_of one ++ more) ≡ 0 = ap length e in
    absurd (omega (arith, length-append (bytes_of one) more, length-append one.header one.captured))

front-front : (one : Rec) (records : List Rec) (read : Result (List Rec) CaptureFail) → with_front (one ∷ []) (with_front records read) ≡ with_front (one ∷ records) read
front-front one records (Ok x) = refl
front-front one records (Err e) = refl

pub front-nil : (read : Result (List Rec) CaptureFail) → with_front [] read ≡ read
front-nil (Ok x) = refl
front-nil (Err e) = refl

-- records that lie there are read, and then what follows them
pub again : (form : Form) (laid : List Laid) (count left : ℕ) (clock : Clock) (place : ℕ) (rest : List ℕ) → count ≡ length laid + left → AllByRecursion (IsLaid form) laid
    → AllByRecursion (λ m. m ≤ greatest_moment) (moments_from clock (stamps form laid))
    → records_from form count clock place (flat_map bytes_of laid ++ rest)
    ≡ with_front (placed place (moments_from clock (stamps form laid)) laid) (records_from form left (clock_behind clock (stamps form laid)) (place + length (flat_map bytes_of laid)) rest)
again form [] count left clock place rest counted each span =
    let k : count ≡ left = omega arith in
    let p : place ≡ place + 0 = omega arith in
    ap (λ (n : ℕ). records_from form n clock place rest) k ∙ ap (λ (n : ℕ). records_from form left clock n rest) p ∙ sym (front-nil (records_from form left clock (place + 0) rest))
again form (one ∷ laid) count left clock place rest counted each span =
    let k : count ≡ suc (length laid + left) = omega arith in
    let size = each.0.size in
    let more : List ℕ = flat_map bytes_of laid ++ rest in
    let regroup : flat_map bytes_of (one ∷ laid) ++ rest ≡ bytes_of one ++ more = ap (λ (x : List ℕ). x ++ rest) (flat_map-cons bytes_of one laid) ∙ append_assoc (bytes_of one) (flat_map bytes_of laid) rest in
    let long : length (bytes_of one) ≡ 16 + length one.captured = omega (arith, length-append one.header one.captured) in
    let behind : drop (16 + length one.captured) (bytes_of one ++ more) ≡ more = drop_at (bytes_of one) more (16 + length one.captured) long in
    let p : place + 16 + length one.captured + length (flat_map bytes_of laid) ≡ place + length (flat_map bytes_of (one ∷ laid)) =
    omega (arith, ap length (flat_map-cons bytes_of one laid), length-append (bytes_of one) (flat_map bytes_of laid), length-append one.header one.captured) in
    let next : Clock = tick clock (stamp_of form one.header) in
    let record_one : Rec = (one_of form clock place one).0 in
    ap (λ (n : ℕ). records_from form n clock place (flat_map bytes_of (one ∷ laid) ++ rest)) k
    ∙ ap (records_from form (suc (length laid + left)) clock place) regroup
    ∙ from_one form (length laid + left) clock place (bytes_of one ++ more) (not_empty one form more each.0)
    ∙ ap (λ (r : Result (Rec × Clock) CaptureFail). r >>= behind_one form (length laid + left) place (bytes_of one ++ more)) (record_again form clock place one more each.0 span.0)
    ∙ ap (λ (bs : List ℕ). with_front (record_one ∷ []) (records_from form (length laid + left) next (place + 16 + length one.captured) bs)) behind
    ∙ ap (with_front (record_one ∷ [])) (again form laid (length laid + left) left next (place + 16 + length one.captured) rest refl each.1 span.1)
    ∙ front-front record_one (placed (place + 16 + length one.captured) (moments_from next (stamps form laid)) laid) (records_from form left (clock_behind next (stamps form laid)) (place + 16 + length one.captured + length (flat_map bytes_of laid)) rest)
    ∙ ap (λ (n : ℕ). with_front (record_one ∷ placed (place + 16 + length one.captured) (moments_from next (stamps form laid)) laid) (records_from form left (clock_behind next (stamps form laid)) n rest)) p

-- a record that fails at the front
refused : (form : Form) (left : ℕ) (clock : Clock) (place : ℕ) (rest : List ℕ) (fail : CaptureFail) → rest ≢ [] → 0 < left → record_at form clock place rest ≡ Err fail → records_from form left clock place rest ≡ Err fail
refused form zero clock place rest fail more some e = absurd (omega arith)
refused form (suc left) clock place rest fail more some e =
    from_one form left clock place rest more ∙ ap (λ (r : Result (Rec × Clock) CaptureFail). r >>= behind_one form left place rest) e

cut_again : (form : Form) (place : ℕ) (rest : List ℕ) → IsCut form rest → len_at form place rest ≡ Err (ShortRecord place)
cut_again form place rest (in_header short) = len_short form place rest short
cut_again form place rest (in_captured whole limit cut) = len_cut form place rest whole limit cut

pub fails_again : (form : Form) (left : ℕ) (clock : Clock) (place : ℕ) (rest : List ℕ) (fail : CaptureFail) → rest ≢ [] → Fails form left clock place rest fail → records_from form left clock place rest ≡ Err fail
fails_again form left clock place rest (TooMany at) more h =
    ap (λ (n : ℕ). records_from form n clock place rest) h.1 ∙ from_many form clock place rest more ∙ ap (λ (n : ℕ). Err (TooMany n)) (sym h.0)
fails_again form left clock place rest (ShortRecord at) more h =
    refused form left clock place rest (ShortRecord place) more h.1 (record_fails form clock place rest (ShortRecord place) (cut_again form place rest h.2)) ∙ ap (λ (n : ℕ). Err (ShortRecord n)) (sym h.0)
fails_again form left clock place rest (HugeRecord at len) more h =
    let huge : 262144 < captured_len form rest = let e = h.3 in let l = h.4 in omega arith in
    refused form left clock place rest (HugeRecord place (captured_len form rest)) more h.1 (record_fails form clock place rest (HugeRecord place (captured_len form rest)) (len_huge form place rest h.2 huge))
    ∙ ap (λ (n : ℕ). Err (HugeRecord n (captured_len form rest))) (sym h.0) ∙ ap (λ (n : ℕ). Err (HugeRecord at n)) (sym h.3)
fails_again form left clock place rest (SpanTooLong at) more h =
    let whole : HasLen form rest (captured_len form rest) = record { counted = refl; limit = h.3; whole = h.4 } in
    refused form left clock place rest (SpanTooLong place) more h.1 (record_late form clock place rest (captured_len form rest) whole h.5) ∙ ap (λ (n : ℕ). Err (SpanTooLong n)) (sym h.0)
fails_again form left clock place rest ShortHeader more h = absurd h
fails_again form left clock place rest (BadMagic number) more h = absurd h
fails_again form left clock place rest (BadVersion major minor) more h = absurd h
fails_again form left clock place rest (BadLink link) more h = absurd h
fails_again form left clock place rest Memory more h = absurd h
