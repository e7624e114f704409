-- The reading of a whole file is what the file is.
use Rattle.std.proofs.Common.{◌≡◌, ◌≢◌, ◌<◌, ◌≤◌, ℕ, ◌+◌, ◌-◌, ◌%◌, List, [], ◌++◌, length, take, drop, Result, Ok, Err, refl, sym, ap, subst, ◌∙◌, arith, length-append}
use Rattle.std.specs.Prelude.{IfOk, IfErr}
use Rattle.std.specs.List.{flat_map, AllByRecursion}
use Rattle.std.proofs.lemmas.List.{append-nil, take-append-drop, drop_at, length-take-le}
use Rattle.pcap_records.specs.declared.capture.Rec.{Rec}
use Rattle.pcap_records.specs.declared.fail.CaptureFail.{CaptureFail}
use Rattle.pcap_records.specs.declared.fail.CaptureFail.TheVariants.{ShortHeader, BadMagic, BadVersion, BadLink, ShortRecord, HugeRecord, TooMany, SpanTooLong, Memory}
use Rattle.pcap_records.specs.declared.form.Order.{Order}
use Rattle.pcap_records.specs.declared.form.Form.{Form}
use Rattle.pcap_records.specs.Form.{field, stamp_of}
use Rattle.pcap_records.specs.Records.{Laid, bytes_of, stamps, moments, placed}
use Rattle.pcap_records.specs.Capture.{greatest_moment, Begins, IsCapture, FailsBehind, FailsAtRecord, IsRefusal, Answers}
use Rattle.pcap_records.specs.Reading.{◌>>=◌, tick, start_clock, with_front, records_from, header_of, capture_of}
use Rattle.pcap_records.proofs.Fields.{field-append}
use Rattle.pcap_records.proofs.Moments.{moments_from, clock_behind, moments_from-start, moment_behind, moment_behind-only}
use Rattle.pcap_records.proofs.Steps.{from_end}
use Rattle.pcap_records.proofs.Walk.{Fails, Takes, AreRecords, FailsIn, Reads, reads}
use Rattle.pcap_records.proofs.Again.{again, fails_again}
use Rattle.pcap_records.proofs.HeaderLaws.{IsBytes, HasHeader, HeadFails, HeaderIs, header_is, header_again, head_fails_again}

-- ---- from the reading to the file

front_field : (order : Order) (n place : ℕ) (bytes : List ℕ) → 24 ≤ length bytes → place + n ≤ 24 → field order n place (take 24 bytes) ≡ field order n place bytes
front_field order n place bytes long small =
    let size : length (take 24 bytes) ≡ 24 = length-take-le 24 bytes long in
    sym (field-append order n place (take 24 bytes) (drop 24 bytes) (omega arith)) ∙ ap (field order n place) (take-append-drop 24 bytes)

begins_is : (bytes : List ℕ) (form : Form) (laid : List Laid) (rest : List ℕ) → HasHeader bytes form → Takes form start_clock (drop 24 bytes) laid rest → length laid ≤ 262144 → Begins bytes form laid rest
begins_is bytes form laid rest has t few =
    let long = has.has_form.size in
    record {
      header = take 24 bytes;
      is_header = record {
        size = length-take-le 24 bytes long;
        magic_number = front_field form.order 4 0 bytes long (omega arith) ∙ has.has_form.magic_number;
        version = (front_field form.order 2 4 bytes long (omega arith) ∙ has.version.0, front_field form.order 2 6 bytes long (omega arith) ∙ has.version.1);
        link = ap (λ (n : ℕ). n % 65536) (front_field form.order 4 20 bytes long (omega arith)) ∙ has.link;
      };
      whole = sym (take-append-drop 24 bytes) ∙ ap (λ (x : List ℕ). take 24 bytes ++ x) t.whole;
      few = few;
      each = t.each;
      span = subst (λ (ms : List ℕ). AllByRecursion (λ m. m ≤ greatest_moment) ms) (moments_from-start (stamps form laid)) t.span;
    }

capture_is : (bytes : List ℕ) (form : Form) (records : List Rec) → HasHeader bytes form → AreRecords form 262144 start_clock 24 (drop 24 bytes) records → IsCapture bytes records
capture_is bytes form records has h = record {
  form = form;
  laid = h.laid;
  begins = begins_is bytes form h.laid [] has h.takes h.few;
  places = h.places ∙ ap (λ (ms : List ℕ). placed 24 ms h.laid) (moments_from-start (stamps form h.laid));
}

-- a failing record, as the definition says it
fails_behind : (form : Form) (laid : List Laid) (rest : List ℕ) (place : ℕ) (fail : CaptureFail) → length laid ≤ 262144 → Fails form (262144 - length laid) (clock_behind start_clock (stamps form laid)) place rest fail → FailsBehind form laid rest place fail
fails_behind form laid rest place (TooMany at) few h = (h.0, let e = h.1 in omega arith)
fails_behind form laid rest place (ShortRecord at) few h = (h.0, let e = h.1 in omega arith, h.2)
fails_behind form laid rest place (HugeRecord at len) few h = (h.0, let e = h.1 in omega arith, h.2, h.3, h.4)
fails_behind form laid rest place (SpanTooLong at) few h =
    (h.0, let e = h.1 in omega arith, h.2, h.3, h.4, (tick (clock_behind start_clock (stamps form laid)) (stamp_of form rest)).last, moment_behind (stamps form laid) (stamp_of form rest), h.5)
fails_behind form laid rest place ShortHeader few h = absurd h
fails_behind form laid rest place (BadMagic number) few h = absurd h
fails_behind form laid rest place (BadVersion major minor) few h = absurd h
fails_behind form laid rest place (BadLink link) few h = absurd h
fails_behind form laid rest place Memory few h = absurd h

at_record : (bytes : List ℕ) (form : Form) (fail : CaptureFail) → HasHeader bytes form → FailsIn form 262144 start_clock 24 (drop 24 bytes) fail → FailsAtRecord bytes fail
at_record bytes form fail has h = record {
  form = form;
  laid = h.laid;
  rest = h.rest;
  begins = begins_is bytes form h.laid h.rest has h.takes h.few;
  more = h.more;
  fails = fails_behind form h.laid h.rest (24 + length (flat_map bytes_of h.laid)) fail h.few h.fails;
}

record_refusal : (bytes : List ℕ) (form : Form) (fail : CaptureFail) → HasHeader bytes form → FailsIn form 262144 start_clock 24 (drop 24 bytes) fail → IsRefusal bytes fail
record_refusal bytes form (TooMany at) has h = at_record bytes form (TooMany at) has h
record_refusal bytes form (ShortRecord at) has h = at_record bytes form (ShortRecord at) has h
record_refusal bytes form (HugeRecord at len) has h = at_record bytes form (HugeRecord at len) has h
record_refusal bytes form (SpanTooLong at) has h = at_record bytes form (SpanTooLong at) has h
record_refusal bytes form ShortHeader has h = absurd h.fails
record_refusal bytes form (BadMagic number) has h = absurd h.fails
record_refusal bytes form (BadVersion major minor) has h = absurd h.fails
record_refusal bytes form (BadLink link) has h = absurd h.fails
record_refusal bytes form Memory has h = absurd h.fails

head_refusal : (bytes : List ℕ) (fail : CaptureFail) → HeadFails bytes fail → IsRefusal bytes fail
head_refusal bytes ShortHeader h = h
head_refusal bytes (BadMagic number) h = h
head_refusal bytes (BadVersion major minor) h = h
head_refusal bytes (BadLink link) h = h
head_refusal bytes (ShortRecord place) h = absurd h
head_refusal bytes (HugeRecord place len) h = absurd h
head_refusal bytes (TooMany place) h = absurd h
head_refusal bytes (SpanTooLong place) h = absurd h
head_refusal bytes Memory h = absurd h

abbrev pub WholeIs : List ℕ → Result (List Rec) CaptureFail → Type 0
WholeIs bytes (Ok records) = IsCapture bytes records
WholeIs bytes (Err fail) = IsRefusal bytes fail

by_records : (bytes : List ℕ) (form : Form) → HasHeader bytes form → (r : Result (List Rec) CaptureFail) → Reads form 262144 start_clock 24 (drop 24 bytes) r → WholeIs bytes r
by_records bytes form has (Ok records) h = capture_is bytes form records has h
by_records bytes form has (Err fail) h = record_refusal bytes form fail has h

by_header : (bytes : List ℕ) (r : Result Form CaptureFail) → HeaderIs bytes r → WholeIs bytes (r >>= λ form. records_from form 262144 start_clock 24 (drop 24 bytes))
by_header bytes (Ok form) h = by_records bytes form h (records_from form 262144 start_clock 24 (drop 24 bytes)) (reads form 262144 start_clock 24 (drop 24 bytes))
by_header bytes (Err fail) h = head_refusal bytes fail h

pub whole_is : (bytes : List ℕ) → WholeIs bytes (capture_of bytes)
unfolding capture_of
whole_is bytes = by_header bytes (header_of bytes) (header_is bytes)

-- ---- from the file to the reading

-- the header of a file that begins so, and what lies behind it
pub record Opens (bytes : List ℕ) (form : Form) (laid : List Laid) (rest : List ℕ) : Type 0 where
  pub has : HasHeader bytes form
  pub behind : drop 24 bytes ≡ flat_map bytes_of laid ++ rest

opens : (bytes : List ℕ) (form : Form) (laid : List Laid) (rest : List ℕ) → Begins bytes form laid rest → Opens bytes form laid rest
opens bytes form laid rest b =
    let more : List ℕ = flat_map bytes_of laid ++ rest in
    let size = b.is_header.size in
    let at : (order : Order) (n place : ℕ) → place + n ≤ 24 → field order n place bytes ≡ field order n place b.header =
    λ order n place small. ap (field order n place) b.whole ∙ field-append order n place b.header more (omega arith) in
    record {
      has = record {
        has_form = record {
          size = omega (arith, ap length b.whole, length-append b.header more);
          magic_number = at form.order 4 0 (omega arith) ∙ b.is_header.magic_number;
        };
        version = (at form.order 2 4 (omega arith) ∙ b.is_header.version.0, at form.order 2 6 (omega arith) ∙ b.is_header.version.1);
        link = ap (λ (n : ℕ). n % 65536) (at form.order 4 20 (omega arith)) ∙ b.is_header.link;
      };
      behind = ap (drop 24) b.whole ∙ drop_at b.header more 24 size;
    }

-- the reading of a file that begins so
opened : (bytes : List ℕ) (form : Form) (laid : List Laid) (rest : List ℕ) → IsBytes bytes → Begins bytes form laid rest
    → capture_of bytes ≡ with_front (placed 24 (moments (stamps form laid)) laid) (records_from form (262144 - length laid) (clock_behind start_clock (stamps form laid)) (24 + length (flat_map bytes_of laid)) rest)
unfolding capture_of
opened bytes form laid rest fits b =
    let o = opens bytes form laid rest b in
    let few = b.few in
    let left : ℕ = 262144 - length laid in
    let count : 262144 ≡ length laid + left = omega arith in
    let span : AllByRecursion (λ m. m ≤ greatest_moment) (moments_from start_clock (stamps form laid)) = subst (λ (ms : List ℕ). AllByRecursion (λ m. m ≤ greatest_moment) ms) (sym (moments_from-start (stamps form laid))) b.span in
    ap (λ (r : Result Form CaptureFail). r >>= λ f. records_from f 262144 start_clock 24 (drop 24 bytes)) (header_again bytes form fits o.has)
    ∙ ap (records_from form 262144 start_clock 24) o.behind
    ∙ again form laid 262144 left start_clock 24 rest count b.each span
    ∙ ap (λ (ms : List ℕ). with_front (placed 24 ms laid) (records_from form left (clock_behind start_clock (stamps form laid)) (24 + length (flat_map bytes_of laid)) rest)) (moments_from-start (stamps form laid))

pub capture_again : (bytes : List ℕ) (records : List Rec) → IsBytes bytes → IsCapture bytes records → capture_of bytes ≡ Ok records
capture_again bytes records fits h =
    let front : List Rec = placed 24 (moments (stamps h.form h.laid)) h.laid in
    opened bytes h.form h.laid [] fits h.begins
    ∙ ap (with_front front) (from_end h.form (262144 - length h.laid) (clock_behind start_clock (stamps h.form h.laid)) (24 + length (flat_map bytes_of h.laid)))
    ∙ ap (λ (rs : List Rec). Ok rs) (append-nil front ∙ sym h.places)

fails_as_read : (form : Form) (laid : List Laid) (rest : List ℕ) (place : ℕ) (fail : CaptureFail) → length laid ≤ 262144 → FailsBehind form laid rest place fail → Fails form (262144 - length laid) (clock_behind start_clock (stamps form laid)) place rest fail
fails_as_read form laid rest place (TooMany at) few h = (h.0, let e = h.1 in omega arith)
fails_as_read form laid rest place (ShortRecord at) few h = (h.0, let e = h.1 in omega arith, h.2)
fails_as_read form laid rest place (HugeRecord at len) few h = (h.0, let e = h.1 in omega arith, h.2, h.3, h.4)
fails_as_read form laid rest place (SpanTooLong at) few h =
    (h.0, let e = h.1 in omega arith, h.2, h.3, h.4, subst (λ (m : ℕ). greatest_moment < m) (moment_behind-only (stamps form laid) (stamp_of form rest) h.5 h.6) h.7)
fails_as_read form laid rest place ShortHeader few h = absurd h
fails_as_read form laid rest place (BadMagic number) few h = absurd h
fails_as_read form laid rest place (BadVersion major minor) few h = absurd h
fails_as_read form laid rest place (BadLink link) few h = absurd h
fails_as_read form laid rest place Memory few h = absurd h

at_record_again : (bytes : List ℕ) (fail : CaptureFail) → IsBytes bytes → FailsAtRecord bytes fail → capture_of bytes ≡ Err fail
at_record_again bytes fail fits h =
    let place : ℕ = 24 + length (flat_map bytes_of h.laid) in
    let few = h.begins.few in
    opened bytes h.form h.laid h.rest fits h.begins
    ∙ ap (with_front (placed 24 (moments (stamps h.form h.laid)) h.laid))
    (fails_again h.form (262144 - length h.laid) (clock_behind start_clock (stamps h.form h.laid)) place h.rest fail h.more (fails_as_read h.form h.laid h.rest place fail few h.fails))

at_head_again : (bytes : List ℕ) (fail : CaptureFail) → IsBytes bytes → HeadFails bytes fail → capture_of bytes ≡ Err fail
unfolding capture_of
at_head_again bytes fail fits h =
    ap (λ (r : Result Form CaptureFail). r >>= λ f. records_from f 262144 start_clock 24 (drop 24 bytes)) (head_fails_again bytes fail fits h)

pub refusal_again : (bytes : List ℕ) (fail : CaptureFail) → IsBytes bytes → IsRefusal bytes fail → capture_of bytes ≡ Err fail
refusal_again bytes ShortHeader fits h = at_head_again bytes ShortHeader fits h
refusal_again bytes (BadMagic number) fits h = at_head_again bytes (BadMagic number) fits h
refusal_again bytes (BadVersion major minor) fits h = at_head_again bytes (BadVersion major minor) fits h
refusal_again bytes (BadLink link) fits h = at_head_again bytes (BadLink link) fits h
refusal_again bytes (ShortRecord place) fits h = at_record_again bytes (ShortRecord place) fits h
refusal_again bytes (HugeRecord place len) fits h = at_record_again bytes (HugeRecord place len) fits h
refusal_again bytes (TooMany place) fits h = at_record_again bytes (TooMany place) fits h
refusal_again bytes (SpanTooLong place) fits h = at_record_again bytes (SpanTooLong place) fits h
refusal_again bytes Memory fits h = absurd h

-- ---- what a call answers

answer_is : (fail : CaptureFail) (reading : Result (List Rec) CaptureFail) → Answers (Err fail) reading → fail ≢ Memory → reading ≡ Err fail
answer_is ShortHeader reading h never = sym h
answer_is (BadMagic number) reading h never = sym h
answer_is (BadVersion major minor) reading h never = sym h
answer_is (BadLink link) reading h never = sym h
answer_is (ShortRecord place) reading h never = sym h
answer_is (HugeRecord place len) reading h never = sym h
answer_is (TooMany place) reading h never = sym h
answer_is (SpanTooLong place) reading h never = sym h
answer_is Memory reading h never = absurd (never refl)

pub is_found : (bytes : List ℕ) (r : Result (List Rec) CaptureFail) → Answers r (capture_of bytes) → IfOk r (λ records. IsCapture bytes records)
is_found bytes (Ok records) h = subst (WholeIs bytes) (sym h) (whole_is bytes)
is_found bytes (Err fail) h = tt

pub is_refused : (bytes : List ℕ) (r : Result (List Rec) CaptureFail) → Answers r (capture_of bytes) → IfErr r (λ fail. fail ≢ Memory → IsRefusal bytes fail)
is_refused bytes (Ok records) h = tt
is_refused bytes (Err fail) h = λ never. subst (WholeIs bytes) (answer_is fail (capture_of bytes) h never) (whole_is bytes)
