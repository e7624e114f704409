-- Reading records from left to right finds the records that lie there, and those that lie there are found.
use Rattle.std.proofs.Common.{◌≡◌, ◌≢◌, ◌<◌, ◌≤◌, ℕ, zero, suc, ◌+◌, ◌-◌, List, [], ◌∷◌, ◌++◌, length, take, drop, Result, Ok, Err, refl, sym, ap, subst, ◌∙◌, arith, inl, inr, append_assoc, length-append}
use Rattle.std.specs.List.{flat_map, AllByRecursion}
use Rattle.std.proofs.lemmas.Bool.{cases_lt}
use Rattle.std.proofs.lemmas.List.{take-append-drop, drop_at, length-take-le, length-drop}
use Rattle.std.proofs.lemmas.List.Concat.{flat_map-cons}
use Rattle.pcap_records.specs.declared.capture.Rec.{Rec}
use Rattle.pcap_records.specs.declared.clock.Clock.{Clock}
use Rattle.pcap_records.specs.declared.fail.CaptureFail.{CaptureFail}
use Rattle.pcap_records.specs.declared.fail.CaptureFail.TheVariants.{ShortRecord, HugeRecord, TooMany, SpanTooLong}
use Rattle.pcap_records.specs.declared.form.Form.{Form}
use Rattle.pcap_records.specs.Form.{captured_len, stamp_of}
use Rattle.pcap_records.specs.Records.{Laid, bytes_of, IsLaid, stamps, placed}
use Rattle.pcap_records.specs.Capture.{greatest_moment, IsCut}
use Rattle.pcap_records.specs.Capture.IsCut.{in_header, in_captured}
use Rattle.pcap_records.specs.Reading.{◌>>=◌, len_at, tick, record_at, with_front, records_from}
use Rattle.pcap_records.proofs.Fields.{stamp_of-append, captured_len-append}
use Rattle.pcap_records.proofs.Moments.{moments_from, clock_behind}
use Rattle.pcap_records.proofs.Steps.{HasLen, len_short, len_huge, len_cut, len_whole, record_fails, record_late, record_whole, from_end, from_many, behind_one, from_one}

-- the first check that fails of the record at the front, where so many may still come
abbrev pub Fails : Form → ℕ → Clock → ℕ → List ℕ → CaptureFail → Type 0
Fails form left clock place rest (TooMany at) = (at ≡ place) × (left ≡ 0)
Fails form left clock place rest (ShortRecord at) = (at ≡ place) × (0 < left) × IsCut form rest
Fails form left clock place rest (HugeRecord at len) = (at ≡ place) × (0 < left) × (16 ≤ length rest) × (len ≡ captured_len form rest) × (262144 < len)
Fails form left clock place rest (SpanTooLong at) =
    (at ≡ place) × (0 < left) × (16 ≤ length rest) × (captured_len form rest ≤ 262144) × (16 + captured_len form rest ≤ length rest)
    × (greatest_moment < (tick clock (stamp_of form rest)).last)
Fails form left clock place rest _ = ⊥

-- ---- one record

-- what a record at the front comes to
abbrev pub one_of : Form → Clock → ℕ → Laid → Rec × Clock
one_of form clock place laid = (record { at = (tick clock (stamp_of form laid.header)).last; start = place + 16; len = length laid.captured }, tick clock (stamp_of form laid.header))

pub record IsOne (form : Form) (clock : Clock) (place : ℕ) (bytes : List ℕ) (one : Rec × Clock) : Type 0 where
  pub laid : Laid
  pub more : List ℕ
  pub parts : bytes ≡ bytes_of laid ++ more
  pub is_laid : IsLaid form laid
  pub timely : (tick clock (stamp_of form laid.header)).last ≤ greatest_moment
  pub one_is : one ≡ one_of form clock place laid

abbrev LenIs : Form → ℕ → List ℕ → Result ℕ CaptureFail → Type 0
LenIs form place bytes (Ok len) = HasLen form bytes len
LenIs form place bytes (Err fail) = (left : ℕ) (clock : Clock) → 0 < left → Fails form left clock place bytes fail

len_is : (form : Form) (place : ℕ) (bytes : List ℕ) → LenIs form place bytes (len_at form place bytes)
len_is form place bytes =
    elim (cases_lt (length bytes) 16) [
      | inl short ↦ subst (LenIs form place bytes) (sym (len_short form place bytes short)) (λ left clock some. (refl, some, in_header short))
      | inr whole ↦ elim (cases_lt 262144 (captured_len form bytes)) [
        | inl huge ↦ subst (LenIs form place bytes) (sym (len_huge form place bytes whole huge)) (λ left clock some. (refl, some, whole, refl, huge))
        | inr limit ↦ elim (cases_lt (length bytes) (16 + captured_len form bytes)) [
          | inl cut ↦ subst (LenIs form place bytes) (sym (len_cut form place bytes whole limit cut)) (λ left clock some. (refl, some, in_captured whole limit cut))
          | inr all ↦
              let h : HasLen form bytes (captured_len form bytes) = record { counted = refl; limit = limit; whole = all } in
              subst (LenIs form place bytes) (sym (len_whole form place bytes (captured_len form bytes) h)) h
        ]
      ]
    ]

abbrev pub RecordIs : Form → Clock → ℕ → List ℕ → Result (Rec × Clock) CaptureFail → Type 0
RecordIs form clock place bytes (Ok one) = IsOne form clock place bytes one
RecordIs form clock place bytes (Err fail) = (left : ℕ) → 0 < left → Fails form left clock place bytes fail

-- the record at the front, cut off
abbrev cut_off : List ℕ → ℕ → Laid
cut_off bytes len = record { header = take 16 bytes; captured = take len (drop 16 bytes) }

cut_off-parts : (bytes : List ℕ) (len : ℕ) → bytes ≡ bytes_of (cut_off bytes len) ++ drop len (drop 16 bytes)
cut_off-parts bytes len =
    sym (append_assoc (take 16 bytes) (take len (drop 16 bytes)) (drop len (drop 16 bytes)) ∙ ap (λ (x : List ℕ). take 16 bytes ++ x) (take-append-drop len (drop 16 bytes)) ∙ take-append-drop 16 bytes)

is_cut_off : (form : Form) (bytes : List ℕ) (len : ℕ) → HasLen form bytes len → IsLaid form (cut_off bytes len) × (stamp_of form (take 16 bytes) ≡ stamp_of form bytes)
is_cut_off form bytes len h =
    let w = h.whole in
    let l = h.limit in
    let head : length (take 16 bytes) ≡ 16 = length-take-le 16 bytes (omega arith) in
    let body : length (take len (drop 16 bytes)) ≡ len = length-take-le len (drop 16 bytes) (omega (arith, length-drop 16 bytes)) in
    let again : take 16 bytes ++ drop 16 bytes ≡ bytes = take-append-drop 16 bytes in
    let counted : captured_len form (take 16 bytes) ≡ captured_len form bytes = sym (captured_len-append form (take 16 bytes) (drop 16 bytes) (omega arith)) ∙ ap (captured_len form) again in
    let stamp : stamp_of form (take 16 bytes) ≡ stamp_of form bytes = sym (stamp_of-append form (take 16 bytes) (drop 16 bytes) (omega arith)) ∙ ap (stamp_of form) again in
    (record { size = head; counted = counted ∙ h.counted ∙ sym body; limit = omega arith }, stamp)

record_of_len : (form : Form) (clock : Clock) (place : ℕ) (bytes : List ℕ) (len : ℕ) → HasLen form bytes len → RecordIs form clock place bytes (record_at form clock place bytes)
record_of_len form clock place bytes len h =
    let cut = is_cut_off form bytes len h in
    let body : length (take len (drop 16 bytes)) ≡ len = let w = h.whole in length-take-le len (drop 16 bytes) (omega (arith, length-drop 16 bytes)) in
    elim (cases_lt greatest_moment (tick clock (stamp_of form bytes)).last) [
      | inl late ↦ subst (RecordIs form clock place bytes) (sym (record_late form clock place bytes len h late))
          (λ left some. let c = h.counted in let l = h.limit in let w = h.whole in (refl, some, omega arith, omega arith, omega arith, late))
      | inr timely ↦ subst (RecordIs form clock place bytes) (sym (record_whole form clock place bytes len h timely))
          (record {
            laid = cut_off bytes len;
            more = drop len (drop 16 bytes);
            parts = cut_off-parts bytes len;
            is_laid = cut.0;
            timely = rw cut.1 timely;
            one_is = rw (cut.1, body) refl;
          })
    ]

record_is : (form : Form) (clock : Clock) (place : ℕ) (bytes : List ℕ) → RecordIs form clock place bytes (record_at form clock place bytes)
record_is form clock place bytes = by_len (len_at form place bytes) refl (len_is form place bytes)
  where
    by_len : (r : Result ℕ CaptureFail) → len_at form place bytes ≡ r → LenIs form place bytes r → RecordIs form clock place bytes (record_at form clock place bytes)
    by_len (Ok len) e h = record_of_len form clock place bytes len h
    by_len (Err fail) e h = subst (RecordIs form clock place bytes) (sym (record_fails form clock place bytes fail e)) (λ left some. h left clock some)

-- ---- records laid end to end

-- records lie before a rest, within every limit but their number
pub record Takes (form : Form) (clock : Clock) (bytes : List ℕ) (laid : List Laid) (rest : List ℕ) : Type 0 where
  pub whole : bytes ≡ flat_map bytes_of laid ++ rest
  pub each : AllByRecursion (IsLaid form) laid
  pub span : AllByRecursion (λ m. m ≤ greatest_moment) (moments_from clock (stamps form laid))

-- all of the bytes are these records
pub record AreRecords (form : Form) (left : ℕ) (clock : Clock) (place : ℕ) (bytes : List ℕ) (records : List Rec) : Type 0 where
  pub laid : List Laid
  pub takes : Takes form clock bytes laid []
  pub few : length laid ≤ left
  pub places : records ≡ placed place (moments_from clock (stamps form laid)) laid

-- behind records that lie there one fails
pub record FailsIn (form : Form) (left : ℕ) (clock : Clock) (place : ℕ) (bytes : List ℕ) (fail : CaptureFail) : Type 0 where
  pub laid : List Laid
  pub rest : List ℕ
  pub takes : Takes form clock bytes laid rest
  pub few : length laid ≤ left
  pub more : rest ≢ []
  pub fails : Fails form (left - length laid) (clock_behind clock (stamps form laid)) (place + length (flat_map bytes_of laid)) rest fail

abbrev pub Reads : Form → ℕ → Clock → ℕ → List ℕ → Result (List Rec) CaptureFail → Type 0
Reads form left clock place bytes (Ok records) = AreRecords form left clock place bytes records
Reads form left clock place bytes (Err fail) = FailsIn form left clock place bytes fail

nothing_there : (form : Form) (left : ℕ) (clock : Clock) (place : ℕ) → Reads form left clock place [] (records_from form left clock place [])
nothing_there form left clock place =
    subst (Reads form left clock place []) (sym (from_end form left clock place)) (record {
      laid = [];
      takes = record { whole = refl; each = tt; span = tt };
      few = omega arith;
      places = refl;
    })

fails_at_once : (form : Form) (left : ℕ) (clock : Clock) (place : ℕ) (bytes : List ℕ) (fail : CaptureFail) → bytes ≢ [] → Fails form left clock place bytes fail → FailsIn form left clock place bytes fail
fails_at_once form left clock place bytes fail more h =
    let k : left - 0 ≡ left = omega arith in
    let p : place + 0 ≡ place = omega arith in
    record {
      laid = [];
      rest = bytes;
      takes = record { whole = refl; each = tt; span = tt };
      few = omega arith;
      more = more;
      fails = subst (λ (n : ℕ). Fails form n clock (place + 0) bytes fail) (sym k) (subst (λ (n : ℕ). Fails form left clock n bytes fail) (sym p) h);
    }

-- a record in front of others
takes_one : (form : Form) (clock : Clock) (bytes : List ℕ) (one : Laid) (more : List ℕ) (laid : List Laid) (rest : List ℕ) → bytes ≡ bytes_of one ++ more → IsLaid form one → (tick clock (stamp_of form one.header)).last ≤ greatest_moment
    → Takes form (tick clock (stamp_of form one.header)) more laid rest → Takes form clock bytes (one ∷ laid) rest
takes_one form clock bytes one more laid rest parts is_laid timely t = record {
  whole = parts ∙ ap (λ (x : List ℕ). bytes_of one ++ x) t.whole ∙ sym (append_assoc (bytes_of one) (flat_map bytes_of laid) rest) ∙ ap (λ (x : List ℕ). x ++ rest) (sym (flat_map-cons bytes_of one laid));
  each = (is_laid, t.each);
  span = (timely, t.span);
}

-- what stands behind a record, with it in front
reads_behind : (form : Form) (left : ℕ) (clock : Clock) (place : ℕ) (bytes : List ℕ) (one : Laid) (more : List ℕ) → bytes ≡ bytes_of one ++ more → IsLaid form one → (tick clock (stamp_of form one.header)).last ≤ greatest_moment
    → (r : Result (List Rec) CaptureFail) → Reads form left (tick clock (stamp_of form one.header)) (place + 16 + length one.captured) more r → Reads form (suc left) clock place bytes (with_front ((one_of form clock place one).0 ∷ []) r)
reads_behind form left clock place bytes one more parts is_laid timely (Ok records) h =
    let few = h.few in
    record {
      laid = one ∷ h.laid;
      takes = takes_one form clock bytes one more h.laid [] parts is_laid timely h.takes;
      few = omega arith;
      places = ap (λ (rs : List Rec). (one_of form clock place one).0 ∷ rs) h.places;
    }
reads_behind form left clock place bytes one more parts is_laid timely (Err fail) h =
    let few = h.few in
    let size = is_laid.size in
    let k : left - length h.laid ≡ suc left - suc (length h.laid) = omega arith in
    let p : place + 16 + length one.captured + length (flat_map bytes_of h.laid) ≡ place + length (flat_map bytes_of (one ∷ h.laid)) =
    omega (arith, ap length (flat_map-cons bytes_of one h.laid), length-append (bytes_of one) (flat_map bytes_of h.laid), length-append one.header one.captured) in
    record {
      laid = one ∷ h.laid;
      rest = h.rest;
      takes = takes_one form clock bytes one more h.laid h.rest parts is_laid timely h.takes;
      few = omega arith;
      more = h.more;
      fails = subst (λ (n : ℕ). Fails form n (clock_behind clock (stamps form (one ∷ h.laid))) (place + length (flat_map bytes_of (one ∷ h.laid))) h.rest fail) k
          (subst (λ (n : ℕ). Fails form (left - length h.laid) (clock_behind clock (stamps form (one ∷ h.laid))) n h.rest fail) p h.fails);
    }

-- a record and what stands behind it
reads_one : (form : Form) (left : ℕ) (clock : Clock) (place : ℕ) (bytes : List ℕ) → bytes ≢ [] → ((c : Clock) (p : ℕ) (bs : List ℕ) → Reads form left c p bs (records_from form left c p bs))
    → (r : Result (Rec × Clock) CaptureFail) → RecordIs form clock place bytes r → Reads form (suc left) clock place bytes (r >>= behind_one form left place bytes)
reads_one form left clock place bytes more others (Ok one) h =
    let size = h.is_laid.size in
    let long : length (bytes_of h.laid) ≡ 16 + length h.laid.captured = omega (arith, length-append h.laid.header h.laid.captured) in
    let behind : drop (16 + length h.laid.captured) bytes ≡ h.more = ap (drop (16 + length h.laid.captured)) h.parts ∙ drop_at (bytes_of h.laid) h.more (16 + length h.laid.captured) long in
    let so : behind_one form left place bytes (one_of form clock place h.laid) ≡ with_front ((one_of form clock place h.laid).0 ∷ []) (records_from form left (tick clock (stamp_of form h.laid.header)) (place + 16 + length h.laid.captured) h.more) =
    ap (λ (bs : List ℕ). with_front ((one_of form clock place h.laid).0 ∷ []) (records_from form left (tick clock (stamp_of form h.laid.header)) (place + 16 + length h.laid.captured) bs)) behind in
    subst (Reads form (suc left) clock place bytes) (sym (ap (behind_one form left place bytes) h.one_is ∙ so))
    (reads_behind form left clock place bytes h.laid h.more h.parts h.is_laid h.timely
    (records_from form left (tick clock (stamp_of form h.laid.header)) (place + 16 + length h.laid.captured) h.more)
    (others (tick clock (stamp_of form h.laid.header)) (place + 16 + length h.laid.captured) h.more))
reads_one form left clock place bytes more others (Err fail) h = fails_at_once form (suc left) clock place bytes fail more (h (suc left) (omega arith))

-- what is read lies there, and what is refused fails there
pub reads : (form : Form) (left : ℕ) (clock : Clock) (place : ℕ) (bytes : List ℕ) → Reads form left clock place bytes (records_from form left clock place bytes)
reads form left clock place [] = nothing_there form left clock place
reads form zero clock place (b ∷ bs) =
    let more : (b ∷ bs) ≢ [] = λ e. cc in
    subst (Reads form zero clock place (b ∷ bs)) (sym (from_many form clock place (b ∷ bs) more)) (fails_at_once form zero clock place (b ∷ bs) (TooMany place) more (refl, refl))
reads form (suc left) clock place (b ∷ bs) =
    let more : (b ∷ bs) ≢ [] = λ e. cc in
    subst (Reads form (suc left) clock place (b ∷ bs)) (sym (from_one form left clock place (b ∷ bs) more))
    (reads_one form left clock place (b ∷ bs) more (λ c p bytes. reads form left c p bytes) (record_at form clock place (b ∷ bs)) (record_is form clock place (b ∷ bs)))
