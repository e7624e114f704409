-- What reading a record comes to, an equation for each case.
use Rattle.std.proofs.Common.{◌≡◌, ◌≢◌, ◌<◌, ◌≤◌, ℕ, zero, suc, ◌+◌, ◌-◌, List, [], ◌∷◌, length, drop, Result, Ok, Err, refl, ap, arith}
use Rattle.std.proofs.lemmas.Bool.{le-ltb, lt-ltb}
use Rattle.pcap_records.specs.declared.capture.Rec.{Rec}
use Rattle.pcap_records.specs.declared.clock.Clock.{Clock}
use Rattle.pcap_records.specs.declared.fail.CaptureFail.{CaptureFail}
use Rattle.pcap_records.specs.declared.fail.CaptureFail.TheVariants.{ShortRecord, HugeRecord, TooMany, SpanTooLong}
use Rattle.pcap_records.specs.declared.form.Form.{Form}
use Rattle.pcap_records.specs.Form.{captured_len, stamp_of}
use Rattle.pcap_records.specs.Capture.{greatest_moment}
use Rattle.pcap_records.specs.Reading.{◌>>=◌, len_at, tick, record_at, with_front, unless_empty, records_from}

-- the record at the front is whole, and of an allowed length
pub record HasLen (form : Form) (bytes : List ℕ) (len : ℕ) : Type 0 where
  pub counted : captured_len form bytes ≡ len
  pub limit : len ≤ 262144
  pub whole : 16 + len ≤ length bytes

pub len_short : (form : Form) (place : ℕ) (bytes : List ℕ) → length bytes < 16 → len_at form place bytes ≡ Err (ShortRecord place)
unfolding len_at
len_short form place bytes short = rw (lt-ltb (length bytes) 16 short) refl

pub len_huge : (form : Form) (place : ℕ) (bytes : List ℕ) → 16 ≤ length bytes → 262144 < captured_len form bytes → len_at form place bytes ≡ Err (HugeRecord place (captured_len form bytes))
unfolding len_at
len_huge form place bytes whole huge = rw (le-ltb (length bytes) 16 whole, lt-ltb 262144 (captured_len form bytes) huge) refl

pub len_cut : (form : Form) (place : ℕ) (bytes : List ℕ) → 16 ≤ length bytes → captured_len form bytes ≤ 262144 → length bytes < 16 + captured_len form bytes → len_at form place bytes ≡ Err (ShortRecord place)
unfolding len_at
len_cut form place bytes whole limit cut =
    rw (le-ltb (length bytes) 16 whole, le-ltb 262144 (captured_len form bytes) limit, lt-ltb (length bytes - 16) (captured_len form bytes) (omega arith)) refl

pub len_whole : (form : Form) (place : ℕ) (bytes : List ℕ) (len : ℕ) → HasLen form bytes len → len_at form place bytes ≡ Ok len
unfolding len_at
len_whole form place bytes len h =
    let c = h.counted in
    let l = h.limit in
    let w = h.whole in
    rw (le-ltb (length bytes) 16 (omega arith), le-ltb 262144 (captured_len form bytes) (omega arith), le-ltb (length bytes - 16) (captured_len form bytes) (omega arith)) (ap (λ (n : ℕ). Ok n) h.counted)

pub record_fails : (form : Form) (clock : Clock) (place : ℕ) (bytes : List ℕ) (fail : CaptureFail) → len_at form place bytes ≡ Err fail → record_at form clock place bytes ≡ Err fail
unfolding record_at
record_fails form clock place bytes fail e = rw e refl

pub record_late : (form : Form) (clock : Clock) (place : ℕ) (bytes : List ℕ) (len : ℕ) → HasLen form bytes len → greatest_moment < (tick clock (stamp_of form bytes)).last → record_at form clock place bytes ≡ Err (SpanTooLong place)
unfolding record_at
record_late form clock place bytes len h late = rw (len_whole form place bytes len h, lt-ltb greatest_moment (tick clock (stamp_of form bytes)).last late) refl

pub record_whole : (form : Form) (clock : Clock) (place : ℕ) (bytes : List ℕ) (len : ℕ) → HasLen form bytes len → (tick clock (stamp_of form bytes)).last ≤ greatest_moment
    → record_at form clock place bytes ≡ Ok (record { at = (tick clock (stamp_of form bytes)).last; start = place + 16; len = len }, tick clock (stamp_of form bytes))
unfolding record_at
record_whole form clock place bytes len h timely = rw (len_whole form place bytes len h, le-ltb greatest_moment (tick clock (stamp_of form bytes)).last timely) refl

unless_more : (bytes : List ℕ) (read : Result (List Rec) CaptureFail) → bytes ≢ [] → unless_empty bytes read ≡ read
unless_more [] read more = absurd (more refl)
unless_more (b ∷ bs) read more = refl

pub from_end : (form : Form) (left : ℕ) (clock : Clock) (place : ℕ) → records_from form left clock place [] ≡ Ok []
unfolding records_from
from_end form zero clock place = refl
from_end form (suc left) clock place = refl

pub from_many : (form : Form) (clock : Clock) (place : ℕ) (bytes : List ℕ) → bytes ≢ [] → records_from form zero clock place bytes ≡ Err (TooMany place)
unfolding records_from
from_many form clock place bytes more = unless_more bytes (Err (TooMany place)) more

-- the records behind one
abbrev pub behind_one : Form → ℕ → ℕ → List ℕ → Rec × Clock → Result (List Rec) CaptureFail
behind_one form left place bytes one = with_front (one.0 ∷ []) (records_from form left one.1 (place + 16 + one.0.len) (drop (16 + one.0.len) bytes))

pub from_one : (form : Form) (left : ℕ) (clock : Clock) (place : ℕ) (bytes : List ℕ) → bytes ≢ [] → records_from form (suc left) clock place bytes ≡ (record_at form clock place bytes >>= behind_one form left place bytes)
unfolding records_from
from_one form left clock place bytes more = unless_more bytes (record_at form clock place bytes >>= behind_one form left place bytes) more
