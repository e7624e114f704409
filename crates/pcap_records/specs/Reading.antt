-- The reading of a file from left to right, a check at a time. `IsCapture` and `IsRefusal` say what it comes to.
use Rattle.std.specs.Prelude.{ℕ, zero, suc, ◌+◌, ◌-◌, ◌%◌, ◌&&◌, not, ◌==◌, nat_lt, max, unwrap_or, if◌then◌else◌, List, [], ◌∷◌, ◌++◌, length, drop, Option, Some, None, Result, Ok, Err}
use Rattle.pcap_records.specs.declared.capture.Rec.{Rec}
use Rattle.pcap_records.specs.declared.clock.Clock.{Clock}
use Rattle.pcap_records.specs.declared.fail.CaptureFail.{CaptureFail}
use Rattle.pcap_records.specs.declared.fail.CaptureFail.TheVariants.{ShortHeader, BadMagic, BadVersion, BadLink, ShortRecord, HugeRecord, TooMany, SpanTooLong}
use Rattle.pcap_records.specs.declared.form.Order.TheVariants.{Big, Little}
use Rattle.pcap_records.specs.declared.form.Fraction.{Fraction}
use Rattle.pcap_records.specs.declared.form.Fraction.TheVariants.{Microseconds, Nanoseconds}
use Rattle.pcap_records.specs.declared.form.Form.{Form}
use Rattle.pcap_records.specs.Form.{field, captured_len, stamp_of}
use Rattle.pcap_records.specs.Records.{most_captured}
use Rattle.pcap_records.specs.Capture.{greatest_moment, most_records}

infixl 10 ◌>>=◌
abbrev pub ◌>>=◌ : {A B : Type 0} → Result A CaptureFail → (A → Result B CaptureFail) → Result B CaptureFail
(Ok x) >>= f = f x
(Err e) >>= f = Err e

-- the unit whose magic number this is
abbrev pub unit_of : ℕ → Option Fraction
unit_of number = if number == 0xa1b2c3d4 then Some Microseconds else if number == 0xa1b23c4d then Some Nanoseconds else None

abbrev pub little_form : Option Fraction → Option Form
little_form None = None
little_form (Some unit) = Some (record { order = Little; unit = unit })

abbrev pub big_form : Option Fraction → Option Form → Option Form
big_form None other = other
big_form (Some unit) other = Some (record { order = Big; unit = unit })

-- the form that the first four bytes show
unfoldable pub form_of : List ℕ → Option Form
form_of bytes = big_form (unit_of (field Big 4 0 bytes)) (little_form (unit_of (field Little 4 0 bytes)))

abbrev pub form_or_fail : ℕ → Option Form → Result Form CaptureFail
form_or_fail number None = Err (BadMagic number)
form_or_fail number (Some form) = Ok form

-- the version and the link type of a header whose form is known
unfoldable pub checked : Form → List ℕ → Result Form CaptureFail
checked form bytes =
    if not (field form.order 2 4 bytes == 2 && field form.order 2 6 bytes == 4) then Err (BadVersion (field form.order 2 4 bytes) (field form.order 2 6 bytes))
    else if not (field form.order 4 20 bytes % 65536 == 1) then Err (BadLink (field form.order 4 20 bytes))
    else Ok form

unfoldable pub header_of : List ℕ → Result Form CaptureFail
header_of bytes =
    if nat_lt (length bytes) 24 then Err ShortHeader else (form_or_fail (field Big 4 0 bytes) (form_of bytes) >>= λ form. checked form bytes)

-- the captured length of the record at the front of the rest, all of whose bytes are there
unfoldable pub len_at : Form → ℕ → List ℕ → Result ℕ CaptureFail
len_at form place rest =
    if nat_lt (length rest) 16 then Err (ShortRecord place)
    else if nat_lt most_captured (captured_len form rest) then Err (HugeRecord place (captured_len form rest))
    else if nat_lt (length rest - 16) (captured_len form rest) then Err (ShortRecord place)
    else Ok (captured_len form rest)

-- the first stamp, and the moment, once a record with this stamp is read
unfoldable pub tick : Clock → ℕ → Clock
tick clock stamp = record { first = Some (unwrap_or clock.first stamp); last = max clock.last (stamp - unwrap_or clock.first stamp) }

-- the record at the front of the rest, and the clock behind it
unfoldable pub record_at : Form → Clock → ℕ → List ℕ → Result (Rec × Clock) CaptureFail
record_at form clock place rest = len_at form place rest >>= λ len.
    if nat_lt greatest_moment (tick clock (stamp_of form rest)).last then Err (SpanTooLong place)
    else Ok (record { at = (tick clock (stamp_of form rest)).last; start = place + 16; len = len }, tick clock (stamp_of form rest))

abbrev pub with_front : List Rec → Result (List Rec) CaptureFail → Result (List Rec) CaptureFail
with_front front read = read >>= λ records. Ok (front ++ records)

abbrev pub unless_empty : List ℕ → Result (List Rec) CaptureFail → Result (List Rec) CaptureFail
unless_empty [] read = Ok []
unless_empty (b ∷ bs) read = read

-- the records of the rest, of which there may be so many
unfoldable pub records_from : Form → ℕ → Clock → ℕ → List ℕ → Result (List Rec) CaptureFail
records_from form zero clock place rest = unless_empty rest (Err (TooMany place))
records_from form (suc left) clock place rest = unless_empty rest
    (record_at form clock place rest >>= λ one. with_front (one.0 ∷ []) (records_from form left one.1 (place + 16 + one.0.len) (drop (16 + one.0.len) rest)))

-- before the first record
abbrev pub start_clock : Clock
start_clock = record { first = None; last = 0 }

unfoldable pub capture_of : List ℕ → Result (List Rec) CaptureFail
capture_of bytes = header_of bytes >>= λ form. records_from form most_records start_clock 24 (drop 24 bytes)
