-- Which files are captures, with which records, and which refusal each other file has (draft-ietf-opsawg-pcap; the limits and the order of the checks are this project's own).
use Rattle.std.specs.Prelude.{◌≡◌, ◌≢◌, ◌<◌, ◌≤◌, ◌+◌, ℕ, List, [], ◌∷◌, ◌++◌, length, map, Result, Err}
use Rattle.std.specs.List.{flat_map, All, AllByRecursion}
use Rattle.std.specs.List.Sorted.{IsNonDecreasing}
use Rattle.pcap_records.specs.declared.capture.Rec.{Rec}
use Rattle.pcap_records.specs.declared.fail.CaptureFail.{CaptureFail}
use Rattle.pcap_records.specs.declared.fail.CaptureFail.TheVariants.{ShortHeader, BadMagic, BadVersion, BadLink, ShortRecord, HugeRecord, TooMany, SpanTooLong, Memory}
use Rattle.pcap_records.specs.declared.form.Form.{Form}
use Rattle.pcap_records.specs.declared.form.Order.TheVariants.{Big}
use Rattle.pcap_records.specs.Form.{field, HasMagic, HasVersion, HasLink, IsHeader, captured_len, stamp_of}
use Rattle.pcap_records.specs.Records.{most_captured, Laid, bytes_of, IsLaid, stamps, moments, placed}

-- the greatest moment of a record: 30 days in milliseconds
abbrev pub greatest_moment : ℕ
greatest_moment = 2592000000

-- the most records of a file
abbrev pub most_records : ℕ
most_records = 262144

-- the file begins with a header and whole records, laid end to end and within every limit, and then comes the rest
pub record Begins (bytes : List ℕ) (form : Form) (laid : List Laid) (rest : List ℕ) : Type 0 where
  pub header : List ℕ
  pub is_header : IsHeader form header
  pub whole : bytes ≡ header ++ (flat_map bytes_of laid ++ rest)
  pub few : length laid ≤ most_records
  pub each : AllByRecursion (IsLaid form) laid
  pub span : AllByRecursion (λ m. m ≤ greatest_moment) (moments (stamps form laid))

-- a file is a capture with these records: a header, then records laid end to end, and nothing behind them
pub record IsCapture (bytes : List ℕ) (records : List Rec) : Type 0 where
  pub form : Form
  pub laid : List Laid
  pub begins : Begins bytes form laid []
  pub places : records ≡ placed 24 (moments (stamps form laid)) laid

-- what the records of every capture keep: their captured bytes lie within a file of this size, their moments never fall and are at most the greatest, and there aren't too many
pub record AreBounded (size : ℕ) (records : List Rec) : Type 0 where
  pub within : All (λ r. r.start + r.len ≤ size) records
  pub order : IsNonDecreasing (map (λ r. r.at) records)
  pub span : All (λ r. r.at ≤ greatest_moment) records
  pub few : length records ≤ most_records

-- every capture's records keep it
abbrev pub CapturesAreBounded : Type 0
CapturesAreBounded = (bytes : List ℕ) (records : List Rec) → IsCapture bytes records → AreBounded (length bytes) records

-- the bytes end within the record that they begin: within its header, or within the captured bytes of a length that is allowed
pub data IsCut (form : Form) (rest : List ℕ) : Type 0 where
  in_header : length rest < 16 → IsCut form rest
  in_captured : 16 ≤ length rest → captured_len form rest ≤ most_captured → length rest < 16 + captured_len form rest → IsCut form rest

-- the moment of a record with this stamp, behind records with these
abbrev pub IsMomentBehind : List ℕ → ℕ → ℕ → Type 0
IsMomentBehind before stamp m = moments (before ++ stamp ∷ []) ≡ moments before ++ m ∷ []

-- the first check that fails of the record that begins the rest, with these records before it: there may be no more; it has no whole header; it has too many bytes; they aren't all there; its moment is too late
abbrev pub FailsBehind : Form → List Laid → List ℕ → ℕ → CaptureFail → Type 0
FailsBehind form laid rest place (TooMany at) = (at ≡ place) × (length laid ≡ most_records)
FailsBehind form laid rest place (ShortRecord at) = (at ≡ place) × (length laid < most_records) × IsCut form rest
FailsBehind form laid rest place (HugeRecord at len) = (at ≡ place) × (length laid < most_records) × (16 ≤ length rest) × (len ≡ captured_len form rest) × (most_captured < len)
FailsBehind form laid rest place (SpanTooLong at) =
    (at ≡ place) × (length laid < most_records) × (16 ≤ length rest) × (captured_len form rest ≤ most_captured) × (16 + captured_len form rest ≤ length rest)
    × (m : ℕ) × IsMomentBehind (stamps form laid) (stamp_of form rest) m × (greatest_moment < m)
FailsBehind form laid rest place _ = ⊥

-- whole records lie before a place, and the one that begins there fails
pub record FailsAtRecord (bytes : List ℕ) (fail : CaptureFail) : Type 0 where
  pub form : Form
  pub laid : List Laid
  pub rest : List ℕ
  pub begins : Begins bytes form laid rest
  pub more : rest ≢ []
  pub fails : FailsBehind form laid rest (24 + length (flat_map bytes_of laid)) fail

-- a magic number in one of the orders, and bytes enough for a header
pub record HasForm (bytes : List ℕ) (form : Form) : Type 0 where
  pub size : 24 ≤ length bytes
  pub magic_number : HasMagic form bytes

-- the first check that fails, in their order: the header's size, its magic number, its version, its link type; then each record's
abbrev pub IsRefusal : List ℕ → CaptureFail → Type 0
IsRefusal bytes ShortHeader = length bytes < 24
IsRefusal bytes (BadMagic number) = (24 ≤ length bytes) × ((form : Form) → ¬ HasMagic form bytes) × (number ≡ field Big 4 0 bytes)
IsRefusal bytes (BadVersion major minor) =
    (form : Form) × HasForm bytes form × (major ≡ field form.order 2 4 bytes) × (minor ≡ field form.order 2 6 bytes) × ¬ HasVersion form bytes
IsRefusal bytes (BadLink link) = (form : Form) × HasForm bytes form × HasVersion form bytes × (link ≡ field form.order 4 20 bytes) × ¬ HasLink form bytes
IsRefusal bytes Memory = ⊥
IsRefusal bytes fail = FailsAtRecord bytes fail

-- a call answers this reading of the file, or that it has no memory
abbrev pub Answers : Result (List Rec) CaptureFail → Result (List Rec) CaptureFail → Type 0
Answers (Err Memory) reading = Unit {0}
Answers answer reading = answer ≡ reading
