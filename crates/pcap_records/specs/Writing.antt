-- Frames as a big-endian file of microseconds, whose first record is stamped 0 (draft-ietf-opsawg-pcap, sections 4 and 5).
use Rattle.std.specs.Prelude.{◌≡◌, ◌≤◌, ◌*◌, ◌/◌, ◌%◌, ℕ, List, [], ◌∷◌, ◌++◌, length, map}
use Rattle.std.specs.List.{flat_map, AllByRecursion}
use Rattle.byteorder.specs.Endian.{big_bytes}
use Rattle.pcap_records.specs.declared.capture.Rec.{Rec}
use Rattle.pcap_records.specs.declared.capture.Frame.{Frame}
use Rattle.pcap_records.specs.Records.{most_captured, frames_of}
use Rattle.pcap_records.specs.Capture.{greatest_moment, most_records, IsCapture}

-- a frame that fits in a record: not too many bytes, and not too late
pub record IsFrame (f : Frame) : Type 0 where
  pub size : length f.bytes ≤ most_captured
  pub span : f.at ≤ greatest_moment

abbrev pub moments_of : List Frame → List ℕ
moments_of frames = map (λ f. f.at) frames

-- none lies below the one before it, nor below a floor
abbrev pub NeverFalls : ℕ → List ℕ → Type 0
NeverFalls floor [] = Unit {0}
NeverFalls floor (n ∷ ns) = (floor ≤ n) × NeverFalls n ns

-- the first, if there is one, is 0
abbrev pub BeginsAtZero : List ℕ → Type 0
BeginsAtZero [] = Unit {0}
BeginsAtZero (n ∷ ns) = n ≡ 0

-- frames that a file can hold: few enough, each fits, the first at moment 0, and no moment falls
pub record AreFrames (frames : List Frame) : Type 0 where
  pub few : length frames ≤ most_records
  pub each : AllByRecursion IsFrame frames
  pub first : BeginsAtZero (moments_of frames)
  pub order : NeverFalls 0 (moments_of frames)

-- the magic number of microseconds, version 2.4, two unread fields, the snapshot length, which is the most captured bytes of a record, the link type of Ethernet
abbrev pub written_header : List ℕ
written_header = big_bytes 4 0xa1b2c3d4 ++ big_bytes 2 2 ++ big_bytes 2 4 ++ big_bytes 4 0 ++ big_bytes 4 0 ++ big_bytes 4 most_captured ++ big_bytes 4 1

-- seconds, microseconds, the captured length and the original length, which are the same
abbrev pub written_record_header : Frame → List ℕ
written_record_header f =
    big_bytes 4 (f.at / 1000) ++ big_bytes 4 (f.at % 1000 * 1000) ++ big_bytes 4 (length f.bytes) ++ big_bytes 4 (length f.bytes)

unfoldable pub written_record : Frame → List ℕ
written_record f = written_record_header f ++ f.bytes

unfoldable pub written : List Frame → List ℕ
written frames = written_header ++ flat_map written_record frames

-- the file is a capture whose records hold these frames
abbrev pub IsCaptureOf : List ℕ → List Frame → Type 0
IsCaptureOf bytes frames = (records : List Rec) × IsCapture bytes records × (frames_of bytes records ≡ frames)
