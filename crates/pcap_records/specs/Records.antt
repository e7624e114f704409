-- The records of a capture file (draft-ietf-opsawg-pcap, section 5), laid end to end behind its header, and their moments.
use Rattle.std.specs.Prelude.{◌≡◌, ◌≤◌, ℕ, ◌+◌, ◌-◌, max, List, [], ◌∷◌, ◌++◌, length, map, take, drop}
use Rattle.pcap_records.specs.declared.capture.Rec.{Rec}
use Rattle.pcap_records.specs.declared.capture.Frame.{Frame}
use Rattle.pcap_records.specs.declared.form.Form.{Form}
use Rattle.pcap_records.specs.Form.{captured_len, stamp_of}

-- the most captured bytes of a record (this project's own)
abbrev pub most_captured : ℕ
most_captured = 262144

-- a record as it lies in the file: its header, and the captured bytes
pub record Laid : Type 0 where
  pub header : List ℕ
  pub captured : List ℕ

abbrev pub bytes_of : Laid → List ℕ
bytes_of r = r.header ++ r.captured

-- a header of 16 bytes, whose captured length is the number of the captured bytes, within their limit; the original length is left unread
pub record IsLaid (form : Form) (r : Laid) : Type 0 where
  pub size : length r.header ≡ 16
  pub counted : captured_len form r.header ≡ length r.captured
  pub limit : length r.captured ≤ most_captured

-- each stamp in its file's order
abbrev pub stamps : Form → List Laid → List ℕ
stamps form laid = map (λ r. stamp_of form r.header) laid

-- numbers of which none lies below the one before it, nor below a floor: one that would is raised to it
abbrev pub never_falling : ℕ → List ℕ → List ℕ
never_falling floor [] = []
never_falling floor (n ∷ ns) = max floor n ∷ never_falling (max floor n) ns

-- the moments of stamps: how far each lies behind the first, 0 where it lies before it, never falling (this project's own)
abbrev pub moments : List ℕ → List ℕ
moments [] = []
moments (first ∷ others) = never_falling 0 (map (λ stamp. stamp - first) (first ∷ others))

-- the records from a place on, with their moments: the captured bytes of each begin 16 bytes behind its place, and the next record's place is their end
abbrev pub placed : ℕ → List ℕ → List Laid → List Rec
placed place [] laid = []
placed place (m ∷ ms) [] = []
placed place (m ∷ ms) (r ∷ rs) = record { at = m; start = place + 16; len = length r.captured } ∷ placed (place + 16 + length r.captured) ms rs

-- what records of a file hold: the moment of each, and its captured bytes
abbrev pub frames_of : List ℕ → List Rec → List Frame
frames_of bytes records = map (λ r. record { at = r.at; bytes = take r.len (drop r.start bytes) }) records
