-- The header of a capture file of the classic format, version 2.4 (draft-ietf-opsawg-pcap, section 4), and the numbers in it.
use Rattle.std.specs.Prelude.{◌≡◌, ◌%◌, ◌*◌, ◌+◌, ◌/◌, ℕ, List, length, drop}
use Rattle.byteorder.specs.Endian.{big_number, little_number}
use Rattle.pcap_records.specs.declared.form.Order.{Order}
use Rattle.pcap_records.specs.declared.form.Order.TheVariants.{Big, Little}
use Rattle.pcap_records.specs.declared.form.Fraction.{Fraction}
use Rattle.pcap_records.specs.declared.form.Fraction.TheVariants.{Microseconds, Nanoseconds}
use Rattle.pcap_records.specs.declared.form.Form.{Form}

-- the number that n bytes spell from a place on, in the order of the file's writer
unfoldable pub field : Order → ℕ → ℕ → List ℕ → ℕ
field Big n place bytes = big_number n (drop place bytes)
field Little n place bytes = little_number n (drop place bytes)

-- the magic number of each unit of fractions
abbrev pub magic : Fraction → ℕ
magic Microseconds = 0xa1b2c3d4
magic Nanoseconds = 0xa1b23c4d

-- how many of a unit make a millisecond
abbrev pub per_millisecond : Fraction → ℕ
per_millisecond Microseconds = 1000
per_millisecond Nanoseconds = 1000000

-- the first four bytes are a magic number, which shows its own unit and the order of all numbers of the file
abbrev pub HasMagic : Form → List ℕ → Type 0
HasMagic form bytes = field form.order 4 0 bytes ≡ magic form.unit

-- the version, major and minor, is 2.4
abbrev pub HasVersion : Form → List ℕ → Type 0
HasVersion form bytes = (field form.order 2 4 bytes ≡ 2) × (field form.order 2 6 bytes ≡ 4)

-- the low 16 bits of the link type are 1, Ethernet (that the upper bits aren't asked is this project's own reading: they tell of a frame check sequence)
abbrev pub HasLink : Form → List ℕ → Type 0
HasLink form bytes = field form.order 4 20 bytes % 65536 ≡ 1

-- a file header: 24 bytes, with a magic number, the version and the link type; two fields of 32 bits and the snapshot length are left unread
pub record IsHeader (form : Form) (bytes : List ℕ) : Type 0 where
  pub size : length bytes ≡ 24
  pub magic_number : HasMagic form bytes
  pub version : HasVersion form bytes
  pub link : HasLink form bytes

-- the stamp in a record's header, in whole milliseconds: seconds, and then a fraction in the file's unit, rounded down
unfoldable pub stamp_of : Form → List ℕ → ℕ
stamp_of form header = field form.order 4 0 header * 1000 + field form.order 4 4 header / per_millisecond form.unit

-- the captured length in a record's header
abbrev pub captured_len : Form → List ℕ → ℕ
captured_len form header = field form.order 4 8 header
