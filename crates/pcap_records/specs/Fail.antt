-- What is told of a refusal: its number, and its place in the file (this project's own).
use Rattle.std.specs.Prelude.{ℕ}
use Rattle.pcap_records.specs.declared.fail.CaptureFail.{CaptureFail}
use Rattle.pcap_records.specs.declared.fail.CaptureFail.TheVariants.{ShortHeader, BadMagic, BadVersion, BadLink, ShortRecord, HugeRecord, TooMany, SpanTooLong, Memory}

abbrev pub code_of : CaptureFail → ℕ
code_of ShortHeader = 1
code_of (BadMagic number) = 2
code_of (BadVersion major minor) = 3
code_of (BadLink link) = 4
code_of (ShortRecord place) = 5
code_of (HugeRecord place len) = 6
code_of (TooMany place) = 7
code_of (SpanTooLong place) = 8
code_of Memory = 9

-- where the field stands that is wrong, or the record begins
abbrev pub place_of : CaptureFail → ℕ
place_of ShortHeader = 0
place_of (BadMagic number) = 0
place_of (BadVersion major minor) = 4
place_of (BadLink link) = 20
place_of (ShortRecord place) = place
place_of (HugeRecord place len) = place
place_of (TooMany place) = place
place_of (SpanTooLong place) = place
place_of Memory = 0
