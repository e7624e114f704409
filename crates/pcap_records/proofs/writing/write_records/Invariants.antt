use Rattle.std.proofs.Common.{◌≡◌, ◌++◌, take}
use Rattle.std.specs.List.{flat_map}
use Rattle.pcap_records.specs.Writing.{written_header, written_record}
use Rattle.pcap_records.proofs.writing.write_records.Given as goal

abbrev pub invariant-loop-frame : goal.invariant-loop-frame
invariant-loop-frame l = l.out.items ≡ written_header ++ flat_map written_record (take l.frame-index l.frames)
