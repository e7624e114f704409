use Rattle.std.proofs.Common.{◌≡◌, ◌++◌, take}
use Rattle.std.specs.Prelude.{string_bytes}
use Rattle.text_codes.specs.HexText.{hex_text}
use Rattle.neigh_report.proofs.words.write_hex.Given as goal

abbrev pub invariant-loop-byte : goal.invariant-loop-byte
invariant-loop-byte l = string_bytes l.report ≡ string_bytes l.fn.report ++ hex_text (take l.byte-index l.bytes)
