use Rattle.std.proofs.Common.{◌≡◌, ◌+◌, ◌++◌, drop}
use Rattle.std.specs.Prelude.{string_bytes}
use Rattle.text_codes.specs.Lines.{text_of}
use Rattle.neigh_run.specs.Report.{log_lines}
use Rattle.neigh_report.proofs.logs.write_packets.Given as goal

abbrev pub invariant-loop-place : goal.invariant-loop-place
invariant-loop-place l = string_bytes l.report ++ text_of (log_lines (l.place + 1) (drop l.place l.items) (drop l.place l.log)) ≡ string_bytes l.fn.report ++ text_of (log_lines 1 l.items l.log)
