use Rattle.std.proofs.Common.{◌≡◌, ◌+◌, ◌++◌, drop}
use Rattle.std.specs.Prelude.{string_bytes}
use Rattle.text_codes.specs.Lines.{text_of}
use Rattle.neigh_run.specs.Report.{sender_lines}
use Rattle.neigh_report.proofs.logs.write_logs.Given as goal

abbrev pub invariant-loop-place : goal.invariant-loop-place
invariant-loop-place l = string_bytes l.report ++ text_of (sender_lines (l.place + 1) (drop l.place l.senders) (drop l.place l.logs)) ≡ string_bytes l.fn.report ++ text_of (sender_lines 1 l.senders l.logs)
