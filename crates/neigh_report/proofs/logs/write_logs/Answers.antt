use Rattle.std.proofs.Common.{ℕ, ◌+◌, List, [], ◌∷◌, ◌++◌, drop, length, sym, ap, ◌∙◌, arith, append_assoc, append-nil}
use Rattle.std.proofs.lemmas.Grind.{flat_map-append}
use Rattle.std.specs.Prelude.{string_bytes, codes, decimal}
use Rattle.text_codes.specs.Lines.{Words, line_text, text_of}
use Rattle.neigh_run.specs.Report.{log_lines, sender_lines}
use Rattle.neigh_report.proofs.Rests.{sender_step, sender_end}
use Rattle.neigh_report.proofs.logs.write_logs.Goals as goal

pub loop-place-preserved : goal.loop-place-preserved
loop-place-preserved c =
    let i = c.loop-place.place in
    let senders = c.args.senders.now in
    let logs = c.args.logs.now in
    let items = c.index-senders-place.result in
    let log = c.index-logs-place.result in
    let old = string_bytes c.loop-place.report in
    let row = codes "sender" ∷ decimal (i + 1) ∷ codes "items" ∷ decimal (length items) ∷ [] in
    let lines = log_lines 1 items log in
    let behind = sender_lines (i + 1 + 1) (drop (i + 1) senders) (drop (i + 1) logs) in
    rw (c.in_ok-write_log.ensures, c.as_slice.ensures, c.as_slice-in-loop-place.ensures)
    (append_assoc old (line_text row ++ text_of lines) (text_of behind)
    ∙ ap (λ (bytes : List ℕ). old ++ bytes) (sym (flat_map-append line_text (row ∷ lines) behind))
    ∙ ap (λ (rows : List Words). old ++ text_of rows)
    (sym (sender_step senders logs i items log (omega (arith, c.loop-place-test.true, c.min-both.ensures)) (omega (arith, c.loop-place-test.true, c.min-both.ensures)) c.index-senders-place.is c.index-logs-place.is))
    ∙ c.loop-place.invariant)

pub returns : goal.returns
returns c =
    sym (append-nil (string_bytes c.loop-place.report))
    ∙ ap (λ (rows : List Words). string_bytes c.loop-place.report ++ text_of rows) (sym (sender_end c.args.senders.now c.args.logs.now c.loop-place.place (c.loop-place.place + 1) (omega (arith, c.loop-place-test.false, c.min-both.ensures))))
    ∙ c.loop-place.invariant
