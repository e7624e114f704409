use Rattle.std.proofs.Common.{ℕ, ◌+◌, List, [], ◌∷◌, get_or, ◌++◌, drop, sym, ap, ◌∙◌, arith, append_assoc, append-nil}
use Rattle.std.specs.Prelude.{string_bytes, decimal}
use Rattle.nb_base.specs.declared.outcome.Outcome.TheVariants.{Fast}
use Rattle.text_codes.specs.Lines.{Words, line_text, text_of}
use Rattle.neigh_run.specs.Report.{log_lines, outcome_words}
use Rattle.neigh_report.proofs.Rests.{log_step, log_end}
use Rattle.neigh_report.proofs.logs.write_packets.Goals as goal

pub loop-place-preserved : goal.loop-place-preserved
loop-place-preserved c =
    let i = c.loop-place.place in
    let items = c.args.items.now in
    let log = c.args.log.now in
    let behind = log_lines (i + 1 + 1) (drop (i + 1) items) (drop (i + 1) log) in
    let row = decimal (i + 1) ∷ decimal c.index-items-place.result.at ∷ outcome_words c.index-items-place.result (get_or log i (Fast 0 [])) in
    ap (λ (bytes : List ℕ). bytes ++ text_of behind) c.in_ok-write_packet.ensures
    ∙ append_assoc (string_bytes c.loop-place.report) (line_text row) (text_of behind)
    ∙ ap (λ (rows : List Words). string_bytes c.loop-place.report ++ text_of rows)
    (sym (log_step items log i c.index-items-place.result (Fast 0 []) (omega (arith, c.loop-place-test.true, c.min-packets.ensures)) (omega (arith, c.loop-place-test.true, c.min-packets.ensures)) c.index-items-place.is))
    ∙ c.loop-place.invariant

pub returns : goal.returns
returns c =
    sym (append-nil (string_bytes c.loop-place.report))
    ∙ ap (λ (rows : List Words). string_bytes c.loop-place.report ++ text_of rows) (sym (log_end c.args.items.now c.args.log.now c.loop-place.place (c.loop-place.place + 1) (omega (arith, c.loop-place-test.false, c.min-packets.ensures))))
    ∙ c.loop-place.invariant
