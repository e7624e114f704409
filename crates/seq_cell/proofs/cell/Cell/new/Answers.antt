use Rattle.std.proofs.Common.{[], ◌∷◌, rules, ◌∙◌}
use Rattle.crossbeam_utils.specs.Seq.{cell_view}
use Rattle.hh_cell.proofs.Passes.{record_spelled, writer_first}
use Rattle.seq_cell.proofs.Steps.{without_record, opens_first}
use Rattle.seq_cell.proofs.cell.Cell.new.Goals as goal

pub ruled-requires : goal.ruled-requires
ruled-requires g c = (search rules, (search rules, without_record (0 ∷ 0 ∷ 0 ∷ [])))

pub swap_as-requires : goal.swap_as-requires
swap_as-requires g c =
    let made = c.in_ok-words.ensures in
    let pair = c.words-pair.result in
    (search rules, (search rules, (made.0, opens_first c.in_ok-words.token.id (cell_view c.in_ok-words.token) pair made.1 (c.args.first, c.words-pair.ensures.spelled))))

pub returns : goal.returns
returns g c =
    let made = c.in_ok-words.ensures in
    let stored = c.swap_as.ensures in
    let pair = c.words-pair.result in
    writer_first c.in_ok-words.words.table.shared.table_id c.swap_as.new.pass.table_id (cell_view c.swap_as.new.pass) pair c.args.first (stored.cell.0 ∙ made.0) stored.rule (record_spelled pair c.args.first c.words-pair.ensures.spelled)
