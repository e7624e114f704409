use Rattle.crossbeam_utils.specs.Seq.{cell_view}
use Rattle.hh_cell.proofs.Passes.{record_spelled, writer_more}
use Rattle.seq_cell.proofs.cell.Cell.publish.Goals as goal

pub write-requires-clause-pair : goal.write-requires-clause-pair
write-requires-clause-pair g c = (c.args.next, c.words-pair.ensures.spelled)

pub returns : goal.returns
returns g c =
    writer_more c.writer.inside.token.table_id c.write.new.token.table_id (cell_view c.writer.inside.token) (cell_view c.write.new.token) c.words-pair.result c.args.next c.args.writer.now c.write.ensures.table c.write.ensures.view
    (record_spelled c.words-pair.result c.args.next c.words-pair.ensures.spelled) c.writer.view_is
