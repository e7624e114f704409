use Rattle.std.proofs.Common.{rules}
use Rattle.crossbeam_utils.specs.Seq.{cell_view}
use Rattle.seq_cell.proofs.Steps.{publishes}
use Rattle.seq_cell.proofs.cell.write.Goals as goal

pub swap_as-requires : goal.swap_as-requires
swap_as-requires g c = (
  search rules,
  (
    search rules,
    (
      c.requires.table,
      publishes c.args.token.now.id c.args.last (cell_view c.args.token.now) c.args.pair.now c.requires.writer.0 c.requires.writer.1 c.requires.room.0 c.requires.pair,
    ),
  ),
)
