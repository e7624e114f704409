use Rattle.std.proofs.Common.{rules, ap, sym, ◌∙◌}
use Rattle.crossbeam_utils.specs.Seq.{cell_view}
use Rattle.seq_cell.proofs.Steps.{leaves}
use Rattle.seq_cell.proofs.cell.Cell.leave.Goals as goal

pub split_pass-token-requires : goal.split_pass-token-requires
split_pass-token-requires c =
    let own = c.writer.invariant in (
      search rules,
      (
        search rules,
        (
          ap (λ w. w.cell) c.writer.view_is ∙ (c.requires ∙ sym c.self.view_is),
          leaves c.writer.inside.token.id c.writer.inside.last (cell_view c.writer.inside.token) own.writes own.phase own.last own.rests,
        ),
      ),
    )
