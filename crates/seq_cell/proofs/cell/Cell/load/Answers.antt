use Rattle.std.proofs.Common.{rules, sym, ◌∙◌}
use Rattle.std.specs.Prelude.{slice_index}
use Rattle.crossbeam_utils.specs.Seq.{cell_view}
use Rattle.hh_cell.proofs.Passes.{pass_cell, read_once}
use Rattle.seq_cell.proofs.Steps.{tries}
use Rattle.seq_cell.proofs.cell.Cell.load.Goals as goal

pub load_as-loaded-requires : goal.load_as-loaded-requires
load_as-loaded-requires g c = (
  search rules,
  (
    search rules,
    (
      pass_cell c.pass.inside.token.table_id (cell_view c.pass.inside.token).reader c.args.pass.now c.pass.view_is ∙ (c.requires ∙ sym c.self.view_is),
      tries c.pass.inside.token.id (cell_view c.pass.inside.token) c.pass.invariant.rests,
    ),
  ),
)

pub returns-clause-read : goal.returns-clause-read
returns-clause-read g c =
    let made = c.load_as-loaded.ensures in
    let found = c.load_as-loaded.result in
    let n = slice_index found 0 in
    read_once c.pass.inside.token.table_id c.load_as-loaded.new.pass.table_id (cell_view c.pass.inside.token) (cell_view c.load_as-loaded.new.pass) n (slice_index found 1) (slice_index found 2) n c.in-Some.found c.args.pass.now
    c.pass.view_is made.cell.0 made.rule.became c.pass.invariant.rests made.rule.tells made.rule.good c.in-Some.ensures.found
