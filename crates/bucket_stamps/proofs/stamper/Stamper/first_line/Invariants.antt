use Rattle.std.specs.Prelude.{Some, [], ◌∷◌}
use Rattle.bucket_stamps.proofs.stamper.Stamper.first_line.Given as goal

abbrev pub ghosts-write_first_line : goal.ghosts-write_first_line
ghosts-write_first_line g a = record { line = Some a.line.now; cells = (a.key.now, g.C.HasCell.cell_of a.cell.now) ∷ [] }
