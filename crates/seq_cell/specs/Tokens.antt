-- The tokens' fields, as contracts see them: what the header cell's tokens show.
use Rattle.std.specs.Prelude.{◌≡◌, ◌+◌, true, length, Some, IfSome}
use Rattle.crossbeam_utils.specs.Seq.{cell_view}
use Rattle.hh_core.specs.declared.step.WriterPhase.TheVariants.{Idle}
use Rattle.hh_core.specs.declared.reader.ReaderPhase.TheVariants.{Rest}
use Rattle.hh_cell.specs.Views.{phase_in}
use Rattle.hh_cell.specs.Shown.{WriterShown, PassShown, writer_of, pass_of}
use Rattle.seq_cell.specs.declared.cell.Writer.TheInside as writer
use Rattle.seq_cell.specs.declared.cell.Pass.TheInside as pass

abbrev pub writer_shown : writer.Inside → WriterShown
writer_shown w = writer_of w.token.table_id (cell_view w.token)

-- the writer rests, knows its last number, and the reader that it has taken in rests
pub record IsWriterToken (w : writer.Inside) : Type 0 where
  pub writes : (cell_view w.token).writes ≡ true
  pub phase : (cell_view w.token).phase ≡ Idle
  pub last : length (cell_view w.token).published ≡ w.last + 1
  pub rests : IfSome (cell_view w.token).reader (λ r. r.phase ≡ Rest)

abbrev pub pass_shown : pass.Inside → PassShown
pass_shown p = pass_of p.token.table_id (cell_view p.token).reader

-- the reader rests
pub record IsPassToken (p : pass.Inside) : Type 0 where
  pub rests : phase_in (cell_view p.token) ≡ Some Rest
