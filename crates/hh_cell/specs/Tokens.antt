-- The tokens' fields, as contracts see them.
use Rattle.std.specs.Prelude.{◌≡◌, ◌+◌, true, [], length, Some, IfSome}
use Rattle.hh_core.specs.declared.step.WriterPhase.TheVariants.{Idle}
use Rattle.hh_core.specs.declared.reader.ReaderPhase.TheVariants.{Rest}
use Rattle.hh_cell.specs.declared.cell.Writer.TheInside as writer
use Rattle.hh_cell.specs.declared.cell.Pass.TheInside as pass
use Rattle.hh_cell.specs.Views.{phase_in}
use Rattle.hh_cell.specs.Shown.{WriterShown, PassShown, writer_of, pass_of}

abbrev pub writer_shown : writer.Inside → WriterShown
writer_shown w = writer_of w.seat.table_id w.seat.me.0

-- the writer rests, knows its last number, and the reader that it has taken in rests
pub record IsWriterToken (w : writer.Inside) : Type 0 where
  pub writes : w.seat.me.0.writes ≡ true
  pub phase : w.seat.me.0.phase ≡ Idle
  pub slots : w.seat.me.1 ≡ []
  pub last : length w.seat.me.0.published ≡ w.last + 1
  pub rests : IfSome w.seat.me.0.reader (λ r. r.phase ≡ Rest)

abbrev pub pass_shown : pass.Inside → PassShown
pass_shown p = pass_of p.seat.table_id p.seat.me.0.reader

-- the reader rests
pub record IsPassToken (p : pass.Inside) : Type 0 where
  pub rests : phase_in p.seat.me.0 ≡ Some Rest
  pub slots : p.seat.me.1 ≡ []
