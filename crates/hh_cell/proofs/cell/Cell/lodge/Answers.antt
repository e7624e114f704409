use Rattle.std.proofs.Common.{◌≡◌, true, IfSome, ap, sym, subst, ◌∙◌, arith}
use Rattle.hh_core.specs.declared.step.WriterPhase.TheVariants.{Idle}
use Rattle.hh_core.specs.declared.reader.ReaderPhase.TheVariants.{Rest}
use Rattle.hh_cell.specs.Kept.{LookTells}
use Rattle.hh_cell.specs.declared.view.View.{View}
use Rattle.hh_cell.specs.declared.view.Reading.{Reading}
use Rattle.hh_cell.proofs.Lists.{if_some_is}
use Rattle.hh_cell.proofs.Seats.{reader_there}
use Rattle.hh_cell.proofs.Meets.{lodges, looks}
use Rattle.hh_cell.proofs.Passes.{pass_cell, agrees_shown}
use Rattle.hh_cell.proofs.cell.Cell.lodge.Goals as goal

pub join_seat-requires : goal.join_seat-requires
join_seat-requires c =
    let there = reader_there c.pass.inside.seat.me.0.reader Rest c.pass.invariant.rests in (
      ap (λ w. w.cell) c.writer.view_is ∙ (c.requires.writer ∙ sym c.self.view_is),
      pass_cell c.pass.inside.seat.table_id c.pass.inside.seat.me.0.reader c.args.pass c.pass.view_is ∙ (c.requires.pass ∙ sym c.self.view_is),
      c.pass.invariant.slots,
      omega (arith, c.self.invariant),
      lodges c.writer.inside.seat.id c.writer.inside.seat.me.0 c.pass.inside.seat.id c.pass.inside.seat.me.0 there.0 there.1,
    )

pub load-requires : goal.load-requires
load-requires c =
    let joined = c.join_seat.ensures in
    let there = reader_there c.pass.inside.seat.me.0.reader Rest c.pass.invariant.rests in
    let writes : c.join_seat.new.seat.me.0.writes ≡ true = ap (λ m. m.0.writes) joined.2 ∙ c.writer.invariant.writes in
    let phase : c.join_seat.new.seat.me.0.phase ≡ Idle = ap (λ m. m.0.phase) joined.2 ∙ c.writer.invariant.phase in
    let rests : IfSome c.join_seat.new.seat.me.0.reader (λ r. r.phase ≡ Rest) = if_some_is (λ (r : Reading). r.phase ≡ Rest) c.join_seat.new.seat.me.0.reader there.0 (ap (λ m. m.0.reader) joined.2 ∙ there.1) there.2 in (
      joined.0 ∙ (ap (λ w. w.cell) c.writer.view_is ∙ (c.requires.writer ∙ sym c.self.view_is)),
      omega (arith, c.self.invariant),
      looks c.self.inside.table.shared.table_id.slots c.join_seat.new.seat.id c.join_seat.new.seat.me writes phase rests,
    )

pub returns-clause-agrees : goal.returns-clause-agrees
returns-clause-agrees c =
    let F : View → Type 0 = λ u. IfSome u.reader (LookTells u.published) in
    let told : IfSome c.pass.inside.seat.me.0.reader (LookTells c.writer.inside.seat.me.0.published) = subst F (ap (λ m. m.0) c.join_seat.ensures.2) c.load.ensures.2.1 in
    agrees_shown c.writer.inside.seat.table_id c.pass.inside.seat.table_id c.writer.inside.seat.me.0 c.pass.inside.seat.me.0 c.args.writer.now c.args.pass c.writer.view_is c.pass.view_is c.pass.invariant.rests told
