use Rattle.std.proofs.Common.{◌≡◌, Some, ap, ◌∙◌, arith}
use Rattle.hh_core.specs.declared.reader.ReaderPhase.TheVariants.{HasFirst, HasA, HasB}
use Rattle.hh_cell.specs.Views.{phase_in}
use Rattle.hh_cell.proofs.Loads.{loads_number, loads_the_first, loads_the_next, loads_again}
use Rattle.hh_cell.proofs.Trying.{phase_first, phase_a, phase_b}
use Rattle.hh_cell.proofs.tries.one_try.Goals as goal

pub load-first-requires : goal.load-first-requires
load-first-requires c = (c.requires.table.0, omega (arith, c.requires.table.1), loads_number c.args.shared.now.table_id.slots c.args.seat.now.id c.args.seat.now.me c.requires.reader.0)

pub load-a-requires : goal.load-a-requires
load-a-requires c =
    let first = c.load-first.ensures in
    let phase : phase_in c.load-first.new.seat.me.0 ≡ Some (HasFirst c.load-first.result) = ap (λ m. phase_in m.0) first.2 ∙ phase_first c.args.seat.now.me.0 c.load-first.result c.requires.reader.0 in
    (first.0 ∙ c.requires.table.0, omega (arith, c.requires.table.1), loads_the_first c.args.shared.now.table_id.slots c.load-first.new.seat.id c.load-first.result c.load-first.new.seat.me phase)

pub load-b-requires : goal.load-b-requires
load-b-requires c =
    let first = c.load-first.ensures in
    let a = c.load-a.ensures in
    let phase : phase_in c.load-first.new.seat.me.0 ≡ Some (HasFirst c.load-first.result) = ap (λ m. phase_in m.0) first.2 ∙ phase_first c.args.seat.now.me.0 c.load-first.result c.requires.reader.0 in
    let with_a : phase_in c.load-a.new.seat.me.0 ≡ Some (HasA c.load-first.result c.load-a.result) = ap (λ m. phase_in m.0) a.2 ∙ phase_a c.load-first.new.seat.me.0 c.load-first.result c.load-a.result phase in
    (a.0 ∙ (first.0 ∙ c.requires.table.0), omega (arith, c.requires.table.1), loads_the_next c.args.shared.now.table_id.slots c.load-a.new.seat.id c.load-first.result c.load-a.result c.load-a.new.seat.me with_a)

pub load-second-requires : goal.load-second-requires
load-second-requires c =
    let first = c.load-first.ensures in
    let a = c.load-a.ensures in
    let b = c.load-b.ensures in
    let phase : phase_in c.load-first.new.seat.me.0 ≡ Some (HasFirst c.load-first.result) = ap (λ m. phase_in m.0) first.2 ∙ phase_first c.args.seat.now.me.0 c.load-first.result c.requires.reader.0 in
    let with_a : phase_in c.load-a.new.seat.me.0 ≡ Some (HasA c.load-first.result c.load-a.result) = ap (λ m. phase_in m.0) a.2 ∙ phase_a c.load-first.new.seat.me.0 c.load-first.result c.load-a.result phase in
    let with_b : phase_in c.load-b.new.seat.me.0 ≡ Some (HasB c.load-first.result c.load-a.result c.load-b.result) = ap (λ m. phase_in m.0) b.2 ∙ phase_b c.load-a.new.seat.me.0 c.load-first.result c.load-a.result c.load-b.result with_a in
    (b.0 ∙ (a.0 ∙ (first.0 ∙ c.requires.table.0)), omega (arith, c.requires.table.1), loads_again c.args.shared.now.table_id.slots c.load-b.new.seat.id c.load-first.result c.load-a.result c.load-b.result c.load-b.new.seat.me with_b)
