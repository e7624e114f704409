use Rattle.std.proofs.Common.{◌≡◌, ℕ, ◌+◌, ◌*◌, length, true, ap, subst, ◌∙◌, arith}
use Rattle.hh_core.specs.declared.step.WriterPhase.TheVariants.{Begun, WroteA, WroteB}
use Rattle.hh_cell.specs.Kept.{IsSpelled}
use Rattle.hh_cell.proofs.Stores.{begins, stores_first, stores_next, ends_it}
use Rattle.hh_cell.proofs.store.write.Goals as goal

pub store-requires : goal.store-requires
store-requires g c = (
  c.requires.table.0,
  omega (arith, c.requires.table.1),
  begins c.args.shared.now.table_id.slots c.args.seat.now.id (2 * c.args.last + 1) c.args.seat.now.me g.N.PairName.pair c.requires.writer.0 c.requires.writer.1 (omega (arith, c.requires.room.0)),
)

pub store-requires-2 : goal.store-requires-2
store-requires-2 g c =
    let begun = c.store.ensures in
    let writes : c.store.new.seat.me.0.writes ≡ true = ap (λ m. m.0.writes) begun.2 ∙ c.requires.writer.0 in
    let phase : c.store.new.seat.me.0.phase ≡ Begun g.N.PairName.pair.0 g.N.PairName.pair.1 = ap (λ m. m.0.phase) begun.2 in (
      begun.0 ∙ c.requires.table.0,
      omega (arith, c.requires.table.1),
      stores_first c.args.shared.now.table_id.slots c.store.new.seat.id c.args.pair.now.0 c.store.new.seat.me g.N.PairName.pair writes phase (ap (λ (p : ℕ × ℕ). p.0) c.requires.pair.0),
    )

pub store-requires-3 : goal.store-requires-3
store-requires-3 g c =
    let begun = c.store.ensures in
    let first = c.store-2.ensures in
    let writes : c.store-2.new.seat.me.0.writes ≡ true = ap (λ m. m.0.writes) first.2 ∙ (ap (λ m. m.0.writes) begun.2 ∙ c.requires.writer.0) in
    let phase : c.store-2.new.seat.me.0.phase ≡ WroteA g.N.PairName.pair.0 g.N.PairName.pair.1 = ap (λ m. m.0.phase) first.2 in (
      first.0 ∙ (begun.0 ∙ c.requires.table.0),
      omega (arith, c.requires.table.1),
      stores_next c.args.shared.now.table_id.slots c.store-2.new.seat.id c.args.pair.now.1 c.store-2.new.seat.me g.N.PairName.pair writes phase (ap (λ (p : ℕ × ℕ). p.1) c.requires.pair.0),
    )

pub store-requires-4 : goal.store-requires-4
store-requires-4 g c =
    let begun = c.store.ensures in
    let first = c.store-2.ensures in
    let next = c.store-3.ensures in
    let writes : c.store-3.new.seat.me.0.writes ≡ true = ap (λ m. m.0.writes) next.2 ∙ (ap (λ m. m.0.writes) first.2 ∙ (ap (λ m. m.0.writes) begun.2 ∙ c.requires.writer.0)) in
    let phase : c.store-3.new.seat.me.0.phase ≡ WroteB g.N.PairName.pair.0 g.N.PairName.pair.1 = ap (λ m. m.0.phase) next.2 in
    let same : length c.store-3.new.seat.me.0.published ≡ length c.args.seat.now.me.0.published = ap (λ m. length m.0.published) next.2 ∙ (ap (λ m. length m.0.published) first.2 ∙ ap (λ m. length m.0.published) begun.2) in (
      next.0 ∙ (first.0 ∙ (begun.0 ∙ c.requires.table.0)),
      omega (arith, c.requires.table.1),
      ends_it c.args.shared.now.table_id.slots c.store-3.new.seat.id (2 * c.args.last + 2) c.store-3.new.seat.me g.N.PairName.pair writes phase (omega (arith, same, c.requires.room.0)) (subst IsSpelled c.requires.pair.0 c.requires.pair.1),
    )
