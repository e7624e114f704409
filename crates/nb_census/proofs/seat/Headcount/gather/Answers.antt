use Rattle.std.proofs.Common.{rules, ◌≡◌, List, [], ◌∷◌, ◌++◌, length, ap, sym, subst, ◌∙◌}
use Rattle.std.specs.Option.{unwrap_or}
use Rattle.nb_census.specs.Shown.{SeatShown, AreFrom}
use Rattle.change_order.proofs.Placed.{one_order_of}
use Rattle.nb_census.proofs.Tokens.{from_front, from_last, gather_more, all_gathered}
use Rattle.nb_census.proofs.seat.Headcount.gather.Goals as goal

pub take-requires-clause-seat : goal.take-requires-clause-seat
take-requires-clause-seat c =
    let inv = c.loop-last.invariant in
    let order : AreFrom c.self.inside.seat.table_id 0 (c.pop.new.self.items ++ c.in-Some.last ∷ []) = subst (λ (ss : List SeatShown). AreFrom c.self.inside.seat.table_id 0 ss) c.in-Some.ensures.items inv.order in
    let same = from_last c.self.inside.seat.table_id 0 c.pop.new.self.items c.in-Some.last order in (
      ap (λ s. s.headcount) c.last.view_is ∙ (same ∙ (sym c.self.invariant.same ∙ sym c.deref.ensures)),
      c.last.invariant.slots,
    )

pub loop-last-preserved : goal.loop-last-preserved
loop-last-preserved c =
    let inv = c.loop-last.invariant in
    let order : AreFrom c.self.inside.seat.table_id 0 (c.pop.new.self.items ++ c.in-Some.last ∷ []) = subst (λ (ss : List SeatShown). AreFrom c.self.inside.seat.table_id 0 ss) c.in-Some.ensures.items inv.order in
    record {
      table = c.take.ensures.0 ∙ inv.table;
      made = ap (λ m. m.0.made) c.take.ensures.1 ∙ inv.made;
      slots = ap (λ m. m.1) c.take.ensures.1 ∙ inv.slots;
      parts = gather_more c.loop-last.rest.items c.pop.new.self.items c.in-Some.last c.last.inside.seat.table_id c.last.inside.seat.me.0.parts c.loop-last.seat.me.0.parts c.take.new.maker.me.0.parts _
          c.in-Some.ensures.items inv.parts c.last.view_is c.last.invariant.one (ap (λ m. m.0.parts) c.take.ensures.1);
      order = from_front c.self.inside.seat.table_id 0 c.pop.new.self.items c.in-Some.last order;
    }

counted_parts : goal.returns-clause-counted
counted_parts c =
    let inv = c.loop-last.invariant in
    let empty : length c.loop-last.rest.items ≡ 0 = search (rules, c.loop-last.rest.ok, c.in_default.ensures.cases.0) in
    all_gathered c.args.self.id c.loop-last.seat.me.0.made (unwrap_or c.self.inside.seat.me.0.made 0) c.args.seats.items c.loop-last.rest.items c.loop-last.seat.me.0.parts c.look_at_all.new.maker.me.0.parts
    c.look_at_all.ensures.1 (inv.made ∙ c.self.invariant.made) empty inv.parts c.requires.order (c.requires.all ∙ sym (ap (λ h. h.buckets) c.self.view_is)) (ap (λ m. m.0.parts) c.look_at_all.ensures.0)

pub returns-clause-counted : goal.returns-clause-counted
returns-clause-counted = counted_parts

pub returns-clause-ordered : goal.returns-clause-ordered
returns-clause-ordered c journals have = one_order_of _ journals (counted_parts c) have
