use Rattle.std.proofs.Common.{◌≡◌, true, Some, None, ap, sym, ◌∙◌, arith}
use Rattle.bucket_stamps.specs.declared.view.View.{View}
use Rattle.bucket_stamps.specs.Shown.{StamperShown, StampShown}
use Rattle.bucket_stamps.proofs.Steps.{lodges, looks}
use Rattle.bucket_stamps.proofs.Tokens.{same_view}
use Rattle.bucket_stamps.proofs.stamper.Stamper.lodge.Goals as goal

pub join_seat-requires : goal.join_seat-requires
join_seat-requires c =
    let free : c.self.inside.seat.me.0.part ≡ None = ap (λ (s : StamperShown). s.lodged) c.self.view_is ∙ c.requires.free in
    let mine : c.stamp.invariant.v ≡ c.into_seat.result.me.0 = same_view c.stamp.inside.badge.views c.stamp.invariant.v c.into_seat.result.me.0 c.stamp.invariant.one c.into_seat.ensures.2 in
    let is : c.into_seat.result.me.0.part ≡ Some c.stamp.invariant.m = ap (λ (v : View). v.part) (sym mine) ∙ c.stamp.invariant.is in (
      c.self.invariant.table,
      c.into_seat.ensures.0 ∙ (ap (λ (s : StampShown). s.id) c.stamp.view_is ∙ (c.requires.id ∙ sym (ap (λ (s : StamperShown). s.id) c.self.view_is))),
      c.into_seat.ensures.3,
      omega (arith, c.self.invariant.word),
      lodges c.self.inside.seat.id c.self.inside.seat.me.0 c.into_seat.result.id c.into_seat.result.me.0 c.stamp.invariant.m free is,
    )

pub load-requires : goal.load-requires
load-requires c =
    let joined = c.join_seat.ensures in
    let is : c.join_seat.new.seat.me.0.stamper ≡ true = ap (λ m. m.0.stamper) joined.2 ∙ c.self.invariant.is in (
      joined.0 ∙ c.self.invariant.table,
      omega (arith, c.self.invariant.word),
      looks c.self.inside.table.shared.table_id.slots c.join_seat.new.seat.id c.join_seat.new.seat.me is,
    )
