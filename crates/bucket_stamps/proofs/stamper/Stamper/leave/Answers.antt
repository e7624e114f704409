use Rattle.std.proofs.Common.{◌≡◌, Some, ap, ◌∙◌, arith}
use Rattle.bucket_stamps.specs.Shown.{StamperShown}
use Rattle.bucket_stamps.proofs.Lists.{the_some}
use Rattle.bucket_stamps.proofs.Steps.{leaves}
use Rattle.bucket_stamps.proofs.stamper.Stamper.leave.Goals as goal

pub split_seat-seat-requires : goal.split_seat-seat-requires
split_seat-seat-requires c =
    let there = the_some c.args.self.now.lodged c.requires.lodged in
    let has : c.self.inside.seat.me.0.part ≡ Some there.0 = ap (λ (s : StamperShown). s.lodged) c.self.view_is ∙ there.1 in (
      c.self.invariant.table,
      omega (arith, c.self.invariant.word),
      leaves c.self.inside.seat.id c.self.inside.seat.me.0 there.0 c.self.invariant.is has,
    )
