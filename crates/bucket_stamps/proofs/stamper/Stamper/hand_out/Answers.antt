use Rattle.std.proofs.Common.{◌≡◌, ap, ◌∙◌, arith}
use Rattle.bucket_stamps.specs.Shown.{history_of}
use Rattle.bucket_stamps.specs.Views.{empty_history}
use Rattle.bucket_stamps.proofs.Steps.{hands_out}
use Rattle.bucket_stamps.proofs.stamper.Stamper.hand_out.Goals as goal

pub split_seat-seat-requires : goal.split_seat-seat-requires
split_seat-seat-requires c =
    let empty : c.self.inside.seat.me.0.history ≡ empty_history = ap history_of (c.self.view_is ∙ c.requires) in (
      c.self.invariant.table,
      omega (arith, c.self.invariant.word),
      hands_out c.self.inside.seat.id c.self.inside.seat.me.0 c.self.invariant.is empty,
    )
