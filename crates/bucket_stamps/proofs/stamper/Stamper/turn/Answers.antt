use Rattle.std.proofs.Common.{rules, ap, sym, subst}
use Rattle.std.specs.Prelude.{IsSome, All}
use Rattle.bucket_stamps.specs.declared.view.View.{View}
use Rattle.bucket_stamps.specs.Own.{AreTurnsOf, IsTurnOfOne}
use Rattle.bucket_stamps.specs.Shown.{StamperShown}
use Rattle.bucket_stamps.proofs.Owning.{order_turned, turned_of_one}
use Rattle.bucket_stamps.proofs.stamper.Stamper.turn.Goals as goal

pub invariant_of-self : goal.invariant_of-self
invariant_of-self c =
    let v : View = c.self.inside.seat.me.0 in
    let lodged : IsSome v.part = subst (λ (s : StamperShown). IsSome s.lodged) (sym c.self.view_is) c.requires.lodged in
    let F : View → Type 0 = λ w. AreTurnsOf w.history.lines w.history.turns in
    record {
      word = search rules;
      table = search rules;
      slots = search rules;
      is = search rules;
      settled = search rules;
      lodged = search rules;
      own = search rules;
      turns = subst (λ (w : View). All (IsTurnOfOne w.participants) w.history.turns) (sym (ap (λ m. m.0) c.write_turn.ensures.view)) (turned_of_one c.args.at c.args.ok v lodged c.self.invariant.lodged c.self.invariant.turns);
      order = subst F (sym (ap (λ m. m.0) c.write_turn.ensures.view)) (order_turned c.args.at c.args.ok v lodged c.self.invariant.order);
    }
