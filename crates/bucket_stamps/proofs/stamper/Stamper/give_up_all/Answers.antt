use Rattle.std.proofs.Common.{rules, ◌≡◌, [], ◌∷◌, ◌++◌, Some, refl, subst, ◌∙◌}
use Rattle.std.proofs.lemmas.List.Elements.{All-pop}
use Rattle.bucket_stamps.specs.Shown.{StamperShown, StampShown, Agrees}
use Rattle.bucket_stamps.specs.Tokens.{stamper_shown}
use Rattle.bucket_stamps.proofs.Ending.{gathered_none, gathered_more, ends}
use Rattle.bucket_stamps.proofs.stamper.Stamper.give_up_all.Goals as goal

pub loop-stamp-init : goal.loop-stamp-init
loop-stamp-init c = (refl, gathered_none c.args.self c.args.stamps.items c.requires.ids)

pub loop-stamp-preserved : goal.loop-stamp-preserved
loop-stamp-preserved c =
    let same = c.loop-stamp.invariant.0 in
    let popped : c.loop-stamp.stamps.items ≡ c.pop.new.self.items ++ c.in-Some.stamp ∷ [] = c.in-Some.ensures.items in
    let A : StamperShown → Type 0 = λ s. Agrees s c.in-Some.stamp in (
      c.gather.ensures.stamper ∙ same,
      gathered_more c.args.self c.pop.new.self.items c.loop-stamp.stamps.items c.args.stamps.items c.in-Some.stamp popped
          (All-pop (λ (t : StampShown). t.id ≡ c.args.self.id) c.loop-stamp.stamps.items c.pop.new.self.items (Some c.in-Some.stamp) popped c.loop-stamp.invariant.1.ids).0
          (subst A same c.gather.ensures.agrees) c.loop-stamp.invariant.1,
    )

pub returns : goal.returns
returns c =
    let empty : c.loop-stamp.stamps.items ≡ [] = search rules in
    ends c.args.self (stamper_shown c.self.inside) c.args.stamps.items c.loop-stamp.stamps.items (c.self.view_is ∙ c.loop-stamp.invariant.0) empty c.loop-stamp.invariant.1 c.requires.everyone c.requires.free c.self.invariant.settled c.self.invariant.own c.self.invariant.turns c.self.invariant.order
