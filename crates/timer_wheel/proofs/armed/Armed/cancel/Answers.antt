use Rattle.std.proofs.Common.{rules, ◌<◌, length, None, sym, subst}
use Rattle.std.specs.Prelude.{slice_set}
use Rattle.slot_links.specs.Lists.{Linked}
use Rattle.timer_wheel.specs.Kept.{Keeps}
use Rattle.timer_wheel.proofs.Timing.{cancelled}
use Rattle.timer_wheel.proofs.armed.Armed.cancel.Goals as goal

pub invariant_of-self : goal.invariant_of-self
invariant_of-self c =
    let slots = c.self.inside.slots in
    let dues = c.self.inside.dues.items in
    let small : c.args.node < length dues = search rules in
    let F : Linked → Type 0 = λ s. Keeps c.self.inside.moment (slice_set dues c.args.node None) s in
    subst F (sym c.take-slot.ensures.lists) (cancelled c.self.inside.moment dues slots c.args.node c.self.invariant small)
