use Rattle.std.proofs.Common.{rules, ◌≡◌, ◌<◌, ◌≤◌, length, Some, ap, sym, subst, ◌∙◌}
use Rattle.std.specs.Prelude.{slice_set}
use Rattle.slot_links.specs.Lists.{Linked, holder, put_back}
use Rattle.slot_links.proofs.Callers.{holder-take_out_itself}
use Rattle.timer_wheel.specs.Kept.{Keeps}
use Rattle.timer_wheel.specs.Places.{slot_of}
use Rattle.timer_wheel.proofs.Timing.{armed}
use Rattle.timer_wheel.proofs.armed.Armed.arm.Goals as goal

pub put-requires-clause-none : goal.put-requires-clause-none
put-requires-clause-none c = ap (λ (s : Linked). holder s.lists c.args.node) c.take.ensures.lists ∙ holder-take_out_itself c.self.inside.slots.lists c.args.node

pub invariant_of-self : goal.invariant_of-self
invariant_of-self c =
    let slots = c.self.inside.slots in
    let dues = c.self.inside.dues.items in
    let due = c.due.inside.0 in
    let small : c.args.node < length dues = search rules in
    let later : c.self.inside.moment ≤ due = search rules in
    let fits : due < 18446744073709551616 = search rules in
    let is : c.slot_of.result ≡ slot_of c.self.inside.moment due = c.slot_of.ensures.slot in
    let now = armed c.self.inside.moment dues slots c.args.node c.self.invariant small due c.slot_of.result later fits is c.slot_of.ensures.within in
    let whole = c.put.ensures ∙ ap (λ (s : Linked). (let made : Linked = record { lists = put_back s.lists c.slot_of.result c.args.node; nodes = s.nodes } in made)) c.take.ensures.lists in
    let F : Linked → Type 0 = λ s. Keeps c.self.inside.moment (slice_set dues c.args.node (Some due)) s in
    subst F (sym whole) now
