use Rattle.std.proofs.Common.{rules, ◌≡◌, ℕ, List, Some, None, not, slice_get, ap, sym, subst, ◌∙◌}
use Rattle.slot_links.specs.Lists.{list_at, holder, take_out}
use Rattle.timer_wheel.specs.Kept.{AreMarked}
use Rattle.timer_wheel.proofs.Slotted.{take_marked, take_cleared, some_more, none_more}
use Rattle.timer_wheel.proofs.slots.Slots.take.Goals as goal

pub invariant_of-self : goal.invariant_of-self
invariant_of-self c =
    let old = c.args.self.now in
    let slot = c.in_ok-slot.slot in
    let held : holder old.lists c.args.node ≡ Some slot = search rules in
    let lists : c.unlink.new.self.lists ≡ take_out old.lists c.args.node = search rules in
    let was : AreMarked old.lists c.self.inside.marks = search rules in
    let empty : slice_get (list_at c.unlink.new.self.lists slot) 0 ≡ None = sym c.first.ensures.front ∙ none_more c.first.result (c.is_none.ensures ∙ ap not c.if-is_none.true) in
    let F : List (List ℕ) → Type 0 = λ xs. AreMarked xs c.clear.new.self in
    subst F (sym lists) (take_cleared old slot c.args.node c.requires.once held c.self.inside.marks c.clear.new.self was c.clear.ensures (ap (λ (xs : List (List ℕ)). slice_get (list_at xs slot) 0) (sym lists) ∙ empty))

pub invariant_of-self-else-is_none : goal.invariant_of-self-else-is_none
invariant_of-self-else-is_none c =
    let old = c.args.self.now in
    let slot = c.in_ok-slot.slot in
    let held : holder old.lists c.args.node ≡ Some slot = search rules in
    let lists : c.unlink.new.self.lists ≡ take_out old.lists c.args.node = search rules in
    let was : AreMarked old.lists c.self.inside.marks = search rules in
    let more = some_more c.first.result (c.is_none.ensures ∙ ap not c.if-is_none.false) in
    let F : List (List ℕ) → Type 0 = λ xs. AreMarked xs c.self.inside.marks in
    subst F (sym lists) (take_marked old slot c.args.node c.requires.once held c.self.inside.marks more.0 was (ap (λ (xs : List (List ℕ)). slice_get (list_at xs slot) 0) (sym lists) ∙ (sym c.first.ensures.front ∙ more.1)))
