use Rattle.std.proofs.Common.{rules, ◌≡◌, ℕ, ◌<◌, List, [], Option, Some, None, sym, subst}
use Rattle.std.specs.Option.{MatchOption, unwrap_or}
use Rattle.slot_links.specs.Lists.{list_at}
use Rattle.timer_wheel.specs.Map.{due_of, NoneArmed, IsLeast}
use Rattle.timer_wheel.specs.Kept.{IsFirstSlot, IsLeastOf}
use Rattle.timer_wheel.proofs.Visiting.{of_some, of_none, none_armed, least_is}
use Rattle.timer_wheel.proofs.armed.Armed.least.Goals as goal

pub returns-in_err-slot-clause-least : goal.returns-in_err-slot-clause-least
returns-in_err-slot-clause-least c =
    let none : c.from_residual.result ≡ None = search rules in
    let empty : c.first_slot.result ≡ None = search rules in
    let same : c.self.inside.dues.items ≡ c.args.self.now.dues = search rules in
    let lists = of_none c.first_slot.result ((slot : ℕ) → slot < 704 → list_at c.self.inside.slots.lists slot ≡ []) (IsFirstSlot c.self.inside.slots.lists) empty c.first_slot.ensures in
    let all : NoneArmed c.args.self.now.dues = subst NoneArmed same (none_armed c.self.inside.moment c.self.inside.dues.items c.self.inside.slots c.self.invariant lists) in
    let F : Option (ℕ × ℕ) → Type 0 = λ o. MatchOption o (NoneArmed c.args.self.now.dues) (λ r. IsLeast c.args.self.now.dues r.0 r.1) in
    subst F (sym none) all

pub returns-clause-least : goal.returns-clause-least
returns-clause-least c =
    let there : c.first_slot.result ≡ Some c.in_ok-slot.slot = search rules in
    let first = of_some c.first_slot.result ((slot : ℕ) → slot < 704 → list_at c.self.inside.slots.lists slot ≡ []) (IsFirstSlot c.self.inside.slots.lists) c.in_ok-slot.slot there c.first_slot.ensures in
    let same : c.self.inside.dues.items ≡ c.args.self.now.dues = search rules in
    let walked : c.deref.result.now ≡ c.self.inside.dues.items = search rules in
    let F : List (Option ℕ) → Type 0 = λ ds. IsLeastOf ds (list_at c.self.inside.slots.lists c.in_ok-slot.slot) c.least_in-node.result in
    let least = least_is c.self.inside.moment c.self.inside.dues.items c.self.inside.slots c.in_ok-slot.slot c.least_in-node.result c.self.invariant first (subst F walked c.least_in-node.ensures) in
    let G : List (Option ℕ) → Type 0 = λ ds. IsLeast ds (unwrap_or (due_of ds c.least_in-node.result) 0) c.least_in-node.result in
    let H : ℕ → Type 0 = λ d. IsLeast c.args.self.now.dues d c.least_in-node.result in
    subst H (sym c.due_at.ensures) (subst G same least)
