-- A node that is in no list is left alone; another one's neighbours stand beside each other.
use Rattle.std.proofs.Common.{◌≡◌, List, ℕ, true, false, is_some, refl, sym, ap, ◌∙◌}
use Rattle.slot_links.specs.Lists.{Linked, holder}
use Rattle.slot_links.proofs.Looks.{list_read, none_out}
use Rattle.slot_links.proofs.Moved.{out_kept, out_shown}
use Rattle.slot_links.proofs.links.Links.unlink.Goals as goal

pub returns-then-is_none-clause-found : goal.returns-then-is_none-clause-found
returns-then-is_none-clause-found c =
    let none : is_some c.index.result.now.list ≡ false = rw (c.is_none.ensures, c.if-is_none.true) refl in
    sym none ∙ ap is_some (list_read c.self.inside.lists c.self.inside.nodes c.self.inside.places.items c.args.self.now c.self.view_is c.self.invariant c.args.node c.index.result.now c.requires c.index.ensures)

pub returns-then-is_none-clause-lists : goal.returns-then-is_none-clause-lists
returns-then-is_none-clause-lists c =
    let none : is_some c.index.result.now.list ≡ false = rw (c.is_none.ensures, c.if-is_none.true) refl in
    let read = list_read c.self.inside.lists c.self.inside.nodes c.self.inside.places.items c.args.self.now c.self.view_is c.self.invariant c.args.node c.index.result.now c.requires c.index.ensures in
    let held : is_some (holder c.args.self.now.lists c.args.node) ≡ false = sym (ap is_some read) ∙ none in
    let F : List (List ℕ) → Linked = λ lists. record { lists = lists; nodes = c.args.self.now.nodes } in
    ap F (sym (none_out c.self.inside.lists c.self.inside.nodes c.self.inside.places.items c.args.self.now c.self.view_is c.self.invariant c.args.node c.requires held))

pub invariant_of-self : goal.invariant_of-self
invariant_of-self c = out_kept c.self.inside.lists c.self.inside.nodes c.self.inside.places.items c.remove.new.places.items c.args.self.now c.self.view_is c.self.invariant c.args.node c.requires c.remove.ensures

pub returns-clause-found : goal.returns-clause-found
returns-clause-found c =
    let some : is_some c.index.result.now.list ≡ true = rw (c.is_none.ensures, c.if-is_none.false) refl in
    sym some ∙ ap is_some (list_read c.self.inside.lists c.self.inside.nodes c.self.inside.places.items c.args.self.now c.self.view_is c.self.invariant c.args.node c.index.result.now c.requires c.index.ensures)

pub returns-clause-lists : goal.returns-clause-lists
returns-clause-lists c = out_shown c.self.inside.lists c.self.inside.nodes c.self.inside.places.items c.remove.new.places.items c.args.self.now c.self.view_is c.self.invariant c.args.node c.requires c.remove.ensures
