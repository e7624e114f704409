-- Further places are in no list.
use Rattle.std.proofs.Common.{arith, ap, ◌∙◌}
use Rattle.slot_links.specs.Lists.{Linked}
use Rattle.slot_links.proofs.Shows.{lists_shown, holds_shown}
use Rattle.slot_links.proofs.Changes.{holds_extend}
use Rattle.slot_links.proofs.links.Links.reserve.Goals as goal

pub invariant_of-self-then-self-nodes : goal.invariant_of-self-then-self-nodes
invariant_of-self-then-self-nodes c = holds_shown c.self.inside.lists c.args.nodes c.extend.new.places.items _ (holds_extend c.self.inside.lists c.self.inside.nodes c.args.nodes c.self.inside.places.items c.extend.new.places.items _ c.self.invariant (omega arith) (omega arith) c.in_ok-extend.ensures.ok)

pub returns-in_ok-extend-clause-lists : goal.returns-in_ok-extend-clause-lists
returns-in_ok-extend-clause-lists c = lists_shown c.self.inside.lists c.args.nodes c.extend.new.places.items _ (holds_extend c.self.inside.lists c.self.inside.nodes c.args.nodes c.self.inside.places.items c.extend.new.places.items _ c.self.invariant (omega arith) (omega arith) c.in_ok-extend.ensures.ok) ∙ ap (λ (s : Linked). s.lists) c.self.view_is
