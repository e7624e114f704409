-- The end of a list leads to its first node.
use Rattle.std.proofs.Common.{◌∙◌, Some}
use Rattle.slot_links.proofs.Looks.{first_read, first_bound, shows_once}
use Rattle.slot_links.proofs.Standing.{front_stands, read_stands}
use Rattle.slot_links.proofs.links.Links.first.Goals as goal

pub node_of-requires : goal.node_of-requires
node_of-requires c = first_bound c.self.inside.lists c.self.inside.nodes c.self.inside.places.items c.args.self.now c.self.view_is c.self.invariant c.args.list c.index.result.now c.requires c.index.ensures

pub returns : goal.returns
returns c =
    let front = c.node_of.ensures ∙ first_read c.self.inside.lists c.self.inside.nodes c.self.inside.places.items c.args.self.now c.self.view_is c.self.invariant c.args.list c.index.result.now c.requires c.index.ensures in
    let once = shows_once c.self.inside.lists c.self.inside.nodes c.self.inside.places.items c.args.self.now c.self.view_is c.self.invariant in
    record { front = front; stands = read_stands c.args.self.now (Some c.args.list) _ _ front (front_stands c.args.self.now once c.args.list); once = once }
