-- A node's place has the number of its list.
use Rattle.slot_links.proofs.Looks.{list_read}
use Rattle.slot_links.proofs.links.Links.list_of.Goals as goal

pub returns : goal.returns
returns c = list_read c.self.inside.lists c.self.inside.nodes c.self.inside.places.items c.args.self.now c.self.view_is c.self.invariant c.args.node c.index.result.now c.requires c.index.ensures
