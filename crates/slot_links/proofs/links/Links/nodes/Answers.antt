-- The fields' invariant says where each node stands.
use Rattle.slot_links.proofs.Looks.{shows_once}
use Rattle.slot_links.proofs.links.Links.nodes.Goals as goal

pub returns-clause-once : goal.returns-clause-once
returns-clause-once c = shows_once c.self.inside.lists c.self.inside.nodes c.self.inside.places.items c.args.self.now c.self.view_is c.self.invariant
