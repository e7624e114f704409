-- The node stands in front of the end of the list.
use Rattle.slot_links.proofs.Moved.{put_kept, put_shown}
use Rattle.slot_links.proofs.links.Links.push_back.Goals as goal

pub invariant_of-self : goal.invariant_of-self
invariant_of-self c = put_kept c.self.inside.lists c.self.inside.nodes c.self.inside.places.items c.append.new.places.items c.args.self.now c.self.view_is c.self.invariant c.args.list c.args.node c.requires.list c.requires.node c.requires.none c.append.ensures

pub returns : goal.returns
returns c = put_shown c.self.inside.lists c.self.inside.nodes c.self.inside.places.items c.append.new.places.items c.args.self.now c.self.view_is c.self.invariant c.args.list c.args.node c.requires.list c.requires.node c.requires.none c.append.ensures
