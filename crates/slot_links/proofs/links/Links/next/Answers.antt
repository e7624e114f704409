-- A node's place leads to what stands behind it.
use Rattle.std.proofs.Common.{◌∙◌, refl}
use Rattle.slot_links.specs.Lists.{holder}
use Rattle.slot_links.proofs.Looks.{next_read, next_none, next_bound, shows_once}
use Rattle.slot_links.proofs.Standing.{next_stands, read_stands}
use Rattle.slot_links.proofs.links.Links.next.Goals as goal

pub returns-then-is_none-clause-behind : goal.returns-then-is_none-clause-behind
returns-then-is_none-clause-behind c = next_none c.self.inside.lists c.self.inside.nodes c.self.inside.places.items c.args.self.now c.self.view_is c.self.invariant c.args.node c.index.result.now c.requires c.index.ensures (rw (c.is_none.ensures, c.if-is_none.true) refl)

pub node_of-requires : goal.node_of-requires
node_of-requires c = next_bound c.self.inside.lists c.self.inside.nodes c.self.inside.places.items c.args.self.now c.self.view_is c.self.invariant c.args.node c.index.result.now c.requires c.index.ensures

pub returns : goal.returns
returns c =
    let behind = c.node_of.ensures ∙ next_read c.self.inside.lists c.self.inside.nodes c.self.inside.places.items c.args.self.now c.self.view_is c.self.invariant c.args.node c.index.result.now c.requires c.index.ensures (rw (c.is_none.ensures, c.if-is_none.false) refl) in
    let once = shows_once c.self.inside.lists c.self.inside.nodes c.self.inside.places.items c.args.self.now c.self.view_is c.self.invariant in
    record { behind = behind; stands = read_stands c.args.self.now (holder c.args.self.now.lists c.args.node) _ _ behind (next_stands c.args.self.now once c.args.node) }
