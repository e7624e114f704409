use Rattle.std.proofs.Common.{rules, ◌≡◌, None, refl}
use Rattle.slot_links.specs.Lists.{list_at, next_of}
use Rattle.timer_wheel.proofs.Visiting.{first_in, front_in, visits_first, visits_on, visits_last, is_there, nearer}
use Rattle.timer_wheel.proofs.armed.least_in.Goals as goal

pub next-at-requires : goal.next-at-requires
next-at-requires c = (c.requires.once.held c.args.slot c.args.first (first_in (list_at c.args.slots.now.lists c.args.slot) c.args.first c.requires.first)).0

pub loop-at-init : goal.loop-at-init
loop-at-init c = visits_first c.args.dues.now c.args.slots.now c.args.slot c.requires.once c.args.first c.next-at.result c.requires.first c.next-at.ensures

pub lesser-least-requires : goal.lesser-least-requires
lesser-least-requires c =
    let v = c.loop-at.invariant in (
      c.requires.within c.in-Some.node (is_there c.args.dues.now c.args.slots.now c.args.slot c.requires.once c.loop-at.at (next_of c.args.slots.now.lists c.in-Some.node) c.loop-at.least c.in-Some.node v c.in-Some.is refl),
      c.requires.within c.loop-at.least (front_in c.loop-at.least v.front v.rest (list_at c.args.slots.now.lists c.args.slot) v.whole v.best.there),
    )

pub next-at-requires-in-Some : goal.next-at-requires-in-Some
next-at-requires-in-Some c = (c.requires.once.held c.args.slot c.in-Some.node (is_there c.args.dues.now c.args.slots.now c.args.slot c.requires.once c.loop-at.at (next_of c.args.slots.now.lists c.in-Some.node) c.loop-at.least c.in-Some.node c.loop-at.invariant c.in-Some.is refl)).0

pub loop-at-smaller : goal.loop-at-smaller
loop-at-smaller c = nearer c.args.dues.now c.args.slots.now c.args.slot c.requires.once c.loop-at.at c.next-at-in-Some.result c.loop-at.least c.in-Some.node c.loop-at.invariant c.in-Some.is c.next-at-in-Some.ensures c.lesser-least.result
    (visits_on c.args.dues.now c.args.slots.now c.args.slot c.requires.once c.loop-at.at c.next-at-in-Some.result c.loop-at.least c.in-Some.node c.loop-at.invariant c.in-Some.is c.next-at-in-Some.ensures c.lesser-least.result c.lesser-least.ensures)

pub loop-at-preserved : goal.loop-at-preserved
loop-at-preserved c = visits_on c.args.dues.now c.args.slots.now c.args.slot c.requires.once c.loop-at.at c.next-at-in-Some.result c.loop-at.least c.in-Some.node c.loop-at.invariant c.in-Some.is c.next-at-in-Some.ensures c.lesser-least.result c.lesser-least.ensures

pub returns : goal.returns
returns c =
    let none : c.loop-at.at ≡ None = search rules in
    visits_last c.args.dues.now c.args.slots.now c.args.slot c.requires.once c.loop-at.at c.loop-at.least c.loop-at.invariant none
