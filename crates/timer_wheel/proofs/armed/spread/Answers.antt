use Rattle.std.proofs.Common.{rules, ◌≡◌, ◌≤◌, ◌<◌, ap, sym, ◌∙◌, [], arith}
use Rattle.std.specs.Option.{unwrap_or}
use Rattle.slot_links.specs.Lists.{Linked, list_at, holder}
use Rattle.slot_links.proofs.Callers.{holder-take_out_itself}
use Rattle.timer_wheel.specs.Map.{due_of}
use Rattle.timer_wheel.specs.Places.{slot_of}
use Rattle.timer_wheel.proofs.Slotted.{none_at}
use Rattle.timer_wheel.proofs.Settling.{spreads_first, spreads_last, is_within, goes, settled_low}
use Rattle.timer_wheel.proofs.armed.spread.Goals as goal

pub loop-node-init : goal.loop-node-init
loop-node-init c = spreads_first c.args.now c.args.to c.slot_of-slot.result c.args.dues.now c.args.slots.now c.requires.keeps c.requires.later c.slot_of-slot.ensures.slot c.requires.none

pub take-requires-clause-node : goal.take-requires-clause-node
take-requires-clause-node c = (is_within c.args.now c.args.to c.slot_of-slot.result c.args.dues.now c.loop-node.slots c.in-Some.node c.loop-node.invariant (sym c.first.ensures ∙ c.in-Some.is)).0

pub bounds-dues-node : goal.bounds-dues-node
bounds-dues-node c = (is_within c.args.now c.args.to c.slot_of-slot.result c.args.dues.now c.loop-node.slots c.in-Some.node c.loop-node.invariant (sym c.first.ensures ∙ c.in-Some.is)).1

pub put-requires-clause-node : goal.put-requires-clause-node
put-requires-clause-node c =
    let inside = (is_within c.args.now c.args.to c.slot_of-slot.result c.args.dues.now c.loop-node.slots c.in-Some.node c.loop-node.invariant (sym c.first.ensures ∙ c.in-Some.is)).0 in
    let same = ap (λ (s : Linked). s.nodes) c.take.ensures.lists in
    omega (arith, inside, same)

pub put-requires-clause-none : goal.put-requires-clause-none
put-requires-clause-none c = ap (λ (s : Linked). holder s.lists c.in-Some.node) c.take.ensures.lists ∙ holder-take_out_itself c.loop-node.slots.lists c.in-Some.node

pub loop-node-smaller : goal.loop-node-smaller
loop-node-smaller c =
    let put : c.slot_of.result ≡ slot_of c.args.to (unwrap_or (due_of c.args.dues.now c.in-Some.node) 0) = search rules in
    let high : 64 ≤ c.slot_of-slot.result = search rules in
    (goes c.args.now c.args.to c.slot_of-slot.result c.args.dues.now c.loop-node.slots c.take.new.self c.put.new.self c.in-Some.node c.slot_of.result c.loop-node.invariant c.requires.later c.slot_of-slot.ensures.slot high c.requires.none c.requires.keeps.fits (sym c.first.ensures ∙ c.in-Some.is) c.take.ensures.lists put c.put.ensures).shorter

pub loop-node-preserved : goal.loop-node-preserved
loop-node-preserved c =
    let put : c.slot_of.result ≡ slot_of c.args.to (unwrap_or (due_of c.args.dues.now c.in-Some.node) 0) = search rules in
    let high : 64 ≤ c.slot_of-slot.result = search rules in
    (goes c.args.now c.args.to c.slot_of-slot.result c.args.dues.now c.loop-node.slots c.take.new.self c.put.new.self c.in-Some.node c.slot_of.result c.loop-node.invariant c.requires.later c.slot_of-slot.ensures.slot high c.requires.none c.requires.keeps.fits (sym c.first.ensures ∙ c.in-Some.is) c.take.ensures.lists put c.put.ensures).on

pub returns : goal.returns
returns c =
    let empty : list_at c.loop-node.slots.lists c.slot_of-slot.result ≡ [] = none_at (list_at c.loop-node.slots.lists c.slot_of-slot.result) (search rules) in
    spreads_last c.args.now c.args.to c.slot_of-slot.result c.args.dues.now c.loop-node.slots c.loop-node.invariant empty c.requires.none c.requires.keeps.fits

pub returns-then-slot-lt64 : goal.returns-then-slot-lt64
returns-then-slot-lt64 c =
    let low : slot_of c.args.now c.args.to < 64 = search rules in
    settled_low c.args.now c.args.to c.args.dues.now c.args.slots.now c.requires.keeps low c.requires.none
