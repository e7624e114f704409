use Rattle.std.proofs.lemmas.Bool.{and_parts}
use Rattle.std.proofs.Common.{◌+◌, List, take, sym, ap, ◌∙◌}
use Rattle.nb_base.specs.declared.key.Key.{Key}
use Rattle.nb_base.specs.declared.line.Line.{Line}
use Rattle.nb_journal.specs.Lawful.{order_after, making_order}
use Rattle.nb_journal.specs.Steps.{IsStep}
use Rattle.nb_journal.proofs.Folds.{making_order-nil, making_order-snoc}
use Rattle.nb_journal.proofs.Takes.{each-take_at, taken, each-take}
use Rattle.journal_check.proofs.forcing.making_order.Goals as goal

pub loop-place-init : goal.loop-place-init
loop-place-init c = c.new-order.ensures.items ∙ sym (making_order-nil c.args.params.now)

pub loop-place-preserved : goal.loop-place-preserved
loop-place-preserved c =
    let p = c.args.params.now in
    let first = take c.loop-place.place c.args.lines.now in
    let line = c.index-lines-place.result in
    c.in_ok-order.ensures
    ∙ ap (λ (keys : List Key). order_after p keys first line) c.deref.ensures.value
    ∙ ap (λ (keys : List Key). order_after p keys first line) c.loop-place.invariant
    ∙ sym (making_order-snoc p first line)
    ∙ ap (λ (xs : List Line). making_order p xs) (sym (taken c.args.lines.now c.loop-place.place line c.loop-place-test.true c.index-lines-place.is))

pub order_after-requires-clause-steps : goal.order_after-requires-clause-steps
order_after-requires-clause-steps c = each-take (IsStep c.args.params.now) c.args.lines.now c.loop-place.place c.requires.steps

pub order_after-requires-clause-steps_all : goal.order_after-requires-clause-steps_all
order_after-requires-clause-steps_all c = each-take (IsStep c.args.params.now) c.args.lines.now (c.loop-place.place + 1) c.requires.steps

pub order_after-requires-clause-asked : goal.order_after-requires-clause-asked
order_after-requires-clause-asked c =
    (and_parts _ _ (each-take_at (IsStep c.args.params.now) c.args.lines.now c.loop-place.place c.index-lines-place.result c.loop-place-test.true c.index-lines-place.is c.requires.steps).0).1
