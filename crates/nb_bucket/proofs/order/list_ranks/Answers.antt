use Rattle.std.proofs.Common.{ℕ, List, ◌∷◌, [], ◌++◌, length, Option, Some, sym, ap, subst, ◌∙◌, arith, append_assoc, append-nil, rules}
use Rattle.std.specs.Prelude.{IfSome, eqb}
use Rattle.std.specs.List.{IsDistinct}
use Rattle.std.proofs.lemmas.List.{length-append}
use Rattle.slot_links.specs.Lists.{list_at, StandsIn}
use Rattle.nb_bucket.proofs.Walks.{rest_from, from_front, walks_on, stands_on}
use Rattle.nb_bucket.proofs.order.list_ranks.Goals as goal

pub loop-next-init : goal.loop-next-init
loop-next-init c = record {
  once = c.first-next.ensures.once;
  stands = c.first-next.ensures.stands;
  rest = rw c.clear.ensures.items (from_front c.first-next.result (list_at c.args.order.now.lists 0) c.first-next.ensures.front);
  room = search rules;
}

pub push_reserved-requires : goal.push_reserved-requires
push_reserved-requires c =
    let order = c.args.order.now in
    let here = subst (λ (o : Option ℕ). IfSome o (StandsIn order (Some 0))) c.in-Some.is c.loop-next.invariant.stands in
    let whole = ap (λ (xs : List ℕ). length xs) (ap (λ (o : Option ℕ). c.loop-next.ranks.items ++ rest_from o (list_at order.lists 0)) (sym c.in-Some.is) ∙ c.loop-next.invariant.rest) in
    let size = length-append c.loop-next.ranks.items (rest_from (Some c.in-Some.rank) (list_at order.lists 0)) in
    let more = ap (λ (xs : List ℕ). length xs) (walks_on order 0 c.in-Some.rank c.loop-next.invariant.once here) in
    omega (arith, whole, size, more, c.requires.room, c.loop-next.invariant.room)

pub loop-next-preserved : goal.loop-next-preserved
loop-next-preserved c =
    let order = c.args.order.now in
    let here = subst (λ (o : Option ℕ). IfSome o (StandsIn order (Some 0))) c.in-Some.is c.loop-next.invariant.stands in
    let whole = ap (λ (o : Option ℕ). c.loop-next.ranks.items ++ rest_from o (list_at order.lists 0)) (sym c.in-Some.is) ∙ c.loop-next.invariant.rest in
    record {
      once = c.loop-next.invariant.once;
      stands = stands_on order 0 c.in-Some.rank c.next-next.result here c.next-next.ensures.stands;
      rest = rw (c.push_reserved.ensures.items, c.next-next.ensures.behind)
          (append_assoc c.loop-next.ranks.items (c.in-Some.rank ∷ []) _ ∙ ap (λ (xs : List ℕ). c.loop-next.ranks.items ++ xs) (sym (walks_on order 0 c.in-Some.rank c.loop-next.invariant.once here)) ∙ whole);
      room = omega (arith, c.push_reserved.ensures.room, c.loop-next.invariant.room);
    }

pub loop-next-smaller : goal.loop-next-smaller
loop-next-smaller c =
    let order = c.args.order.now in
    let here = subst (λ (o : Option ℕ). IfSome o (StandsIn order (Some 0))) c.in-Some.is c.loop-next.invariant.stands in
    let more = ap (λ (xs : List ℕ). length xs) (walks_on order 0 c.in-Some.rank c.loop-next.invariant.once here) in
    let was = ap (λ (o : Option ℕ). length (rest_from o (list_at order.lists 0))) c.in-Some.is in
    let now = ap (λ (o : Option ℕ). length (rest_from o (list_at order.lists 0))) c.next-next.ensures.behind in
    omega (arith, more, was, now)

pub returns-clause-ranks : goal.returns-clause-ranks
returns-clause-ranks c =
    sym (append-nil c.loop-next.ranks.items) ∙ ap (λ (o : Option ℕ). c.loop-next.ranks.items ++ rest_from o (list_at c.args.order.now.lists 0)) (sym c.in_default.is) ∙ c.loop-next.invariant.rest

pub returns-clause-once : goal.returns-clause-once
returns-clause-once c =
    let whole = sym (append-nil c.loop-next.ranks.items) ∙ ap (λ (o : Option ℕ). c.loop-next.ranks.items ++ rest_from o (list_at c.args.order.now.lists 0)) (sym c.in_default.is) ∙ c.loop-next.invariant.rest in
    let F : List ℕ → Type 0 = IsDistinct eqb in
    subst F (sym whole) (c.loop-next.invariant.once.once 0)
