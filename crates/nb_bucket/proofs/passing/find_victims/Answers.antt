use Rattle.std.proofs.Common.{◌≤◌, ◌<◌, ◌++◌, ◌∷◌, List, ℕ, Option, Some, length, map, refl, sym, ap, subst, ◌∙◌, arith, append-nil, rules}
use Rattle.std.specs.Prelude.{IfSome}
use Rattle.nb_base.specs.declared.params.Params.{Params}
use Rattle.nb_base.specs.declared.key.Key.{Key}
use Rattle.nb_journal.specs.Fold.{state_of}
use Rattle.nb_journal.specs.Lawful.{is_collectable, collected}
use Rattle.nb_journal.proofs.Meets.{collected_none}
use Rattle.slot_links.specs.Lists.{list_at, next_of, StandsIn}
use Rattle.nb_bucket.specs.Making.{key_at}
use Rattle.nb_bucket.proofs.Ranks.{list_few, list_back, rank_known}
use Rattle.nb_bucket.proofs.Walks.{rest_from, from_front, walks_on, stands_on, takes_on, taken_few}
use Rattle.nb_bucket.proofs.passing.find_victims.Goals as goal

pub loop-next-init : goal.loop-next-init
loop-next-init c =
    let fold = c.args.fold.now in
    let order = c.args.order.now in
    let front = from_front c.first-next.result (list_at order.lists 0) c.first-next.ensures.front in
    record {
      once = c.first-next.ensures.once;
      stands = c.first-next.ensures.stands;
      few = let size = ap (λ (xs : List ℕ). length xs) front in let none = ap (λ (xs : List Key). length xs) c.clear.ensures.items in omega (arith, size, none);
      room = search rules;
      found = rw (c.clear.ensures.items, front, list_back fold.params fold.lines order c.requires.order) refl;
    }

pub take_at-left-requires-clause-known : goal.take_at-left-requires-clause-known
take_at-left-requires-clause-known c =
    let order = c.args.order.now in
    rank_known c.args.fold.now.params c.args.fold.now.lines order c.in-Some.rank c.requires.order (subst (λ (o : Option ℕ). IfSome o (StandsIn order (Some 0))) c.in-Some.is c.loop-next.invariant.stands)

pub take_at-left-requires-clause-room : goal.take_at-left-requires-clause-room
take_at-left-requires-clause-room c =
    let order = c.args.order.now in
    let here = subst (λ (o : Option ℕ). IfSome o (StandsIn order (Some 0))) c.in-Some.is c.loop-next.invariant.stands in
    let now = ap (λ (o : Option ℕ). length (rest_from o (list_at order.lists 0))) c.in-Some.is in
    let more = ap (λ (xs : List ℕ). length xs) (walks_on order 0 c.in-Some.rank c.loop-next.invariant.once here) in
    let few = list_few c.args.fold.now.params c.args.fold.now.lines order c.requires.order in
    omega (arith, now, more, few, c.loop-next.invariant.few, c.loop-next.invariant.room, c.requires.room)

pub loop-next-preserved : goal.loop-next-preserved
loop-next-preserved c =
    let fold = c.args.fold.now in
    let order = c.args.order.now in
    let L = list_at order.lists 0 in
    let limit = fold.params.gc_thresh2 in
    let takes = λ (key : Key). is_collectable c.args.at (state_of fold.params fold.lines key) in
    let here = subst (λ (o : Option ℕ). IfSome o (StandsIn order (Some 0))) c.in-Some.is c.loop-next.invariant.stands in
    let walked = walks_on order 0 c.in-Some.rank c.loop-next.invariant.once here in
    let enough : limit ≤ c.loop-next.left = omega (arith, ap (λ (p : Params). p.gc_thresh2) c.params.ensures.params) in
    let victims = c.loop-next.victims.items in
    record {
      once = c.loop-next.invariant.once;
      stands = stands_on order 0 c.in-Some.rank c.next-next.result here c.next-next.ensures.stands;
      few = taken_few (takes (key_at fold.lines c.in-Some.rank)) victims c.take_at-left.new.victims.items (key_at fold.lines c.in-Some.rank) (list_at order.lists 0) c.loop-next.next c.next-next.result c.in-Some.rank c.take_at-left.ensures.victims
          (ap (λ (o : Option ℕ). rest_from o L) c.in-Some.is ∙ walked ∙ ap (λ (o : Option ℕ). c.in-Some.rank ∷ rest_from o L) (sym c.next-next.ensures.behind)) c.loop-next.invariant.few;
      room = omega (arith, c.take_at-left.ensures.room, c.loop-next.invariant.room);
      found = rw (c.take_at-left.ensures.victims, c.take_at-left.ensures.left, c.next-next.ensures.behind)
          (sym (takes_on limit c.loop-next.left takes victims (key_at fold.lines c.in-Some.rank) (map (key_at fold.lines) (rest_from (next_of order.lists c.in-Some.rank) L)) enough)
          ∙ ap (λ (xs : List ℕ). victims ++ collected limit c.loop-next.left takes (map (key_at fold.lines) xs)) (sym walked)
          ∙ ap (λ (o : Option ℕ). victims ++ collected limit c.loop-next.left takes (map (key_at fold.lines) (rest_from o L))) (sym c.in-Some.is)
          ∙ c.loop-next.invariant.found);
    }

pub loop-next-smaller : goal.loop-next-smaller
loop-next-smaller c =
    let order = c.args.order.now in
    let here = subst (λ (o : Option ℕ). IfSome o (StandsIn order (Some 0))) c.in-Some.is c.loop-next.invariant.stands in
    let more = ap (λ (xs : List ℕ). length xs) (walks_on order 0 c.in-Some.rank c.loop-next.invariant.once here) in
    let was = ap (λ (o : Option ℕ). length (rest_from o (list_at order.lists 0))) c.in-Some.is in
    let now = ap (λ (o : Option ℕ). length (rest_from o (list_at order.lists 0))) c.next-next.ensures.behind in
    omega (arith, more, was, now)

pub returns-then-left-threshold-clause-found : goal.returns-then-left-threshold-clause-found
returns-then-left-threshold-clause-found c =
    let fold = c.args.fold.now in
    let few : c.loop-next.left < fold.params.gc_thresh2 = omega (arith, ap (λ (p : Params). p.gc_thresh2) c.params.ensures.params) in
    let none = collected_none fold.params.gc_thresh2 c.loop-next.left (λ (key : Key). is_collectable c.args.at (state_of fold.params fold.lines key)) (map (key_at fold.lines) (rest_from c.loop-next.next (list_at c.args.order.now.lists 0))) few in
    sym (append-nil c.loop-next.victims.items) ∙ ap (λ (keys : List Key). c.loop-next.victims.items ++ keys) (sym none) ∙ c.loop-next.invariant.found

pub returns-clause-found : goal.returns-clause-found
returns-clause-found c =
    let fold = c.args.fold.now in
    sym (append-nil c.loop-next.victims.items)
    ∙ ap (λ (o : Option ℕ). c.loop-next.victims.items ++ collected fold.params.gc_thresh2 c.loop-next.left (λ (key : Key). is_collectable c.args.at (state_of fold.params fold.lines key)) (map (key_at fold.lines) (rest_from o (list_at c.args.order.now.lists 0)))) (sym c.in_default.is)
    ∙ c.loop-next.invariant.found
