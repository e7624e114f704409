use Rattle.std.proofs.Common.{◌≡◌, ◌+◌, ◌++◌, List, [], ◌∷◌, length, take, get_or, refl, sym, ap, subst, ◌∙◌, arith, append_assoc, append-nil}
use Rattle.std.specs.Prelude.{map}
use Rattle.std.proofs.lemmas.List.{take_more, map-append, length-append, length-map, length-take-le}
use Rattle.nb_base.specs.declared.line.Line.{Line}
use Rattle.nb_base.specs.declared.key.Key.{Key}
use Rattle.nb_base.specs.declared.key.Key.TheVariants.{V4}
use Rattle.nb_journal.specs.Keys.{made_known}
use Rattle.nb_journal.specs.Fold.{known_keys}
use Rattle.nb_journal.specs.Lawful.{collect_line}
use Rattle.nb_bucket.specs.Counting.{shown, CountsCollects}
use Rattle.nb_bucket.specs.Making.{goes_to_each}
use Rattle.nb_bucket.proofs.Armed.{bare-nodes}
use Rattle.nb_bucket.proofs.Ranks.{known_same, holds-collect}
use Rattle.nb_bucket.proofs.CountsAlong.{collects-none, collects-more}
use Rattle.nb_bucket.proofs.writing.write_collects.Goals as goal

pub loop-key-init : goal.loop-key-init
loop-key-init g c = record {
  lines = sym (append-nil c.args.fold.now.lines);
  params = refl;
  room = omega arith;
  place = c.requires.place;
  order = c.requires.order;
  nodes = refl;
  known = refl;
  armed = c.requires.armed;
  passed = refl;
  timers = refl;
  counted = collects-none c.args.fold.now.params c.args.fold.now.lines (shown g.C.Census.name g.C.Census.share g.C.Census.changes g.C.Census.looks g.C.Census.others c.args.census.now) c.requires.census;
}

pub loop-key-preserved : goal.loop-key-preserved
loop-key-preserved g c =
    let first = c.args.fold.now in
    let keys = c.args.victims.now in
    let i = c.loop-key.key-index in
    let line = c.collect_line-line.result in
    let key = get_or keys i (V4 0) in
    let old = c.loop-key.fold in
    let here : map (collect_line c.args.at) (take (i + 1) keys) ≡ map (collect_line c.args.at) (take i keys) ++ line ∷ [] =
    ap (λ (ks : List Key). map (collect_line c.args.at) ks) (take_more keys i _ c.loop-key-test.true)
    ∙ map-append (collect_line c.args.at) (take i keys) (get_or keys i _ ∷ [])
    ∙ ap (λ (l : Line). map (collect_line c.args.at) (take i keys) ++ l ∷ []) (sym c.collect_line-line.ensures) in
    let counted = rw (c.append.ensures.lines, c.append.ensures.params, c.loop-key.invariant.lines, c.loop-key.invariant.params) at c.append.ensures.counted in
    record {
      lines = c.append.ensures.lines
          ∙ ap (λ (xs : List Line). xs ++ line ∷ []) c.loop-key.invariant.lines
          ∙ append_assoc first.lines (map (collect_line c.args.at) (take i keys)) (line ∷ [])
          ∙ ap (λ (xs : List Line). first.lines ++ xs) (sym here);
      params = c.append.ensures.params ∙ c.loop-key.invariant.params;
      room = omega (arith, c.append.ensures.room, c.loop-key.invariant.room);
      place = c.append.ensures.place (ap (λ (l : Line). made_known l.op) c.collect_line-line.ensures);
      order = rw (c.append.ensures.lines, c.append.ensures.params, c.collect_line-line.ensures)
          (holds-collect old.params old.lines c.args.at key c.loop-key.order c.drop_named.new.order c.loop-key.invariant.order
          (rw (c.append.ensures.lines, c.append.ensures.params, c.collect_line-line.ensures) at c.drop_named.ensures.lists) c.drop_named.ensures.nodes);
      nodes = c.drop_named.ensures.nodes ∙ c.loop-key.invariant.nodes;
      known = ap (λ (xs : List Line). length (known_keys xs)) c.append.ensures.lines ∙ ap (λ (ks : List Key). length ks) (known_same old.lines line (ap (λ (l : Line). made_known l.op) c.collect_line-line.ensures)) ∙ c.loop-key.invariant.known;
      armed = c.append.ensures.armed;
      passed = c.append.ensures.now ∙ c.loop-key.invariant.passed;
      timers = c.append.ensures.nodes ∙ c.loop-key.invariant.timers;
      counted = subst (λ (xs : List Line). CountsCollects first.params first.lines xs (shown g.C.Census.name g.C.Census.share g.C.Census.changes g.C.Census.looks g.C.Census.others c.args.census.now) (shown g.C.Census.name g.C.Census.share g.C.Census.changes g.C.Census.looks g.C.Census.others c.append.new.census)) (sym here)
          (collects-more first.params first.lines (map (collect_line c.args.at) (take i keys)) line (shown g.C.Census.name g.C.Census.share g.C.Census.changes g.C.Census.looks g.C.Census.others c.args.census.now) (shown g.C.Census.name g.C.Census.share g.C.Census.changes g.C.Census.looks g.C.Census.others c.loop-key.census) (shown g.C.Census.name g.C.Census.share g.C.Census.changes g.C.Census.looks g.C.Census.others c.append.new.census) c.loop-key.invariant.counted counted);
    }

pub drop_named-requires-clause-few : goal.drop_named-requires-clause-few
drop_named-requires-clause-few g c =
    let first = c.args.fold.now in
    let i = c.loop-key.key-index in
    let done = take i c.args.victims.now in
    let size = ap (λ (xs : List Line). length xs) c.append.ensures.lines ∙ length-append c.loop-key.fold.lines (c.collect_line-line.result ∷ []) in
    let front = ap (λ (xs : List Line). length xs) c.loop-key.invariant.lines ∙ length-append first.lines (map (collect_line c.args.at) done) in
    let many = length-map done (collect_line c.args.at) in
    let few = length-take-le i c.args.victims.now (omega arith) in
    omega (arith, size, front, many, few, c.requires.few)

pub drop_named-requires-clause-nodes : goal.drop_named-requires-clause-nodes
drop_named-requires-clause-nodes g c =
    let same = ap (λ (xs : List Line). length (known_keys xs)) c.append.ensures.lines
    ∙ ap (λ (ks : List Key). length ks) (known_same c.loop-key.fold.lines c.collect_line-line.result (ap (λ (l : Line). made_known l.op) c.collect_line-line.ensures)) in
    let small = c.loop-key.invariant.order.nodes in
    omega (arith, same, small)

pub append-requires-clause-params : goal.append-requires-clause-params
append-requires-clause-params g c = rw c.loop-key.invariant.params c.requires.params

pub append-requires-clause-one : goal.append-requires-clause-one
append-requires-clause-one g c = ap (λ (l : Line). goes_to_each l.op) c.collect_line-line.ensures

pub append-requires-clause-passed : goal.append-requires-clause-passed
append-requires-clause-passed g c = let at = ap (λ (l : Line). l.at) c.collect_line-line.ensures in omega (arith, at, c.loop-key.invariant.passed, c.requires.passed)

pub append-requires-clause-nodes : goal.append-requires-clause-nodes
append-requires-clause-nodes g c =
    bare-nodes c.loop-key.fold.params c.loop-key.fold.lines c.collect_line-line.result c.loop-key.timers (ap (λ (l : Line). made_known l.op) c.collect_line-line.ensures) c.loop-key.invariant.armed
