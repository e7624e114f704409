use Rattle.std.proofs.Common.{ℕ, List, [], ◌∷◌, if◌then◌else◌, take, get_or, refl, sym, ap, ◌∙◌}
use Rattle.std.proofs.lemmas.List.{take_more, take_all}
use Rattle.slot_links.specs.Lists.{take_out}
use Rattle.nb_bucket.specs.Making.{present_at}
use Rattle.nb_bucket.proofs.Walks.{left_of, none_left_out, one_left_out, own_left}
use Rattle.nb_bucket.proofs.order.drop_ranks.Goals as goal

pub loop-rank-init : goal.loop-rank-init
loop-rank-init c = record {
  lists = c.requires.list ∙ ap (λ (xs : List ℕ). xs ∷ []) (sym (none_left_out (present_at c.args.fold.now.params c.args.fold.now.lines) c.args.ranks.now));
  nodes = refl;
}

pub loop-rank-preserved : goal.loop-rank-preserved
loop-rank-preserved c =
    let fold = c.args.fold.now in
    let ranks = c.args.ranks.now in
    let i = c.loop-rank.rank-index in
    let test = present_at fold.params fold.lines in
    let rank = get_or ranks i 0 in
    record {
      lists = c.drop_rank.ensures.lists
          ∙ ap (λ (lists : List (List ℕ)). if test rank then lists else take_out lists rank) c.loop-rank.invariant.lists
          ∙ one_left_out test (take i ranks) ranks rank
          ∙ ap (λ (front : List ℕ). left_of test front ranks ∷ []) (sym (take_more ranks i 0 c.loop-rank-test.true));
      nodes = c.drop_rank.ensures.nodes ∙ c.loop-rank.invariant.nodes;
    }

pub returns-clause-lists : goal.returns-clause-lists
returns-clause-lists c =
    let test = present_at c.args.fold.now.params c.args.fold.now.lines in
    let ranks = c.args.ranks.now in
    c.loop-rank.invariant.lists
    ∙ ap (λ (front : List ℕ). left_of test front ranks ∷ []) (take_all c.loop-rank.rank-index ranks c.loop-rank-test.false)
    ∙ ap (λ (xs : List ℕ). xs ∷ []) (own_left test ranks)
