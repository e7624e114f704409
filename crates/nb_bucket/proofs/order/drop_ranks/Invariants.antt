use Rattle.std.proofs.Common.{◌≡◌, [], ◌∷◌, take}
use Rattle.nb_bucket.specs.Making.{present_at}
use Rattle.nb_bucket.proofs.Walks.{left_of}
use Rattle.nb_bucket.proofs.order.drop_ranks.Given as goal

abbrev pub invariant-loop-rank : goal.invariant-loop-rank
invariant-loop-rank l = record {
  lists : l.order.lists ≡ left_of (present_at l.fold.params l.fold.lines) (take l.rank-index l.ranks) l.ranks ∷ [];
  nodes : l.order.nodes ≡ l.fn.order.nodes;
}
