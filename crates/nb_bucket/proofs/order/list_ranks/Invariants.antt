use Rattle.std.proofs.Common.{◌≡◌, ◌≤◌, ◌++◌, length, Some}
use Rattle.std.specs.Prelude.{IfSome, vec_capacity}
use Rattle.slot_links.specs.Lists.{list_at, StandsIn, StandOnce}
use Rattle.nb_bucket.proofs.Walks.{rest_from}
use Rattle.nb_bucket.proofs.order.list_ranks.Given as goal

abbrev pub invariant-loop-next : goal.invariant-loop-next
invariant-loop-next l = record {
  once : StandOnce l.order;
  stands : IfSome l.next (StandsIn l.order (Some 0));
  rest : l.ranks.items ++ rest_from l.next (list_at l.order.lists 0) ≡ list_at l.order.lists 0;
  room : vec_capacity l.fn.ranks ≤ vec_capacity l.ranks;
}

abbrev pub decreases-loop-next : goal.decreases-loop-next
decreases-loop-next l = length (rest_from l.next (list_at l.order.lists 0))
