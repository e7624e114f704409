use Rattle.std.proofs.Common.{◌≡◌, ◌+◌, ◌≤◌, ◌++◌, length, map, Some}
use Rattle.std.specs.Prelude.{IfSome, vec_capacity}
use Rattle.nb_journal.specs.Fold.{state_of}
use Rattle.nb_journal.specs.Lawful.{collected, is_collectable, making_order}
use Rattle.slot_links.specs.Lists.{list_at, StandsIn, StandOnce}
use Rattle.nb_bucket.specs.Entering.{victims_of}
use Rattle.nb_bucket.specs.Making.{key_at}
use Rattle.nb_bucket.proofs.Walks.{rest_from}
use Rattle.nb_bucket.proofs.passing.find_victims.Given as goal

abbrev pub invariant-loop-next : goal.invariant-loop-next
invariant-loop-next l = record {
  once : StandOnce l.order;
  stands : IfSome l.next (StandsIn l.order (Some 0));
  few : length l.victims.items + length (rest_from l.next (list_at l.order.lists 0)) ≤ length (list_at l.order.lists 0);
  room : vec_capacity l.fn.victims ≤ vec_capacity l.victims;
  found : l.victims.items ++ collected l.fold.params.gc_thresh2 l.left (λ key. is_collectable l.at (state_of l.fold.params l.fold.lines key)) (map (key_at l.fold.lines) (rest_from l.next (list_at l.order.lists 0))) ≡ victims_of l.fold.params l.fold.lines l.seen l.at (making_order l.fold.params l.fold.lines);
}

abbrev pub decreases-loop-next : goal.decreases-loop-next
decreases-loop-next l = length (rest_from l.next (list_at l.order.lists 0))
