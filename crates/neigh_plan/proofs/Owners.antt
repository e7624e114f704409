-- What the operations of a plan are in merged order: by moment, each id once and small, and each participant's own in the order of his items.
use Rattle.std.proofs.Common.{◌≡◌, ℕ, ◌+◌, ◌≤◌, List, [], ◌∷◌, ◌++◌, map, Option, Some, None, sym, ◌∙◌, ap, subst, arith}
use Rattle.std.specs.Prelude.{filter}
use Rattle.nb_base.specs.declared.time.OpId.{OpId}
use Rattle.nb_base.specs.declared.op.Op.{Op}
use Rattle.nb_base.specs.declared.plan.Plan.{Plan}
use Rattle.nb_base.specs.declared.plan.SendItem.{SendItem}
use Rattle.nb_base.specs.declared.plan.ControlItem.{ControlItem}
use Rattle.neigh_run.specs.Control.{HostState, host_start, turn}
use Rattle.neigh_run.specs.Merged.{Entered, control_ops, sender_ops, senders_ops, by_moment, merged}
use Rattle.neigh_run.specs.Plan.{RisesFrom, send_at, control_at, AreSendLists, IsWithinLimits}
use Rattle.neigh_plan.specs.Merging.{lines_of, AreByMoment}
use Rattle.neigh_plan.proofs.Planned.{rises-lower}
use Rattle.neigh_plan.proofs.Orders.{Each, each_all, count, count_all, rises_all, filter_all, entered_at, by_moment-sorted, line_moments}
use Rattle.neigh_run.proofs.Numbers.{own_op, has_id, is_by, each_id_once, Owns, each_owns, control_owns, IsSmall, small_ids}

rises_control : (plan : Plan) (s : HostState) (n m : ℕ) (items : List ControlItem) → RisesFrom m (map control_at items) → RisesFrom m (map entered_at (control_ops plan s n items))
rises_control plan s n m [] h = tt
rises_control plan s n m (x ∷ xs) h = by_op (turn plan s n x).operation (rises_control plan (turn plan s n x).behind (n + 1) (control_at x) xs h.1) where
  by_op : (o : Option Op) → RisesFrom (control_at x) (map entered_at (control_ops plan (turn plan s n x).behind (n + 1) xs)) → RisesFrom m (map entered_at (own_op x n o ++ control_ops plan (turn plan s n x).behind (n + 1) xs))
  by_op None rest = rises-lower (control_at x) m (map entered_at (control_ops plan (turn plan s n x).behind (n + 1) xs)) h.0 rest
  by_op (Some o) rest = (h.0, rest)

rises_sender : (p n m : ℕ) (items : List SendItem) → RisesFrom m (map send_at items) → RisesFrom m (map entered_at (sender_ops p n items))
rises_sender p n m [] h = tt
rises_sender p n m (x ∷ xs) h = (h.0, rises_sender p (n + 1) x.at xs h.1)

owns_merged : (operations : List Entered) (p : ℕ) (senders : List (List SendItem)) → AreSendLists senders → Owns operations p senders → Owns (by_moment operations) p senders
owns_merged operations p [] lists owns = tt
owns_merged operations p (items ∷ rest) lists owns = (
  filter_all (is_by p) [] operations tt ∙ ap by_moment owns.0 ∙ by_moment-sorted (sender_ops p 1 items) (rises_sender p 1 0 items lists.0.list.rises),
  owns_merged operations (p + 1) rest lists.1 owns.1,
)

-- what holds of the operations in merged order
pub record IsInOrder (plan : Plan) : Type 0 where
  pub rises : AreByMoment (lines_of (merged plan))
  pub once : (id : OpId) → count (has_id id) (merged plan) ≤ 1
  pub small : Each IsSmall (merged plan)
  pub owns : Owns (merged plan) 1 plan.senders
  pub control : filter (is_by 0) (merged plan) ≡ control_ops plan host_start 1 plan.control

pub in_order : (plan : Plan) → IsWithinLimits plan → IsInOrder plan
in_order plan within = record {
  rises = subst (RisesFrom 0) (sym (line_moments (merged plan))) (rises_all [] operations tt);
  once = λ id. let same = count_all (has_id id) [] operations in let once = each_id_once plan host_start plan.control plan.senders id within.few in omega (arith, same, once);
  small = each_all IsSmall [] operations tt (small_ids plan within);
  owns = owns_merged operations 1 plan.senders within.senders (each_owns plan host_start plan.control plan.senders within.few);
  control = filter_all (is_by 0) [] operations tt ∙ ap by_moment (control_owns plan host_start plan.control plan.senders within.few) ∙ by_moment-sorted (control_ops plan host_start 1 plan.control) (rises_control plan host_start 1 0 plan.control within.control.rises);
} where
  operations : List Entered
  operations = control_ops plan host_start 1 plan.control ++ senders_ops 1 plan.senders
