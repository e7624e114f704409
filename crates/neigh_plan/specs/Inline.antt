-- What the replay of a plan by one thread asks of the plan, and how many lines each of its journals can get.
use Rattle.std.specs.Prelude.{◌≡◌, ℕ, ◌≤◌, Bool, true, ◌&&◌, not, max, List, [], ◌∷◌, ◌++◌, map, flat_map, length}
use Rattle.std.specs.List.{list_all}
use Rattle.nb_base.specs.declared.op.Op.{Op}
use Rattle.nb_base.specs.Params.{InRange}
use Rattle.nb_base.specs.declared.plan.Plan.{Plan}
use Rattle.nb_base.specs.Buckets.{is_bucket_count}
use Rattle.nud_machine.specs.Asked.{greatest}
use Rattle.nb_journal.specs.Keys.{is_own, is_send, may_be_asked}
use Rattle.nb_journal.specs.Accounts.{line_bound}
pub use Rattle.nb_journal.specs.Accounts.{most_lines}
use Rattle.neigh_run.specs.Control.{host_start}
use Rattle.neigh_run.specs.Merged.{control_ops, merged}
use Rattle.neigh_run.specs.Plan.{control_at, send_at, IsWithinLimits}

-- the greatest of moments, or 0 where there is none
abbrev pub greatest_of : List ℕ → ℕ
greatest_of [] = 0
greatest_of (at ∷ moments) = max at (greatest_of moments)

-- the moments of all items of a plan
abbrev pub moments_of : Plan → List ℕ
moments_of plan = map control_at plan.control ++ flat_map (map send_at) plan.senders

-- the greatest of them, or 0
unfoldable pub last_item_at : Plan → ℕ
last_item_at plan = greatest_of (moments_of plan)

-- an operation that participant 0 may have: no packet, none of the bucket's own, and one that may be asked for
abbrev pub is_given_op : Op → Bool
is_given_op o = is_own o && (not (is_send o) && may_be_asked o)

-- and each of participant 0 is such a one
unfoldable pub has_given_ops : Plan → Bool
has_given_ops plan = list_all (λ x. is_given_op x.op) (control_ops plan host_start 1 plan.control)

-- a plan whose operations go into the buckets of a table: it has as many as a table may have, its parameters are in their ranges, its items are within the limits of a plan and no later than the greatest moment, and participant 0 has such operations
pub record IsEnterable (plan : Plan) : Type 0 where
  pub params : InRange plan.params
  pub buckets : is_bucket_count plan.buckets ≡ true
  pub within : IsWithinLimits plan
  pub moments : last_item_at plan ≤ greatest
  pub operations : has_given_ops plan ≡ true

-- the most lines that a journal of the plan can have, as many as if all operations went into it
unfoldable pub plan_bound : Plan → ℕ
plan_bound plan = line_bound plan.params (length (merged plan)) (last_item_at plan)
