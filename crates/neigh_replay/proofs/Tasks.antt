-- The operations of a plan in merged order are such as a table takes: early enough, own, and with states that may be given; and their line bound is the plan's.
use Rattle.std.proofs.Common.{◌≡◌, ℕ, ◌+◌, ◌<◌, ◌≤◌, true, List, [], ◌∷◌, ◌++◌, length, map, Option, Some, None, refl, sym, ◌∙◌, ap, subst, arith}
use Rattle.std.specs.Prelude.{◌&&◌, not, nat_le, flat_map}
use Rattle.std.specs.List.{list_all, AllByRecursion}
use Rattle.std.proofs.lemmas.Bool.{and_parts}
use Rattle.std.proofs.lemmas.List.{length-map}
use Rattle.nb_base.specs.declared.op.Op.{Op}
use Rattle.nb_base.specs.declared.line.Line.{Line}
use Rattle.nb_base.specs.declared.params.Params.{Params}
use Rattle.nb_base.specs.declared.plan.Plan.{Plan}
use Rattle.nb_base.specs.declared.plan.SendItem.{SendItem}
use Rattle.nb_base.specs.declared.plan.ControlItem.{ControlItem}
use Rattle.nud_machine.specs.Asked.{greatest}
use Rattle.nb_journal.specs.Keys.{is_own, is_send, may_be_asked}
use Rattle.nb_journal.specs.Accounts.{line_bound}
use Rattle.neigh_run.specs.Control.{HostState, host_start, turn}
use Rattle.neigh_run.specs.Merged.{Entered, control_ops, sender_ops, senders_ops, merged}
use Rattle.neigh_run.specs.Plan.{IsPacket, AreSendLists, IsWithinLimits, control_at, send_at}
use Rattle.neigh_plan.specs.Inline.{most_lines, greatest_of, last_item_at, is_given_op, has_given_ops, plan_bound}
use Rattle.neigh_plan.specs.Merging.{line_of, lines_of}
use Rattle.plain_table.specs.Entering.{IsTask, LineIsUpTo, AreInBound}
use Rattle.nb_journal.proofs.Tests.{and_both, le_to}
use Rattle.neigh_run.proofs.Numbers.{own_op}
use Rattle.neigh_plan.proofs.Orders.{Each, each_append, each_all}

-- ---- moments

pub greatest-left : (xs ys : List ℕ) → greatest_of xs ≤ greatest_of (xs ++ ys)
greatest-left [] ys = omega arith
greatest-left (x ∷ xs) ys = let rest = greatest-left xs ys in omega (arith, rest)

pub greatest-right : (xs ys : List ℕ) → greatest_of ys ≤ greatest_of (xs ++ ys)
greatest-right [] ys = omega arith
greatest-right (x ∷ xs) ys = let rest = greatest-right xs ys in omega (arith, rest)

-- no later than a moment
abbrev pub IsUpTo : ℕ → Entered → Type 0
IsUpTo m x = x.at ≤ m

early_control : (plan : Plan) (s : HostState) (n m : ℕ) (items : List ControlItem) → greatest_of (map control_at items) ≤ m → Each (IsUpTo m) (control_ops plan s n items)
early_control plan s n m [] le = tt
early_control plan s n m (x ∷ xs) le = by_op (turn plan s n x).operation (early_control plan (turn plan s n x).behind (n + 1) m xs (omega (arith, le))) where
  by_op : (o : Option Op) → Each (IsUpTo m) (control_ops plan (turn plan s n x).behind (n + 1) xs) → Each (IsUpTo m) (own_op x n o ++ control_ops plan (turn plan s n x).behind (n + 1) xs)
  by_op None rest = rest
  by_op (Some o) rest = (omega (arith, le), rest)

early_sender : (p n m : ℕ) (items : List SendItem) → greatest_of (map send_at items) ≤ m → Each (IsUpTo m) (sender_ops p n items)
early_sender p n m [] le = tt
early_sender p n m (x ∷ xs) le = (omega (arith, le), early_sender p (n + 1) m xs (omega (arith, le)))

early_senders : (p m : ℕ) (senders : List (List SendItem)) → greatest_of (flat_map (map send_at) senders) ≤ m → Each (IsUpTo m) (senders_ops p senders)
early_senders p m [] le = tt
early_senders p m (items ∷ senders) le =
    let left = greatest-left (map send_at items) (flat_map (map send_at) senders) in
    let right = greatest-right (map send_at items) (flat_map (map send_at) senders) in
    each_append (IsUpTo m) (sender_ops p 1 items) (senders_ops (p + 1) senders) (early_sender p 1 m items (omega (arith, left, le))) (early_senders (p + 1) m senders (omega (arith, right, le)))

-- no operation lies behind the last item
pub early_merged : (plan : Plan) → Each (IsUpTo (last_item_at plan)) (merged plan)
unfolding last_item_at
early_merged plan =
    let left = greatest-left (map control_at plan.control) (flat_map (map send_at) plan.senders) in
    let right = greatest-right (map control_at plan.control) (flat_map (map send_at) plan.senders) in
    each_all (IsUpTo (last_item_at plan)) [] (control_ops plan host_start 1 plan.control ++ senders_ops 1 plan.senders) tt
    (each_append (IsUpTo (last_item_at plan)) (control_ops plan host_start 1 plan.control) (senders_ops 1 plan.senders) (early_control plan host_start 1 (last_item_at plan) plan.control left) (early_senders 1 (last_item_at plan) plan.senders right))

-- nor does an item of participant 0
pub control_early : (plan : Plan) → greatest_of (map control_at plan.control) ≤ last_item_at plan
unfolding last_item_at
control_early plan = greatest-left (map control_at plan.control) (flat_map (map send_at) plan.senders)

-- ---- operations

-- an operation that a bucket takes
abbrev pub IsTaken : Entered → Type 0
IsTaken x = (is_own x.op ≡ true) × (may_be_asked x.op ≡ true)

given_parts : (o : Op) → is_given_op o ≡ true → (is_own o ≡ true) × (may_be_asked o ≡ true)
given_parts o h =
    let parts = and_parts (is_own o) (not (is_send o) && may_be_asked o) h in
    (parts.0, (and_parts (not (is_send o)) (may_be_asked o) parts.1).1)

given_each : (xs : List Entered) → list_all (λ x. is_given_op x.op) xs ≡ true → Each IsTaken xs
given_each [] h = tt
given_each (x ∷ xs) h = let parts = and_parts (is_given_op x.op) (list_all (λ y. is_given_op y.op) xs) h in (given_parts x.op parts.0, given_each xs parts.1)

taken_sender : (p n : ℕ) (items : List SendItem) → AllByRecursion IsPacket items → Each IsTaken (sender_ops p n items)
taken_sender p n [] h = tt
taken_sender p n (x ∷ xs) h = ((refl, and_both (nat_le 1 (length x.payload)) (nat_le (length x.payload) 1_500) (le_to 1 (length x.payload) h.0.0) (le_to (length x.payload) 1_500 h.0.1)), taken_sender p (n + 1) xs h.1)

taken_senders : (p : ℕ) (senders : List (List SendItem)) → AreSendLists senders → Each IsTaken (senders_ops p senders)
taken_senders p [] h = tt
taken_senders p (items ∷ rest) h = each_append IsTaken (sender_ops p 1 items) (senders_ops (p + 1) rest) (taken_sender p 1 items h.0.packets) (taken_senders (p + 1) rest h.1)

pub taken_merged : (plan : Plan) → IsWithinLimits plan → has_given_ops plan ≡ true → Each IsTaken (merged plan)
unfolding has_given_ops
taken_merged plan within h =
    each_all IsTaken [] (control_ops plan host_start 1 plan.control ++ senders_ops 1 plan.senders) tt
    (each_append IsTaken (control_ops plan host_start 1 plan.control) (senders_ops 1 plan.senders) (given_each (control_ops plan host_start 1 plan.control) h) (taken_senders 1 plan.senders within.senders))

-- ---- their lines

tasks_of : (m : ℕ) (xs : List Entered) → m ≤ greatest → Each (IsUpTo m) xs → Each IsTaken xs → AllByRecursion IsTask (lines_of xs)
tasks_of m [] le early taken = tt
tasks_of m (x ∷ xs) le early taken = let at = early.0 in (record { now = omega (arith, at, le); own = taken.0.0; asked = taken.0.1 }, tasks_of m xs le early.1 taken.1)

pub tasks_merged : (plan : Plan) → IsWithinLimits plan → last_item_at plan ≤ greatest → has_given_ops plan ≡ true → AllByRecursion IsTask (lines_of (merged plan))
tasks_merged plan within le h = tasks_of (last_item_at plan) (merged plan) le (early_merged plan) (taken_merged plan within h)

early_lines : (m : ℕ) (xs : List Entered) → Each (IsUpTo m) xs → AllByRecursion (LineIsUpTo m) (lines_of xs)
early_lines m [] early = tt
early_lines m (x ∷ xs) early = (early.0, early_lines m xs early.1)

upto_merged : (plan : Plan) → AllByRecursion (LineIsUpTo (last_item_at plan)) (lines_of (merged plan))
upto_merged plan = early_lines (last_item_at plan) (merged plan) (early_merged plan)

-- the line bound of the lines is the plan's
bound_is : (plan : Plan) → line_bound plan.params (length (lines_of (merged plan))) (last_item_at plan) ≡ plan_bound plan
unfolding plan_bound
bound_is plan = ap (λ (n : ℕ). line_bound plan.params n (last_item_at plan)) (length-map (merged plan) line_of)

-- what is entered has a line bound below 2^22 where the plan has
pub in_bound : (plan : Plan) (params : Params) (lines : List Line) → params ≡ plan.params → lines ≡ lines_of (merged plan) → plan_bound plan < most_lines → AreInBound params lines
in_bound plan params lines e f lt = record {
  moment = last_item_at plan;
  upto = subst (AllByRecursion (LineIsUpTo (last_item_at plan))) (sym f) (upto_merged plan);
  bound = subst (λ (n : ℕ). n < most_lines) (sym (
      ap (λ (p : Params). line_bound p (length lines) (last_item_at plan)) e
      ∙ ap (λ (ls : List Line). line_bound plan.params (length ls) (last_item_at plan)) f
      ∙ bound_is plan
      )) lt;
}
