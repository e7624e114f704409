-- The lines of each participant, one item after the other, and of all participants, one after the other.
use Rattle.std.proofs.Common.{◌≡◌, ℕ, zero, suc, ◌+◌, ◌*◌, ◌<◌, ◌≤◌, List, [], ◌∷◌, ◌++◌, length, map, take, get_or, Option, Some, None, refl, sym, ◌∙◌, ap, subst, arith, append_assoc, append-nil}
use Rattle.std.specs.Option.{option_to_list}
use Rattle.std.specs.List.{AllByRecursion}
use Rattle.std.proofs.lemmas.List.{take_more, length-take-le, length-append, length-map, map-append}
use Rattle.std.proofs.Math.Seq.{take-length}
use Rattle.nb_base.specs.declared.plan.Plan.{Plan}
use Rattle.nb_base.specs.declared.op.Op.{Op}
use Rattle.nb_base.specs.declared.op.Op.TheVariants as op
use Rattle.nb_base.specs.declared.line.Line.{Line}
use Rattle.nb_base.specs.declared.plan.SendItem.{SendItem}
use Rattle.nb_base.specs.declared.plan.ControlItem.{ControlItem}
use Rattle.neigh_run.specs.Control.{HostState, host_start, turn, state_behind}
use Rattle.neigh_run.specs.Merged.{Entered, id_for, control_op, control_ops, sender_ops, senders_ops, merged}
use Rattle.neigh_run.specs.Plan.{RisesFrom, IsPacket, IsSendList, AreSendLists, IsWithinLimits, send_at, control_at}
use Rattle.neigh_plan.specs.Merging.{line_of, lines_of, line_at, insert_lines}
use Rattle.neigh_run.proofs.Numbers.{own_op}
use Rattle.neigh_plan.proofs.Planned.{rises-lower}
use Rattle.neigh_plan.proofs.Orders.{length_all}
use Rattle.neigh_plan.proofs.Merges.{insert_lines-append, insert_lines-sorted, lines_of-by_moment}

sender_snoc : (p n : ℕ) (items : List SendItem) (x : SendItem) → sender_ops p n (items ++ x ∷ []) ≡ sender_ops p n items ++ record { at = x.at; id = id_for p (n + length items); op = op.Send x.key (length x.payload) } ∷ []
sender_snoc p n [] x = let same : n + 0 ≡ n = omega arith in rw same refl
sender_snoc p n (y ∷ ys) x =
    let next : n + suc (length ys) ≡ n + 1 + length ys = omega arith in
    rw next (ap (λ (zs : List Entered). record { at = y.at; id = id_for p n; op = op.Send y.key (length y.payload) } ∷ zs) (sender_snoc p (n + 1) ys x))

-- one packet more
pub sender_ops_more : (p : ℕ) (items : List SendItem) (i : ℕ) (x : SendItem) → i < length items → x ≡ get_or items i x
    → lines_of (sender_ops p 1 (take (i + 1) items)) ≡ lines_of (sender_ops p 1 (take i items)) ++ line_of (record { at = x.at; id = id_for p (i + 1); op = op.Send x.key (length x.payload) }) ∷ []
sender_ops_more p items i x lt at =
    let long = length-take-le i items (omega (arith, lt)) in
    let number : 1 + length (take i items) ≡ i + 1 = omega (arith, long) in
    ap (λ (xs : List SendItem). lines_of (sender_ops p 1 xs)) (take_more items i x lt)
    ∙ ap (λ (y : SendItem). lines_of (sender_ops p 1 (take i items ++ y ∷ []))) (sym at)
    ∙ ap lines_of (sender_snoc p 1 (take i items) x)
    ∙ map-append line_of (sender_ops p 1 (take i items)) (record { at = x.at; id = id_for p (1 + length (take i items)); op = op.Send x.key (length x.payload) } ∷ [])
    ∙ ap (λ (n : ℕ). lines_of (sender_ops p 1 (take i items)) ++ line_of (record { at = x.at; id = id_for p n; op = op.Send x.key (length x.payload) }) ∷ []) number

control_snoc : (plan : Plan) (s : HostState) (n : ℕ) (items : List ControlItem) (x : ControlItem)
    → control_ops plan s n (items ++ x ∷ []) ≡ control_ops plan s n items ++ option_to_list (control_op plan (state_behind plan s n items) (n + length items) x)
control_snoc plan s n [] x = let same : n + 0 ≡ n = omega arith in rw same (append-nil (option_to_list (control_op plan s n x)))
control_snoc plan s n (y ∷ ys) x =
    let next : n + suc (length ys) ≡ n + 1 + length ys = omega arith in
    let behind = (turn plan s n y).behind in
    rw next (
    ap (λ (zs : List Entered). option_to_list (control_op plan s n y) ++ zs) (control_snoc plan behind (n + 1) ys x)
    ∙ sym (append_assoc (option_to_list (control_op plan s n y)) (control_ops plan behind (n + 1) ys) (option_to_list (control_op plan (state_behind plan behind (n + 1) ys) (n + 1 + length ys) x)))
    )

-- one item of participant 0 more
pub control_ops_more : (plan : Plan) (items : List ControlItem) (i : ℕ) (x : ControlItem) → i < length items → x ≡ get_or items i x
    → lines_of (control_ops plan host_start 1 (take (i + 1) items)) ≡ lines_of (control_ops plan host_start 1 (take i items)) ++ lines_of (option_to_list (control_op plan (state_behind plan host_start 1 (take i items)) (i + 1) x))
control_ops_more plan items i x lt at =
    let long = length-take-le i items (omega (arith, lt)) in
    let number : 1 + length (take i items) ≡ i + 1 = omega (arith, long) in
    let behind = state_behind plan host_start 1 (take i items) in
    ap (λ (xs : List ControlItem). lines_of (control_ops plan host_start 1 xs)) (take_more items i x lt)
    ∙ ap (λ (y : ControlItem). lines_of (control_ops plan host_start 1 (take i items ++ y ∷ []))) (sym at)
    ∙ ap lines_of (control_snoc plan host_start 1 (take i items) x)
    ∙ map-append line_of (control_ops plan host_start 1 (take i items)) (option_to_list (control_op plan behind (1 + length (take i items)) x))
    ∙ ap (λ (n : ℕ). lines_of (control_ops plan host_start 1 (take i items)) ++ lines_of (option_to_list (control_op plan behind n x))) number

-- ---- the moments of the lines

pub rises_sender_lines : (p n m : ℕ) (items : List SendItem) → RisesFrom m (map send_at items) → RisesFrom m (map line_at (lines_of (sender_ops p n items)))
rises_sender_lines p n m [] h = tt
rises_sender_lines p n m (x ∷ xs) h = (h.0, rises_sender_lines p (n + 1) x.at xs h.1)

pub rises_control_lines : (plan : Plan) (s : HostState) (n m : ℕ) (items : List ControlItem) → RisesFrom m (map control_at items) → RisesFrom m (map line_at (lines_of (control_ops plan s n items)))
rises_control_lines plan s n m [] h = tt
rises_control_lines plan s n m (x ∷ xs) h = by_op (turn plan s n x).operation (rises_control_lines plan (turn plan s n x).behind (n + 1) (control_at x) xs h.1) where
  by_op : (o : Option Op) → RisesFrom (control_at x) (map line_at (lines_of (control_ops plan (turn plan s n x).behind (n + 1) xs)))
      → RisesFrom m (map line_at (lines_of (own_op x n o ++ control_ops plan (turn plan s n x).behind (n + 1) xs)))
  by_op None rest = rises-lower (control_at x) m (map line_at (lines_of (control_ops plan (turn plan s n x).behind (n + 1) xs))) h.0 rest
  by_op (Some o) rest = (h.0, rest)

-- what holds of each sender's list holds of the one at a place
pub list_at : (senders : List (List SendItem)) (i : ℕ) (items : List SendItem) → AreSendLists senders → i < length senders → items ≡ get_or senders i items → IsSendList items
list_at [] i items h lt at = absurd (omega (arith, lt))
list_at (x ∷ xs) zero items h lt at = subst IsSendList (sym at) h.0
list_at (x ∷ xs) (suc i) items h lt at = list_at xs i items h.1 (omega (arith, lt)) at

-- and what holds of each packet
pub packet_at : (items : List SendItem) (i : ℕ) (x : SendItem) → AllByRecursion IsPacket items → i < length items → x ≡ get_or items i x → IsPacket x
packet_at [] i x h lt at = absurd (omega (arith, lt))
packet_at (y ∷ ys) zero x h lt at = subst IsPacket (sym at) h.0
packet_at (y ∷ ys) (suc i) x h lt at = packet_at ys i x h.1 (omega (arith, lt)) at

-- ---- the participants one after the other

pub senders_snoc : (p : ℕ) (senders : List (List SendItem)) (items : List SendItem) → senders_ops p (senders ++ items ∷ []) ≡ senders_ops p senders ++ sender_ops (p + length senders) 1 items
senders_snoc p [] items = let same : p + 0 ≡ p = omega arith in rw same (append-nil (sender_ops p 1 items))
senders_snoc p (y ∷ ys) items =
    let next : p + suc (length ys) ≡ p + 1 + length ys = omega arith in
    rw next (
    ap (λ (zs : List Entered). sender_ops p 1 y ++ zs) (senders_snoc (p + 1) ys items)
    ∙ sym (append_assoc (sender_ops p 1 y) (senders_ops (p + 1) ys) (sender_ops (p + 1 + length ys) 1 items))
    )

-- participant 0 and the first senders, merged
abbrev pub merged_so_far : Plan → List ControlItem → List (List SendItem) → List Line
merged_so_far plan items senders = insert_lines [] (lines_of (control_ops plan host_start 1 items ++ senders_ops 1 senders))

-- one sender more
pub merged_more : (plan : Plan) (items : List ControlItem) (senders : List (List SendItem)) (i : ℕ) (own : List SendItem) → i < length senders → own ≡ get_or senders i own
    → insert_lines (merged_so_far plan items (take i senders)) (lines_of (sender_ops (i + 1) 1 own)) ≡ merged_so_far plan items (take (i + 1) senders)
merged_more plan items senders i own lt at =
    let long = length-take-le i senders (omega (arith, lt)) in
    let number : 1 + length (take i senders) ≡ i + 1 = omega (arith, long) in
    let first = control_ops plan host_start 1 items in
    let before = senders_ops 1 (take i senders) in
    let next = sender_ops (i + 1) 1 own in
    sym (insert_lines-append [] (lines_of (first ++ before)) (lines_of next))
    ∙ ap (insert_lines []) (sym (map-append line_of (first ++ before) next))
    ∙ ap (λ (xs : List Entered). insert_lines [] (lines_of xs)) (
    append_assoc first before next
    ∙ ap (λ (xs : List Entered). first ++ xs) (
    ap (λ (n : ℕ). before ++ sender_ops n 1 own) (sym number)
    ∙ sym (senders_snoc 1 (take i senders) own)
    ∙ ap (λ (y : List SendItem). senders_ops 1 (take i senders ++ y ∷ [])) at
    ∙ ap (senders_ops 1) (sym (take_more senders i own lt))
    )
    )

-- participant 0 alone
pub merged_first : (plan : Plan) (items : List ControlItem) (senders : List (List SendItem)) → RisesFrom 0 (map control_at items) → lines_of (control_ops plan host_start 1 items) ≡ merged_so_far plan items (take 0 senders)
merged_first plan items senders h =
    sym (insert_lines-sorted 0 (lines_of (control_ops plan host_start 1 items)) (rises_control_lines plan host_start 1 0 items h))
    ∙ ap (λ (xs : List Entered). insert_lines [] (lines_of xs)) (sym (append-nil (control_ops plan host_start 1 items)))

-- all of them
pub merged_last : (plan : Plan) (i : ℕ) → length plan.senders ≡ i → merged_so_far plan plan.control (take i plan.senders) ≡ lines_of (merged plan)
merged_last plan i all =
    ap (λ (n : ℕ). merged_so_far plan plan.control (take n plan.senders)) (sym all)
    ∙ ap (merged_so_far plan plan.control) (take-length plan.senders)
    ∙ sym (lines_of-by_moment (control_ops plan host_start 1 plan.control ++ senders_ops 1 plan.senders))

-- ---- how many lines there are

pub control_long : (plan : Plan) (s : HostState) (n : ℕ) (items : List ControlItem) → length (control_ops plan s n items) ≤ length items
control_long plan s n [] = omega arith
control_long plan s n (x ∷ xs) = by_op (turn plan s n x).operation (control_long plan (turn plan s n x).behind (n + 1) xs) where
  by_op : (o : Option Op) → length (control_ops plan (turn plan s n x).behind (n + 1) xs) ≤ length xs → length (own_op x n o ++ control_ops plan (turn plan s n x).behind (n + 1) xs) ≤ length (x ∷ xs)
  by_op None rest = omega (arith, rest)
  by_op (Some o) rest = omega (arith, rest)

pub sender_long : (p n : ℕ) (items : List SendItem) → length (sender_ops p n items) ≡ length items
sender_long p n [] = refl
sender_long p n (x ∷ xs) = let rest = sender_long p (n + 1) xs in omega (arith, rest)

senders_long : (p : ℕ) (senders : List (List SendItem)) → AreSendLists senders → length (senders_ops p senders) ≤ 131_072 * length senders
senders_long p [] lists = omega arith
senders_long p (items ∷ senders) lists =
    let few = lists.0.list.few in
    let moments = length-map items send_at in
    let own = sender_long p 1 items in
    let rest = senders_long (p + 1) senders lists.1 in
    let both = length-append (sender_ops p 1 items) (senders_ops (p + 1) senders) in
    omega (arith, few, moments, own, rest, both)

-- a plan within its limits has few lines
pub merged_short : (plan : Plan) (lines : List Line) → IsWithinLimits plan → lines ≡ lines_of (merged plan) → length lines < 2_147_483_648
merged_short plan lines within are =
    let first = control_long plan host_start 1 plan.control in
    let few = within.control.few in
    let moments = length-map plan.control control_at in
    let others = senders_long 1 plan.senders within.senders in
    let many = within.few in
    let both = length-append (control_ops plan host_start 1 plan.control) (senders_ops 1 plan.senders) in
    let all = length_all [] (control_ops plan host_start 1 plan.control ++ senders_ops 1 plan.senders) in
    let same = ap (λ (ls : List Line). length ls) are in
    let long = length-map (merged plan) line_of in
    omega (arith, first, few, moments, others, many, both, all, same, long)
