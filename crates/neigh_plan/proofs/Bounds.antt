-- The line bound, counted over the participants' items one after the other.
use Rattle.std.proofs.Common.{◌≡◌, ℕ, ◌+◌, ◌*◌, ◌/◌, ◌<◌, ◌≤◌, max, List, [], ◌∷◌, ◌++◌, length, map, take, get_or, refl, sym, ◌∙◌, ap, subst, arith, append-nil, append_assoc}
use Rattle.std.specs.Prelude.{flat_map}
use Rattle.std.specs.Option.{option_to_list}
use Rattle.std.proofs.lemmas.List.{take_more, length-append, length-map, map-append}
use Rattle.std.proofs.Math.Nat.{mul-le-mul, div-le_self}
use Rattle.nb_base.specs.declared.params.Params.{Params}
use Rattle.nb_base.specs.Params.{InRange}
use Rattle.nb_base.specs.declared.plan.Plan.{Plan}
use Rattle.nb_base.specs.declared.plan.SendItem.{SendItem}
use Rattle.nb_base.specs.declared.plan.ControlItem.{ControlItem}
use Rattle.nb_journal.specs.Accounts.{line_bound}
use Rattle.neigh_run.specs.Control.{HostState, host_start, state_behind}
use Rattle.neigh_run.specs.Merged.{Entered, control_op, control_ops, sender_ops, senders_ops, merged}
use Rattle.neigh_run.specs.Plan.{AreSendLists, control_at, send_at}
use Rattle.neigh_plan.specs.Merging.{line_of, lines_of}
use Rattle.neigh_plan.specs.Inline.{greatest_of, last_item_at, plan_bound}
use Rattle.neigh_plan.proofs.Orders.{length_all}
use Rattle.neigh_plan.proofs.Participants.{control_ops_more, sender_long, senders_snoc, list_at}

-- ---- how many operations there are

-- one item of participant 0 more
pub given_more : (plan : Plan) (items : List ControlItem) (i count more : ℕ) (x : ControlItem) → i < length items → x ≡ get_or items i x → count ≡ length (control_ops plan host_start 1 (take i items))
    → ((s : HostState) (n : ℕ) → more ≡ length (option_to_list (control_op plan s n x))) → count + more ≡ length (control_ops plan host_start 1 (take (i + 1) items))
given_more plan items i count more x lt at counted here =
    let next = option_to_list (control_op plan (state_behind plan host_start 1 (take i items)) (i + 1) x) in
    let front = control_ops plan host_start 1 (take i items) in
    let whole = control_ops plan host_start 1 (take (i + 1) items) in
    let both = ap (λ xs. length xs) (control_ops_more plan items i x lt at) ∙ length-append (lines_of front) (lines_of next) in
    let one = here (state_behind plan host_start 1 (take i items)) (i + 1) in
    let a = length-map whole line_of in
    let b = length-map front line_of in
    let d = length-map next line_of in
    omega (arith, both, one, a, b, d, counted)

-- one sender more
pub sent_more : (senders : List (List SendItem)) (i count : ℕ) (items : List SendItem) → i < length senders → items ≡ get_or senders i items → count ≡ length (senders_ops 1 (take i senders))
    → count + length items ≡ length (senders_ops 1 (take (i + 1) senders))
sent_more senders i count items lt at counted =
    let own = sender_ops (1 + length (take i senders)) 1 items in
    let whole = ap (λ (xs : List (List SendItem)). length (senders_ops 1 xs)) (take_more senders i items lt)
    ∙ ap (λ (y : List SendItem). length (senders_ops 1 (take i senders ++ y ∷ []))) (sym at)
    ∙ ap (λ (xs : List Entered). length xs) (senders_snoc 1 (take i senders) items)
    ∙ length-append (senders_ops 1 (take i senders)) own in
    let long = sender_long (1 + length (take i senders)) 1 items in
    omega (arith, whole, long, counted)

pub list_short : (senders : List (List SendItem)) (i : ℕ) (items : List SendItem) → AreSendLists senders → i < length senders → items ≡ get_or senders i items → length items ≤ 131_072
list_short senders i items lists lt at =
    let few = (list_at senders i items lists lt at).list.few in
    let long = length-map items send_at in
    omega (arith, few, long)

-- ---- the greatest moment

pub greatest_append : (xs ys : List ℕ) → greatest_of (xs ++ ys) ≡ max (greatest_of xs) (greatest_of ys)
greatest_append [] ys = omega arith
greatest_append (x ∷ xs) ys = let rest = greatest_append xs ys in omega (arith, rest)

-- one item more
pub greatest_more : {X : Type 0} (f : X → ℕ) (items : List X) (i last : ℕ) (x : X) → i < length items → x ≡ get_or items i x → last ≡ greatest_of (map f (take i items)) → max (f x) last ≡ greatest_of (map f (take (i + 1) items))
greatest_more f items i last x lt at so_far =
    let whole = ap (λ xs. greatest_of (map f xs)) (take_more items i x lt)
    ∙ ap (λ y. greatest_of (map f (take i items ++ y ∷ []))) (sym at)
    ∙ ap greatest_of (map-append f (take i items) (x ∷ []))
    ∙ greatest_append (map f (take i items)) (f x ∷ []) in
    omega (arith, whole, so_far)

flat_snoc : (senders : List (List SendItem)) (items : List SendItem) → flat_map (map send_at) (senders ++ items ∷ []) ≡ flat_map (map send_at) senders ++ map send_at items
flat_snoc [] items = append-nil (map send_at items)
flat_snoc (x ∷ xs) items = ap (λ (ms : List ℕ). map send_at x ++ ms) (flat_snoc xs items) ∙ sym (append_assoc (map send_at x) (flat_map (map send_at) xs) (map send_at items))

-- one list more
pub greatest_of_lists : (senders : List (List SendItem)) (i last : ℕ) (items : List SendItem) → i < length senders → items ≡ get_or senders i items → last ≡ greatest_of (flat_map (map send_at) (take i senders))
    → max (greatest_of (map send_at items)) last ≡ greatest_of (flat_map (map send_at) (take (i + 1) senders))
greatest_of_lists senders i last items lt at so_far =
    let whole = ap (λ (xs : List (List SendItem)). greatest_of (flat_map (map send_at) xs)) (take_more senders i items lt)
    ∙ ap (λ (y : List SendItem). greatest_of (flat_map (map send_at) (take i senders ++ y ∷ []))) (sym at)
    ∙ ap greatest_of (flat_snoc (take i senders) items)
    ∙ greatest_append (flat_map (map send_at) (take i senders)) (map send_at items) in
    omega (arith, whole, so_far)

-- ---- the bound

pub line_product : (p : Params) (operations each : ℕ) → InRange p → each ≡ p.mcast_solicit + p.ucast_solicit + 10 → operations < 4_294_967_296 → operations * each ≤ 128_849_018_880
line_product p operations each r is few =
    let solicits = r.mcast_solicit.1 in
    let probes = r.ucast_solicit.1 in
    let product = mul-le-mul {n₁ = operations} {m₁ = each} {n₂ = 4_294_967_296} {m₂ = 30} (omega (arith, few)) (omega (arith, solicits, probes, is)) in
    omega (arith, product)

pub sweeps_upto : (moment interval : ℕ) → moment / interval ≤ moment
sweeps_upto moment interval = div-le_self moment interval

-- the greatest moment of all items
pub last_is : (plan : Plan) (last_given last_sent : ℕ) → last_given ≡ greatest_of (map control_at plan.control) → last_sent ≡ greatest_of (flat_map (map send_at) plan.senders) → max last_given last_sent ≡ last_item_at plan
unfolding last_item_at
last_is plan last_given last_sent g h = let both = greatest_append (map control_at plan.control) (flat_map (map send_at) plan.senders) in omega (arith, both, g, h)

-- counted over the participants, it is the plan's
pub bound_counted : (plan : Plan) (given sent last_given last_sent : ℕ) → given ≡ length (control_ops plan host_start 1 plan.control) → sent ≡ length (senders_ops 1 plan.senders)
    → last_given ≡ greatest_of (map control_at plan.control) → last_sent ≡ greatest_of (flat_map (map send_at) plan.senders) → line_bound plan.params (given + sent) (max last_given last_sent) ≡ plan_bound plan
unfolding plan_bound
bound_counted plan given sent last_given last_sent e f g h =
    ap (λ (n : ℕ). line_bound plan.params n (max last_given last_sent)) operations
    ∙ ap (λ (m : ℕ). line_bound plan.params (length (merged plan)) m) (last_is plan last_given last_sent g h) where
      operations : given + sent ≡ length (merged plan)
      operations =
          let all = length_all [] (control_ops plan host_start 1 plan.control ++ senders_ops 1 plan.senders) in
          let both = length-append (control_ops plan host_start 1 plan.control) (senders_ops 1 plan.senders) in
          omega (arith, e, f, all, both)
