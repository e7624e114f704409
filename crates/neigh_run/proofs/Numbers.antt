-- The ids of a plan's operations: each stands once, and each tells its participant.
use Rattle.std.proofs.Common.{◌≡◌, ℕ, ◌+◌, ◌*◌, ◌<◌, ◌≤◌, Bool, true, false, if◌then◌else◌, List, [], ◌∷◌, ◌++◌, length, Option, Some, None, refl, sym, ◌∙◌, ap, subst, arith, append_assoc, append-nil}
use Rattle.std.specs.Prelude.{filter, ◌==◌, ◌%◌}
use Rattle.std.proofs.lemmas.Bool.{eqb-true, eq-eqb, true≢false}
use Rattle.std.proofs.lemmas.Nat.{mod-mul-add}
use Rattle.std.proofs.lemmas.List.{length-map}
use Rattle.std.proofs.lemmas.List.Elements.{filter-append}
use Rattle.nb_base.specs.declared.time.OpId.{OpId}
use Rattle.std.specs.Option.{option_map, option_to_list}
use Rattle.nb_base.specs.declared.op.Op.{Op}
use Rattle.nb_base.specs.declared.op.Op.TheVariants as op
use Rattle.nb_base.specs.declared.plan.Plan.{Plan}
use Rattle.nb_base.specs.declared.plan.SendItem.{SendItem}
use Rattle.nb_base.specs.declared.plan.ControlItem.{ControlItem}
use Rattle.neigh_run.specs.Control.{HostState, host_start, turn}
use Rattle.neigh_run.specs.Merged.{Entered, id_for, control_ops, sender_ops, senders_ops}
use Rattle.neigh_run.specs.Plan.{AreSendLists, IsWithinLimits, send_at, control_at}
use Rattle.neigh_run.proofs.Counting.{Each, each_append, count, count_append}

-- the operation has this id
abbrev pub has_id : OpId → Entered → Bool
has_id id x = x.id.0 == id.0

-- the operation is one of this participant
abbrev pub is_by : ℕ → Entered → Bool
is_by p x = x.id.0 % 32 == p

pub by_participant : (n p : ℕ) → p < 32 → (32 * n + p) % 32 ≡ p
by_participant n p lt = let flip : 32 * n + p ≡ n * 32 + p = omega arith in ap (λ (m : ℕ). m % 32) flip ∙ mod-mul-add n 32 p lt

differs : (a b : ℕ) → (a ≡ b → ⊥) → (a == b) ≡ false
differs a b h = by_test (a == b) refl where
  by_test : (t : Bool) → (a == b) ≡ t → (a == b) ≡ false
  by_test true e = absurd (h (eqb-true a b e))
  by_test false e = e

-- ---- a sender's packets

none_below : (p n : ℕ) (items : List SendItem) (id : OpId) → id.0 < 32 * n + p → count (has_id id) (sender_ops p n items) ≡ 0
none_below p n [] id lt = refl
none_below p n (x ∷ xs) id lt =
    rw (differs (32 * n + p) id.0 (λ e. omega (arith, e, lt))) (none_below p (n + 1) xs id (omega (arith, lt)))

once_in : (p n : ℕ) (items : List SendItem) (id : OpId) → count (has_id id) (sender_ops p n items) ≤ 1
once_in p n [] id = omega arith
once_in p n (x ∷ xs) id = by_test (32 * n + p == id.0) refl (once_in p (n + 1) xs id) where
  by_test : (b : Bool) → (32 * n + p == id.0) ≡ b → count (has_id id) (sender_ops p (n + 1) xs) ≤ 1 → length (if b then record { at = x.at; id = id_for p n; op = op.Send x.key (length x.payload) } ∷ filter (has_id id) (sender_ops p (n + 1) xs) else filter (has_id id) (sender_ops p (n + 1) xs)) ≤ 1
  by_test true e rest =
      let same = eqb-true (32 * n + p) id.0 e in
      let none = none_below p (n + 1) xs id (omega (arith, same)) in
      omega (arith, none)
  by_test false e rest = rest

none_of_other : (p n : ℕ) (items : List SendItem) (id : OpId) → p < 32 → (id.0 % 32 ≡ p → ⊥) → count (has_id id) (sender_ops p n items) ≡ 0
none_of_other p n [] id lt other = refl
none_of_other p n (x ∷ xs) id lt other =
    rw (differs (32 * n + p) id.0 (λ e. other (ap (λ (m : ℕ). m % 32) (sym e) ∙ by_participant n p lt))) (none_of_other p (n + 1) xs id lt other)

all_by : (p n : ℕ) (items : List SendItem) → p < 32 → filter (is_by p) (sender_ops p n items) ≡ sender_ops p n items
all_by p n [] lt = refl
all_by p n (x ∷ xs) lt = rw (eq-eqb ((32 * n + p) % 32) p (by_participant n p lt)) (ap (λ (ys : List Entered). record { at = x.at; id = id_for p n; op = op.Send x.key (length x.payload) } ∷ ys) (all_by p (n + 1) xs lt))

none_by : (p q n : ℕ) (items : List SendItem) → p < 32 → (p ≡ q → ⊥) → filter (is_by q) (sender_ops p n items) ≡ []
none_by p q n [] lt other = refl
none_by p q n (x ∷ xs) lt other = rw (differs ((32 * n + p) % 32) q (λ e. other (sym (by_participant n p lt) ∙ e))) (none_by p q (n + 1) xs lt other)

-- ---- participant 0's items

-- an item's operation, where it has one
abbrev pub own_op : ControlItem → ℕ → Option Op → List Entered
own_op item n o = option_to_list (option_map (λ (given : Op). record { at = control_at item; id = id_for 0 n; op = given }) o)

control_below : (plan : Plan) (s : HostState) (n : ℕ) (items : List ControlItem) (id : OpId) → id.0 < 32 * n → count (has_id id) (control_ops plan s n items) ≡ 0
control_below plan s n [] id lt = refl
control_below plan s n (x ∷ xs) id lt = by_op (turn plan s n x).operation (control_below plan (turn plan s n x).behind (n + 1) xs id (omega (arith, lt))) where
  by_op : (o : Option Op) → count (has_id id) (control_ops plan (turn plan s n x).behind (n + 1) xs) ≡ 0 → count (has_id id) (own_op x n o ++ control_ops plan (turn plan s n x).behind (n + 1) xs) ≡ 0
  by_op None rest = rest
  by_op (Some o) rest = rw (differs (32 * n + 0) id.0 (λ e. omega (arith, e, lt))) rest

control_once : (plan : Plan) (s : HostState) (n : ℕ) (items : List ControlItem) (id : OpId) → count (has_id id) (control_ops plan s n items) ≤ 1
control_once plan s n [] id = omega arith
control_once plan s n (x ∷ xs) id = by_op (turn plan s n x).operation (control_once plan (turn plan s n x).behind (n + 1) xs id) where
  by_op : (o : Option Op) → count (has_id id) (control_ops plan (turn plan s n x).behind (n + 1) xs) ≤ 1 → count (has_id id) (own_op x n o ++ control_ops plan (turn plan s n x).behind (n + 1) xs) ≤ 1
  by_op None rest = rest
  by_op (Some o) rest = by_test (32 * n + 0 == id.0) refl where
    by_test : (b : Bool) → (32 * n + 0 == id.0) ≡ b
        → length (if b then record { at = control_at x; id = id_for 0 n; op = o } ∷ filter (has_id id) (control_ops plan (turn plan s n x).behind (n + 1) xs) else filter (has_id id) (control_ops plan (turn plan s n x).behind (n + 1) xs)) ≤ 1
    by_test true e =
        let same = eqb-true (32 * n + 0) id.0 e in
        let none = control_below plan (turn plan s n x).behind (n + 1) xs id (omega (arith, same)) in
        omega (arith, none)
    by_test false e = rest

control_other : (plan : Plan) (s : HostState) (n : ℕ) (items : List ControlItem) (id : OpId) → (id.0 % 32 ≡ 0 → ⊥) → count (has_id id) (control_ops plan s n items) ≡ 0
control_other plan s n [] id other = refl
control_other plan s n (x ∷ xs) id other = by_op (turn plan s n x).operation (control_other plan (turn plan s n x).behind (n + 1) xs id other) where
  by_op : (o : Option Op) → count (has_id id) (control_ops plan (turn plan s n x).behind (n + 1) xs) ≡ 0 → count (has_id id) (own_op x n o ++ control_ops plan (turn plan s n x).behind (n + 1) xs) ≡ 0
  by_op None rest = rest
  by_op (Some o) rest = rw (differs (32 * n + 0) id.0 (λ e. other (ap (λ (m : ℕ). m % 32) (sym e) ∙ by_participant n 0 (omega arith)))) rest

control_by : (plan : Plan) (s : HostState) (q n : ℕ) (items : List ControlItem) → (0 ≡ q → ⊥) → filter (is_by q) (control_ops plan s n items) ≡ []
control_by plan s q n [] other = refl
control_by plan s q n (x ∷ xs) other = by_op (turn plan s n x).operation (control_by plan (turn plan s n x).behind q (n + 1) xs other) where
  by_op : (o : Option Op) → filter (is_by q) (control_ops plan (turn plan s n x).behind (n + 1) xs) ≡ [] → filter (is_by q) (own_op x n o ++ control_ops plan (turn plan s n x).behind (n + 1) xs) ≡ []
  by_op None rest = rest
  by_op (Some o) rest = rw (differs ((32 * n + 0) % 32) q (λ e. other (sym (by_participant n 0 (omega arith)) ∙ e))) rest

-- ---- all of them

senders_before : (p : ℕ) (senders : List (List SendItem)) (id : OpId) → p + length senders ≤ 32 → id.0 % 32 < p → count (has_id id) (senders_ops p senders) ≡ 0
senders_before p [] id within lt = refl
senders_before p (items ∷ rest) id within lt =
    let front = none_of_other p 1 items id (omega (arith, within)) (λ e. omega (arith, e, lt)) in
    let back = senders_before (p + 1) rest id (omega (arith, within)) (omega (arith, lt)) in
    let both = count_append (has_id id) (sender_ops p 1 items) (senders_ops (p + 1) rest) in
    omega (arith, front, back, both)

senders_once : (p : ℕ) (senders : List (List SendItem)) (id : OpId) → p + length senders ≤ 32 → count (has_id id) (senders_ops p senders) ≤ 1
senders_once p [] id within = omega arith
senders_once p (items ∷ rest) id within = by_test (id.0 % 32 == p) refl (senders_once (p + 1) rest id (omega (arith, within))) where
  both : count (has_id id) (senders_ops p (items ∷ rest)) ≡ count (has_id id) (sender_ops p 1 items) + count (has_id id) (senders_ops (p + 1) rest)
  both = count_append (has_id id) (sender_ops p 1 items) (senders_ops (p + 1) rest)

  by_test : (b : Bool) → (id.0 % 32 == p) ≡ b → count (has_id id) (senders_ops (p + 1) rest) ≤ 1 → count (has_id id) (senders_ops p (items ∷ rest)) ≤ 1
  by_test true e more =
      let same = eqb-true (id.0 % 32) p e in
      let front = once_in p 1 items id in
      let back = senders_before (p + 1) rest id (omega (arith, within)) (omega (arith, same)) in
      let sum = both in
      omega (arith, front, back, sum)
  by_test false e more =
      let front = none_of_other p 1 items id (omega (arith, within)) (λ same. true≢false (sym (eq-eqb (id.0 % 32) p same) ∙ e)) in
      let sum = both in
      omega (arith, front, more, sum)

-- each id stands once
pub each_id_once : (plan : Plan) (s : HostState) (items : List ControlItem) (senders : List (List SendItem)) (id : OpId) → length senders ≤ 16 → count (has_id id) (control_ops plan s 1 items ++ senders_ops 1 senders) ≤ 1
each_id_once plan s items senders id few = by_test (id.0 % 32 == 0) refl where
  both : count (has_id id) (control_ops plan s 1 items ++ senders_ops 1 senders) ≡ count (has_id id) (control_ops plan s 1 items) + count (has_id id) (senders_ops 1 senders)
  both = count_append (has_id id) (control_ops plan s 1 items) (senders_ops 1 senders)

  by_test : (b : Bool) → (id.0 % 32 == 0) ≡ b → count (has_id id) (control_ops plan s 1 items ++ senders_ops 1 senders) ≤ 1
  by_test true e =
      let same = eqb-true (id.0 % 32) 0 e in
      let front = control_once plan s 1 items id in
      let back = senders_before 1 senders id (omega (arith, few)) (omega (arith, same)) in
      let sum = both in
      omega (arith, front, back, sum)
  by_test false e =
      let front = control_other plan s 1 items id (λ same. true≢false (sym (eq-eqb (id.0 % 32) 0 same) ∙ e)) in
      let back = senders_once 1 senders id (omega (arith, few)) in
      let sum = both in
      omega (arith, front, back, sum)

-- the operations of the senders from p on are theirs
abbrev pub Owns : List Entered → ℕ → List (List SendItem) → Type 0
Owns operations p [] = Unit {0}
Owns operations p (items ∷ rest) = (filter (is_by p) operations ≡ sender_ops p 1 items) × Owns operations (p + 1) rest

none_behind : (q p : ℕ) (senders : List (List SendItem)) → p + length senders ≤ 32 → q < p → filter (is_by q) (senders_ops p senders) ≡ []
none_behind q p [] within lt = refl
none_behind q p (items ∷ rest) within lt =
    filter-append (is_by q) (sender_ops p 1 items) (senders_ops (p + 1) rest)
    ∙ ap (λ (xs : List Entered). xs ++ filter (is_by q) (senders_ops (p + 1) rest)) (none_by p q 1 items (omega (arith, within)) (λ e. omega (arith, e, lt)))
    ∙ none_behind q (p + 1) rest (omega (arith, within)) (omega (arith, lt))

owns_from : (before : List Entered) (p : ℕ) (senders : List (List SendItem)) → p + length senders ≤ 32 → ((q : ℕ) → p ≤ q → filter (is_by q) before ≡ []) → Owns (before ++ senders_ops p senders) p senders
owns_from before p [] within none = tt
owns_from before p (items ∷ rest) within none = (own, subst (λ (xs : List Entered). Owns xs (p + 1) rest) (append_assoc before (sender_ops p 1 items) (senders_ops (p + 1) rest)) (owns_from (before ++ sender_ops p 1 items) (p + 1) rest (omega (arith, within)) later)) where
  own : filter (is_by p) (before ++ (sender_ops p 1 items ++ senders_ops (p + 1) rest)) ≡ sender_ops p 1 items
  own =
      filter-append (is_by p) before (sender_ops p 1 items ++ senders_ops (p + 1) rest)
      ∙ ap (λ (xs : List Entered). xs ++ filter (is_by p) (sender_ops p 1 items ++ senders_ops (p + 1) rest)) (none p (omega arith))
      ∙ filter-append (is_by p) (sender_ops p 1 items) (senders_ops (p + 1) rest)
      ∙ ap (λ (xs : List Entered). filter (is_by p) (sender_ops p 1 items) ++ xs) (none_behind p (p + 1) rest (omega (arith, within)) (omega arith))
      ∙ append-nil (filter (is_by p) (sender_ops p 1 items))
      ∙ all_by p 1 items (omega (arith, within))

  later : (q : ℕ) → p + 1 ≤ q → filter (is_by q) (before ++ sender_ops p 1 items) ≡ []
  later q le =
      filter-append (is_by q) before (sender_ops p 1 items)
      ∙ ap (λ (xs : List Entered). xs ++ filter (is_by q) (sender_ops p 1 items)) (none q (omega (arith, le)))
      ∙ none_by p q 1 items (omega (arith, within)) (λ e. omega (arith, e, le))

pub each_owns : (plan : Plan) (s : HostState) (items : List ControlItem) (senders : List (List SendItem)) → length senders ≤ 16 → Owns (control_ops plan s 1 items ++ senders_ops 1 senders) 1 senders
each_owns plan s items senders few = owns_from (control_ops plan s 1 items) 1 senders (omega (arith, few)) (λ q le. control_by plan s q 1 items (λ e. omega (arith, e, le)))

-- ---- participant 0's are its own

control_all : (plan : Plan) (s : HostState) (n : ℕ) (items : List ControlItem) → filter (is_by 0) (control_ops plan s n items) ≡ control_ops plan s n items
control_all plan s n [] = refl
control_all plan s n (x ∷ xs) = by_op (turn plan s n x).operation (control_all plan (turn plan s n x).behind (n + 1) xs) where
  by_op : (o : Option Op) → filter (is_by 0) (control_ops plan (turn plan s n x).behind (n + 1) xs) ≡ control_ops plan (turn plan s n x).behind (n + 1) xs
      → filter (is_by 0) (own_op x n o ++ control_ops plan (turn plan s n x).behind (n + 1) xs) ≡ own_op x n o ++ control_ops plan (turn plan s n x).behind (n + 1) xs
  by_op None rest = rest
  by_op (Some o) rest = rw (eq-eqb ((32 * n + 0) % 32) 0 (by_participant n 0 (omega arith))) (ap (λ (ys : List Entered). record { at = control_at x; id = id_for 0 n; op = o } ∷ ys) rest)

pub control_owns : (plan : Plan) (s : HostState) (items : List ControlItem) (senders : List (List SendItem)) → length senders ≤ 16 → filter (is_by 0) (control_ops plan s 1 items ++ senders_ops 1 senders) ≡ control_ops plan s 1 items
control_owns plan s items senders few =
    filter-append (is_by 0) (control_ops plan s 1 items) (senders_ops 1 senders)
    ∙ ap (λ (xs : List Entered). xs ++ filter (is_by 0) (senders_ops 1 senders)) (control_all plan s 1 items)
    ∙ ap (λ (xs : List Entered). control_ops plan s 1 items ++ xs) (none_behind 0 1 senders (omega (arith, few)) (omega arith))
    ∙ append-nil (control_ops plan s 1 items)

-- ---- the ids are small

-- the number of the operation's item is less than 2^32
abbrev pub IsSmall : Entered → Type 0
IsSmall x = x.id.0 < 137_438_953_472

small_control : (plan : Plan) (s : HostState) (n : ℕ) (items : List ControlItem) → n + length items ≤ 393_217 → Each IsSmall (control_ops plan s n items)
small_control plan s n [] few = tt
small_control plan s n (x ∷ xs) few = by_op (turn plan s n x).operation (small_control plan (turn plan s n x).behind (n + 1) xs (omega (arith, few))) where
  by_op : (o : Option Op) → Each IsSmall (control_ops plan (turn plan s n x).behind (n + 1) xs) → Each IsSmall (own_op x n o ++ control_ops plan (turn plan s n x).behind (n + 1) xs)
  by_op None rest = rest
  by_op (Some o) rest = (omega (arith, few), rest)

small_sender : (p n : ℕ) (items : List SendItem) → p ≤ 16 → n + length items ≤ 131_073 → Each IsSmall (sender_ops p n items)
small_sender p n [] le few = tt
small_sender p n (x ∷ xs) le few = (omega (arith, le, few), small_sender p (n + 1) xs le (omega (arith, few)))

small_senders : (p : ℕ) (senders : List (List SendItem)) → p + length senders ≤ 17 → AreSendLists senders → Each IsSmall (senders_ops p senders)
small_senders p [] few lists = tt
small_senders p (items ∷ rest) few lists =
    let long = lists.0.list.few in
    let same = length-map items send_at in
    each_append IsSmall (sender_ops p 1 items) (senders_ops (p + 1) rest) (small_sender p 1 items (omega (arith, few)) (omega (arith, long, same))) (small_senders (p + 1) rest (omega (arith, few)) lists.1)

pub small_ids : (plan : Plan) → IsWithinLimits plan → Each IsSmall (control_ops plan host_start 1 plan.control ++ senders_ops 1 plan.senders)
small_ids plan within =
    let few = within.control.few in
    let same = length-map plan.control control_at in
    let many = within.few in
    each_append IsSmall (control_ops plan host_start 1 plan.control) (senders_ops 1 plan.senders) (small_control plan host_start 1 plan.control (omega (arith, few, same))) (small_senders 1 plan.senders (omega (arith, many)) within.senders)
