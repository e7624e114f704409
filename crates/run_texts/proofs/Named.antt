-- The operation of a participant's line follows from its number and the plan.
use Rattle.std.proofs.Common.{◌≡◌, ℕ, ◌≤◌, Bool, true, false, is_some, if◌then◌else◌, List, [], ◌∷◌, ◌++◌, length, refl, sym, ◌∙◌, ap, subst, arith, append_assoc, eq-eqb}
use Rattle.std.specs.Prelude.{filter, map, Option, Some, None, IfSome}
use Rattle.std.specs.List.{AllByRecursion}
use Rattle.std.proofs.lemmas.List.Elements.{filter-append}
use Rattle.nb_base.specs.declared.time.OpId.{OpId}
use Rattle.nb_base.specs.declared.line.Line.{Line}
use Rattle.nb_base.specs.declared.plan.Plan.{Plan}
use Rattle.nb_journal.specs.Keys.{is_own}
use Rattle.nb_journal.specs.Accounts.{operation_of, operations, own_lines}
use Rattle.neigh_run.specs.Control.{host_start}
use Rattle.neigh_run.specs.Merged.{Entered}
use Rattle.neigh_run.specs.Plan.{IsWithinLimits}
use Rattle.neigh_run.proofs.Counting.{Each, count, count_append}
use Rattle.neigh_run.proofs.Numbers.{has_id, each_id_once, IsSmall, small_ids}
use Rattle.run_texts.specs.Told.{Small, plan_ops, ops_numbered, IsNamedLine}
use Rattle.run_texts.proofs.Lists.{heads}

-- ---- the plan's operations

-- an operation is the only one of its number
pub record IsNamed (plan : Plan) (x : Entered) : Type 0 where
  pub named : ops_numbered plan x.id ≡ x.op ∷ []
  pub small : Small x.id.0

none_of : {A : Type 0} (xs : List A) → length xs ≤ 0 → xs ≡ []
none_of [] le = refl
none_of (x ∷ xs) le = absurd (omega (arith, le))

-- where at most one passes a test, one that does is all that do
only-one : (t : Entered → Bool) (before after : List Entered) (x : Entered) → t x ≡ true → count t (before ++ x ∷ after) ≤ 1 → filter t (before ++ x ∷ after) ≡ x ∷ []
only-one t before after x e few =
    let here : filter t (x ∷ after) ≡ x ∷ filter t after = rw e refl in
    let long = ap length here in
    let parts = count_append t before (x ∷ after) in
    let front = none_of (filter t before) (omega (arith, long, parts, few)) in
    let back = none_of (filter t after) (omega (arith, long, parts, few)) in
    filter-append t before (x ∷ after) ∙ ap (λ (ys : List Entered). ys ++ filter t (x ∷ after)) front ∙ here ∙ ap (λ (ys : List Entered). x ∷ ys) back

named-from : (plan : Plan) (before ops : List Entered) → plan_ops plan ≡ before ++ ops → length plan.senders ≤ 16 → Each IsSmall ops → Each (IsNamed plan) ops
named-from plan before [] split few small = tt
named-from plan before (x ∷ ops) split few small = (
  record {
    named =
        let once = each_id_once plan host_start plan.control plan.senders x.id few in
        let one = only-one (has_id x.id) before ops x (eq-eqb x.id.0 x.id.0 refl) (subst (λ (ys : List Entered). count (has_id x.id) ys ≤ 1) split once) in
        ap (λ (ys : List Entered). map (λ (y : Entered). y.op) (filter (has_id x.id) ys)) split ∙ ap (map (λ (y : Entered). y.op)) one;
    small = let less = small.0 in omega (arith, less);
  },
  named-from plan (before ++ x ∷ []) ops (split ∙ sym (append_assoc before (x ∷ []) ops)) few small.1,
)

-- each operation of a plan within its limits is named by its number
pub ops-named : (plan : Plan) → IsWithinLimits plan → Each (IsNamed plan) (plan_ops plan)
ops-named plan limits = named-from plan [] (plan_ops plan) refl limits.few (small_ids plan limits)

-- ---- two journals of which moments and numbers are known

-- a line's moment and number
abbrev pub stamp : Line → ℕ × Option OpId
stamp line = (line.at, line.id)

no_stamp : (x : ℕ × Option OpId) (xs : List (ℕ × Option OpId)) → [] ≡ x ∷ xs → ⊥
no_stamp x xs e = cc

-- exactly operations' lines have a number
abbrev pub AreNumbered : List Line → Type 0
AreNumbered lines = AllByRecursion (λ (l : Line). is_some l.id ≡ is_own l.op) lines

same_operation : (x y : Line) → x.at ≡ y.at → x.id ≡ y.id → x.op ≡ y.op → operation_of x ≡ operation_of y
same_operation x y at id o = λ i. record { at = at i; id = id i; op = o i }

-- two such journals that keep to the plan have the same operations
pub operations-same : (plan : Plan) (xs ys : List Line) → AreNumbered xs → AreNumbered ys → AllByRecursion (IsNamedLine plan) xs → AllByRecursion (IsNamedLine plan) ys → map stamp xs ≡ map stamp ys → operations xs ≡ operations ys
operations-same plan [] [] ids others h g e = refl
operations-same plan [] (y ∷ ys) ids others h g e = absurd (no_stamp (stamp y) (map stamp ys) e)
operations-same plan (x ∷ xs) [] ids others h g e = absurd (no_stamp (stamp x) (map stamp xs) (sym e))
operations-same plan (x ∷ xs) (y ∷ ys) ids others h g e = by_id x.id refl (sym (ap (λ (z : ℕ × Option OpId). z.1) parts.0)) h.0 g.0 (operations-same plan xs ys ids.1 others.1 h.1 g.1 parts.1) where
  parts : (stamp x ≡ stamp y) × (map stamp xs ≡ map stamp ys)
  parts = heads (stamp x) (stamp y) (map stamp xs) (map stamp ys) e

  at : x.at ≡ y.at
  at = ap (λ (z : ℕ × Option OpId). z.0) parts.0

  cut : (l : Line) (ls : List Line) (own : Bool) → is_own l.op ≡ own → operations (l ∷ ls) ≡ map operation_of (if own then l ∷ own_lines ls else own_lines ls)
  cut l ls own e = ap (λ (t : Bool). map operation_of (if t then l ∷ own_lines ls else own_lines ls)) e

  by_id : (o : Option OpId) → x.id ≡ o → y.id ≡ x.id → IsNamedLine plan x → IsNamedLine plan y → operations xs ≡ operations ys → operations (x ∷ xs) ≡ operations (y ∷ ys)
  by_id None is same named other rest =
      cut x xs false (sym ids.0 ∙ ap (λ (o : Option OpId). is_some o) is) ∙ rest ∙ sym (cut y ys false (sym others.0 ∙ ap (λ (o : Option OpId). is_some o) (same ∙ is)))
  by_id (Some id) is same named other rest =
      let first = subst (λ (o : Option OpId). IfSome o (λ id. (ops_numbered plan id ≡ x.op ∷ []) × Small id.0)) is named in
      let second = subst (λ (o : Option OpId). IfSome o (λ id. (ops_numbered plan id ≡ y.op ∷ []) × Small id.0)) (same ∙ is) other in
      let one = same_operation x y at (sym same) (heads x.op y.op [] [] (sym first.0 ∙ second.0)).0 in
      cut x xs true (sym ids.0 ∙ ap (λ (o : Option OpId). is_some o) is)
      ∙ (λ i. one i ∷ rest i)
      ∙ sym (cut y ys true (sym others.0 ∙ ap (λ (o : Option OpId). is_some o) (same ∙ is)))
