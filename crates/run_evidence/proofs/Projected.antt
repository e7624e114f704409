-- A participant's calls in one bucket are those of its operations that go there.
use Rattle.std.proofs.Common.{◌≡◌, ℕ, zero, suc, ◌+◌, ◌<◌, ◌≤◌, Bool, true, false, if◌then◌else◌, List, [], ◌∷◌, ◌++◌, refl, sym, ◌∙◌, ap, subst, arith, eq-eqb}
use Rattle.std.specs.List.{AllByRecursion}
use Rattle.std.specs.Option.{option_to_list}
use Rattle.std.specs.Prelude.{map, filter, flat_map, ◌==◌, Option, Some, None}
use Rattle.std.proofs.lemmas.Bool.{eqb-true, false≢true}
use Rattle.std.proofs.lemmas.List.{map-append}
use Rattle.std.proofs.lemmas.Grind.{flat_map-append}
use Rattle.std.proofs.lemmas.List.Elements.{filter-append}
use Rattle.nb_base.specs.declared.op.Op.{Op}
use Rattle.nb_base.specs.declared.outcome.Outcome.{Outcome}
use Rattle.nb_base.specs.declared.outcome.Outcome.TheVariants as outcome
use Rattle.nb_base.specs.declared.plan.Plan.{Plan}
use Rattle.nb_base.specs.Buckets.{bucket_of}
use Rattle.neigh_run.specs.Control.{HostState, turn}
use Rattle.neigh_run.specs.Seen.{buckets_from}
use Rattle.neigh_run.specs.Merged.{Entered, packet_op, goes_to, control_op, control_ops}
use Rattle.neigh_run.specs.Threaded.{slow_ops}
use Rattle.run_evidence.specs.Tokens.{Call}
use Rattle.run_evidence.specs.Stamps.{calls_in}
use Rattle.run_evidence.specs.Evidence.{Window, ControlDone, PacketDone, control_calls, sender_calls, all_done_items, in_bucket, stamp_window_at, IsEntered, AreControlDone, IsPacketDone, ArePacketsDone}
use Rattle.run_evidence.proofs.Matched.{entered_by}

-- ---- one bucket's calls

pub in_bucket-append : (b : ℕ) (xs ys : List Call) → in_bucket b (xs ++ ys) ≡ in_bucket b xs ++ in_bucket b ys
in_bucket-append b xs ys = filter-append (λ (call : Call). call.bucket == b) xs ys

pub calls_at : {D : Type 0} (calls : D → List Call) (b : ℕ) (windows : List (Window D)) → calls_in (map (stamp_window_at calls b) windows) ≡ in_bucket b (flat_map calls (all_done_items windows))
calls_at calls b [] = refl
calls_at calls b (window ∷ windows) =
    ap (λ cs. in_bucket b (flat_map calls window.done_items) ++ cs) (calls_at calls b windows)
    ∙ sym (in_bucket-append b (flat_map calls window.done_items) (flat_map calls (all_done_items windows)))
    ∙ ap (in_bucket b) (sym (flat_map-append calls window.done_items (all_done_items windows)))

-- ---- participant 0's operations

-- of calls one in each bucket from the first on, none is in a lesser bucket
never_in : (b first n : ℕ) (plan : Plan) (o : Op) (calls : List Call) → b < first → map (λ (call : Call). call.bucket) calls ≡ buckets_from plan.buckets first n o → in_bucket b calls ≡ []
never_in b first n plan o calls lt e = by_all calls (subst (AllByRecursion (λ x. b < x)) (sym e) (above first n lt)) where
  above : (first n : ℕ) → b < first → AllByRecursion (λ x. b < x) (buckets_from plan.buckets first n o)
  above first zero lt = tt
  above first (suc n) lt = by_test (goes_to plan.buckets first o) (above (first + 1) n (omega (arith, lt))) where
    by_test : (t : Bool) → AllByRecursion (λ x. b < x) (buckets_from plan.buckets (first + 1) n o) → AllByRecursion (λ x. b < x) ((if t then first ∷ [] else []) ++ buckets_from plan.buckets (first + 1) n o)
    by_test true h = (lt, h)
    by_test false h = h

  by_all : (calls : List Call) → AllByRecursion (λ x. b < x) (map (λ (call : Call). call.bucket) calls) → in_bucket b calls ≡ []
  by_all [] h = refl
  by_all (call ∷ calls) h = rw (other call.bucket h.0) (by_all calls h.1) where
    other : (x : ℕ) → b < x → (x == b) ≡ false
    other x lt = by_test (x == b) refl where
      by_test : (t : Bool) → (x == b) ≡ t → (x == b) ≡ false
      by_test false e = e
      by_test true e = let same = eqb-true x b e in absurd (omega (arith, same, lt))

-- and one is in a bucket to which the operation goes
once_in : (b first n : ℕ) (plan : Plan) (entered : Entered) (calls : List Call) → first ≤ b → b < first + n → map (λ (call : Call). call.bucket) calls ≡ buckets_from plan.buckets first n entered.op → AllByRecursion (λ (call : Call). call.entered ≡ entered) calls
    → map entered_by (in_bucket b calls) ≡ (if goes_to plan.buckets b entered.op then entered ∷ [] else [])
once_in b first zero plan entered calls from to e each = absurd (omega (arith, from, to))
once_in b first (suc n) plan entered calls from to e each = by_test (goes_to plan.buckets first entered.op) refl (first == b) refl e (once_in b (first + 1) n plan entered) where
  other : (x : ℕ) → (x == b) ≡ false → x ≡ b → ⊥
  other x e same = false≢true (sym e ∙ eq-eqb x b same)

  no_bucket : (x : ℕ) (xs : List ℕ) → [] ≡ x ∷ xs → ⊥
  no_bucket x xs e = cc

  head : (x y : ℕ) (xs ys : List ℕ) → x ∷ xs ≡ y ∷ ys → x ≡ y
  head x y xs ys e = cc

  tail : (x y : ℕ) (xs ys : List ℕ) → x ∷ xs ≡ y ∷ ys → xs ≡ ys
  tail x y xs ys e = cc

  by_test : (goes : Bool) → goes_to plan.buckets first entered.op ≡ goes → (here : Bool) → (first == b) ≡ here
      → map (λ (call : Call). call.bucket) calls ≡ (if goes then first ∷ [] else []) ++ buckets_from plan.buckets (first + 1) n entered.op
      → ((cs : List Call) → first + 1 ≤ b → b < first + 1 + n → map (λ (call : Call). call.bucket) cs ≡ buckets_from plan.buckets (first + 1) n entered.op → AllByRecursion (λ (call : Call). call.entered ≡ entered) cs → map entered_by (in_bucket b cs) ≡ (if goes_to plan.buckets b entered.op then entered ∷ [] else []))
      → map entered_by (in_bucket b calls) ≡ (if goes_to plan.buckets b entered.op then entered ∷ [] else [])
  by_test false g true h e rest =
      let same = eqb-true first b h in
      rw (never_in b (first + 1) n plan entered.op calls (omega (arith, same)) e, sym (ap (λ x. goes_to plan.buckets x entered.op) same) ∙ g) refl
  by_test false g false h e rest = let differs = other first h in rest calls (lt_of first b from differs) (omega (arith, to)) e each where
    lt_of : (x y : ℕ) → x ≤ y → (x ≡ y → ⊥) → x + 1 ≤ y
    lt_of x y le d = omega (arith, le, d)
  by_test true g here h e rest = of_calls calls e each where
    of_calls : (cs : List Call) → map (λ (call : Call). call.bucket) cs ≡ first ∷ buckets_from plan.buckets (first + 1) n entered.op → AllByRecursion (λ (call : Call). call.entered ≡ entered) cs → map entered_by (in_bucket b cs) ≡ (if goes_to plan.buckets b entered.op then entered ∷ [] else [])
    of_calls [] e each = absurd (no_bucket first (buckets_from plan.buckets (first + 1) n entered.op) e)
    of_calls (call ∷ cs) e each = by_here here h where
      at : call.bucket ≡ first
      at = head call.bucket first (map (λ (call : Call). call.bucket) cs) (buckets_from plan.buckets (first + 1) n entered.op) e

      behind : map (λ (call : Call). call.bucket) cs ≡ buckets_from plan.buckets (first + 1) n entered.op
      behind = tail call.bucket first (map (λ (call : Call). call.bucket) cs) (buckets_from plan.buckets (first + 1) n entered.op) e

      by_here : (t : Bool) → (first == b) ≡ t → map entered_by (in_bucket b (call ∷ cs)) ≡ (if goes_to plan.buckets b entered.op then entered ∷ [] else [])
      by_here true h =
          let same = eqb-true first b h in
          rw (ap (λ x. x == b) at ∙ h, never_in b (first + 1) n plan entered.op cs (omega (arith, same)) behind, sym (ap (λ x. goes_to plan.buckets x entered.op) same) ∙ g) (ap (λ x. x ∷ []) each.0)
      by_here false h =
          let differs = other first h in
          rw (ap (λ x. x == b) at ∙ h) (rest cs (lt_of first b from differs) (omega (arith, to)) behind each.1) where
            lt_of : (x y : ℕ) → x ≤ y → (x ≡ y → ⊥) → x + 1 ≤ y
            lt_of x y le d = omega (arith, le, d)

-- participant 0's calls in a bucket are those of its operations that go there
pub control_projected : (plan : Plan) (b : ℕ) (s : HostState) (n : ℕ) (done_items : List ControlDone) → b < plan.buckets → AreControlDone plan s n done_items
    → map entered_by (in_bucket b (flat_map control_calls done_items)) ≡ filter (λ (entered : Entered). goes_to plan.buckets b entered.op) (control_ops plan s n (map (λ (done_item : ControlDone). done_item.item) done_items))
control_projected plan b s n [] lt h = refl
control_projected plan b s n (done_item ∷ done_items) lt h =
    ap (map entered_by) (in_bucket-append b done_item.calls (flat_map control_calls done_items))
    ∙ map-append entered_by (in_bucket b done_item.calls) (in_bucket b (flat_map control_calls done_items))
    ∙ ap (λ xs. xs ++ map entered_by (in_bucket b (flat_map control_calls done_items))) (one (control_op plan s n done_item.item) h.0.entered)
    ∙ ap (λ xs. filter (λ (entered : Entered). goes_to plan.buckets b entered.op) (option_to_list (control_op plan s n done_item.item)) ++ xs) (control_projected plan b (turn plan s n done_item.item).behind (n + 1) done_items lt h.1)
    ∙ sym (filter-append (λ (entered : Entered). goes_to plan.buckets b entered.op) (option_to_list (control_op plan s n done_item.item)) (control_ops plan (turn plan s n done_item.item).behind (n + 1) (map (λ (done_item : ControlDone). done_item.item) done_items)))
  where
    one : (o : Option Entered) → IsEntered plan o done_item.calls → map entered_by (in_bucket b done_item.calls) ≡ filter (λ (entered : Entered). goes_to plan.buckets b entered.op) (option_to_list o)
    one (Some entered) h = once_in b 0 plan.buckets plan entered done_item.calls (omega arith) (omega (arith, lt)) h.buckets h.each
    one None h = ap (λ cs. map entered_by (in_bucket b cs)) h

one_call : (b : ℕ) (call : Call) (at : ℕ) (x : Entered) (more : List Entered) → call.bucket ≡ at → call.entered ≡ x → map entered_by (in_bucket b (call ∷ [])) ++ more ≡ (if at == b then x ∷ more else more)
one_call b call at x more e is = subst (λ v. map entered_by (in_bucket b (call ∷ [])) ++ more ≡ (if v == b then x ∷ more else more)) e (by_test (call.bucket == b)) where
  by_test : (t : Bool) → map entered_by (if t then call ∷ [] else []) ++ more ≡ (if t then x ∷ more else more)
  by_test true = ap (λ y. y ∷ more) is
  by_test false = refl

-- a sender's calls in a bucket are the sends of its slow packets to keys of the bucket
pub sender_projected : (plan : Plan) (p b n : ℕ) (done_items : List PacketDone) → ArePacketsDone plan p n done_items
    → map entered_by (in_bucket b (flat_map sender_calls done_items)) ≡ filter (λ (entered : Entered). goes_to plan.buckets b entered.op) (slow_ops p n (map (λ (done_item : PacketDone). done_item.item) done_items) (map (λ (done_item : PacketDone). done_item.outcome) done_items))
sender_projected plan p b n [] h = refl
sender_projected plan p b n (done_item ∷ done_items) h =
    ap (map entered_by) (in_bucket-append b done_item.calls (flat_map sender_calls done_items))
    ∙ map-append entered_by (in_bucket b done_item.calls) (in_bucket b (flat_map sender_calls done_items))
    ∙ ap (λ xs. map entered_by (in_bucket b done_item.calls) ++ xs) (sender_projected plan p b (n + 1) done_items h.1)
    ∙ one done_item.outcome h.0
  where
    one : (o : Outcome) → IsPacketDone plan p n done_item o
        → map entered_by (in_bucket b done_item.calls) ++ filter (λ (entered : Entered). goes_to plan.buckets b entered.op) (slow_ops p (n + 1) (map (λ (done_item : PacketDone). done_item.item) done_items) (map (λ (done_item : PacketDone). done_item.outcome) done_items))
        ≡ filter (λ (entered : Entered). goes_to plan.buckets b entered.op) (slow_ops p n (done_item.item ∷ map (λ (done_item : PacketDone). done_item.item) done_items) (o ∷ map (λ (done_item : PacketDone). done_item.outcome) done_items))
    one (outcome.Fast number header) h = ap (λ cs. map entered_by (in_bucket b cs) ++ filter (λ (entered : Entered). goes_to plan.buckets b entered.op) (slow_ops p (n + 1) (map (λ (done_item : PacketDone). done_item.item) done_items) (map (λ (done_item : PacketDone). done_item.outcome) done_items))) h
    one (outcome.Slow why place reply) h =
        ap (λ cs. map entered_by (in_bucket b cs) ++ filter (λ (entered : Entered). goes_to plan.buckets b entered.op) (slow_ops p (n + 1) (map (λ (done_item : PacketDone). done_item.item) done_items) (map (λ (done_item : PacketDone). done_item.outcome) done_items))) h.one
        ∙ one_call b h.call (bucket_of plan.buckets done_item.item.key) (packet_op p n done_item.item) (filter (λ (entered : Entered). goes_to plan.buckets b entered.op) (slow_ops p (n + 1) (map (λ (done_item : PacketDone). done_item.item) done_items) (map (λ (done_item : PacketDone). done_item.outcome) done_items))) h.bucket h.entered
