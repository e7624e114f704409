-- The host's journal is that of the plan's items, with the places and replies that the journals give.
use Rattle.std.proofs.Common.{◌≡◌, ℕ, zero, suc, ◌+◌, ◌*◌, ◌<◌, ◌≤◌, Bool, true, false, if◌then◌else◌, List, [], ◌∷◌, ◌++◌, refl, sym, ◌∙◌, ap, subst, append_assoc, append-nil, arith}
use Rattle.std.specs.List.{AllByRecursion}
use Rattle.std.specs.Prelude.{map, flat_map, ◌==◌, Option, Some, None, option_map}
use Rattle.std.proofs.lemmas.Bool.{eqb-true}
use Rattle.std.proofs.lemmas.Grind.{flat_map-append}
use Rattle.nb_base.specs.declared.time.OpId.{OpId}
use Rattle.nb_base.specs.declared.op.Op.{Op}
use Rattle.neigh_run.specs.Merged.{Entered, id_for, goes_to}
use Rattle.neigh_run.specs.Inline.{placed_at, placed_from, places_of, host_lines_of}
use Rattle.neigh_run.specs.Control.{HostState, host_start, turn, control_at}
use Rattle.neigh_run.specs.Seen.{buckets_from}
use Rattle.run_evidence.specs.Tokens.{Call}
use Rattle.run_evidence.specs.Evidence.{ControlDone, control_calls, all_done_items, in_bucket, history_at, bucket_at, column, placed_by, IsEntered, AreControlDone}
use Rattle.run_evidence.specs.Laws.{ShowsHostLines}
use Rattle.run_evidence.proofs.Lists.{all_map, all_append}
use Rattle.run_evidence.proofs.Projected.{in_bucket-append, calls_at}
use Rattle.run_evidence.proofs.Places.{call_found, placed_there}
use Rattle.run_evidence.proofs.SenderRuns.{AreBelow, below_less, differ, one_here}

no_bucket : (x : ℕ) (xs : List ℕ) → [] ≡ x ∷ xs → ⊥
no_bucket x xs e = cc

some_bucket : (x : ℕ) (xs : List ℕ) → x ∷ xs ≡ [] → ⊥
some_bucket x xs e = cc

heads : (x y : ℕ) (xs ys : List ℕ) → x ∷ xs ≡ y ∷ ys → (x ≡ y) × (xs ≡ ys)
heads x y xs ys e = (cc, cc)

-- calls in lesser buckets aren't in this one
none_here : (b : ℕ) (calls : List Call) → AllByRecursion (λ (call : Call). call.bucket < b) calls → in_bucket b calls ≡ []
none_here b [] h = refl
none_here b (call ∷ calls) h = ap (λ (t : Bool). if t then call ∷ in_bucket b calls else in_bucket b calls) (other call.bucket b h.0) ∙ none_here b calls h.1 where
  other : (x y : ℕ) → x < y → (x == y) ≡ false
  other x y lt = by_test (x == y) refl where
    by_test : (t : Bool) → (x == y) ≡ t → (x == y) ≡ false
    by_test false e = e
    by_test true e = let same = eqb-true x y e in absurd (omega (arith, same, lt))

pub shows_host_lines : ShowsHostLines
shows_host_lines plan e window some h = go host_start 1 [] (all_done_items e.control.windows) refl h.control.done tt ∙ ap (host_lines_of plan e.journals host_start 1) h.control.items where
  -- a call of an item, behind the calls of earlier items and those of this item in lesser buckets
  placed : (n : ℕ) (before after : List ControlDone) (done_item : ControlDone) (done rest : List Call) (call : Call) → call.bucket < plan.buckets → all_done_items e.control.windows ≡ before ++ done_item ∷ after → done_item.calls ≡ done ++ call ∷ rest
      → AllByRecursion (λ (other : Call). other.bucket < call.bucket) done → call.entered.id ≡ id_for 0 n → AreBelow (32 * n) (flat_map control_calls before)
      → placed_at plan e.journals (id_for 0 n) call.bucket ≡ placed_by call
  placed n before after done_item done rest call lt split calls lesser id below =
      let b = call.bucket in
      let behind = rest ++ flat_map control_calls after in
      let at = calls_at control_calls b e.control.windows
      ∙ ap (λ ds. in_bucket b (flat_map control_calls ds)) split
      ∙ ap (in_bucket b) (flat_map-append control_calls before (done_item ∷ after))
      ∙ in_bucket-append b (flat_map control_calls before) (done_item.calls ++ flat_map control_calls after)
      ∙ ap (λ cs. in_bucket b (flat_map control_calls before) ++ in_bucket b cs) (ap (λ cs. cs ++ flat_map control_calls after) calls ∙ append_assoc done (call ∷ rest) (flat_map control_calls after))
      ∙ ap (λ cs. in_bucket b (flat_map control_calls before) ++ cs) (in_bucket-append b done (call ∷ behind) ∙ ap (λ cs. cs ++ in_bucket b (call ∷ behind)) (none_here b done lesser) ∙ one_here b call behind refl) in
      let number : call.entered.id.0 ≡ 32 * n = ap (λ (i : OpId). i.0) id ∙ plus (32 * n) in
      let other = subst (λ m. AllByRecursion (λ (other : Call). other.entered.id.0 ≡ m → ⊥) (in_bucket b (flat_map control_calls before))) (sym number) (differ b (32 * n) (flat_map control_calls before) below) in
      let kept = h.each_bucket b lt in
      let found = call_found 0 plan (column b e.marks) (bucket_at b e) (history_at control_calls b e.control) call (in_bucket b (flat_map control_calls before)) (in_bucket b behind) kept kept.histories.0.0 kept.histories.0.1 at other in
      ap (λ i. placed_at plan e.journals i b) (sym id) ∙ placed_there plan e.journals b call.place call.reply call.entered.id found
    where
      plus : (x : ℕ) → x + 0 ≡ x
      plus x = omega arith

  -- those of an item from a bucket on
  from_bucket : (n : ℕ) (before after : List ControlDone) (done_item : ControlDone) (entered : Entered) (first k : ℕ) (done rest : List Call) → first + k ≤ plan.buckets → all_done_items e.control.windows ≡ before ++ done_item ∷ after → done_item.calls ≡ done ++ rest
      → AllByRecursion (λ (other : Call). other.bucket < first) done → map (λ (call : Call). call.bucket) rest ≡ buckets_from plan.buckets first k entered.op → AllByRecursion (λ (call : Call). call.entered ≡ entered) rest → entered.id ≡ id_for 0 n → AreBelow (32 * n) (flat_map control_calls before)
      → placed_from first k plan e.journals (id_for 0 n) entered.op ≡ map placed_by rest
  from_bucket n before after done_item entered first zero done [] le split calls lesser buckets each id below = refl
  from_bucket n before after done_item entered first zero done (call ∷ rest) le split calls lesser buckets each id below = absurd (some_bucket call.bucket (map (λ (call : Call). call.bucket) rest) buckets)
  from_bucket n before after done_item entered first (suc k) done rest le split calls lesser buckets each id below = by_test (goes_to plan.buckets first entered.op) buckets (from_bucket n before after done_item entered (first + 1) k) where
    weaker : (calls : List Call) → AllByRecursion (λ (other : Call). other.bucket < first) calls → AllByRecursion (λ (other : Call). other.bucket < first + 1) calls
    weaker calls h = all_map (λ (other : Call). other.bucket < first) (λ (other : Call). other.bucket < first + 1) calls (λ call lt. omega (arith, lt)) h

    by_test : (t : Bool) → map (λ (call : Call). call.bucket) rest ≡ (if t then first ∷ [] else []) ++ buckets_from plan.buckets (first + 1) k entered.op
        → ((done rest : List Call) → first + 1 + k ≤ plan.buckets → all_done_items e.control.windows ≡ before ++ done_item ∷ after → done_item.calls ≡ done ++ rest
        → AllByRecursion (λ (other : Call). other.bucket < first + 1) done → map (λ (call : Call). call.bucket) rest ≡ buckets_from plan.buckets (first + 1) k entered.op → AllByRecursion (λ (call : Call). call.entered ≡ entered) rest → entered.id ≡ id_for 0 n → AreBelow (32 * n) (flat_map control_calls before)
        → placed_from (first + 1) k plan e.journals (id_for 0 n) entered.op ≡ map placed_by rest)
        → (if t then placed_at plan e.journals (id_for 0 n) first ∷ [] else []) ++ placed_from (first + 1) k plan e.journals (id_for 0 n) entered.op ≡ map placed_by rest
    by_test false buckets more = more done rest (omega (arith, le)) split calls (weaker done lesser) buckets each id below
    by_test true buckets more = of_calls rest calls buckets each where
      of_calls : (rest : List Call) → done_item.calls ≡ done ++ rest → map (λ (call : Call). call.bucket) rest ≡ first ∷ buckets_from plan.buckets (first + 1) k entered.op → AllByRecursion (λ (call : Call). call.entered ≡ entered) rest
          → placed_at plan e.journals (id_for 0 n) first ∷ placed_from (first + 1) k plan e.journals (id_for 0 n) entered.op ≡ map placed_by rest
      of_calls [] calls buckets each = absurd (no_bucket first (buckets_from plan.buckets (first + 1) k entered.op) buckets)
      of_calls (call ∷ rest) calls buckets each =
          let parts = heads call.bucket first (map (λ (call : Call). call.bucket) rest) (buckets_from plan.buckets (first + 1) k entered.op) buckets in
          let at = parts.0 in
          let one = ap (λ b. placed_at plan e.journals (id_for 0 n) b) (sym at)
          ∙ placed n before after done_item done rest call (omega (arith, at, le)) split calls (all_map (λ (other : Call). other.bucket < first) (λ (other : Call). other.bucket < call.bucket) done (λ other lt. omega (arith, lt, at)) lesser) (ap (λ (x : Entered). x.id) each.0 ∙ id) below in
          let behind = more (done ++ call ∷ []) rest (omega (arith, le)) split (calls ∙ sym (append_assoc done (call ∷ []) rest))
          (all_append (λ (other : Call). other.bucket < first + 1) done (call ∷ []) (weaker done lesser) (omega (arith, at), tt)) parts.1 each.1 id below in
          λ i. one i ∷ behind i

  -- the places that an item's calls have are those that the journals give
  places : (n : ℕ) (before after : List ControlDone) (done_item : ControlDone) (o : Option Op) (at : ℕ) → all_done_items e.control.windows ≡ before ++ done_item ∷ after → IsEntered plan (option_map (λ o. record { at = at; id = id_for 0 n; op = o }) o) done_item.calls → AreBelow (32 * n) (flat_map control_calls before)
      → map placed_by done_item.calls ≡ places_of plan e.journals n o
  places n before after done_item None at split d below = ap (map placed_by) d
  places n before after done_item (Some o) at split d below = sym (from_bucket n before after done_item (record { at = at; id = id_for 0 n; op = o }) 0 plan.buckets [] done_item.calls (omega arith) split refl tt d.buckets d.each refl below)

  behind : (n : ℕ) (done_item : ControlDone) (o : Option Op) (at : ℕ) → IsEntered plan (option_map (λ o. record { at = at; id = id_for 0 n; op = o }) o) done_item.calls → AreBelow (32 * (n + 1)) done_item.calls
  behind n done_item None at d = subst (AreBelow (32 * (n + 1))) (sym d) tt
  behind n done_item (Some o) at d = all_map (λ (call : Call). call.entered ≡ record { at = at; id = id_for 0 n; op = o }) (λ (call : Call). call.entered.id.0 < 32 * (n + 1)) done_item.calls (λ call is. let id = ap (λ (x : Entered). x.id.0) is in omega (arith, id)) d.each

  go : (s : HostState) (n : ℕ) (before after : List ControlDone) → all_done_items e.control.windows ≡ before ++ after → AreControlDone plan s n after → AreBelow (32 * n) (flat_map control_calls before)
      → flat_map (λ (done_item : ControlDone). done_item.lines) after ≡ host_lines_of plan e.journals s n (map (λ (done_item : ControlDone). done_item.item) after)
  go s n before [] split done below = refl
  go s n before (done_item ∷ after) split done below =
      let first = done.0.lines ∙ ap (turn plan s n done_item.item).lines (places n before after done_item (turn plan s n done_item.item).operation (control_at done_item.item) split done.0.entered below) in
      let rest = go (turn plan s n done_item.item).behind (n + 1) (before ++ done_item ∷ []) after (split ∙ sym (append_assoc before (done_item ∷ []) after)) done.1
      (subst (AreBelow (32 * (n + 1))) (sym (flat_map-append control_calls before (done_item ∷ [])))
      (all_append (λ (call : Call). call.entered.id.0 < 32 * (n + 1)) (flat_map control_calls before) (done_item.calls ++ [])
      (below_less (32 * n) (32 * (n + 1)) (flat_map control_calls before) (omega arith) below) (subst (AreBelow (32 * (n + 1))) (sym (append-nil done_item.calls)) (behind n done_item (turn plan s n done_item.item).operation (control_at done_item.item) done.0.entered)))) in
      λ i. first i ++ rest i
