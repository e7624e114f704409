-- The least at hand stays the least, as nodes are armed and cancelled.
use Rattle.std.proofs.Common.{◌≡◌, ◌≢◌, ℕ, ◌<◌, ◌≤◌, Bool, true, false, List, ◌++◌, length, Option, Some, None, refl, sym, ap, ◌∙◌, subst, ⊎_elim, arith}
use Rattle.std.specs.Prelude.{if◌then◌else◌, replicate, slice_set, Result, Ok, Err, OnOk, OnErr}
use Rattle.std.specs.Option.{MatchOption}
use Rattle.std.proofs.lemmas.Bool.{cases_eq}
use Rattle.std.proofs.lemmas.Bool.Decides.{nat_tests}
use Rattle.slot_links.proofs.Shows.{some_same, none_some}
use Rattle.timer_wheel.specs.Map.{Timers, due_of, NoneArmed, IsLeast}
use Rattle.timer_wheel.specs.Kept.{KnowsLeast, is_earlier}
use Rattle.timer_wheel.proofs.Timing.{due_set, due_set_other, due_more}

-- further nodes, which aren't armed
pub least_more : (t : Timers) (least : Option (ℕ × ℕ)) (k : ℕ) → KnowsLeast t least → KnowsLeast (record { now = t.now; dues = t.dues ++ replicate k None }) least
least_more t least k known = record { least = by_least least known.least; ahead = known.ahead } where
  by_least : (o : Option (ℕ × ℕ)) → MatchOption o (NoneArmed t.dues) (λ r. IsLeast t.dues r.0 r.1) → MatchOption o (NoneArmed (t.dues ++ replicate k None)) (λ r. IsLeast (t.dues ++ replicate k None) r.0 r.1)
  by_least None none = λ node. due_more t.dues k node ∙ none node
  by_least (Some r) is = record {
    armed = due_more t.dues k r.1 ∙ is.armed;
    least = λ other later h. is.least other later (sym (due_more t.dues k other) ∙ h);
    first = λ other h. is.first other (sym (due_more t.dues k other) ∙ h);
  }

module _ (dues : List (Option ℕ)) (node : ℕ) (small : node < length dues) (at least : ℕ) (is : IsLeast dues at least) (apart : least ≢ node) where
  -- where another node is cancelled
  pub least_cancelled : IsLeast (slice_set dues node None) at least
  least_cancelled = record {
    armed = due_set_other dues node least None apart ∙ is.armed;
    least = λ other later h. ⊎_elim
        (λ (e : other ≡ node). absurd (none_some (due_of (slice_set dues node None) node) later (due_set dues node None small) (ap (due_of (slice_set dues node None)) (sym e) ∙ h)))
        (λ (ne : other ≢ node). is.least other later (sym (due_set_other dues node other None ne) ∙ h))
        (cases_eq other node);
    first = λ other h. ⊎_elim
        (λ (e : other ≡ node). absurd (none_some (due_of (slice_set dues node None) node) at (due_set dues node None small) (ap (due_of (slice_set dues node None)) (sym e) ∙ h)))
        (λ (ne : other ≢ node). is.first other (sym (due_set_other dues node other None ne) ∙ h))
        (cases_eq other node);
  }

  module _ (due : ℕ) where
    abbrev new : List (Option ℕ)
    new = slice_set dues node (Some due)

    mine : (other later : ℕ) → other ≡ node → due_of new other ≡ Some later → due ≡ later
    mine other later e h = some_same (due_of new node) due later (due_set dues node (Some due) small) (ap (due_of new) (sym e) ∙ h)

    was : (other later : ℕ) → other ≢ node → due_of new other ≡ Some later → due_of dues other ≡ Some later
    was other later ne h = sym (due_set_other dues node other (Some due) ne) ∙ h

    -- where another node is armed, no earlier
    stays : at ≤ due → (at ≡ due → least ≤ node) → IsLeast new at least
    stays le ties = record {
      armed = due_set_other dues node least (Some due) apart ∙ is.armed;
      least = λ other later h. ⊎_elim
          (λ (e : other ≡ node). subst (λ (d : ℕ). at ≤ d) (mine other later e h) le)
          (λ (ne : other ≢ node). is.least other later (was other later ne h))
          (cases_eq other node);
      first = λ other h. ⊎_elim
          (λ (e : other ≡ node). subst (λ (n : ℕ). least ≤ n) (sym e) (ties (sym (mine other at e h))))
          (λ (ne : other ≢ node). is.first other (was other at ne h))
          (cases_eq other node);
    }

    -- where it is armed earlier
    goes : due ≤ at → (due ≡ at → node ≤ least) → IsLeast new due node
    goes le ties = record {
      armed = due_set dues node (Some due) small;
      least = λ other later h. ⊎_elim
          (λ (e : other ≡ node). (let same = mine other later e h in omega (arith, same)))
          (λ (ne : other ≢ node). (let more = is.least other later (was other later ne h) in omega (arith, le, more)))
          (cases_eq other node);
      first = λ other h. ⊎_elim
          (λ (e : other ≡ node). (let same = e in omega (arith, same)))
          (λ (ne : other ≢ node). behind other (was other due ne h))
          (cases_eq other node);
    } where
      behind : (other : ℕ) → due_of dues other ≡ Some due → node ≤ other
      behind other h =
          let more = is.least other due h in
          let same : due ≡ at = omega (arith, le, more) in
          let mid = ties same in
          let last = is.first other (h ∙ ap (λ (d : ℕ). Some d) same) in
          omega (arith, mid, last)

    pub least_armed : (r : ℕ × ℕ) → r ≡ (if is_earlier (at, least) (due, node) then (at, least) else (due, node)) → IsLeast new r.0 r.1
    least_armed r e = subst (λ (x : ℕ × ℕ). IsLeast new x.0 x.1) (sym e) (by_test (is_earlier (at, least) (due, node)) refl) where
      Here : ℕ × ℕ → Type 0
      Here x = IsLeast new x.0 x.1

      by_test : (t : Bool) → is_earlier (at, least) (due, node) ≡ t → Here (if t then (at, least) else (due, node))
      by_test true h = stays (grind (arith, nat_tests, h)) (λ same. grind (arith, nat_tests, h, same))
      by_test false h = goes (grind (arith, nat_tests, h)) (λ same. grind (arith, nat_tests, h, same))

-- ---- what the wheel knows

-- behind the arming of another node
pub knows_armed : (t after : Timers) (node due at least : ℕ) (known : Option (ℕ × ℕ)) → node < length t.dues → t.now ≤ due → after ≡ record { now = t.now; dues = slice_set t.dues node (Some due) } → KnowsLeast t known → known ≡ Some (at, least) → least ≢ node
    → (r : ℕ × ℕ) → r ≡ (if is_earlier (at, least) (due, node) then (at, least) else (due, node)) → KnowsLeast after (Some r)
knows_armed t after node due at least known small later is knows here apart r e = subst (λ (x : Timers). KnowsLeast x (Some r)) (sym is) (record {
  least = least_armed t.dues node small at least which.least apart due r e;
  ahead = subst (λ (x : ℕ × ℕ). t.now ≤ x.0) (sym e) (by_test (is_earlier (at, least) (due, node)));
}) where
  which : KnowsLeast t (Some (at, least))
  which = subst (KnowsLeast t) here knows

  Later : ℕ × ℕ → Type 0
  Later x = t.now ≤ x.0

  by_test : (b : Bool) → Later (if b then (at, least) else (due, node))
  by_test true = which.ahead
  by_test false = later

-- behind further nodes, or behind want of memory
pub knows_reserved : {A B : Type 0} (r : Result A B) (t after : Timers) (known : Option (ℕ × ℕ)) (k : ℕ) → OnOk r (after ≡ record { now = t.now; dues = t.dues ++ replicate k None }) → OnErr r (after ≡ t) → KnowsLeast t known → KnowsLeast after known
knows_reserved (Ok a) t after known k ok err knows = subst (λ (x : Timers). KnowsLeast x known) (sym ok) (least_more t known k knows)
knows_reserved (Err b) t after known k ok err knows = subst (λ (x : Timers). KnowsLeast x known) (sym err) knows
