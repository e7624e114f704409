-- The writer's four stores keep the rule, each by the lock's own step.
use Rattle.std.proofs.Common.{◌≡◌, ℕ, ◌+◌, ◌-◌, ◌*◌, true, if◌then◌else◌, List, [], ◌∷◌, ◌++◌, length, set, refl, sym, ap, ◌∙◌, subst, arith}
use Rattle.std.specs.Prelude.{slice_set}
use Rattle.std.proofs.lemmas.List.Elements.{All-push}
use mathlib.Core.Option.{some}
use lib.ListN.{get_elem?}
use Rattle.atomic_table.specs.Table.{Allows, State as Table, Me, keeps}
use Rattle.hh_core.specs.declared.step.WriterPhase.{WriterPhase}
use Rattle.hh_core.specs.declared.step.WriterPhase.TheVariants.{Idle, Begun, WroteA, WroteB}
use Rattle.hh_core.specs.declared.step.Step.TheVariants as step
use Rattle.hh_core.specs.State.{State, last_number}
use Rattle.hh_core.specs.Step.{after, is_idle, has_begun, wrote_a as is_wrote_a, wrote_b as is_wrote_b, stores_a, stores_b, ends}
use Rattle.hh_core.specs.Safe.{IsSafe}
use Rattle.hh_core.proofs.Orders.{safe_step}
use Rattle.hh_cell.specs.declared.view.View.{View}
use Rattle.hh_cell.specs.Views.{begun, wrote_a, wrote_b, ended}
use Rattle.hh_cell.specs.Kept.{Kept, Leads, IsSpelled}
use Rattle.hh_cell.proofs.Seats.{writer_step}

-- the number, by what the writer's view shows
number_is : (core : State) (published : List (ℕ × ℕ)) (w : WriterPhase) → published ≡ core.published → core.writer ≡ w → IsSafe core → core.number ≡ 2 * (length published - 1) + (if is_idle w then 0 else 1)
number_is core published w same is safe =
    let N : WriterPhase → Type 0 = λ q. core.number ≡ 2 * last_number core + (if is_idle q then 0 else 1) in
    let n = subst N is safe.written.number in
    n ∙ ap (λ (xs : List (ℕ × ℕ)). 2 * (length xs - 1) + (if is_idle w then 0 else 1)) (sym same)

leads_as : (core core' : State) (cells : List ℕ) (views : List View) → core ≡ core' → Leads core cells views → Leads core' cells views
leads_as core core' cells views e h = record { kept = h.kept; same = h.same ∙ e }

pub begin_keeps : (cells : List ℕ) (views : List View) (at new : ℕ) (v : View) (p : ℕ × ℕ) (k : Kept cells views) → get_elem? views at ≡ some v → v.writes ≡ true → v.phase ≡ Idle → new ≡ 2 * (length v.published - 1) + 1
    → Leads (after (step.Begin p.0 p.1) k.core) (slice_set cells 0 new) (set views at (begun p v))
begin_keeps cells views at new v p k here writes idle is =
    let my = (k.shown at v here).writing writes in
    let rests : k.core.writer ≡ Idle = sym my.phase ∙ idle in
    let number = number_is k.core v.published Idle my.published rests k.safe in
    let next : State = record k.core { number = k.core.number + 1; writer = Begun p.0 p.1 } in
    let more : new ≡ k.core.number + 1 = omega (arith, is, number) in
    writer_step cells (slice_set cells 0 new) views k at v (begun p v) next here writes refl refl
    (record { seat = my.seat; published = my.published; phase = refl; readers = my.readers })
    (ap (λ (cs : List ℕ). slice_set cs 0 new) k.words ∙ ap (λ (m : ℕ). m ∷ k.core.a ∷ k.core.b ∷ []) more)
    (safe_step (step.Begin p.0 p.1) k.core (ap is_idle rests) k.safe)
    k.spelled

pub store_a_keeps : (cells : List ℕ) (views : List View) (at new : ℕ) (v : View) (p : ℕ × ℕ) (k : Kept cells views) → get_elem? views at ≡ some v → v.writes ≡ true → v.phase ≡ Begun p.0 p.1 → new ≡ p.0
    → Leads (after step.StoreA k.core) (slice_set cells 1 new) (set views at (wrote_a p v))
store_a_keeps cells views at new v p k here writes phase stored =
    let my = (k.shown at v here).writing writes in
    let is : k.core.writer ≡ Begun p.0 p.1 = sym my.phase ∙ phase in
    let next : State = record k.core { a = p.0; writer = WroteA p.0 p.1 } in
    let F : WriterPhase → Type 0 = λ w. IsSafe (stores_a w k.core) in
    leads_as next (after step.StoreA k.core) (slice_set cells 1 new) (set views at (wrote_a p v)) (ap (λ (w : WriterPhase). stores_a w k.core) (sym is)) (writer_step cells (slice_set cells 1 new) views k at v (wrote_a p v) next here writes refl refl
    (record { seat = my.seat; published = my.published; phase = refl; readers = my.readers })
    (ap (λ (cs : List ℕ). slice_set cs 1 new) k.words ∙ ap (λ (m : ℕ). k.core.number ∷ m ∷ k.core.b ∷ []) stored)
    (subst F is (safe_step step.StoreA k.core (ap has_begun is) k.safe))
    k.spelled)

pub store_b_keeps : (cells : List ℕ) (views : List View) (at new : ℕ) (v : View) (p : ℕ × ℕ) (k : Kept cells views) → get_elem? views at ≡ some v → v.writes ≡ true → v.phase ≡ WroteA p.0 p.1 → new ≡ p.1
    → Leads (after step.StoreB k.core) (slice_set cells 2 new) (set views at (wrote_b p v))
store_b_keeps cells views at new v p k here writes phase stored =
    let my = (k.shown at v here).writing writes in
    let is : k.core.writer ≡ WroteA p.0 p.1 = sym my.phase ∙ phase in
    let next : State = record k.core { b = p.1; writer = WroteB p.0 p.1 } in
    let F : WriterPhase → Type 0 = λ w. IsSafe (stores_b w k.core) in
    leads_as next (after step.StoreB k.core) (slice_set cells 2 new) (set views at (wrote_b p v)) (ap (λ (w : WriterPhase). stores_b w k.core) (sym is)) (writer_step cells (slice_set cells 2 new) views k at v (wrote_b p v) next here writes refl refl
    (record { seat = my.seat; published = my.published; phase = refl; readers = my.readers })
    (ap (λ (cs : List ℕ). slice_set cs 2 new) k.words ∙ ap (λ (m : ℕ). k.core.number ∷ k.core.a ∷ m ∷ []) stored)
    (subst F is (safe_step step.StoreB k.core (ap is_wrote_a is) k.safe))
    k.spelled)

pub end_keeps : (cells : List ℕ) (views : List View) (at new : ℕ) (v : View) (p : ℕ × ℕ) (k : Kept cells views) → get_elem? views at ≡ some v → v.writes ≡ true → v.phase ≡ WroteB p.0 p.1 → new ≡ 2 * (length v.published - 1) + 2 → IsSpelled p
    → Leads (after step.End k.core) (slice_set cells 0 new) (set views at (ended p v))
end_keeps cells views at new v p k here writes phase is spelled =
    let my = (k.shown at v here).writing writes in
    let wrote : k.core.writer ≡ WroteB p.0 p.1 = sym my.phase ∙ phase in
    let number = number_is k.core v.published (WroteB p.0 p.1) my.published wrote k.safe in
    let next : State = record k.core { number = k.core.number + 1; published = k.core.published ++ p ∷ []; writer = Idle } in
    let F : WriterPhase → Type 0 = λ w. IsSafe (ends w k.core) in
    let more : new ≡ k.core.number + 1 = omega (arith, is, number) in
    leads_as next (after step.End k.core) (slice_set cells 0 new) (set views at (ended p v)) (ap (λ (w : WriterPhase). ends w k.core) (sym wrote)) (writer_step cells (slice_set cells 0 new) views k at v (ended p v) next here writes refl refl
    (record { seat = my.seat; published = ap (λ (xs : List (ℕ × ℕ)). xs ++ p ∷ []) my.published; phase = refl; readers = my.readers })
    (ap (λ (cs : List ℕ). slice_set cs 0 new) k.words ∙ ap (λ (m : ℕ). m ∷ k.core.a ∷ k.core.b ∷ []) more)
    (subst F wrote (safe_step step.End k.core (ap is_wrote_b wrote) k.safe))
    (All-push IsSpelled k.core.published p k.spelled spelled))

-- the table's form of the four
pub begins : (slots id new : ℕ) (me : Me (Unit {0}) View) (p : ℕ × ℕ) → me.0.writes ≡ true → me.0.phase ≡ Idle → new ≡ 2 * (length me.0.published - 1) + 1
    → Allows (λ (s : Table (Unit {0}) View). Kept s.words s.views) slots id me 0 (λ _. new) (λ _ (w : Me (Unit {0}) View). w ≡ (begun p me.0, me.1))
begins slots id new me p writes idle is s kept size at small = (begun p me.0, keeps, tt, (begin_keeps s.words s.views id new me.0 p kept at writes idle is).kept, refl)

pub stores_first : (slots id new : ℕ) (me : Me (Unit {0}) View) (p : ℕ × ℕ) → me.0.writes ≡ true → me.0.phase ≡ Begun p.0 p.1 → new ≡ p.0
    → Allows (λ (s : Table (Unit {0}) View). Kept s.words s.views) slots id me 1 (λ _. new) (λ _ (w : Me (Unit {0}) View). w ≡ (wrote_a p me.0, me.1))
stores_first slots id new me p writes phase stored s kept size at small = (wrote_a p me.0, keeps, tt, (store_a_keeps s.words s.views id new me.0 p kept at writes phase stored).kept, refl)

pub stores_next : (slots id new : ℕ) (me : Me (Unit {0}) View) (p : ℕ × ℕ) → me.0.writes ≡ true → me.0.phase ≡ WroteA p.0 p.1 → new ≡ p.1
    → Allows (λ (s : Table (Unit {0}) View). Kept s.words s.views) slots id me 2 (λ _. new) (λ _ (w : Me (Unit {0}) View). w ≡ (wrote_b p me.0, me.1))
stores_next slots id new me p writes phase stored s kept size at small = (wrote_b p me.0, keeps, tt, (store_b_keeps s.words s.views id new me.0 p kept at writes phase stored).kept, refl)

pub ends_it : (slots id new : ℕ) (me : Me (Unit {0}) View) (p : ℕ × ℕ) → me.0.writes ≡ true → me.0.phase ≡ WroteB p.0 p.1 → new ≡ 2 * (length me.0.published - 1) + 2 → IsSpelled p
    → Allows (λ (s : Table (Unit {0}) View). Kept s.words s.views) slots id me 0 (λ _. new) (λ _ (w : Me (Unit {0}) View). w ≡ (ended p me.0, me.1))
ends_it slots id new me p writes phase is spelled s kept size at small = (ended p me.0, keeps, tt, (end_keeps s.words s.views id new me.0 p kept at writes phase is spelled).kept, refl)
