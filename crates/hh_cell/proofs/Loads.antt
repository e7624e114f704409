-- A reader's four loads keep the rule, each by the lock's own step.
use Rattle.std.proofs.Common.{◌≡◌, ℕ, ◌/◌, List, [], ◌∷◌, set, Some, refl, sym, ap, ◌∙◌, subst, IfSome}
use Rattle.std.specs.Prelude.{slice_set, slice_index}
use Rattle.std.specs.List.{All}
use mathlib.Core.Option.{some}
use lib.ListN.{get_elem?}
use Rattle.atomic_table.specs.Table.{Allows, State as Table, Me, keeps}
use Rattle.hh_core.specs.declared.step.Step.TheVariants as step
use Rattle.hh_core.specs.declared.reader.ReaderPhase.{ReaderPhase}
use Rattle.hh_core.specs.declared.reader.ReaderPhase.TheVariants.{Rest, HasFirst, HasA, HasB}
use Rattle.hh_core.specs.State.{State, ReaderState}
use Rattle.hh_core.specs.Step.{after, rests, has_first, has_a, has_b, to_phase, loads_a, loads_b, ends_try, with_reader}
use Rattle.hh_core.specs.Safe.{IsSafe}
use Rattle.hh_core.proofs.Lists.{All-found}
use Rattle.hh_core.proofs.Orders.{safe_step, good_try}
use Rattle.hh_core.proofs.Resting.{tries_go_on}
use Rattle.hh_cell.specs.declared.view.View.{View}
use Rattle.hh_cell.specs.declared.view.Reading.{Reading}
use Rattle.hh_cell.specs.Views.{state_of, reads, phase_in, loads_first, loads_word_a, loads_word_b, loads_second}
use Rattle.hh_cell.specs.Kept.{Kept, Leads, IsReadingAs, IsSpelled, TryTells, SecondTells, tells_by}
use Rattle.hh_cell.proofs.Lists.{if_some_is}
use Rattle.hh_cell.proofs.Seats.{reader_there, my_reader, my_phase, reader_step}

-- what was found is what the lock has
load_leads : (cells : List ℕ) (views : List View) (k : Kept cells views) (at i n : ℕ) (v : View) (r : Reading) (f : ℕ → ReaderState → ReaderState) → get_elem? views at ≡ some v → v.reader ≡ Some r
    → slice_index cells i ≡ n → IsSafe (with_reader k.core r.number (f n)) → Leads (with_reader k.core r.number (f n)) cells (set views at (reads (f (slice_index cells i)) v))
load_leads cells views k at i n v r f here is found safe =
    let G : ℕ → Type 0 = λ m. Leads (with_reader k.core r.number (f n)) cells (set views at (reads (f m) v)) in
    subst G (sym found) (reader_step cells views k at v r (f n) here is safe)

-- a load leaves the words
stored : (core : State) (cells : List ℕ) (views : List View) (i : ℕ) → slice_set cells i (slice_index cells i) ≡ cells → Leads core cells views → Kept (slice_set cells i (slice_index cells i)) views
stored core cells views i same h = let F : List ℕ → Type 0 = λ cs. Kept cs views in subst F (sym same) h.kept

same_0 : (cells : List ℕ) (n a b : ℕ) → cells ≡ n ∷ a ∷ b ∷ [] → slice_set cells 0 (slice_index cells 0) ≡ cells
same_0 cells n a b e = ap (λ (cs : List ℕ). slice_set cs 0 (slice_index cs 0)) e ∙ sym e

same_1 : (cells : List ℕ) (n a b : ℕ) → cells ≡ n ∷ a ∷ b ∷ [] → slice_set cells 1 (slice_index cells 1) ≡ cells
same_1 cells n a b e = ap (λ (cs : List ℕ). slice_set cs 1 (slice_index cs 1)) e ∙ sym e

same_2 : (cells : List ℕ) (n a b : ℕ) → cells ≡ n ∷ a ∷ b ∷ [] → slice_set cells 2 (slice_index cells 2) ≡ cells
same_2 cells n a b e = ap (λ (cs : List ℕ). slice_set cs 2 (slice_index cs 2)) e ∙ sym e

pub first_leads : (cells : List ℕ) (views : List View) (k : Kept cells views) (at : ℕ) (v : View) (r : Reading) → get_elem? views at ≡ some v → v.reader ≡ Some r → r.phase ≡ Rest
    → Leads (after (step.First r.number) k.core) cells (set views at (loads_first (slice_index cells 0) v))
first_leads cells views k at v r here is phase =
    let my = my_reader cells views k at v r here is in
    load_leads cells views k at 0 k.core.number v r (λ n. to_phase (HasFirst n)) here is (ap (λ (cs : List ℕ). slice_index cs 0) k.words)
    (safe_step (step.First r.number) k.core (ap rests (my_phase k.core k.seat_of at r Rest my phase)) k.safe)

pub first_keeps : (cells : List ℕ) (views : List View) (at : ℕ) (v : View) → Kept cells views → get_elem? views at ≡ some v → phase_in v ≡ Some Rest
    → Kept (slice_set cells 0 (slice_index cells 0)) (set views at (loads_first (slice_index cells 0) v))
first_keeps cells views at v k here phase =
    let r = reader_there v.reader Rest phase in
    stored (after (step.First r.0.number) k.core) cells (set views at (loads_first (slice_index cells 0) v)) 0 (same_0 cells k.core.number k.core.a k.core.b k.words) (first_leads cells views k at v r.0 here r.1 r.2)

pub a_leads : (cells : List ℕ) (views : List View) (k : Kept cells views) (at n : ℕ) (v : View) (r : Reading) → get_elem? views at ≡ some v → v.reader ≡ Some r → r.phase ≡ (HasFirst n)
    → Leads (after (step.LoadA r.number) k.core) cells (set views at (loads_word_a (slice_index cells 1) v))
a_leads cells views k at n v r here is phase =
    let my = my_reader cells views k at v r here is in
    load_leads cells views k at 1 k.core.a v r (λ a x. to_phase (loads_a a x.phase) x) here is (ap (λ (cs : List ℕ). slice_index cs 1) k.words)
    (safe_step (step.LoadA r.number) k.core (ap has_first (my_phase k.core k.seat_of at r (HasFirst n) my phase)) k.safe)

pub a_keeps : (cells : List ℕ) (views : List View) (at n : ℕ) (v : View) → Kept cells views → get_elem? views at ≡ some v → phase_in v ≡ Some (HasFirst n)
    → Kept (slice_set cells 1 (slice_index cells 1)) (set views at (loads_word_a (slice_index cells 1) v))
a_keeps cells views at n v k here phase =
    let r = reader_there v.reader (HasFirst n) phase in
    stored (after (step.LoadA r.0.number) k.core) cells (set views at (loads_word_a (slice_index cells 1) v)) 1 (same_1 cells k.core.number k.core.a k.core.b k.words) (a_leads cells views k at n v r.0 here r.1 r.2)

pub b_leads : (cells : List ℕ) (views : List View) (k : Kept cells views) (at n x : ℕ) (v : View) (r : Reading) → get_elem? views at ≡ some v → v.reader ≡ Some r → r.phase ≡ (HasA n x)
    → Leads (after (step.LoadB r.number) k.core) cells (set views at (loads_word_b (slice_index cells 2) v))
b_leads cells views k at n x v r here is phase =
    let my = my_reader cells views k at v r here is in
    load_leads cells views k at 2 k.core.b v r (λ b q. to_phase (loads_b b q.phase) q) here is (ap (λ (cs : List ℕ). slice_index cs 2) k.words)
    (safe_step (step.LoadB r.number) k.core (ap has_a (my_phase k.core k.seat_of at r (HasA n x) my phase)) k.safe)

pub b_keeps : (cells : List ℕ) (views : List View) (at n x : ℕ) (v : View) → Kept cells views → get_elem? views at ≡ some v → phase_in v ≡ Some (HasA n x)
    → Kept (slice_set cells 2 (slice_index cells 2)) (set views at (loads_word_b (slice_index cells 2) v))
b_keeps cells views at n x v k here phase =
    let r = reader_there v.reader (HasA n x) phase in
    stored (after (step.LoadB r.0.number) k.core) cells (set views at (loads_word_b (slice_index cells 2) v)) 2 (same_2 cells k.core.number k.core.a k.core.b k.words) (b_leads cells views k at n x v r.0 here r.1 r.2)

pub second_leads : (cells : List ℕ) (views : List View) (k : Kept cells views) (at n x y : ℕ) (v : View) (r : Reading) → get_elem? views at ≡ some v → v.reader ≡ Some r → r.phase ≡ (HasB n x y)
    → Leads (after (step.Second r.number) k.core) cells (set views at (loads_second (slice_index cells 0) v))
second_leads cells views k at n x y v r here is phase =
    let my = my_reader cells views k at v r here is in
    load_leads cells views k at 0 k.core.number v r (λ m q. ends_try m q.phase q) here is (ap (λ (cs : List ℕ). slice_index cs 0) k.words)
    (safe_step (step.Second r.number) k.core (ap has_b (my_phase k.core k.seat_of at r (HasB n x y) my phase)) k.safe)

pub second_keeps : (cells : List ℕ) (views : List View) (at n x y : ℕ) (v : View) → Kept cells views → get_elem? views at ≡ some v → phase_in v ≡ Some (HasB n x y)
    → Kept (slice_set cells 0 (slice_index cells 0)) (set views at (loads_second (slice_index cells 0) v))
second_keeps cells views at n x y v k here phase =
    let r = reader_there v.reader (HasB n x y) phase in
    stored (after (step.Second r.0.number) k.core) cells (set views at (loads_second (slice_index cells 0) v)) 0 (same_0 cells k.core.number k.core.a k.core.b k.words) (second_leads cells views k at n x y v r.0 here r.1 r.2)

-- what the second load tells
try_tells : (core : State) (seat_of : ℕ → ℕ) (at n x y : ℕ) (r : Reading) → IsSafe core → All IsSpelled core.published → IsReadingAs core seat_of at r → r.phase ≡ HasB n x y → TryTells r.floor r.tries n x y core.number
try_tells core seat_of at n x y r safe spelled my is = record {
  numbers = tries_go_on core r.number (state_of r) n x y safe my.state is;
  spells = λ good. let read = good_try core r.number n (x, y) safe (record { loaded = my_phase core seat_of at r (HasB n x y) my is; good = good }) in All-found IsSpelled core.published (n / 2) (x, y) read.1 spelled;
}

pub second_tells : (cells : List ℕ) (views : List View) (at n x y : ℕ) (v : View) → Kept cells views → get_elem? views at ≡ some v → phase_in v ≡ Some (HasB n x y) → IfSome v.reader (SecondTells (slice_index cells 0))
second_tells cells views at n x y v k here phase =
    let r = reader_there v.reader (HasB n x y) phase in
    let my = my_reader cells views k at v r.0 here r.1 in
    let F : ReaderPhase → Type 0 = λ p. tells_by p r.0.floor r.0.tries k.core.number in
    let G : ℕ → Type 0 = λ m. SecondTells m r.0 in
    let found : slice_index cells 0 ≡ k.core.number = ap (λ (cs : List ℕ). slice_index cs 0) k.words in
    if_some_is (SecondTells (slice_index cells 0)) v.reader r.0 r.1 (subst G (sym found) (subst F (sym r.2) (try_tells k.core k.seat_of at n x y r.0 k.safe k.spelled my r.2)))

-- the table's form of the four
pub loads_number : (slots id : ℕ) (me : Me (Unit {0}) View) → phase_in me.0 ≡ Some Rest
    → Allows (λ (s : Table (Unit {0}) View). Kept s.words s.views) slots id me 0 (λ n. n) (λ n (w : Me (Unit {0}) View). w ≡ (loads_first n me.0, me.1))
loads_number slots id me phase s kept size at small = (loads_first (slice_index s.words 0) me.0, keeps, tt, first_keeps s.words s.views id me.0 kept at phase, refl)

pub loads_the_first : (slots id n : ℕ) (me : Me (Unit {0}) View) → phase_in me.0 ≡ Some (HasFirst n)
    → Allows (λ (s : Table (Unit {0}) View). Kept s.words s.views) slots id me 1 (λ n. n) (λ n (w : Me (Unit {0}) View). w ≡ (loads_word_a n me.0, me.1))
loads_the_first slots id n me phase s kept size at small = (loads_word_a (slice_index s.words 1) me.0, keeps, tt, a_keeps s.words s.views id n me.0 kept at phase, refl)

pub loads_the_next : (slots id n x : ℕ) (me : Me (Unit {0}) View) → phase_in me.0 ≡ Some (HasA n x)
    → Allows (λ (s : Table (Unit {0}) View). Kept s.words s.views) slots id me 2 (λ n. n) (λ n (w : Me (Unit {0}) View). w ≡ (loads_word_b n me.0, me.1))
loads_the_next slots id n x me phase s kept size at small = (loads_word_b (slice_index s.words 2) me.0, keeps, tt, b_keeps s.words s.views id n x me.0 kept at phase, refl)

pub loads_again : (slots id n x y : ℕ) (me : Me (Unit {0}) View) → phase_in me.0 ≡ Some (HasB n x y)
    → Allows (λ (s : Table (Unit {0}) View). Kept s.words s.views) slots id me 0 (λ n. n) (λ n (w : Me (Unit {0}) View). (w ≡ (loads_second n me.0, me.1)) × IfSome me.0.reader (SecondTells n))
loads_again slots id n x y me phase s kept size at small = (loads_second (slice_index s.words 0) me.0, keeps, tt, second_keeps s.words s.views id n x y me.0 kept at phase, (refl, second_tells s.words s.views id n x y me.0 kept at phase))
