-- Each step of a token keeps the rule: it is some of the lock's steps, one after another, or moves a reader.
use Rattle.std.proofs.Common.{◌≡◌, ℕ, zero, suc, ◌+◌, ◌-◌, ◌*◌, ◌%◌, Bool, true, false, true≢false, ◌&&◌, if◌then◌else◌, List, [], ◌∷◌, ◌++◌, length, set, Option, Some, None, refl, sym, ap, ◌∙◌, subst, ⊎_elim, arith, IfSome, IsSomeAnd}
use Rattle.std.specs.Prelude.{slice_set, slice_index, ◌==◌}
use Rattle.std.specs.List.{slice_get}
use Rattle.std.specs.Option.{option_map}
use Rattle.std.proofs.lemmas.Bool.{eq-eqb}
use mathlib.Core.Option.{some, some-injective, some-ne-none}
use lib.ListN.{get_elem?}
use Rattle.crossbeam_utils.specs.Register.{Turns, Forks, Merges}
use Rattle.atomic_table.proofs.Lists.{set_again}
use Rattle.hh_core.specs.declared.step.WriterPhase.{WriterPhase}
use Rattle.hh_core.specs.declared.step.WriterPhase.TheVariants.{Idle}
use Rattle.hh_core.specs.declared.reader.ReaderPhase.TheVariants.{Rest, HasFirst, HasB}
use Rattle.hh_core.specs.State.{State, last_number}
use Rattle.hh_core.specs.Step.{is_good, is_idle, to_phase, loads_a, loads_b}
use Rattle.hh_core.specs.Safe.{words_in}
use Rattle.hh_core.proofs.Resting.{resting_readers_agree}
use Rattle.hh_cell.specs.declared.view.View.{View}
use Rattle.hh_cell.specs.declared.view.Reading.{Reading}
use Rattle.hh_cell.specs.Views.{state_of, changed, phase_in, begun, wrote_a, wrote_b, ended, loads_first, loads_word_a, loads_word_b, loads_second, spent, first_view, takes_in, who_stays, who_goes}
use Rattle.hh_cell.specs.Kept.{Kept, Leads, Shows, IsReadingAs, IsSpelled, TryTells, LookTells}
use Rattle.hh_cell.specs.Laws.{lock_for}
use Rattle.hh_cell.proofs.Lists.{at_snoc_place, if_some_at, if_some_is, if_some_more, moved, moved_here, moved_else}
use Rattle.hh_cell.proofs.Seats.{each_set, reader_there, my_reader}
use Rattle.hh_cell.proofs.Stores.{begin_keeps, store_a_keeps, store_b_keeps, end_keeps}
use Rattle.hh_cell.proofs.Loads.{first_leads, a_leads, b_leads, second_leads, second_tells}
use Rattle.hh_cell.proofs.Meets.{opens, lodges_lead, leaves_by}
use Rattle.hh_cell.proofs.Trying.{tried, told}
use Rattle.seq_cell.specs.Held.{unopened, KeptAtRest, HeldBy, Held, Opened, Published, tried_whole, Tried, Looked}

off : false ≡ true → ⊥
off e = true≢false (sym e)

-- a seat that is there stays there, and the last of its changes stands
here_set : (views : List View) (at : ℕ) (v w : View) → get_elem? views at ≡ some v → get_elem? (set views at w) at ≡ some w
here_set [] at v w e = absurd (some-ne-none v (sym e))
here_set (x ∷ xs) zero v w e = refl
here_set (x ∷ xs) (suc at) v w e = here_set xs at v w e

set_twice : (views : List View) (at : ℕ) (v w : View) → set (set views at v) at w ≡ set views at w
set_twice [] at v w = refl
set_twice (x ∷ xs) zero v w = refl
set_twice (x ∷ xs) (suc at) v w = ap (λ (l : List View). x ∷ l) (set_twice xs at v w)

set_four : (views : List View) (at : ℕ) (a b c d : View) → set (set (set (set views at a) at b) at c) at d ≡ set views at d
set_four views at a b c d = set_twice (set (set views at a) at b) at c d ∙ (set_twice (set views at a) at b d ∙ set_twice views at a d)

-- another token than the one of a cell without a record is there only where there is a record
alone : (at : ℕ) (v : View) → get_elem? (unopened ∷ []) at ≡ some v → v ≡ unopened
alone zero v e = sym (some-injective unopened v e)
alone (suc at) v e = absurd (some-ne-none v (sym e))

open_by : (b : Bool) (cells : List ℕ) (views : List View) (at : ℕ) (v : View) → HeldBy b cells views → get_elem? views at ≡ some v → (v ≡ unopened → ⊥) → KeptAtRest cells views
open_by true cells views at v h here other = h
open_by false cells views at v h here other = let F : List View → Type 0 = λ vs. get_elem? vs at ≡ some v in absurd (other (alone at v (subst F h here)))

writer_other : (v : View) (last : ℕ) → length v.published ≡ last + 1 → v ≡ unopened → ⊥
writer_other v last size same = let none : length v.published ≡ 0 = ap (λ (u : View). length u.published) same in omega (arith, size, none)

reader_other : (v : View) (r : Reading) → v.reader ≡ Some r → v ≡ unopened → ⊥
reader_other v r is same = let bad : ◌≡◌ {A = Option Reading} None (Some r) = sym (ap (λ (u : View). u.reader) same) ∙ is in cc

-- the lock's writer rests where the writer's token says so
idle_by : (cells : List ℕ) (views : List View) (k : Kept cells views) (at : ℕ) (v : View) → get_elem? views at ≡ some v → v.writes ≡ true → v.phase ≡ Idle → k.core.writer ≡ Idle
idle_by cells views k at v here writes idle = sym ((k.shown at v here).writing writes).phase ∙ idle

-- the first record
some_published : (cells : List ℕ) (views : List View) (k : Kept cells views) (at : ℕ) → get_elem? views at ≡ some unopened → ⊥
some_published cells views k at here =
    let my = (k.shown at unopened here).writing refl in
    let F : List (ℕ × ℕ) → Type 0 = λ xs. IsSomeAnd (slice_get xs (length xs - 1)) (λ last. ◌≡◌ {A = ℕ × ℕ} (k.core.a, k.core.b) (words_in k.core.writer last)) in
    subst F (sym my.published) k.safe.written.words

first_seat : (at a b : ℕ) → get_elem? (unopened ∷ []) at ≡ some unopened → IsSpelled (a, b) → Held (0 ∷ a ∷ b ∷ []) (set (unopened ∷ []) at (first_view (a, b)))
first_seat zero a b e spelled =
    let k = opens a b spelled in
    let rest : KeptAtRest (0 ∷ a ∷ b ∷ []) (first_view (a, b) ∷ []) = record { kept = k; idle = idle_by (0 ∷ a ∷ b ∷ []) (first_view (a, b) ∷ []) k 0 (first_view (a, b)) refl refl refl } in
    record { opened = true; state = rest }
first_seat (suc at) a b e spelled = absurd (some-ne-none unopened (sym e))

opens_by : (opened : Bool) (cells : List ℕ) (views : List View) (at a b : ℕ) → HeldBy opened cells views → get_elem? views at ≡ some unopened → IsSpelled (a, b) → Held (0 ∷ a ∷ b ∷ []) (set views at (first_view (a, b)))
opens_by true cells views at a b h here spelled = absurd (some_published cells views h.kept at here)
opens_by false cells views at a b h here spelled =
    let F : List View → Type 0 = λ vs. get_elem? vs at ≡ some unopened in
    let G : List View → Type 0 = λ vs. Held (0 ∷ a ∷ b ∷ []) (set vs at (first_view (a, b))) in
    subst G (sym h) (first_seat at a b (subst F h here) spelled)

pub without_record : (cells : List ℕ) → Held cells (unopened ∷ [])
without_record cells = record { opened = false; state = refl }

pub opens_first : (at : ℕ) (v : View) (p : ℕ × ℕ) → v ≡ unopened → IsSpelled p → Turns Held at v (λ _. 0 ∷ p.0 ∷ p.1 ∷ []) Opened
opens_first at v p is spelled cells views h here = (
  first_view p,
  opens_by h.opened cells views at p.0 p.1 h.state (here ∙ ap (λ (u : View). some u) is) spelled,
  refl,
)

-- a publication is the lock's four stores
publishes_rest : (cells : List ℕ) (views : List View) (h : KeptAtRest cells views) (at last : ℕ) (v : View) (p : ℕ × ℕ) → get_elem? views at ≡ some v → v.writes ≡ true → v.phase ≡ Idle → length v.published ≡ last + 1 → IsSpelled p
    → KeptAtRest ((2 * last + 2) ∷ p.0 ∷ p.1 ∷ []) (set views at (ended p v))
publishes_rest cells views h at last v p here writes idle size spelled =
    let v1 : View = begun p v in
    let v2 : View = wrote_a p v1 in
    let v3 : View = wrote_b p v2 in
    let v4 : View = ended p v3 in
    let u1 : List View = set views at v1 in
    let u2 : List View = set u1 at v2 in
    let u3 : List View = set u2 at v3 in
    let u4 : List View = set u3 at v4 in
    let c1 : List ℕ = slice_set cells 0 (2 * last + 1) in
    let c2 : List ℕ = slice_set c1 1 p.0 in
    let c3 : List ℕ = slice_set c2 2 p.1 in
    let c4 : List ℕ = slice_set c3 0 (2 * last + 2) in
    let here1 = here_set views at v v1 here in
    let here2 = here_set u1 at v1 v2 here1 in
    let here3 = here_set u2 at v2 v3 here2 in
    let here4 = here_set u3 at v3 v4 here3 in
    let odd : 2 * last + 1 ≡ 2 * (length v.published - 1) + 1 = omega (arith, size) in
    let even : 2 * last + 2 ≡ 2 * (length v.published - 1) + 2 = omega (arith, size) in
    let one = begin_keeps cells views at (2 * last + 1) v p h.kept here writes idle odd in
    let two = store_a_keeps c1 u1 at p.0 v1 p one.kept here1 writes refl refl in
    let three = store_b_keeps c2 u2 at p.1 v2 p two.kept here2 writes refl refl in
    let four = end_keeps c3 u3 at (2 * last + 2) v3 p three.kept here3 writes refl even spelled in
    let done : KeptAtRest c4 u4 = record { kept = four.kept; idle = idle_by c4 u4 four.kept at v4 here4 writes refl } in
    let words : c4 ≡ (2 * last + 2) ∷ p.0 ∷ p.1 ∷ [] = ap (λ (cs : List ℕ). slice_set (slice_set (slice_set (slice_set cs 0 (2 * last + 1)) 1 p.0) 2 p.1) 0 (2 * last + 2)) h.kept.words in
    let F : List ℕ → Type 0 = λ cs. KeptAtRest cs (set views at (ended p v)) in
    let G : List View → Type 0 = λ vs. KeptAtRest c4 vs in
    subst F words (subst G (set_four views at v1 v2 v3 v4) done)

pub publishes : (at last : ℕ) (v : View) (p : ℕ × ℕ) → v.writes ≡ true → v.phase ≡ Idle → length v.published ≡ last + 1 → IsSpelled p → Turns Held at v (λ _. (2 * last + 2) ∷ p.0 ∷ p.1 ∷ []) Published
publishes at last v p writes idle size spelled cells views h here =
    let rest = open_by h.opened cells views at v h.state here (writer_other v last size) in
    let done : Held ((2 * last + 2) ∷ p.0 ∷ p.1 ∷ []) (set views at (ended p v)) = record { opened = true; state = publishes_rest cells views rest at last v p here writes idle size spelled } in
    (ended p v, done, refl)

-- a try is the lock's four loads
tries_rest : (cells : List ℕ) (views : List View) (h : KeptAtRest cells views) (at : ℕ) (v : View) (r : Reading) → get_elem? views at ≡ some v → v.reader ≡ Some r → r.phase ≡ Rest
    → KeptAtRest cells (set views at (tried_whole cells v)) × IfSome v.reader (λ (q : Reading). TryTells q.floor q.tries (slice_index cells 0) (slice_index cells 1) (slice_index cells 2) (slice_index cells 0))
tries_rest cells views h at v r here is phase =
    let n : ℕ = slice_index cells 0 in
    let a : ℕ = slice_index cells 1 in
    let b : ℕ = slice_index cells 2 in
    let v1 : View = loads_first n v in
    let v2 : View = loads_word_a a v1 in
    let v3 : View = loads_word_b b v2 in
    let v4 : View = loads_second n v3 in
    let u1 : List View = set views at v1 in
    let u2 : List View = set u1 at v2 in
    let u3 : List View = set u2 at v3 in
    let u4 : List View = set u3 at v4 in
    let here1 = here_set views at v v1 here in
    let here2 = here_set u1 at v1 v2 here1 in
    let here3 = here_set u2 at v2 v3 here2 in
    let r1 : Reading = changed (to_phase (HasFirst n)) r in
    let r2 : Reading = changed (λ x. to_phase (loads_a a x.phase) x) r1 in
    let r3 : Reading = changed (λ x. to_phase (loads_b b x.phase) x) r2 in
    let is1 : v1.reader ≡ Some r1 = ap (option_map (changed (to_phase (HasFirst n)))) is in
    let is2 : v2.reader ≡ Some r2 = ap (option_map (changed (λ x. to_phase (loads_a a x.phase) x))) is1 in
    let is3 : v3.reader ≡ Some r3 = ap (option_map (changed (λ x. to_phase (loads_b b x.phase) x))) is2 in
    let one = first_leads cells views h.kept at v r here is phase in
    let two = a_leads cells u1 one.kept at n v1 r1 here1 is1 refl in
    let three = b_leads cells u2 two.kept at n a v2 r2 here2 is2 refl in
    let four = second_leads cells u3 three.kept at n a b v3 r3 here3 is3 refl in
    let writer : State → WriterPhase = λ s. s.writer in
    let idle : four.kept.core.writer ≡ Idle = ap writer four.same ∙ (ap writer three.same ∙ (ap writer two.same ∙ (ap writer one.same ∙ h.idle))) in
    let done : KeptAtRest cells u4 = record { kept = four.kept; idle = idle } in
    let F : List View → Type 0 = λ vs. KeptAtRest cells vs in
    let phase3 : phase_in v3 ≡ Some (HasB n a b) = ap (option_map (λ (q : Reading). q.phase)) is3 in (
      subst F (set_four views at v1 v2 v3 v4 ∙ ap (λ (u : View). set views at u) (tried v n a b n)) done,
      told v n a b n (second_tells cells u3 at n a b v3 three.kept here3 phase3),
    )

-- where the writer rests, the number is even
both_true : (a b : Bool) → a ≡ true → b ≡ true → (a && b) ≡ true
both_true a b p q = rw (p, q) refl

good_even : (n : ℕ) → n % 2 ≡ 0 → is_good (n, n) ≡ true
good_even n even = both_true (n % 2 == 0) (n == n) (eq-eqb (n % 2) 0 even) (eq-eqb n n refl)

good_rest : (cells : List ℕ) (views : List View) → KeptAtRest cells views → is_good (slice_index cells 0, slice_index cells 0) ≡ true
good_rest cells views h =
    let core : State = h.kept.core in
    let N : WriterPhase → Type 0 = λ q. core.number ≡ 2 * last_number core + (if is_idle q then 0 else 1) in
    let number : core.number ≡ 2 * last_number core + 0 = subst N h.idle h.kept.safe.written.number in
    let found : slice_index cells 0 ≡ core.number = ap (λ (cs : List ℕ). slice_index cs 0) h.kept.words in
    let even : core.number % 2 ≡ 0 = omega (arith, number) in
    good_even (slice_index cells 0) (ap (λ (k : ℕ). k % 2) found ∙ even)

pub tries : (at : ℕ) (v : View) → phase_in v ≡ Some Rest → Turns Held at v (λ x. x) Tried
tries at v rests cells views h here =
    let there = reader_there v.reader Rest rests in
    let rest = open_by h.opened cells views at v h.state here (reader_other v there.0 there.1) in
    let step = tries_rest cells views rest at v there.0 here there.1 there.2 in
    let good = good_rest cells views rest in
    let mine = if_some_at (λ (q : Reading). TryTells q.floor q.tries (slice_index cells 0) (slice_index cells 1) (slice_index cells 2) (slice_index cells 0)) v.reader there.0 there.1 step.1 in
    let done : Held cells (set views at (tried_whole cells v)) = record { opened = true; state = step.0 } in
    let shows : Tried v cells cells (tried_whole cells v) = record { became = refl; good = good; spelled = mine.spells good; tells = step.1 } in
    (tried_whole cells v, done, shows)

-- the writer looks at the reader that it has taken in
pub looks : (at last : ℕ) (v : View) → v.writes ≡ true → length v.published ≡ last + 1 → IfSome v.reader (λ r. r.phase ≡ Rest) → Turns Held at v (λ x. x) Looked
looks at last v writes size rests cells views h here =
    let rest = open_by h.opened cells views at v h.state here (writer_other v last size) in
    let my = (rest.kept.shown at v here).writing writes in
    let F : List View → Type 0 = λ vs. Held cells vs in
    let sees : (r : Reading) → v.reader ≡ Some r → r.phase ≡ Rest → LookTells v.published r = λ r is still.
    (let G : List (ℕ × ℕ) → Type 0 = λ xs. LookTells xs r in
    subst G (sym my.published) (resting_readers_agree rest.kept.core r.number (state_of r) rest.kept.safe rest.idle (my_reader cells views rest.kept at v r here is).state still)) in
    (v, subst F (sym (set_again views at v here)) h, (refl, if_some_more (λ (r : Reading). r.phase ≡ Rest) (LookTells v.published) v.reader sees rests))

-- the writer takes in a reader
pub lodges : (at last : ℕ) (v : View) (other : ℕ) (w : View) → length v.published ≡ last + 1 → phase_in w ≡ Some Rest → Merges Held at v other w (takes_in v w) spent
lodges at last v other w size rests cells views h here apart there =
    let rest = open_by h.opened cells views at v h.state here (writer_other v last size) in
    let its = reader_there w.reader Rest rests in
    let done = lodges_lead cells views rest.kept at v other w its.0 its.1 here apart there in
    let left : KeptAtRest cells (set (set views at (takes_in v w)) other spent) = record { kept = done.kept; idle = ap (λ (s : State). s.writer) done.same ∙ rest.idle } in
    record { opened = true; state = left }

-- the writer hands out a reader
lock_rests : (o : Option Reading) (core : State) → (lock_for o core).writer ≡ core.writer
lock_rests None core = refl
lock_rests (Some r) core = refl

pub leaves : (at last : ℕ) (v : View) → v.writes ≡ true → v.phase ≡ Idle → length v.published ≡ last + 1 → IfSome v.reader (λ r. r.phase ≡ Rest) → Forks Held at v (who_stays v) (who_goes v)
leaves at last v writes idle size rests cells views h here =
    let rest = open_by h.opened cells views at v h.state here (writer_other v last size) in
    let done = leaves_by cells views rest.kept at v v.reader refl here writes idle rests in
    let left : KeptAtRest cells (set views at (who_stays v) ++ who_goes v ∷ []) = record { kept = done.kept; idle = ap (λ (s : State). s.writer) done.same ∙ (lock_rests v.reader rest.kept.core ∙ rest.idle) } in
    record { opened = true; state = left }

-- a reader goes to another token
cuts_lead : (cells : List ℕ) (views : List View) (k : Kept cells views) (at : ℕ) (v : View) (r : Reading) → v.reader ≡ Some r → get_elem? views at ≡ some v → Leads k.core cells (set views at spent ++ takes_in spent v ∷ [])
cuts_lead cells views k at v r is here =
    let its = my_reader cells views k at v r here is in
    let new : ℕ = length (set views at spent) in
    let seats : ℕ → ℕ = moved k.seat_of r.number new in
    let right : View = takes_in spent v in
    let old : (j : ℕ) (u : View) → get_elem? (set views at spent) j ≡ some u → Shows k.core k.desk seats j u = each_set (Shows k.core k.desk seats) views at spent
    (λ j u other there.
    let theirs = k.shown j u there in
    record {
      writing = theirs.writing;
      reading = if_some_more (IsReadingAs k.core k.seat_of j) (IsReadingAs k.core seats j) u.reader (λ q _ h. record { seat = moved_else k.seat_of r.number new q.number (λ same. other (sym h.seat ∙ ap k.seat_of same ∙ its.seat)) ∙ h.seat; state = h.state }) theirs.reading;
    })
    (record { writing = λ e. absurd (off e); reading = tt }) in
    let newest : Shows k.core k.desk seats new right = record {
      writing = λ e. absurd (off e);
      reading = if_some_is (IsReadingAs k.core seats new) v.reader r is (record { seat = moved_here k.seat_of r.number new; state = its.state });
    } in
    record {
      kept = record {
        core = k.core;
        desk = k.desk;
        seat_of = seats;
        words = k.words;
        safe = k.safe;
        spelled = k.spelled;
        shown = λ j u e. ⊎_elim
            (λ was. old j u was)
            (λ (t : (j ≡ new) × (right ≡ u)). subst (λ (y : ℕ × View). Shows k.core k.desk seats y.0 y.1) (λ i. (sym t.0 i, t.1 i)) newest)
            (at_snoc_place (set views at spent) right u j e);
      };
      same = refl;
    }

pub cuts : (at : ℕ) (v : View) → phase_in v ≡ Some Rest → Forks Held at v spent (takes_in spent v)
cuts at v rests cells views h here =
    let there = reader_there v.reader Rest rests in
    let rest = open_by h.opened cells views at v h.state here (reader_other v there.0 there.1) in
    let done = cuts_lead cells views rest.kept at v there.0 there.1 here in
    let left : KeptAtRest cells (set views at spent ++ takes_in spent v ∷ []) = record { kept = done.kept; idle = ap (λ (s : State). s.writer) done.same ∙ rest.idle } in
    record { opened = true; state = left }
