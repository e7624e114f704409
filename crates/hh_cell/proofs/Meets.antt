-- A cell opens under the rule; a reader that is taken in, looked at and handed out keeps it.
use Rattle.std.proofs.Common.{◌≡◌, ◌≢◌, ℕ, zero, suc, ◌+◌, ◌-◌, true, false, true≢false, Bool, ◌&&◌, List, [], ◌∷◌, ◌++◌, length, set, Option, Some, None, refl, sym, ap, ◌∙◌, subst, ⊎_elim, arith, IfSome, length-append}
use Rattle.std.specs.Prelude.{slice_set, slice_index}
use Rattle.std.specs.List.{slice_get}
use Rattle.std.specs.Option.{option_map}
use Rattle.std.proofs.lemmas.List.Elements.{All-nil, All-push}
use Rattle.std.proofs.lemmas.Option.{slice_get_within}
use mathlib.Core.Option.{some, some-injective, some-ne-none}
use lib.ListN.{get_elem?}
use Rattle.atomic_table.specs.Table.{Allows, Splits, Joins, State as Table, Me, keeps}
use Rattle.atomic_table.proofs.Lists.{at_set, set_again}
use Rattle.hh_core.specs.declared.step.WriterPhase.TheVariants.{Idle}
use Rattle.hh_core.specs.declared.step.Step.TheVariants as step
use Rattle.hh_core.specs.declared.reader.ReaderPhase.{ReaderPhase}
use Rattle.hh_core.specs.declared.reader.ReaderPhase.TheVariants.{Rest}
use Rattle.hh_core.specs.State.{State, ReaderState, at_first, fresh_reader, phase_of}
use Rattle.hh_core.specs.Step.{after, is_idle, rests, to_floor, with_reader}
use Rattle.hh_core.specs.Safe.{IsSafe}
use Rattle.hh_core.proofs.Lists.{slice_get-grown, slice_get-last, change_here, change_else, length-change_at}
use Rattle.hh_core.proofs.Orders.{safe_step, safe_at_first}
use Rattle.hh_cell.specs.Laws.{lock_for}
use Rattle.hh_cell.specs.declared.view.View.{View}
use Rattle.hh_cell.specs.declared.view.Reading.{Reading}
use Rattle.hh_cell.specs.Views.{state_of, reading_of, changed, first_view, spent, takes_in, handed, readers_after, who_stays, who_goes}
use Rattle.hh_cell.specs.Kept.{Kept, Leads, Shows, IsReadingAs, IsSpelled, LookTells}
use Rattle.hh_cell.proofs.Lists.{at_snoc_place, if_some_is, if_some_more, moved, moved_here, moved_else}
use Rattle.hh_core.proofs.Resting.{safe_with_fresh_reader, resting_readers_agree}
use Rattle.hh_cell.proofs.Seats.{each_set, my_reader}

both_true : (a b : Bool) → a ≡ true → b ≡ true → (a && b) ≡ true
both_true a b p q = rw (p, q) refl

off : false ≡ true → ⊥
off e = true≢false (sym e)

-- a new cell
pub opens : (a b : ℕ) → IsSpelled (a, b) → Kept (0 ∷ a ∷ b ∷ []) (first_view (a, b) ∷ [])
opens a b spelled = record {
  core = at_first (a, b) 0;
  desk = 0;
  seat_of = λ k. 0;
  words = refl;
  safe = safe_at_first (a, b) 0;
  spelled = All-push IsSpelled [] (a, b) (All-nil IsSpelled) spelled;
  shown = first_shown;
}
  where
    first_shown : (at : ℕ) (v : View) → get_elem? (first_view (a, b) ∷ []) at ≡ some v → Shows (at_first (a, b) 0) 0 (λ k. 0) at v
    first_shown zero v e =
        let mine : Shows (at_first (a, b) 0) 0 (λ k. 0) 0 (first_view (a, b)) = record { writing = λ e. record { seat = refl; published = refl; phase = refl; readers = refl }; reading = tt } in
        subst (Shows (at_first (a, b) 0) 0 (λ k. 0) 0) (some-injective (first_view (a, b)) v e) mine
    first_shown (suc at) v e = absurd (some-ne-none v (sym e))

-- the writer takes in a reader
pub lodges_lead : (cells : List ℕ) (views : List View) (k : Kept cells views) (id : ℕ) (v : View) (other : ℕ) (w : View) (r : Reading) → w.reader ≡ Some r → get_elem? views id ≡ some v → ¬ (other ≡ id) → get_elem? (set views id (takes_in v w)) other ≡ some w
    → Leads k.core cells (set (set views id (takes_in v w)) other spent)
lodges_lead cells views k id v other w r is here apart there =
    let seats : ℕ → ℕ = moved k.seat_of r.number id in
    let theirs : get_elem? views other ≡ some w = ⊎_elim (λ (t : (other ≡ id) × (takes_in v w ≡ w)). absurd (apart t.0)) (λ (t : (other ≢ id) × (get_elem? views other ≡ some w)). t.1) (at_set views id other (takes_in v w) w there) in
    let its = my_reader cells views k other w r theirs is in
    let mine = k.shown id v here in
    let P : ℕ → View → Type 0 = λ j u. j ≢ other → Shows k.core k.desk seats j u in
    let others : (j : ℕ) (u : View) → get_elem? (set views id (takes_in v w)) j ≡ some u → P j u = each_set P views id (takes_in v w)
    (λ j u _ at ne.
    let its_own = k.shown j u at in
    record {
      writing = its_own.writing;
      reading = if_some_more (IsReadingAs k.core k.seat_of j) (IsReadingAs k.core seats j) u.reader (λ q _ h. record { seat = moved_else k.seat_of r.number id q.number (λ same. ne (sym h.seat ∙ ap k.seat_of same ∙ its.seat)) ∙ h.seat; state = h.state }) its_own.reading;
    })
    (λ ne. record {
      writing = λ e. let d = mine.writing e in record { seat = d.seat; published = d.published; phase = d.phase; readers = d.readers };
      reading = if_some_is (IsReadingAs k.core seats id) w.reader r is (record { seat = moved_here k.seat_of r.number id; state = its.state });
    }) in
    record {
      kept = record {
        core = k.core;
        desk = k.desk;
        seat_of = seats;
        words = k.words;
        safe = k.safe;
        spelled = k.spelled;
        shown = each_set (Shows k.core k.desk seats) (set views id (takes_in v w)) other spent (λ j u ne at. others j u at ne) (record { writing = λ e. absurd (off e); reading = tt });
      };
      same = refl;
    }

pub lodges : (id : ℕ) (v : View) (other : ℕ) (w : View) (r : Reading) → w.reader ≡ Some r → Joins (λ (s : Table (Unit {0}) View). Kept s.words s.views) id v other w (takes_in v w) spent
lodges id v other w r is s k here apart there = (lodges_lead s.words s.views k id v other w r is here apart there).kept

-- what the writer sees of the reader that it took in
agrees : (core : State) (seat_of : ℕ → ℕ) (at : ℕ) (published : List (ℕ × ℕ)) (r : Reading) → published ≡ core.published → core.writer ≡ Idle → r.phase ≡ Rest → IsSafe core → IsReadingAs core seat_of at r → LookTells published r
agrees core seat_of at published r same idle rest safe my =
    let F : List (ℕ × ℕ) → Type 0 = λ xs. LookTells xs r in
    subst F (sym same) (resting_readers_agree core r.number (state_of r) safe idle my.state rest)

same_words : (cells : List ℕ) (n a b : ℕ) → cells ≡ n ∷ a ∷ b ∷ [] → slice_set cells 0 (slice_index cells 0) ≡ cells
same_words cells n a b e = ap (λ (cs : List ℕ). slice_set cs 0 (slice_index cs 0)) e ∙ sym e

pub looks : (slots id : ℕ) (me : Me (Unit {0}) View) → me.0.writes ≡ true → me.0.phase ≡ Idle → IfSome me.0.reader (λ r. r.phase ≡ Rest)
    → Allows (λ (s : Table (Unit {0}) View). Kept s.words s.views) slots id me 0 (λ n. n) (λ n (w : Me (Unit {0}) View). (w ≡ me) × IfSome me.0.reader (LookTells me.0.published))
looks slots id me writes idle rest s k size at small =
    let mine = k.shown id me.0 at in
    let my = mine.writing writes in
    let F : List ℕ → Type 0 = λ cs. Kept cs (set s.views id me.0) in
    let G : List View → Type 0 = λ vs. Kept s.words vs in
    let told : IfSome me.0.reader (LookTells me.0.published) = if_some_more (λ r. r.phase ≡ Rest) (LookTells me.0.published) me.0.reader (λ r is rests. agrees k.core k.seat_of id me.0.published r my.published (sym my.phase ∙ idle) rests k.safe (my_reader s.words s.views k id me.0 r at is)) rest in
    (me.0, keeps, tt, subst F (sym (same_words s.words k.core.number k.core.a k.core.b k.words)) (subst G (sym (set_again s.views id me.0 at)) k), (refl, told))

length-set : (views : List View) (at : ℕ) (w : View) → length (set views at w) ≡ length views
length-set [] at w = refl
length-set (x ∷ xs) zero w = refl
length-set (x ∷ xs) (suc at) w = ap suc (length-set xs at w)

-- the writer hands out a reader of this state of the lock, in which there may be one more
hands_out : (cells : List ℕ) (views : List View) (k : Kept cells views) (id : ℕ) (v : View) (r : Reading) (readers : List ReaderState) (count : ℕ) → get_elem? views id ≡ some v → v.writes ≡ true → v.phase ≡ Idle → r.phase ≡ Rest
    → IsSafe (record k.core { readers = readers }) → slice_get readers r.number ≡ Some (state_of r) → count ≡ length readers
    → ((q : ℕ) (x : ReaderState) → slice_get k.core.readers q ≡ Some x → slice_get readers q ≡ Some x)
    → ((j : ℕ) (q : Reading) → j ≢ id → IsReadingAs k.core k.seat_of j q → q.number ≢ r.number)
    → Leads (after (step.Meet r.number) (record k.core { readers = readers })) cells (set views id (record v { reader = None; readers = count }) ++ (record spent { reader = Some (changed (to_floor (length v.published - 1)) r) }) ∷ [])
hands_out cells views k id v r readers count here writes idle rest safe found counted stay apart =
    let mine = k.shown id v here in
    let my = mine.writing writes in
    let base : State = record k.core { readers = readers } in
    let last : ℕ = length v.published - 1 in
    let f : ReaderState → ReaderState = to_floor last in
    let next : State = with_reader base r.number f in
    let left : View = record v { reader = None; readers = count } in
    let right : View = record spent { reader = Some (changed f r) } in
    let new : ℕ = length (set views id left) in
    let seats : ℕ → ℕ = moved k.seat_of r.number new in
    let phase : phase_of readers r.number ≡ Some Rest = ap (option_map (λ (x : ReaderState). x.phase)) found ∙ ap (λ (q : ReaderPhase). Some q) rest in
    let ok = both_true (rests (phase_of readers r.number)) (is_idle k.core.writer) (ap rests phase) (ap is_idle (sym my.phase ∙ idle)) in
    let S : ℕ → Type 0 = λ n. IsSafe (with_reader base r.number (to_floor n)) in
    let safe' : IsSafe next = subst S (ap (λ (xs : List (ℕ × ℕ)). length xs - 1) (sym my.published)) (safe_step (step.Meet r.number) base ok safe) in
    let old : (j : ℕ) (u : View) → get_elem? (set views id left) j ≡ some u → Shows next k.desk seats j u = each_set (Shows next k.desk seats) views id left
    (λ j u other there.
    let theirs = k.shown j u there in
    record {
      writing = λ e. let d = theirs.writing e in absurd (other (d.seat ∙ sym my.seat));
      reading = if_some_more (IsReadingAs k.core k.seat_of j) (IsReadingAs next seats j) u.reader (λ q _ h.
          let ne = apart j q other h in
          record { seat = moved_else k.seat_of r.number new q.number ne ∙ h.seat; state = change_else f readers r.number q.number ne ∙ stay q.number (state_of q) h.state }) theirs.reading;
    })
    (record {
      writing = λ e. record { seat = my.seat; published = my.published; phase = my.phase; readers = counted ∙ sym (length-change_at f readers r.number) };
      reading = tt;
    }) in
    record {
      kept = record {
        core = next;
        desk = k.desk;
        seat_of = seats;
        words = k.words;
        safe = safe';
        spelled = k.spelled;
        shown = λ j u e. ⊎_elim
            (λ was. old j u was)
            (λ (t : (j ≡ new) × (right ≡ u)). subst (λ (y : ℕ × View). Shows next k.desk seats y.0 y.1) (λ i. (sym t.0 i, t.1 i))
            (record { writing = λ e. absurd (off e); reading = record { seat = moved_here k.seat_of r.number new; state = change_here f readers r.number (state_of r) found } }))
            (at_snoc_place (set views id left) right u j e);
      };
      same = ap (λ (xs : List (ℕ × ℕ)). with_reader base r.number (to_floor (length xs - 1))) my.published;
    }

-- by whether a reader was taken in
pub leaves_by : (cells : List ℕ) (views : List View) (k : Kept cells views) (id : ℕ) (v : View) (o : Option Reading) → v.reader ≡ o → get_elem? views id ≡ some v → v.writes ≡ true → v.phase ≡ Idle → IfSome o (λ r. r.phase ≡ Rest)
    → Leads (after (step.Meet (handed o v.readers).number) (lock_for o k.core)) cells (set views id (record v { reader = None; readers = readers_after o v.readers }) ++ (record spent { reader = Some (changed (to_floor (length v.published - 1)) (handed o v.readers)) }) ∷ [])
leaves_by cells views k id v None is here writes idle rest =
    let my = (k.shown id v here).writing writes in
    let readers : List ReaderState = k.core.readers ++ fresh_reader ∷ [] in
    hands_out cells views k id v (reading_of v.readers fresh_reader) readers (v.readers + 1) here writes idle refl (safe_with_fresh_reader k.core k.safe)
    (ap (λ (n : ℕ). slice_get readers n) my.readers ∙ slice_get-last k.core.readers fresh_reader)
    (ap (λ (n : ℕ). n + 1) my.readers ∙ sym (length-append k.core.readers (fresh_reader ∷ [])))
    (λ q x e. slice_get-grown k.core.readers (fresh_reader ∷ []) q x e)
    (λ j q _ h same. let small = slice_get_within k.core.readers q.number (state_of q) h.state in omega (arith, my.readers))
leaves_by cells views k id v (Some r) is here writes idle rest =
    let my = (k.shown id v here).writing writes in
    let mine = my_reader cells views k id v r here is in
    hands_out cells views k id v r k.core.readers v.readers here writes idle rest k.safe mine.state my.readers (λ q x e. e)
    (λ j q other h same. other (sym h.seat ∙ ap k.seat_of same ∙ mine.seat))

pub leaves : (id : ℕ) (v : View) → v.writes ≡ true → v.phase ≡ Idle → IfSome v.reader (λ r. r.phase ≡ Rest) → Splits (λ (s : Table (Unit {0}) View). Kept s.words s.views) id v (who_stays v) (who_goes v)
leaves id v writes idle rest s k here = (leaves_by s.words s.views k id v v.reader refl here writes idle rest).kept
