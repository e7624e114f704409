-- What a step of one seat leaves to all views.
use Rattle.std.proofs.Common.{◌≡◌, ◌≢◌, ℕ, true, List, [], ◌∷◌, set, Option, Some, None, IfSome, refl, sym, ap, ◌∙◌, subst, ⊎_elim}
use Rattle.std.specs.Option.{option_map}
use Rattle.std.specs.List.{All, slice_get}
use Rattle.std.proofs.lemmas.Option.{same_Some}
use mathlib.Core.Option.{some}
use lib.ListN.{get_elem?}
use Rattle.atomic_table.proofs.Lists.{at_set}
use Rattle.hh_core.specs.declared.reader.ReaderPhase.{ReaderPhase}
use Rattle.hh_core.specs.State.{State, ReaderState, phase_of}
use Rattle.hh_core.specs.Step.{with_reader}
use Rattle.hh_core.specs.Safe.{IsSafe}
use Rattle.hh_core.proofs.Lists.{change_here, change_else, length-change_at}
use Rattle.hh_cell.specs.declared.view.View.{View}
use Rattle.hh_cell.specs.declared.view.Reading.{Reading}
use Rattle.hh_cell.specs.Views.{state_of, changed, reads}
use Rattle.hh_cell.specs.Kept.{Kept, Leads, Shows, IsWriting, IsReadingAs, IsSpelled}
use Rattle.hh_cell.proofs.Lists.{if_some_at, if_some_is, if_some_more}

-- a fact of each view, where one changes
pub each_set : (P : ℕ → View → Type 0) (views : List View) (at : ℕ) (w : View) → ((j : ℕ) (u : View) → j ≢ at → get_elem? views j ≡ some u → P j u) → P at w → (j : ℕ) (u : View) → get_elem? (set views at w) j ≡ some u → P j u
each_set P views at w others mine j u e =
    ⊎_elim
    (λ (t : (j ≡ at) × (w ≡ u)). subst (λ (y : ℕ × View). P y.0 y.1) (λ i. (sym t.0 i, t.1 i)) mine)
    (λ (t : (j ≢ at) × (get_elem? views j ≡ some u)). others j u t.0 t.1)
    (at_set views at j w u e)

-- the reader of a view, by its phase
pub reader_there : (o : Option Reading) (p : ReaderPhase) → option_map (λ (r : Reading). r.phase) o ≡ Some p → (r : Reading) × (o ≡ Some r) × (r.phase ≡ p)
reader_there None p e = absurd (let bad = e in cc)
reader_there (Some r) p e = (r, refl, same_Some r.phase p e)

-- what the rule says of the seat's reader
pub my_reader : (cells : List ℕ) (views : List View) (k : Kept cells views) (at : ℕ) (v : View) (r : Reading) → get_elem? views at ≡ some v → v.reader ≡ Some r → IsReadingAs k.core k.seat_of at r
my_reader cells views k at v r here is = let mine = k.shown at v here in if_some_at (IsReadingAs k.core k.seat_of at) v.reader r is mine.reading

pub my_phase : (core : State) (seat_of : ℕ → ℕ) (at : ℕ) (r : Reading) (p : ReaderPhase) → IsReadingAs core seat_of at r → r.phase ≡ p → phase_of core.readers r.number ≡ Some p
my_phase core seat_of at r p h is = ap (option_map (λ (x : ReaderState). x.phase)) h.state ∙ ap (λ (q : ReaderPhase). Some q) is

-- a step of a seat's reader
pub reader_step : (cells : List ℕ) (views : List View) (k : Kept cells views) (at : ℕ) (v : View) (r : Reading) (f : ReaderState → ReaderState) → get_elem? views at ≡ some v → v.reader ≡ Some r
    → IsSafe (with_reader k.core r.number f) → Leads (with_reader k.core r.number f) cells (set views at (reads f v))
reader_step cells views k at v r f here is safe =
    let after : State = with_reader k.core r.number f in
    let mine = k.shown at v here in
    let my = my_reader cells views k at v r here is in
    let same = length-change_at f k.core.readers r.number in
    record {
      kept = record {
        core = after;
        desk = k.desk;
        seat_of = k.seat_of;
        words = k.words;
        safe = safe;
        spelled = k.spelled;
        shown = each_set (Shows after k.desk k.seat_of) views at (reads f v)
            (λ j u other there.
            let theirs = k.shown j u there in
            record {
              writing = λ e. let d = theirs.writing e in record { seat = d.seat; published = d.published; phase = d.phase; readers = d.readers ∙ sym same };
              reading = if_some_more (IsReadingAs k.core k.seat_of j) (IsReadingAs after k.seat_of j) u.reader (λ q _ h. record { seat = h.seat; state = change_else f k.core.readers r.number q.number (λ e. other (sym h.seat ∙ ap k.seat_of e ∙ my.seat)) ∙ h.state }) theirs.reading;
            })
            (record {
              writing = λ e. let d = mine.writing e in record { seat = d.seat; published = d.published; phase = d.phase; readers = d.readers ∙ sym same };
              reading = if_some_is (IsReadingAs after k.seat_of at) (option_map (changed f) v.reader) (changed f r) (ap (option_map (changed f)) is) (record { seat = my.seat; state = change_here f k.core.readers r.number (state_of r) my.state });
            });
      };
      same = refl;
    }

-- a step of the writer
pub writer_step : (cells now : List ℕ) (views : List View) (k : Kept cells views) (at : ℕ) (v w : View) (after : State) → get_elem? views at ≡ some v → v.writes ≡ true → after.readers ≡ k.core.readers → w.reader ≡ v.reader
    → IsWriting after k.desk at w → now ≡ after.number ∷ after.a ∷ after.b ∷ [] → IsSafe after → All IsSpelled after.published → Leads after now (set views at w)
writer_step cells now views k at v w after here writes readers same shows words safe spelled =
    let mine = k.shown at v here in
    let my = mine.writing writes in
    record {
      kept = record {
        core = after;
        desk = k.desk;
        seat_of = k.seat_of;
        words = words;
        safe = safe;
        spelled = spelled;
        shown = each_set (Shows after k.desk k.seat_of) views at w
            (λ j u other there.
            let theirs = k.shown j u there in
            record {
              writing = λ e. let d = theirs.writing e in absurd (other (d.seat ∙ sym my.seat));
              reading = if_some_more (IsReadingAs k.core k.seat_of j) (IsReadingAs after k.seat_of j) u.reader (λ q _ h. record { seat = h.seat; state = ap (λ (xs : List ReaderState). slice_get xs q.number) readers ∙ h.state }) theirs.reading;
            })
            (record {
              writing = λ e. shows;
              reading = (let F : Option Reading → Type 0 = λ o. IfSome o (IsReadingAs after k.seat_of at) in
                  subst F (sym same) (if_some_more (IsReadingAs k.core k.seat_of at) (IsReadingAs after k.seat_of at) v.reader (λ q _ h. record { seat = h.seat; state = ap (λ (xs : List ReaderState). slice_get xs q.number) readers ∙ h.state }) mine.reading));
            });
      };
      same = refl;
    }
