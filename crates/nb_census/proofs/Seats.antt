-- A headcount opens under the rule; a seat that is made, taken in, or looked at keeps it.
use Rattle.std.proofs.Common.{◌≡◌, ◌≢◌, ℕ, zero, suc, ◌+◌, ◌*◌, List, [], ◌∷◌, ◌++◌, length, set, Option, refl, sym, ap, ◌∙◌, subst, ⊎_elim, arith}
use Rattle.std.specs.Option.{option_map, unwrap_or}
use Rattle.std.specs.List.{AllByRecursion as Each}
use mathlib.Core.Option.{some, some-injective, some-ne-none}
use mathlib.Core.Logic.{dite}
use native.Mathlib.Decide.{ℕ_discrete}
use lib.ListN.{get_elem?}
use Rattle.atomic_table.specs.Table.{Allows, Splits, Joins, State as Table, Me, keeps}
use Rattle.atomic_table.proofs.Lists.{at_set, set_again, set_here, set_else, at_longer, at_last}
use Rattle.nb_census.specs.declared.view.View.{View}
use Rattle.change_order.specs.declared.part.Part.{Part}
use Rattle.change_order.specs.Growing.{blank}
use Rattle.nb_census.specs.Views.{spent, first_view, who_makes, who_comes, takes_in}
use Rattle.change_order.specs.Counted.{AreCounted, changes_in}
use Rattle.nb_census.specs.Kept.{Kept, Shows, IsPlaced, IsSmall, LookTells, AreNumbered, IsRoom, Stands, shares_in}
use Rattle.change_order.proofs.Lists.{each_set, each_more, each_append, within_at, length-snoc}
use Rattle.nb_census.proofs.Lists.{each_snoc_place, same_places, if_some_at, if_some_is, if_some_more, moved, moved_here, moved_else, redirected, redirected_here, redirected_else, at_behind}
use Rattle.nb_census.proofs.Counted.{changes-grown, shares-grown, counted_grown}
use Rattle.nb_census.proofs.Steps.{same_words, one_view}

-- a new headcount
pub opens : Kept (0 ∷ []) (first_view ∷ [])
opens = record {
  parts = [];
  desk = 0;
  seat_of = λ _. 0;
  word = refl;
  counted = record { once = λ t h. absurd (omega arith); each = λ b p e. absurd (some-ne-none p (sym e)) };
  few = omega arith;
  small = λ b p e. absurd (some-ne-none p (sym e));
  shown = first_shown;
  stands = λ b p e. absurd (some-ne-none p (sym e));
}
  where
    first_shown : (at : ℕ) (v : View) → get_elem? (first_view ∷ []) at ≡ some v → Shows [] 0 (λ _. 0) at v
    first_shown zero v e =
        let mine : Shows [] 0 (λ _. 0) 0 first_view = record { making = (refl, refl); placed = tt } in
        subst (Shows [] 0 (λ _. 0) 0) (some-injective first_view v e) mine
    first_shown (suc at) v e = absurd (some-ne-none v (sym e))

-- the maker makes a seat
pub makes : (id : ℕ) (v : View) → IsRoom v → Splits (λ (s : Table (Unit {0}) View). Kept s.words s.views) id v (who_makes v) (who_comes v)
makes id v room s k here =
    let n = room.0 in
    let b = length k.parts in
    let mine = k.shown id v here in
    let my = if_some_at (λ m. (id ≡ k.desk) × (m ≡ length k.parts)) v.made n room.1 mine.making in
    let grown : List Part = k.parts ++ blank b ∷ [] in
    let new = length (set s.views id (who_makes v)) in
    let seats : ℕ → ℕ = moved k.seat_of b new in
    let size = length-snoc k.parts (blank b) in
    let stay : (j : ℕ) (ps : List Part) → Each (IsPlaced k.parts k.seat_of j) ps → Each (IsPlaced grown seats j) ps = λ j ps. each_more (IsPlaced k.parts k.seat_of j) (IsPlaced grown seats j) ps
    (λ r h. let small = within_at k.parts r.bucket r h.there in record { seat = moved_else k.seat_of b new r.bucket (λ e. omega (arith, small, e)) ∙ h.seat; there = at_longer k.parts (blank b ∷ []) r.bucket r h.there }) in
    record {
      parts = grown;
      desk = k.desk;
      seat_of = seats;
      word = k.word ∙ ap (λ (x : ℕ × ℕ). (x.0 * 4294967296 + x.1) ∷ []) (λ i. (sym (changes-grown k.parts) i, sym (shares-grown k.parts) i));
      counted = counted_grown k.parts k.counted;
      few = (let less = room.2 in let same = my.1 in omega (arith, size, less, same));
      small = each_snoc_place (λ j u. IsSmall u) k.parts (blank b) (λ j u there. k.small j u there) (record { share = omega arith; count = omega arith });
      shown = each_snoc_place (Shows grown k.desk seats) (set s.views id (who_makes v)) (who_comes v)
          (each_set (Shows grown k.desk seats) s.views id (who_makes v)
          (λ j u other there.
          let theirs = k.shown j u there in
          record {
            making = if_some_more (λ m. (j ≡ k.desk) × (m ≡ length k.parts)) (λ m. (j ≡ k.desk) × (m ≡ length grown)) u.made (λ m _ h. absurd (other (h.0 ∙ sym my.0))) theirs.making;
            placed = stay j u.parts theirs.placed;
          })
          (record {
            making = if_some_is (λ m. (id ≡ k.desk) × (m ≡ length grown)) (option_map suc v.made) (suc n) (ap (option_map suc) room.1) (my.0, ap suc my.1 ∙ sym size);
            placed = stay id v.parts mine.placed;
          }))
          (record {
            making = tt;
            placed = (
              subst (λ (m : ℕ). IsPlaced grown seats new (blank m)) (sym (ap (λ (o : Option ℕ). unwrap_or o 0) room.1 ∙ my.1)) (record { seat = moved_here k.seat_of b new; there = at_last k.parts (blank b) b refl }),
              tt,
            );
          });
      stands = each_snoc_place (λ c u. Stands (set s.views id (who_makes v) ++ who_comes v ∷ []) (seats c) u) k.parts (blank b)
          (λ c u there.
          let h = k.stands c u there in
          let small = within_at k.parts c u there in
          let stay : seats c ≡ k.seat_of c = moved_else k.seat_of b new c (λ e. omega (arith, small, e)) in
          dite (ℕ_discrete (k.seat_of c) id)
          (λ e. record {
            holder = who_makes v;
            there = ap (λ (n : ℕ). get_elem? (set s.views id (who_makes v) ++ who_comes v ∷ []) n) (stay ∙ e) ∙ at_longer (set s.views id (who_makes v)) (who_comes v ∷ []) id (who_makes v) (set_here s.views id (who_makes v) (within_at s.views id v here));
            place = h.place;
            held = ap (λ (w : View). get_elem? w.parts h.place) (sym (one_view s.views (k.seat_of c) id h.holder v h.there here e)) ∙ h.held;
          })
          (λ ne. record {
            holder = h.holder;
            there = ap (λ (n : ℕ). get_elem? (set s.views id (who_makes v) ++ who_comes v ∷ []) n) stay ∙ at_longer (set s.views id (who_makes v)) (who_comes v ∷ []) (k.seat_of c) h.holder (set_else s.views id (k.seat_of c) (who_makes v) ne ∙ h.there);
            place = h.place;
            held = h.held;
          }))
          (record {
            holder = who_comes v;
            there = ap (λ (n : ℕ). get_elem? (set s.views id (who_makes v) ++ who_comes v ∷ []) n) (moved_here k.seat_of b new) ∙ at_last (set s.views id (who_makes v)) (who_comes v) new refl;
            place = 0;
            held = ap (λ (m : ℕ). some (blank m)) (ap (λ (o : Option ℕ). unwrap_or o 0) room.1 ∙ my.1);
          });
    }

-- the maker takes in a seat
pub takes : (id : ℕ) (v : View) (other : ℕ) (w : View) → Joins (λ (s : Table (Unit {0}) View). Kept s.words s.views) id v other w (takes_in v w) spent
takes id v other w s k here apart there =
    let seats : ℕ → ℕ = redirected k.seat_of other id in
    let theirs : get_elem? s.views other ≡ some w = ⊎_elim (λ (t : (other ≡ id) × (takes_in v w ≡ w)). absurd (apart t.0)) (λ (t : (other ≢ id) × (get_elem? s.views other ≡ some w)). t.1) (at_set s.views id other (takes_in v w) w there) in
    let stay : (j : ℕ) → j ≢ other → (ps : List Part) → Each (IsPlaced k.parts k.seat_of j) ps → Each (IsPlaced k.parts seats j) ps = λ j ne ps. each_more (IsPlaced k.parts k.seat_of j) (IsPlaced k.parts seats j) ps
    (λ r h. record { seat = redirected_else k.seat_of other id r.bucket (λ e. ne (sym h.seat ∙ e)) ∙ h.seat; there = h.there }) in
    let come : Each (IsPlaced k.parts seats id) w.parts = each_more (IsPlaced k.parts k.seat_of other) (IsPlaced k.parts seats id) w.parts
    (λ r h. record { seat = redirected_here k.seat_of other id r.bucket h.seat; there = h.there }) (k.shown other w theirs).placed in
    let P : ℕ → View → Type 0 = λ j u. j ≢ other → Shows k.parts k.desk seats j u in
    let others : (j : ℕ) (u : View) → get_elem? (set s.views id (takes_in v w)) j ≡ some u → P j u = each_set P s.views id (takes_in v w)
    (λ j u _ at ne. let its = k.shown j u at in record { making = its.making; placed = stay j ne u.parts its.placed })
    (λ ne. let mine = k.shown id v here in record { making = mine.making; placed = each_append (IsPlaced k.parts seats id) w.parts v.parts come (stay id ne v.parts mine.placed) }) in
    record {
      parts = k.parts;
      desk = k.desk;
      seat_of = seats;
      word = k.word;
      counted = k.counted;
      few = k.few;
      small = k.small;
      shown = each_set (Shows k.parts k.desk seats) (set s.views id (takes_in v w)) other spent (λ j u ne at. others j u at ne) (record { making = tt; placed = tt });
      stands = λ c u there.
          let h = k.stands c u there in
          let views : List View = set (set s.views id (takes_in v w)) other spent in
          let mine : get_elem? views id ≡ some (takes_in v w) = set_else (set s.views id (takes_in v w)) other id spent (λ e. apart (sym e)) ∙ set_here s.views id (takes_in v w) (within_at s.views id v here) in
          dite (ℕ_discrete (k.seat_of c) other)
          (λ e. record {
            holder = takes_in v w;
            there = ap (λ (n : ℕ). get_elem? views n) (redirected_here k.seat_of other id c e) ∙ mine;
            place = h.place;
            held = at_longer w.parts v.parts h.place u (ap (λ (x : View). get_elem? x.parts h.place) (sym (one_view s.views (k.seat_of c) other h.holder w h.there theirs e)) ∙ h.held);
          })
          (λ ne.
          let stay = redirected_else k.seat_of other id c ne in
          dite (ℕ_discrete (k.seat_of c) id)
          (λ e. record {
            holder = takes_in v w;
            there = ap (λ (n : ℕ). get_elem? views n) (stay ∙ e) ∙ mine;
            place = length w.parts + h.place;
            held = at_behind w.parts v.parts h.place ∙ (ap (λ (x : View). get_elem? x.parts h.place) (sym (one_view s.views (k.seat_of c) id h.holder v h.there here e)) ∙ h.held);
          })
          (λ no. record {
            holder = h.holder;
            there = ap (λ (n : ℕ). get_elem? views n) stay ∙ (set_else (set s.views id (takes_in v w)) other (k.seat_of c) spent ne ∙ (set_else s.views id (k.seat_of c) (takes_in v w) no ∙ h.there));
            place = h.place;
            held = h.held;
          }));
    }

-- numbered parts that stand in a list at their numbers stand there at their places
numbered_at : (ys : List Part) (seat_of : ℕ → ℕ) (at b : ℕ) (xs : List Part) → AreNumbered b xs → Each (IsPlaced ys seat_of at) xs → (j : ℕ) (p : Part) → get_elem? xs j ≡ some p → get_elem? ys (b + j) ≡ some p
numbered_at ys seat_of at b [] n h j p e = absurd (some-ne-none p (sym e))
numbered_at ys seat_of at b (x ∷ xs) n h zero p e =
    let same : b + 0 ≡ x.bucket = (let q = n.0 in omega (arith, q)) in
    ap (λ (m : ℕ). get_elem? ys m) same ∙ (h.0.there ∙ e)
numbered_at ys seat_of at b (x ∷ xs) n h (suc j) p e =
    let same : b + suc j ≡ suc b + j = omega arith in
    ap (λ (m : ℕ). get_elem? ys m) same ∙ numbered_at ys seat_of at (suc b) xs n.1 h.1 j p e

all_parts : (xs ys : List Part) (seat_of : ℕ → ℕ) (at : ℕ) → AreNumbered 0 xs → Each (IsPlaced ys seat_of at) xs → length xs ≡ length ys → xs ≡ ys
all_parts xs ys seat_of at n h same = same_places xs ys same (λ j p e. let zero_add : j ≡ 0 + j = omega arith in ap (λ (m : ℕ). get_elem? ys m) zero_add ∙ numbered_at ys seat_of at 0 xs n h j p e)

-- the maker looks at what it has taken in
pub looks_at_all : (slots id : ℕ) (me : Me (Unit {0}) View) → Allows (λ (s : Table (Unit {0}) View). Kept s.words s.views) slots id me 0 (λ n. n) (λ n (w : Me (Unit {0}) View). (w ≡ me) × LookTells me.0)
looks_at_all slots id me s k size at small =
    let mine = k.shown id me.0 at in
    let F : List ℕ → Type 0 = λ cs. Kept cs (set s.views id me.0) in
    let G : List View → Type 0 = λ vs. Kept s.words vs in
    let told : LookTells me.0 = if_some_more (λ n. (id ≡ k.desk) × (n ≡ length k.parts)) (λ n. AreNumbered 0 me.0.parts → length me.0.parts ≡ n → AreCounted me.0.parts) me.0.made
    (λ n _ h numbered long. subst AreCounted (sym (all_parts me.0.parts k.parts k.seat_of id numbered mine.placed (long ∙ h.1))) k.counted) mine.making in
    (me.0, keeps, tt, subst F (sym (same_words s.words (changes_in k.parts * 4294967296 + shares_in k.parts) k.word)) (subst G (sym (set_again s.views id me.0 at)) k), (refl, told))
