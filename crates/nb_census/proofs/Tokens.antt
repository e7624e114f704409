-- What contracts see of the tokens, behind a step.
use Rattle.std.proofs.Common.{◌≡◌, ℕ, suc, List, [], ◌∷◌, ◌++◌, length, map, Option, Some, IfSome, refl, sym, ap, ◌∙◌, subst, arith}
use Rattle.atomic_table.specs.Seated.{TableId}
use Rattle.change_order.specs.declared.part.Part.{Part}
use Rattle.change_order.specs.Ticks.{share_of}
use Rattle.change_order.specs.Growing.{with_change}
use Rattle.nb_census.specs.Views.{first_part, share_after}
use Rattle.change_order.specs.Counted.{AreCounted}
use Rattle.nb_census.specs.Kept.{CanChange, AreNumbered}
use Rattle.nb_census.specs.Shown.{SeatShown, seat_of_part, part_of_seat, AreFrom}
use Rattle.change_order.proofs.Ticks.{share-snoc}
use Rattle.nb_census.proofs.Lists.{if_some_at}

-- the share behind a change
pub share_changed : (s : SeatShown) (id : TableId) (ps qs : List Part) (n added : ℕ) → seat_of_part id (first_part ps) ≡ s → qs ≡ with_change n (share_after added (share_of (first_part ps).changes)) (first_part ps) ∷ []
    → share_of (first_part qs).changes ≡ share_after added (share_of s.changes)
share_changed s id ps qs n added view grown =
    ap (λ (rs : List Part). share_of (first_part rs).changes) grown
    ∙ (share-snoc (first_part ps).changes n (share_after added (share_of (first_part ps).changes))
    ∙ ap (λ (t : SeatShown). share_after added (share_of t.changes)) view)

-- what may be added, by what contracts see
pub can_change : (s : SeatShown) (id : TableId) (ps : List Part) (added : ℕ) → seat_of_part id (first_part ps) ≡ s → CanChange added s.changes → CanChange added (first_part ps).changes
can_change s id ps added view can = subst (λ (t : SeatShown). CanChange added t.changes) (sym view) can

-- the last of seats in order, and those before it
pub from_front : (id : TableId) (b : ℕ) (ss : List SeatShown) (s : SeatShown) → AreFrom id b (ss ++ s ∷ []) → AreFrom id b ss
from_front id b [] s h = tt
from_front id b (x ∷ xs) s h = (h.0, h.1, from_front id (suc b) xs s h.2)

pub from_last : (id : TableId) (b : ℕ) (ss : List SeatShown) (s : SeatShown) → AreFrom id b (ss ++ s ∷ []) → s.headcount ≡ id
from_last id b [] s h = h.0
from_last id b (x ∷ xs) s h = from_last id (suc b) xs s h.2

pub from_numbered : (id : TableId) (b : ℕ) (ss : List SeatShown) → AreFrom id b ss → AreNumbered b (map part_of_seat ss)
from_numbered id b [] h = tt
from_numbered id b (x ∷ xs) h = (h.1, from_numbered id (suc b) xs h.2)

-- one more seat is taken in
pub gather_more : (old new : List SeatShown) (s : SeatShown) (id : TableId) (ws ps qs all : List Part) → old ≡ new ++ s ∷ [] → map part_of_seat old ++ ps ≡ all
    → seat_of_part id (first_part ws) ≡ s → ws ≡ first_part ws ∷ [] → qs ≡ ws ++ ps → map part_of_seat new ++ qs ≡ all
gather_more old new s id ws ps qs all split before view one grown =
    let same : qs ≡ part_of_seat s ∷ ps = grown ∙ (ap (λ (rs : List Part). rs ++ ps) one ∙ ap (λ (t : SeatShown). part_of_seat t ∷ ps) view) in
    ap (λ (rs : List Part). map part_of_seat new ++ rs) same ∙ (sym (moved_over new) ∙ (ap (λ (ss : List SeatShown). map part_of_seat ss ++ ps) (sym split) ∙ before))
  where
    moved_over : (xs : List SeatShown) → map part_of_seat (xs ++ s ∷ []) ++ ps ≡ map part_of_seat xs ++ part_of_seat s ∷ ps
    moved_over [] = refl
    moved_over (x ∷ xs) = ap (λ (rs : List Part). part_of_seat x ∷ rs) (moved_over xs)

none_left : (ss : List SeatShown) → length ss ≡ 0 → ss ≡ []
none_left [] e = refl
none_left (s ∷ ss) e = absurd (omega arith)

long_map : (ss : List SeatShown) → length (map part_of_seat ss) ≡ length ss
long_map [] = refl
long_map (s ∷ ss) = ap suc (long_map ss)

-- all seats are taken in, and the maker has looked
pub all_gathered : (id : TableId) (made : Option ℕ) (n : ℕ) (seats rest : List SeatShown) (ps qs : List Part) → IfSome made (λ m. AreNumbered 0 ps → length ps ≡ m → AreCounted ps) → made ≡ Some n → length rest ≡ 0
    → map part_of_seat rest ++ ps ≡ map part_of_seat seats → AreFrom id 0 seats → length seats ≡ n → qs ≡ ps → AreCounted qs
all_gathered id made n seats rest ps qs told is empty parts order all grown =
    let same : ps ≡ map part_of_seat seats = ap (λ (ss : List SeatShown). map part_of_seat ss ++ ps) (sym (none_left rest empty)) ∙ parts in
    let tell = if_some_at (λ m. AreNumbered 0 ps → length ps ≡ m → AreCounted ps) made n is told in
    let numbered : AreNumbered 0 ps = subst (AreNumbered 0) (sym same) (from_numbered id 0 seats order) in
    subst AreCounted (sym grown) (tell numbered (ap (λ (rs : List Part). length rs) same ∙ (long_map seats ∙ all)))
