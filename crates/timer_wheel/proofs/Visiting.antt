-- A walk through a slot's list finds the node of least rank, and the least rank of the first slot is that of all.
use Rattle.std.proofs.Common.{◌≡◌, ◌≢◌, ℕ, suc, ◌<◌, ◌≤◌, Bool, true, false, true≢false, cond, ltb, eqb, List, [], ◌∷◌, ◌++◌, length, slice_get, Option, Some, None, refl, sym, ap, ◌∙◌, subst, ⊎_elim, arith, append_assoc, append-nil}
use Rattle.std.specs.Prelude.{if◌then◌else◌, ◌||◌}
use Rattle.std.specs.Option.{option_map, unwrap_or, MatchOption}
use Rattle.std.specs.List.{IsDistinct, AllByRecursion}
use Rattle.std.proofs.lemmas.List.{get_or_past}
use Rattle.std.proofs.lemmas.Bool.{cases_eq, cases_lt, or_left, or_right, eq-eqb, ne_eqb, lt-ltb, le-ltb}
use Rattle.slot_links.specs.Lists.{Linked, has, list_at, holder, next_of, StandOnce}
use Rattle.slot_links.proofs.Callers.{holder_has, next_at_middle, has_at}
use Rattle.slot_links.proofs.Members.{has-push_itself, has-push_other}
use Rattle.slot_links.proofs.Shows.{some_same, none_some}
use Rattle.timer_wheel.specs.Map.{due_of, NoneArmed, IsLeast}
use Rattle.timer_wheel.specs.Places.{slot_of}
use Rattle.timer_wheel.specs.Kept.{Keeps, IsFirstSlot, IsLeastOf, rank_of}
use Rattle.timer_wheel.proofs.Digits.{slots_order}
use Rattle.timer_wheel.proofs.Settling.{due_there}

-- ---- the walk

-- how much of a list is left from a node on
abbrev pub is_node : Option ℕ → ℕ → Bool
is_node None x = false
is_node (Some n) x = eqb n x

abbrev pub left_of : List ℕ → Option ℕ → ℕ
left_of [] at = 0
left_of (x ∷ xs) at = cond (is_node at x) (suc (length xs)) (left_of xs at)

none_left : (xs : List ℕ) → left_of xs None ≡ 0
none_left [] = refl
none_left (x ∷ xs) = none_left xs

pub record Visits (dues : List (Option ℕ)) (nodes : List ℕ) (at : Option ℕ) (least : ℕ) : Type 0 where
  pub front : List ℕ
  pub rest : List ℕ
  pub whole : nodes ≡ front ++ rest
  pub here : at ≡ slice_get rest 0
  pub best : IsLeastOf dues front least
  pub far : left_of nodes at ≡ length rest

first_rest : (xs : List ℕ) (x : ℕ) → slice_get xs 0 ≡ Some x → (rest : List ℕ) × (xs ≡ x ∷ rest)
first_rest [] x e = absurd (none_some None x refl e)
first_rest (y ∷ xs) x e = (xs, ap (λ (z : ℕ). z ∷ xs) (some_same (Some y) y x refl e))

pub first_in : (xs : List ℕ) (x : ℕ) → slice_get xs 0 ≡ Some x → has x xs ≡ true
first_in xs x e = let r = first_rest xs x e in ap (has x) r.1 ∙ or_left (eqb x x) (has x r.0) (eq-eqb x x refl)

pub front_in : (x : ℕ) (front rest nodes : List ℕ) → nodes ≡ front ++ rest → has x front ≡ true → has x nodes ≡ true
front_in x front rest nodes e h = ap (has x) e ∙ longer front h
  where
    longer : (ys : List ℕ) → has x ys ≡ true → has x (ys ++ rest) ≡ true
    longer [] h = absurd (true≢false (sym h))
    longer (y ∷ ys) h = ⊎_elim
        (λ (same : x ≡ y). or_left (eqb x y) (has x (ys ++ rest)) (eq-eqb x y same))
        (λ (ne : x ≢ y). or_right (eqb x y) (has x (ys ++ rest)) (longer ys (sym (ap (λ (b : Bool). b || has x ys) (ne_eqb x y ne)) ∙ h)))
        (cases_eq x y)

pub of_some : {A : Type 0} (o : Option A) (P : Type 0) (Q : A → Type 0) (x : A) → o ≡ Some x → MatchOption o P Q → Q x
of_some {A} o P Q x e h = let F : Option A → Type 0 = λ v. MatchOption v P Q in subst F e h

pub of_none : {A : Type 0} (o : Option A) (P : Type 0) (Q : A → Type 0) → o ≡ None → MatchOption o P Q → P
of_none {A} o P Q e h = let F : Option A → Type 0 = λ v. MatchOption v P Q in subst F e h

has_only : (x other : ℕ) → has other (x ∷ []) ≡ true → other ≡ x
has_only x other h = ⊎_elim (λ e. e) (λ ne. absurd (true≢false (sym h ∙ has-push_other other x [] ne))) (cases_eq other x)

middle_of : (P : ℕ → Type 0) (before rest : List ℕ) (node : ℕ) → AllByRecursion P (before ++ node ∷ rest) → P node
middle_of P [] rest node h = h.0
middle_of P (x ∷ before) rest node h = middle_of P before rest node h.1

left_middle : (front rest : List ℕ) → IsDistinct eqb (front ++ rest) → left_of (front ++ rest) (slice_get rest 0) ≡ length rest
unfolding IsDistinct
left_middle [] [] d = refl
left_middle [] (x ∷ xs) d = ap (λ (b : Bool). cond b (suc (length xs)) (left_of xs (Some x))) (eq-eqb x x refl)
left_middle (y ∷ ys) [] d = left_middle ys [] d.1
left_middle (y ∷ ys) (x ∷ xs) d =
    let apart : eqb y x ≡ false = middle_of (λ z. eqb y z ≡ false) ys xs x d.0 in
    let other : eqb x y ≡ false = ne_eqb x y (λ e. true≢false (sym (eq-eqb y x (sym e)) ∙ apart)) in
    ap (λ (b : Bool). cond b (suc (length (ys ++ x ∷ xs))) (left_of (ys ++ x ∷ xs) (Some x))) other ∙ left_middle ys (x ∷ xs) d.1

module _ (dues : List (Option ℕ)) (linked : Linked) (slot : ℕ) (once : StandOnce linked) where
  abbrev nodes : List ℕ
  nodes = list_at linked.lists slot

  visit : (front rest : List ℕ) (at : Option ℕ) (least : ℕ) → nodes ≡ front ++ rest → at ≡ slice_get rest 0 → IsLeastOf dues front least → Visits dues nodes at least
  visit front rest at least whole here best =
      let F : List ℕ → Type 0 = λ xs. IsDistinct eqb xs in
      record {
        front = front;
        rest = rest;
        whole = whole;
        here = here;
        best = best;
        far = ap (λ (y : List ℕ × Option ℕ). left_of y.0 y.1) (λ i. (whole i, here i)) ∙ left_middle front rest (subst F whole (once.once slot));
      }

  pub visits_first : (first : ℕ) (at : Option ℕ) → slice_get nodes 0 ≡ Some first → at ≡ next_of linked.lists first → Visits dues nodes at first
  visits_first first at e next =
      let r = first_rest nodes first e in
      visit (first ∷ []) r.0 at first r.1 (next ∙ next_at_middle linked once slot first [] r.0 r.1)
      (record { there = or_left (eqb first first) false (eq-eqb first first refl); least = λ other h. (let same = ap (rank_of dues) (has_only first other h) in omega (arith, same)) })

  module _ (at next : Option ℕ) (least node : ℕ) (v : Visits dues nodes at least) (here : at ≡ Some node) (on : next ≡ next_of linked.lists node) where
    pub others : (rest : List ℕ) × (v.rest ≡ node ∷ rest)
    others = first_rest v.rest node (sym v.here ∙ here)

    whole : nodes ≡ v.front ++ node ∷ others.0
    whole = v.whole ∙ ap (λ (xs : List ℕ). v.front ++ xs) others.1

    pub is_there : has node nodes ≡ true
    is_there = ap (has node) whole ∙ has_at v.front others.0 node

    better : (best : ℕ) → best ≡ (if ltb (rank_of dues node) (rank_of dues least) then node else least) → IsLeastOf dues (v.front ++ node ∷ []) best
    better best is = ⊎_elim
        (λ (l : rank_of dues node < rank_of dues least).
        let mine : best ≡ node = is ∙ ap (λ (b : Bool). if b then node else least) (lt-ltb (rank_of dues node) (rank_of dues least) l) in
        subst (IsLeastOf dues (v.front ++ node ∷ [])) (sym mine) (record {
          there = has-push_itself node v.front;
          least = λ other h. ⊎_elim
              (λ (e : other ≡ node). (let same = ap (rank_of dues) e in omega (arith, same)))
              (λ (ne : other ≢ node). (let was = v.best.least other (sym (has-push_other other node v.front ne) ∙ h) in omega (arith, was, l)))
              (cases_eq other node);
        }))
        (λ (g : rank_of dues least ≤ rank_of dues node).
        let mine : best ≡ least = is ∙ ap (λ (b : Bool). if b then node else least) (le-ltb (rank_of dues node) (rank_of dues least) g) in
        subst (IsLeastOf dues (v.front ++ node ∷ [])) (sym mine) (record {
          there = ⊎_elim
              (λ (e : least ≡ node). ap (λ (x : ℕ). has x (v.front ++ node ∷ [])) e ∙ has-push_itself node v.front)
              (λ (ne : least ≢ node). has-push_other least node v.front ne ∙ v.best.there)
              (cases_eq least node);
          least = λ other h. ⊎_elim
              (λ (e : other ≡ node). (let same = ap (rank_of dues) e in omega (arith, same, g)))
              (λ (ne : other ≢ node). v.best.least other (sym (has-push_other other node v.front ne) ∙ h))
              (cases_eq other node);
        }))
        (cases_lt (rank_of dues node) (rank_of dues least))

    pub visits_on : (best : ℕ) → best ≡ (if ltb (rank_of dues node) (rank_of dues least) then node else least) → Visits dues nodes next best
    visits_on best is =
        visit (v.front ++ node ∷ []) others.0 next best (whole ∙ sym (append_assoc v.front (node ∷ []) others.0)) (on ∙ next_at_middle linked once slot node v.front others.0 whole) (better best is)

    pub nearer : (best : ℕ) → Visits dues nodes next best → left_of nodes next < left_of nodes at
    nearer best w =
        let G : List ℕ → Type 0 = λ xs. IsDistinct eqb xs in
        let a : left_of nodes next ≡ length others.0 = ap (λ (y : List ℕ × Option ℕ). left_of y.0 y.1) (λ i. (((whole ∙ sym (append_assoc v.front (node ∷ []) others.0)) i), ((on ∙ next_at_middle linked once slot node v.front others.0 whole) i)))
        ∙ left_middle (v.front ++ node ∷ []) others.0 (subst G (whole ∙ sym (append_assoc v.front (node ∷ []) others.0)) (once.once slot)) in
        let b : left_of nodes at ≡ suc (length others.0) = v.far ∙ ap length others.1 in
        omega (arith, a, b)

  pub visits_last : (at : Option ℕ) (least : ℕ) → Visits dues nodes at least → at ≡ None → IsLeastOf dues nodes least
  visits_last at least v none =
      let empty : v.rest ≡ [] = no_rest v.rest (sym v.here ∙ none) in
      let all : nodes ≡ v.front = v.whole ∙ (ap (λ (xs : List ℕ). v.front ++ xs) empty ∙ append-nil v.front) in
      subst (λ (xs : List ℕ). IsLeastOf dues xs least) (sym all) v.best
    where
      no_rest : (xs : List ℕ) → slice_get xs 0 ≡ None → xs ≡ []
      no_rest [] e = refl
      no_rest (x ∷ xs) e = absurd (none_some (Some x) x e refl)

-- ---- the least of all

pub none_armed : (now : ℕ) (dues : List (Option ℕ)) (slots : Linked) → Keeps now dues slots → ((slot : ℕ) → slot < 704 → list_at slots.lists slot ≡ []) → NoneArmed dues
none_armed now dues slots k empty node = none_by (due_of dues node) (k.stands node)
  where
    none_by : (o : Option ℕ) → holder slots.lists node ≡ option_map (slot_of now) o → o ≡ None
    none_by None h = refl
    none_by (Some d) h =
        let there = holder_has slots.lists node (slot_of now d) h in
        let small : slot_of now d < 704 = (let many = k.many in let low = there.0 in omega (arith, many, low)) in
        absurd (true≢false (sym there.1 ∙ ap (has node) (empty (slot_of now d) small)))

pub least_is : (now : ℕ) (dues : List (Option ℕ)) (slots : Linked) (slot node : ℕ) → Keeps now dues slots → IsFirstSlot slots.lists slot → IsLeastOf dues (list_at slots.lists slot) node → IsLeast dues (unwrap_or (due_of dues node) 0) node
least_is now dues slots slot node k first best =
    let held = (k.once.held slot node best.there).1 in
    let mine = due_there (due_of dues node) (slot_of now) slot (sym (k.stands node) ∙ held) in
    let due : unwrap_or (due_of dues node) 0 ≡ mine.0 = ap (λ (o : Option ℕ). unwrap_or o 0) mine.1 in
    record {
      armed = mine.1 ∙ ap (λ (d : ℕ). Some d) (sym due);
      least = λ other later h. (let l = (orders mine.0 mine.1 mine.2 other later h).0 in omega (arith, l, due));
      first = λ other h. (let f = (orders mine.0 mine.1 mine.2 other mine.0 (h ∙ ap (λ (d : ℕ). Some d) due)).1 in f refl);
    }
  where
    small : (m : ℕ) (d : ℕ) → due_of dues m ≡ Some d → m < 4294967296
    small m d h = ⊎_elim (λ l. (let few = k.few in omega (arith, l, few))) (λ past. absurd (none_some (due_of dues m) d (get_or_past dues m None past) h)) (cases_lt m (length dues))

    orders : (d : ℕ) → due_of dues node ≡ Some d → slot_of now d ≡ slot → (other later : ℕ) → due_of dues other ≡ Some later → (d ≤ later) × (later ≡ d → node ≤ other)
    orders d at place other later h =
        let theirs : holder slots.lists other ≡ Some (slot_of now later) = k.stands other ∙ ap (option_map (slot_of now)) h in
        let there = holder_has slots.lists other (slot_of now later) theirs in
        ⊎_elim
        (λ (l : slot_of now later < slot). absurd (true≢false (sym there.1 ∙ ap (has other) (first.none (slot_of now later) l))))
        (λ (g : slot ≤ slot_of now later). ⊎_elim
        (λ (e : slot_of now later ≡ slot).
        let rank = best.least other (ap (λ (s : ℕ). has other (list_at slots.lists s)) (sym e) ∙ there.1) in
        let a : unwrap_or (due_of dues node) 0 ≡ d = ap (λ (o : Option ℕ). unwrap_or o 0) at in
        let b : unwrap_or (due_of dues other) 0 ≡ later = ap (λ (o : Option ℕ). unwrap_or o 0) h in
        let x = small node d at in
        let y = small other later h in
        (omega (arith, rank, a, b, x, y), λ same. omega (arith, rank, a, b, same)))
        (λ (ne : slot_of now later ≢ slot).
        let less : d < later = slots_order 10 now d later (k.ahead node d at) (k.ahead other later h) (let f = k.fits node d at in omega (arith, f)) (let f = k.fits other later h in omega (arith, f)) (omega (arith, place, g, ne)) in
        (omega (arith, less), λ same. absurd (omega (arith, same, less))))
        (cases_eq (slot_of now later) slot))
        (cases_lt (slot_of now later) slot)
