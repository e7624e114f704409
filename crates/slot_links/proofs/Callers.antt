-- For callers: which list has a node after a change, and what a walk through a list meets.
use Rattle.std.proofs.Common.{◌≡◌, ◌≢◌, ℕ, suc, ◌<◌, ◌≤◌, true, false, true≢false, eqb, List, [], ◌∷◌, ◌++◌, length, Some, None, is_some, option_and_then, slice_get, refl, sym, ap, ◌∙◌, subst, arith, ⊎_elim, eq-eqb, ne_eqb, lt-ltb, length-set}
use Rattle.std.specs.List.{IsDistinct, AllByRecursion, position_or_len}
use Rattle.std.proofs.lemmas.Bool.{false_from_ne_true, cases_eq, cases_lt, or_left, or_right}
use Rattle.std.proofs.lemmas.Cmp.{nat_eq_equiv}
use Rattle.std.proofs.lemmas.Map.Keys.{IsDistinct-push}
use Rattle.std.proofs.lemmas.List.{get_or_past, length-map}
use Rattle.std.proofs.lemmas.List.Quantifiers.{position-Some}
use Rattle.std.proofs.lemmas.List.Sums.{fails_before_first}
use Rattle.slot_links.specs.Lists.{Linked, has, list_at, holder, behind, next_of, without, put_back, take_out, StandOnce}
use Rattle.slot_links.proofs.Members.{holder_is, holder_none, has-push_itself, has-push_other, has-without_itself, has-without_other, list_at_put, list_at_put_other, list_at_out, distinct_filter}

-- no list has a node that is held by none
pub none_has : (lists : List (List ℕ)) (node : ℕ) → holder lists node ≡ None → (k : ℕ) → has node (list_at lists k) ≡ false
none_has lists node none k = ⊎_elim
    (λ s. ⊎_elim
    (λ found. let some : holder lists node ≡ Some (position_or_len (has node) lists) = rw (lt-ltb (position_or_len (has node) lists) (length lists) found) refl in
    absurd (true≢false (ap is_some (sym some ∙ none))))
    (λ past. fails_before_first (has node) lists k [] (omega arith))
    (cases_lt (position_or_len (has node) lists) (length lists)))
    (λ s. ap (has node) (get_or_past lists k [] s))
    (cases_lt k (length lists))

-- the list that holds a node has it
pub holder_has : (lists : List (List ℕ)) (node list : ℕ) → holder lists node ≡ Some list → (list < length lists) × (has node (list_at lists list) ≡ true)
holder_has lists node list is = let found = position-Some (has node) lists list [] is in (found.0, found.1)

-- where the lists have a node alike, it is held alike
same_position : (n : ℕ) (xs ys : List (List ℕ)) → length xs ≡ length ys → ((k : ℕ) → has n (list_at xs k) ≡ has n (list_at ys k)) → position_or_len (has n) xs ≡ position_or_len (has n) ys
same_position n [] [] len same = refl
same_position n [] (y ∷ ys) len same = absurd (omega arith)
same_position n (x ∷ xs) [] len same = absurd (omega arith)
same_position n (x ∷ xs) (y ∷ ys) len same = rw (same 0, same_position n xs ys (omega arith) (λ k. same (suc k))) refl

pub holder_same : (n : ℕ) (xs ys : List (List ℕ)) → length xs ≡ length ys → ((k : ℕ) → has n (list_at xs k) ≡ has n (list_at ys k)) → holder xs n ≡ holder ys n
holder_same n xs ys len same = rw (same_position n xs ys len same, len) refl

module _ (lists : List (List ℕ)) (list node : ℕ) (small : list < length lists) where
  pub length-put_back : length (put_back lists list node) ≡ length lists
  length-put_back = length-set lists list (list_at lists list ++ node ∷ [])

  pub has-put_back_other : (n k : ℕ) → n ≢ node → has n (list_at (put_back lists list node) k) ≡ has n (list_at lists k)
  has-put_back_other n k other = ⊎_elim
      (λ e. ap (has n) (list_at_put lists list node k small e) ∙ has-push_other n node (list_at lists k) other)
      (λ x. ap (has n) (list_at_put_other lists list node k x))
      (cases_eq k list)

  pub holder-put_back_other : (n : ℕ) → n ≢ node → holder (put_back lists list node) n ≡ holder lists n
  holder-put_back_other n other = holder_same n (put_back lists list node) lists length-put_back (λ k. has-put_back_other n k other)

  pub holder-put_back_itself : holder lists node ≡ None → holder (put_back lists list node) node ≡ Some list
  holder-put_back_itself none = holder_is (put_back lists list node) list node (omega (arith, small, length-put_back))
      (ap (has node) (list_at_put lists list node list small refl) ∙ has-push_itself node (list_at lists list))
      (λ k below. ap (has node) (list_at_put_other lists list node k (λ e. omega arith)) ∙ none_has lists node none k)

module _ (lists : List (List ℕ)) (node : ℕ) where
  pub length-take_out : length (take_out lists node) ≡ length lists
  length-take_out = length-map lists (without node)

  pub holder-take_out_other : (n : ℕ) → n ≢ node → holder (take_out lists node) n ≡ holder lists n
  holder-take_out_other n other = holder_same n (take_out lists node) lists length-take_out (λ k. ap (has n) (list_at_out lists node k) ∙ has-without_other n node (list_at lists k) other)

  pub holder-take_out_itself : holder (take_out lists node) node ≡ None
  holder-take_out_itself = holder_none (take_out lists node) node (λ k. ap (has node) (list_at_out lists node k) ∙ has-without_itself node (list_at lists k))

-- what holds of each of a list holds of the one in the middle
in_the_middle : (P : ℕ → Type 0) (before rest : List ℕ) (node : ℕ) → AllByRecursion P (before ++ node ∷ rest) → P node
in_the_middle P [] rest node h = h.0
in_the_middle P (x ∷ before) rest node h = in_the_middle P before rest node h.1

-- a node of a list without repetition: what stands behind it, and what is left without it
pub behind_at : (before rest : List ℕ) (node : ℕ) → IsDistinct eqb (before ++ node ∷ rest) → behind node (before ++ node ∷ rest) ≡ slice_get rest 0
unfolding IsDistinct
behind_at [] rest node d = rw (eq-eqb node node refl) refl
behind_at (x ∷ before) rest node d =
    let apart : eqb x node ≡ false = in_the_middle (λ y. eqb x y ≡ false) before rest node d.0 in
    rw (ne_eqb node x (λ e. true≢false (sym (eq-eqb x node (sym e)) ∙ apart)), behind_at before rest node d.1) refl

pub has_at : (before rest : List ℕ) (node : ℕ) → has node (before ++ node ∷ rest) ≡ true
has_at [] rest node = or_left (eqb node node) (has node rest) (eq-eqb node node refl)
has_at (x ∷ before) rest node = or_right (eqb node x) (has node (before ++ node ∷ rest)) (has_at before rest node)

without_all : (node : ℕ) (xs : List ℕ) → AllByRecursion (λ y. eqb node y ≡ false) xs → without node xs ≡ xs
without_all node [] h = refl
without_all node (x ∷ xs) h = rw (h.0, without_all node xs h.1) refl

pub without_at : (before rest : List ℕ) (node : ℕ) → IsDistinct eqb (before ++ node ∷ rest) → without node (before ++ node ∷ rest) ≡ before ++ rest
unfolding IsDistinct
without_at [] rest node d = rw (eq-eqb node node refl) (without_all node rest d.0)
without_at (x ∷ before) rest node d =
    let apart : eqb x node ≡ false = in_the_middle (λ y. eqb x y ≡ false) before rest node d.0 in
    rw (ne_eqb node x (λ e. true≢false (sym (eq-eqb x node (sym e)) ∙ apart)), without_at before rest node d.1) refl

module _ (linked : Linked) (h : StandOnce linked) (list node : ℕ) (before rest : List ℕ) (is : list_at linked.lists list ≡ before ++ node ∷ rest) where
  pub held_at : (node < linked.nodes) × (holder linked.lists node ≡ Some list)
  held_at = h.held list node (ap (has node) is ∙ has_at before rest node)

  distinct_at : IsDistinct eqb (before ++ node ∷ rest)
  distinct_at = let F : List ℕ → Type 0 = IsDistinct eqb in subst F is (h.once list)

  -- a walk through a list goes on to the rest
  pub next_at_middle : next_of linked.lists node ≡ slice_get rest 0
  next_at_middle = ap (option_and_then (λ k. behind node (list_at linked.lists k))) held_at.1 ∙ ap (behind node) is ∙ behind_at before rest node distinct_at

  -- a node is taken out of the middle
  pub take_out_middle : list_at (take_out linked.lists node) list ≡ before ++ rest
  take_out_middle = list_at_out linked.lists node list ∙ ap (without node) is ∙ without_at before rest node distinct_at

-- each node still stands once where one that is in no list is put at the end of one
pub stand-put_back : (linked : Linked) (list node : ℕ) → StandOnce linked → list < length linked.lists → node < linked.nodes → holder linked.lists node ≡ None → StandOnce (record { lists = put_back linked.lists list node; nodes = linked.nodes })
stand-put_back linked list node h small within none = record {
  held = λ k n m. ⊎_elim
      (λ same. ⊎_elim
      (λ e. (rw same within, ap (holder (put_back linked.lists list node)) same ∙ holder-put_back_itself linked.lists list node small none ∙ ap (λ i. Some i) (sym e)))
      (λ x. absurd (true≢false (sym m ∙ ap (has n) (list_at_put_other linked.lists list node k x) ∙ ap (λ i. has i (list_at linked.lists k)) same ∙ none_has linked.lists node none k)))
      (cases_eq k list))
      (λ other. let was = h.held k n (sym (has-put_back_other linked.lists list node small n k other) ∙ m) in
      (was.0, holder-put_back_other linked.lists list node small n other ∙ was.1))
      (cases_eq n node);
  once = λ k. let F : List ℕ → Type 0 = IsDistinct eqb in ⊎_elim
      (λ e. subst F (sym (list_at_put linked.lists list node k small e)) (IsDistinct-push nat_eq_equiv (list_at linked.lists k) node (h.once k) (none_has linked.lists node none k)))
      (λ x. subst F (sym (list_at_put_other linked.lists list node k x)) (h.once k))
      (cases_eq k list);
}

-- and where one is taken out
pub stand-take_out : (linked : Linked) (node : ℕ) → StandOnce linked → StandOnce (record { lists = take_out linked.lists node; nodes = linked.nodes })
stand-take_out linked node h = record {
  held = λ k n m.
      let left : has n (without node (list_at linked.lists k)) ≡ true = ap (has n) (sym (list_at_out linked.lists node k)) ∙ m in
      ⊎_elim
      (λ same. absurd (true≢false (sym left ∙ ap (λ i. has i (without node (list_at linked.lists k))) same ∙ has-without_itself node (list_at linked.lists k))))
      (λ other. let was = h.held k n (sym (has-without_other n node (list_at linked.lists k) other) ∙ left) in
      (was.0, holder-take_out_other linked.lists node n other ∙ was.1))
      (cases_eq n node);
  once = λ k. let F : List ℕ → Type 0 = IsDistinct eqb in subst F (sym (list_at_out linked.lists node k)) (distinct_filter _ (list_at linked.lists k) (h.once k));
}

-- and with further nodes
pub stand-more : (linked : Linked) (nodes : ℕ) → StandOnce linked → linked.nodes ≤ nodes → StandOnce (record { lists = linked.lists; nodes = nodes })
stand-more linked nodes h grows = record {
  held = λ k n m. let was = h.held k n m in (omega (arith, was.0, grows), was.1);
  once = h.once;
}

-- a further node is in no list
pub none_beyond : (linked : Linked) (node : ℕ) → StandOnce linked → linked.nodes ≤ node → holder linked.lists node ≡ None
none_beyond linked node h past = holder_none linked.lists node (λ k. false_from_ne_true (has node (list_at linked.lists k)) (λ m. let within : node < linked.nodes = (h.held k node m).0 in absurd (omega arith)))
