-- The places hold the changed lists: after a node is put at the end of one, after it is taken out, and with further nodes.
use Rattle.std.proofs.Common.{◌≡◌, ◌≢◌, ℕ, ◌+◌, ◌^◌, ◌<◌, ◌≤◌, true, true≢false, eqb, List, [], ◌∷◌, ◌++◌, length, replicate, Some, None, refl, sym, ap, ◌∙◌, subst, arith, ⊎_elim, length-set}
use Rattle.std.specs.List.{IsDistinct}
use Rattle.std.proofs.lemmas.Bool.{cases_eq, cases_lt, false_from_ne_true}
use Rattle.std.proofs.lemmas.Cmp.{nat_eq_equiv}
use Rattle.std.proofs.lemmas.List.{get_or_past, length-map, length-replicate}
use Rattle.std.proofs.lemmas.Map.Keys.{IsDistinct-push}
use Rattle.slot_links.specs.declared.places.Place.{Place}
use Rattle.slot_links.specs.Lists.{has, list_at, holder, without, put_back, take_out}
use Rattle.slot_links.specs.Places.{apart, place_at, next_at, previous_at, number_at, Appends, Removes, Extends, Rounds, Chain, Holds}
use Rattle.slot_links.proofs.Chains.{chain_same, chain_kept, chain_pushed, chain_without}
use Rattle.slot_links.proofs.Members.{has-push_itself, has-push_other, has-without_itself, has-without_other, list_at_put, list_at_put_other, list_at_out, list_at_first, distinct_filter}
use Rattle.slot_links.proofs.Turns.{here, elsewhere, appended_keeps, appended_turns, rounds_appended, removed_keeps, removed_skips, rounds_removed}
use Rattle.slot_links.proofs.Shows.{none_some, some_same, number_shown}

-- other nodes have other places
apart_places : (ends n node : ℕ) → n ≢ node → ends + n ≢ ends + node
apart_places ends n node other e = other (omega arith)

-- a place below the size that isn't `at`
abbrev IsOther : ℕ → ℕ → ℕ → Type 0
IsOther size at i = (i < size) × (i ≢ at)

module _ (ends nodes : ℕ) (old new : List Place) (lists : List (List ℕ)) (list node : ℕ)
    (h : Holds ends nodes old lists) (small : list < ends) (node_small : node < nodes) (free : holder lists node ≡ None)
    (a : Appends list (ends + node) old new) where
  unheld : number_at old (ends + node) ≡ None
  unheld = number_shown ends nodes old lists node node_small h ∙ free

  absent : (k : ℕ) → has node (list_at lists k) ≡ true → ⊥
  absent k m = none_some (number_at old (ends + node)) k unheld (h.held k node m).1

  not_node : (k n : ℕ) → has n (list_at lists k) ≡ true → n ≢ node
  not_node k n m e = absent k (rw (sym e) m)

  number_node : number_at new (ends + node) ≡ Some list
  number_node = a.list (ends + node) ∙ here (ends + node) (ends + node) (Some list) _ refl

  number_other : (n : ℕ) → n ≢ node → number_at new (ends + n) ≡ number_at old (ends + n)
  number_other n x = a.list (ends + n) ∙ elsewhere (ends + n) (ends + node) _ _ (apart_places ends n node x)

  at_small : ends + node < ends + nodes
  at_small = omega (arith, node_small)

  list_small : list < ends + nodes
  list_small = omega (arith, small)

  at_other : ends + node ≢ list
  at_other e = omega (arith, small)

  alone : next_at old (ends + node) ≡ ends + node
  alone = h.apart node node_small unheld

  keeps : (i : ℕ) → IsOther (ends + nodes) (ends + node) i → next_at old i ≢ list → next_at new i ≡ next_at old i
  keeps i good away = appended_keeps (ends + nodes) list (ends + node) (next_at old) (previous_at old) (next_at new) (previous_at new) h.rounds list_small at_small at_other alone a.next a.previous i good.1 away

  turns : (i : ℕ) → IsOther (ends + nodes) (ends + node) i → next_at old i ≡ list → next_at new i ≡ ends + node
  turns i good e = appended_turns (ends + nodes) list (ends + node) (next_at old) (previous_at old) (next_at new) (previous_at new) h.rounds list_small at_small at_other alone a.next a.previous i good.0 e

  end_good : (k : ℕ) → k < ends → IsOther (ends + nodes) (ends + node) k
  end_good k s = (omega (arith, s), λ e. omega (arith, s))

  node_good : (k n : ℕ) → has n (list_at lists k) ≡ true → IsOther (ends + nodes) (ends + node) (ends + n)
  node_good k n m = (let s : n < nodes = (h.held k n m).0 in omega (arith, s), apart_places ends n node (not_node k n m))

  chained : (k : ℕ) → k < ends → Chain (next_at new) ends k (list_at (put_back lists list node) k) k
  chained k s = ⊎_elim
      (λ e. let F : ℕ → Type 0 = λ i. Chain (next_at new) ends i (list_at lists i ++ node ∷ []) i in
      let at_list : Chain (next_at new) ends list (list_at lists list ++ node ∷ []) list =
      chain_pushed (next_at old) (next_at new) (IsOther (ends + nodes) (ends + node)) ends list (list_at lists list) list node keeps turns
      (a.next (ends + node) ∙ here (ends + node) (ends + node) list _ refl) small (end_good list small) (node_good list) (h.chained list small) in
      let G : List ℕ → Type 0 = λ xs. Chain (next_at new) ends k xs k in
      subst G (sym (list_at_put lists list node k (omega (arith, h.lists_len)) e)) (subst F (sym e) at_list))
      (λ x. let G : List ℕ → Type 0 = λ xs. Chain (next_at new) ends k xs k in
      subst G (sym (list_at_put_other lists list node k x))
      (chain_kept (next_at old) (next_at new) (IsOther (ends + nodes) (ends + node)) list ends k (list_at lists k) k keeps small x (end_good k s) (node_good k) (h.chained k s)))
      (cases_eq k list)

  len : list < length lists
  len = omega (arith, small, h.lists_len)

  held : (k n : ℕ) → has n (list_at (put_back lists list node) k) ≡ true → (n < nodes) × (number_at new (ends + n) ≡ Some k)
  held k n m = ⊎_elim
      (λ e. let m' : has n (list_at lists k ++ node ∷ []) ≡ true = ap (has n) (sym (list_at_put lists list node k len e)) ∙ m in
      ⊎_elim
      (λ same. (rw same node_small, ap (λ i. number_at new (ends + i)) same ∙ number_node ∙ ap (λ i. Some i) (sym e)))
      (λ x. let old_held = h.held k n (sym (has-push_other n node (list_at lists k) x) ∙ m') in (old_held.0, number_other n x ∙ old_held.1))
      (cases_eq n node))
      (λ y. let m' : has n (list_at lists k) ≡ true = ap (has n) (sym (list_at_put_other lists list node k y)) ∙ m in
      let old_held = h.held k n m' in
      (old_held.0, number_other n (not_node k n m') ∙ old_held.1))
      (cases_eq k list)

  listed : (k n : ℕ) → n < nodes → number_at new (ends + n) ≡ Some k → (k < ends) × (has n (list_at (put_back lists list node) k) ≡ true)
  listed k n s is = ⊎_elim
      (λ same. let e : k ≡ list = some_same (number_at new (ends + n)) k list is (ap (λ i. number_at new (ends + i)) same ∙ number_node) in
      (rw e small, ap (has n) (list_at_put lists list node k len e) ∙ ap (λ i. has i (list_at lists k ++ node ∷ [])) same ∙ has-push_itself node (list_at lists k)))
      (λ x. let was = h.listed k n s (sym (number_other n x) ∙ is) in (
        was.0,
        ⊎_elim
            (λ e. ap (has n) (list_at_put lists list node k len e) ∙ has-push_other n node (list_at lists k) x ∙ was.1)
            (λ y. ap (has n) (list_at_put_other lists list node k y) ∙ was.1)
            (cases_eq k list),
      ))
      (cases_eq n node)

  apart_still : (n : ℕ) → n < nodes → number_at new (ends + n) ≡ None → next_at new (ends + n) ≡ ends + n
  apart_still n s is = ⊎_elim
      (λ same. absurd (none_some (number_at new (ends + n)) list is (ap (λ i. number_at new (ends + i)) same ∙ number_node)))
      (λ x. let was : next_at old (ends + n) ≡ ends + n = h.apart n s (sym (number_other n x) ∙ is) in
      keeps (ends + n) (omega (arith, s), apart_places ends n node x) (λ e. let no : ends + n ≡ list = sym was ∙ e in omega (arith, small)) ∙ was)
      (cases_eq n node)

  once : (k : ℕ) → IsDistinct eqb (list_at (put_back lists list node) k)
  once k = ⊎_elim
      (λ e. let F : List ℕ → Type 0 = λ xs. IsDistinct eqb xs in
      subst F (sym (list_at_put lists list node k len e)) (IsDistinct-push nat_eq_equiv (list_at lists k) node (h.once k) (false_from_ne_true (has node (list_at lists k)) (absent k))))
      (λ x. let F : List ℕ → Type 0 = λ xs. IsDistinct eqb xs in subst F (sym (list_at_put_other lists list node k x)) (h.once k))
      (cases_eq k list)

  -- a node that is in no list comes to stand at the end of one
  pub holds_append : Holds ends nodes new (put_back lists list node)
  holds_append = record {
    lists_len = length-set lists list (list_at lists list ++ node ∷ []) ∙ h.lists_len;
    places_len = a.length ∙ h.places_len;
    few = h.few;
    rounds = rounds_appended (ends + nodes) list (ends + node) (next_at old) (previous_at old) (next_at new) (previous_at new) h.rounds list_small at_small at_other alone a.next a.previous;
    chained = chained;
    held = held;
    listed = listed;
    apart = apart_still;
    once = once;
  }

module _ (ends nodes : ℕ) (old new : List Place) (lists : List (List ℕ)) (node : ℕ)
    (h : Holds ends nodes old lists) (node_small : node < nodes) (a : Removes (ends + node) old new) where
  out_number : number_at new (ends + node) ≡ None
  out_number = a.list (ends + node) ∙ here (ends + node) (ends + node) None _ refl

  out_number_other : (n : ℕ) → n ≢ node → number_at new (ends + n) ≡ number_at old (ends + n)
  out_number_other n x = a.list (ends + n) ∙ elsewhere (ends + n) (ends + node) _ _ (apart_places ends n node x)

  out_small : ends + node < ends + nodes
  out_small = omega (arith, node_small)

  out_keeps : (i : ℕ) → IsOther (ends + nodes) (ends + node) i → next_at old i ≢ ends + node → next_at new i ≡ next_at old i
  out_keeps i good away = removed_keeps (ends + nodes) (ends + node) (next_at old) (previous_at old) (next_at new) (previous_at new) h.rounds out_small a.next a.previous i good.1 away

  out_skips : (i : ℕ) → IsOther (ends + nodes) (ends + node) i → next_at old i ≡ ends + node → next_at new i ≡ next_at old (ends + node)
  out_skips i good e = removed_skips (ends + nodes) (ends + node) (next_at old) (previous_at old) (next_at new) (previous_at new) h.rounds out_small a.next a.previous i good.0 good.1 e

  out_chained : (k : ℕ) → k < ends → Chain (next_at new) ends k (list_at (take_out lists node) k) k
  out_chained k s =
      let good : IsOther (ends + nodes) (ends + node) k = (omega (arith, s), λ e. omega (arith, s)) in
      let G : List ℕ → Type 0 = λ xs. Chain (next_at new) ends k xs k in
      subst G (sym (list_at_out lists node k))
      (chain_without (next_at old) (next_at new) (IsOther (ends + nodes) (ends + node)) ends k k (list_at lists k) k node out_keeps out_skips s (out_keeps k good) (out_skips k good)
      (λ n m x. (let below : n < nodes = (h.held k n m).0 in omega (arith, below), apart_places ends n node x)) (h.chained k s))

  out_held : (k n : ℕ) → has n (list_at (take_out lists node) k) ≡ true → (n < nodes) × (number_at new (ends + n) ≡ Some k)
  out_held k n m =
      let m' : has n (without node (list_at lists k)) ≡ true = ap (has n) (sym (list_at_out lists node k)) ∙ m in
      ⊎_elim
      (λ same. absurd (true≢false (sym m' ∙ ap (λ i. has i (without node (list_at lists k))) same ∙ has-without_itself node (list_at lists k))))
      (λ x. let was = h.held k n (sym (has-without_other n node (list_at lists k) x) ∙ m') in (was.0, out_number_other n x ∙ was.1))
      (cases_eq n node)

  out_listed : (k n : ℕ) → n < nodes → number_at new (ends + n) ≡ Some k → (k < ends) × (has n (list_at (take_out lists node) k) ≡ true)
  out_listed k n s is = ⊎_elim
      (λ same. absurd (none_some (number_at new (ends + n)) k (ap (λ i. number_at new (ends + i)) same ∙ out_number) is))
      (λ x. let was = h.listed k n s (sym (out_number_other n x) ∙ is) in
      (was.0, ap (has n) (list_at_out lists node k) ∙ has-without_other n node (list_at lists k) x ∙ was.1))
      (cases_eq n node)

  out_apart : (n : ℕ) → n < nodes → number_at new (ends + n) ≡ None → next_at new (ends + n) ≡ ends + n
  out_apart n s is = ⊎_elim
      (λ same. ap (λ i. next_at new (ends + i)) same ∙ a.next (ends + node) ∙ here (ends + node) (ends + node) (ends + node) _ refl ∙ ap (λ i. ends + i) (sym same))
      (λ x. let was : next_at old (ends + n) ≡ ends + n = h.apart n s (sym (out_number_other n x) ∙ is) in
      out_keeps (ends + n) (omega (arith, s), apart_places ends n node x) (λ e. apart_places ends n node x (sym was ∙ e)) ∙ was)
      (cases_eq n node)

  -- a node is taken out
  pub holds_remove : Holds ends nodes new (take_out lists node)
  holds_remove = record {
    lists_len = length-map lists (without node) ∙ h.lists_len;
    places_len = a.length ∙ h.places_len;
    few = h.few;
    rounds = rounds_removed (ends + nodes) (ends + node) (next_at old) (previous_at old) (next_at new) (previous_at new) h.rounds out_small a.next a.previous;
    chained = out_chained;
    held = out_held;
    listed = out_listed;
    apart = out_apart;
    once = λ k. let F : List ℕ → Type 0 = λ xs. IsDistinct eqb xs in subst F (sym (list_at_out lists node k)) (distinct_filter _ (list_at lists k) (h.once k));
  }

module _ (ends nodes more : ℕ) (old new : List Place) (lists : List (List ℕ))
    (h : Holds ends nodes old lists) (grows : nodes ≤ more) (few : more < 2 ^ 32) (a : Extends (ends + more) old new) where
  next_same : (i : ℕ) → next_at new i ≡ next_at old i
  next_same i = ap (λ (p : Place). p.next) (a.place i)

  previous_same : (i : ℕ) → previous_at new i ≡ previous_at old i
  previous_same i = ap (λ (p : Place). p.previous) (a.place i)

  number_same : (i : ℕ) → number_at new i ≡ number_at old i
  number_same i = ap (λ (p : Place). p.list) (a.place i)

  -- behind the old places each is by itself
  past : (i : ℕ) → ends + nodes ≤ i → place_at old i ≡ apart i
  past i s = get_or_past old i (apart i) (omega (arith, h.places_len))

  next_past : (i : ℕ) → ends + nodes ≤ i → next_at new i ≡ i
  next_past i s = next_same i ∙ ap (λ (p : Place). p.next) (past i s)

  previous_past : (i : ℕ) → ends + nodes ≤ i → previous_at new i ≡ i
  previous_past i s = previous_same i ∙ ap (λ (p : Place). p.previous) (past i s)

  number_past : (i : ℕ) → ends + nodes ≤ i → number_at new i ≡ None
  number_past i s = number_same i ∙ ap (λ (p : Place). p.list) (past i s)

  more_rounds : Rounds (ends + more) (next_at new) (previous_at new)
  more_rounds = record {
    behind = λ i s. ⊎_elim
        (λ below. let was = h.rounds.behind i below in
        let small : next_at new i < ends + nodes = rw (next_same i) was.0 in
        (omega (arith, small), previous_same (next_at new i) ∙ ap (previous_at old) (next_same i) ∙ was.1))
        (λ above. let same : next_at new i ≡ i = next_past i above in (rw same s, ap (previous_at new) same ∙ previous_past i above))
        (cases_lt i (ends + nodes));
    before = λ i s. ⊎_elim
        (λ below. let was = h.rounds.before i below in
        let small : previous_at new i < ends + nodes = rw (previous_same i) was.0 in
        (omega (arith, small), next_same (previous_at new i) ∙ ap (next_at old) (previous_same i) ∙ was.1))
        (λ above. let same : previous_at new i ≡ i = previous_past i above in (rw same s, ap (next_at new) same ∙ next_past i above))
        (cases_lt i (ends + nodes));
  }

  -- further nodes are in no list
  pub holds_extend : Holds ends more new lists
  holds_extend = record {
    lists_len = h.lists_len;
    places_len = a.length;
    few = few;
    rounds = more_rounds;
    chained = λ k s. chain_same (next_at old) (next_at new) ends k (list_at lists k) k (next_same k) (λ n m. next_same (ends + n)) (h.chained k s);
    held = λ k n m. let was = h.held k n m in (omega (arith, was.0), number_same (ends + n) ∙ was.1);
    listed = λ k n s is. ⊎_elim
        (λ below. h.listed k n below (sym (number_same (ends + n)) ∙ is))
        (λ above. absurd (none_some (number_at new (ends + n)) k (number_past (ends + n) (omega arith)) is))
        (cases_lt n nodes);
    apart = λ n s is. ⊎_elim
        (λ below. next_same (ends + n) ∙ h.apart n below (sym (number_same (ends + n)) ∙ is))
        (λ above. next_past (ends + n) (omega arith))
        (cases_lt n nodes);
    once = h.once;
  }

-- no list has a node at first
first_empty : (ends k n : ℕ) → has n (list_at (replicate ends []) k) ≡ true → ⊥
first_empty ends k n m = true≢false (sym m ∙ ap (has n) (list_at_first ends k))

-- the first places are the ends of empty lists
pub holds_first : (ends : ℕ) (new : List Place) → Extends ends [] new → Holds ends 0 new (replicate ends [])
unfolding Chain IsDistinct
holds_first ends new a = record {
  lists_len = length-replicate ends [];
  places_len = a.length ∙ sym (omega arith);
  few = omega arith;
  rounds = record {
    behind = λ i s. (rw (first_next i) s, ap (previous_at new) (first_next i) ∙ first_previous i);
    before = λ i s. (rw (first_previous i) s, ap (next_at new) (first_previous i) ∙ first_next i);
  };
  chained = λ k s. rw (list_at_first ends k) (first_next k);
  held = λ k n m. absurd (first_empty ends k n m);
  listed = λ k n s is. absurd (omega arith);
  apart = λ n s is. absurd (omega arith);
  once = λ k. rw (list_at_first ends k) tt;
}
  where
    first_next : (i : ℕ) → next_at new i ≡ i
    first_next i = ap (λ (p : Place). p.next) (a.place i)

    first_previous : (i : ℕ) → previous_at new i ≡ i
    first_previous i = ap (λ (p : Place). p.previous) (a.place i)
