-- Which list has a node, and which nodes a changed list has.
use Rattle.std.proofs.Common.{◌≡◌, ◌≢◌, ℕ, zero, suc, ◌<◌, true, false, eqb, not, ◌&&◌, ◌||◌, List, [], ◌∷◌, ◌++◌, length, replicate, Bool, Some, None, refl, sym, ap, ◌∙◌, arith, lt-ltb, le-ltb, eq-eqb, ne_eqb, eqb-true, ⊎_elim}
use Rattle.std.proofs.lemmas.Bool.{cases_Bool, or_left, or_right, or_parts}
use Rattle.std.proofs.lemmas.Grind.{get_or-set_at}
use Rattle.std.proofs.lemmas.List.{get_or-set_other}
use Rattle.std.specs.List.{IsDistinct, AllByRecursion, filter}
use Rattle.std.proofs.lemmas.List.Sums.{position_or_len_is}
use Rattle.std.proofs.lemmas.List.Folds.{list_any-append}
use Rattle.std.proofs.lemmas.Map.Views.{any-filter_same}
use Rattle.slot_links.specs.Lists.{has, list_at, holder, without, put_back, take_out}

-- the list of the least number that has a node holds it
pub holder_is : (lists : List (List ℕ)) (list node : ℕ) → list < length lists → has node (list_at lists list) ≡ true → ((k : ℕ) → k < list → has node (list_at lists k) ≡ false) → holder lists node ≡ Some list
holder_is lists list node small here before =
    rw (position_or_len_is (has node) lists list [] (omega arith) before (λ s. here), lt-ltb list (length lists) small) refl

-- a node that no list has is held by none
pub holder_none : (lists : List (List ℕ)) (node : ℕ) → ((k : ℕ) → has node (list_at lists k) ≡ false) → holder lists node ≡ None
holder_none lists node none =
    rw (position_or_len_is (has node) lists (length lists) [] (omega arith) (λ k s. none k) (λ s. absurd (omega arith)), le-ltb (length lists) (length lists) (omega arith)) refl

-- what a list without a node has
pub has-without : (n node : ℕ) (xs : List ℕ) → has n (without node xs) ≡ (not (eqb node n) && has n xs)
has-without n node xs = any-filter_same (eqb n) (λ x. not (eqb node x)) (not (eqb node n)) (λ k e. ap (λ m. not (eqb node m)) (sym (eqb-true n k e))) xs

-- what a list with one more node has
pub has-push : (n node : ℕ) (xs : List ℕ) → has n (xs ++ node ∷ []) ≡ (has n xs || (eqb n node || false))
has-push n node xs = list_any-append (eqb n) xs (node ∷ [])

pub has-push_itself : (node : ℕ) (xs : List ℕ) → has node (xs ++ node ∷ []) ≡ true
has-push_itself node xs = has-push node node xs ∙ or_right (has node xs) (eqb node node || false) (or_left (eqb node node) false (eq-eqb node node refl))

pub has-push_other : (n node : ℕ) (xs : List ℕ) → n ≢ node → has n (xs ++ node ∷ []) ≡ has n xs
has-push_other n node xs other = rw (has-push n node xs, ne_eqb n node other) (or_nothing (has n xs))
  where
    or_nothing : (b : Bool) → (b || false) ≡ b
    or_nothing true = refl
    or_nothing false = refl

pub has-without_itself : (node : ℕ) (xs : List ℕ) → has node (without node xs) ≡ false
has-without_itself node xs = rw (has-without node node xs, eq-eqb node node refl) refl

pub has-without_other : (n node : ℕ) (xs : List ℕ) → n ≢ node → has n (without node xs) ≡ has n xs
has-without_other n node xs other = rw (has-without n node xs, ne_eqb node n (λ e. other (sym e))) refl

-- a list that has a further node, and the others
pub list_at_put : (lists : List (List ℕ)) (list node k : ℕ) → list < length lists → k ≡ list → list_at (put_back lists list node) k ≡ list_at lists k ++ node ∷ []
list_at_put lists list node k small e = get_or-set_at lists list k (list_at lists list ++ node ∷ []) [] e small ∙ ap (λ i. list_at lists i ++ node ∷ []) (sym e)

pub list_at_put_other : (lists : List (List ℕ)) (list node k : ℕ) → k ≢ list → list_at (put_back lists list node) k ≡ list_at lists k
list_at_put_other lists list node k other = get_or-set_other lists list k (list_at lists list ++ node ∷ []) [] other

-- each list without the node
pub list_at_out : (lists : List (List ℕ)) (node k : ℕ) → list_at (take_out lists node) k ≡ without node (list_at lists k)
list_at_out [] node k = refl
list_at_out (y ∷ ys) node zero = refl
list_at_out (y ∷ ys) node (suc k) = list_at_out ys node k

-- at first each list is empty
pub list_at_first : (count k : ℕ) → list_at (replicate count []) k ≡ []
list_at_first zero k = refl
list_at_first (suc count) zero = refl
list_at_first (suc count) (suc k) = list_at_first count k

-- a part of a list without repetition has none
all_filter : (P : ℕ → Type 0) (test : ℕ → Bool) (xs : List ℕ) → AllByRecursion P xs → AllByRecursion P (filter test xs)
all_filter P test [] h = h
all_filter P test (x ∷ xs) h = ⊎_elim (λ t. rw t (h.0, all_filter P test xs h.1)) (λ f. rw f (all_filter P test xs h.1)) (cases_Bool (test x))

pub distinct_filter : (test : ℕ → Bool) (xs : List ℕ) → IsDistinct eqb xs → IsDistinct eqb (filter test xs)
unfolding IsDistinct
distinct_filter test [] h = h
distinct_filter test (x ∷ xs) h = ⊎_elim (λ t. rw t (all_filter (λ y. eqb x y ≡ false) test xs h.0, distinct_filter test xs h.1)) (λ f. rw f (distinct_filter test xs h.1)) (cases_Bool (test x))

-- without a node that it doesn't have a list is as it was
without_none : (node : ℕ) (xs : List ℕ) → has node xs ≡ false → without node xs ≡ xs
without_none node [] h = refl
without_none node (x ∷ xs) h =
    let parts : (eqb node x ≡ false) × (has node xs ≡ false) = or_parts (eqb node x) (has node xs) h in
    rw (parts.0, without_none node xs parts.1) refl

pub take_out_none : (lists : List (List ℕ)) (node : ℕ) → ((k : ℕ) → has node (list_at lists k) ≡ false) → take_out lists node ≡ lists
take_out_none [] node none = refl
take_out_none (xs ∷ rest) node none = rw (without_none node xs (none 0), take_out_none rest node (λ k. none (suc k))) refl
