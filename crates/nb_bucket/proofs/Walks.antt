-- What is left of a list on a walk over it, node by node.
use Rattle.std.proofs.Common.{◌≡◌, ◌≢◌, ⊎_elim, ℕ, ◌+◌, ◌≤◌, ◌-◌, eqb, Bool, true, false, ◌||◌, ◌&&◌, not, nat_lt, if◌then◌else◌, List, [], ◌∷◌, ◌++◌, length, slice_get, Option, Some, None, IfSome, refl, sym, ◌∙◌, ap, subst, arith, append_assoc, true≢false, eq-eqb, ne_eqb, eqb-true}
use Rattle.std.specs.List.{IsDistinct, AllByRecursion, filter}
use Rattle.std.proofs.lemmas.Bool.{cases_eq, or_right}
use Rattle.std.proofs.lemmas.Bool.Decides.{nat_tests}
use Rattle.std.proofs.lemmas.List.{length-append}
use Rattle.nb_base.specs.declared.key.Key.{Key}
use Rattle.nb_journal.specs.Lawful.{collected}
use Rattle.slot_links.specs.Lists.{Linked, has, list_at, holder, next_of, take_out, StandsIn, StandOnce}
use Rattle.slot_links.proofs.Members.{has-push}
use Rattle.slot_links.proofs.Callers.{holder_has, next_at_middle}

-- a list from a node on
abbrev pub from_node : ℕ → List ℕ → List ℕ
from_node node [] = []
from_node node (x ∷ xs) = if eqb node x then x ∷ xs else from_node node xs

abbrev pub rest_from : Option ℕ → List ℕ → List ℕ
rest_from None xs = []
rest_from (Some node) xs = from_node node xs

-- from its front it is whole
pub from_front : (next : Option ℕ) (xs : List ℕ) → next ≡ slice_get xs 0 → rest_from next xs ≡ xs
from_front next [] e = ap (λ (o : Option ℕ). rest_from o []) e
from_front next (x ∷ xs) e = ap (λ (o : Option ℕ). rest_from o (x ∷ xs)) e ∙ ap (λ (t : Bool). if t then x ∷ xs else from_node x xs) (eq-eqb x x refl)

record IsSplit (xs : List ℕ) (node : ℕ) : Type 0 where
  before : List ℕ
  rest : List ℕ
  is : xs ≡ before ++ node ∷ rest

split : (xs : List ℕ) (node : ℕ) → has node xs ≡ true → IsSplit xs node
split [] node h = cc
split (x ∷ xs) node h = by_test (eqb node x) refl (split xs node) where
  by_test : (t : Bool) → eqb node x ≡ t → (has node xs ≡ true → IsSplit xs node) → IsSplit (x ∷ xs) node
  by_test true e more = record { before = []; rest = xs; is = ap (λ (n : ℕ). n ∷ xs) (sym (eqb-true node x e)) }
  by_test false e more =
      let s = more (ap (λ (b : Bool). b || has node xs) (sym e) ∙ h) in
      record { before = x ∷ s.before; rest = s.rest; is = ap (λ (ys : List ℕ). x ∷ ys) s.is }

in_the_middle : (P : ℕ → Type 0) (before rest : List ℕ) (node : ℕ) → AllByRecursion P (before ++ node ∷ rest) → P node
in_the_middle P [] rest node h = h.0
in_the_middle P (x ∷ before) rest node h = in_the_middle P before rest node h.1

-- where its nodes are different, each has only its own rest
from_middle : (before rest : List ℕ) (node : ℕ) → IsDistinct eqb (before ++ node ∷ rest) → from_node node (before ++ node ∷ rest) ≡ node ∷ rest
unfolding IsDistinct
from_middle [] rest node d = rw (eq-eqb node node refl) refl
from_middle (x ∷ before) rest node d =
    let apart : eqb x node ≡ false = in_the_middle (λ y. eqb x y ≡ false) before rest node d.0 in
    rw (ne_eqb node x (λ e. true≢false (sym (eq-eqb x node (sym e)) ∙ apart)), from_middle before rest node d.1) refl

from_behind : (before rest : List ℕ) (node : ℕ) → IsDistinct eqb (before ++ node ∷ rest) → rest_from (slice_get rest 0) (before ++ node ∷ rest) ≡ rest
from_behind before [] node d = refl
from_behind before (y ∷ rest) node d =
    let F : List ℕ → Type 0 = IsDistinct eqb in
    let turned = append_assoc before (node ∷ []) (y ∷ rest) in
    ap (from_node y) (sym turned) ∙ from_middle (before ++ node ∷ []) rest y (subst F (sym turned) d)

-- a walk over a list of nodes that stand once goes on from each to the next
pub walks_on : (linked : Linked) (list node : ℕ) → StandOnce linked → StandsIn linked (Some list) node → rest_from (Some node) (list_at linked.lists list) ≡ node ∷ rest_from (next_of linked.lists node) (list_at linked.lists list)
walks_on linked list node once here =
    let s = split (list_at linked.lists list) node (holder_has linked.lists node list here.held).1 in
    let F : List ℕ → Type 0 = IsDistinct eqb in
    let d = subst F s.is (once.once list) in
    let next = next_at_middle linked once list node s.before s.rest s.is in
    ap (from_node node) s.is
    ∙ from_middle s.before s.rest node d
    ∙ ap (λ (xs : List ℕ). node ∷ xs) (sym (ap (λ (o : Option ℕ). rest_from o (list_at linked.lists list)) next ∙ ap (rest_from (slice_get s.rest 0)) s.is ∙ from_behind s.before s.rest node d))

-- and the next stands in the list too
pub stands_on : (linked : Linked) (list node : ℕ) (next : Option ℕ) → StandsIn linked (Some list) node → IfSome next (StandsIn linked (holder linked.lists node)) → IfSome next (StandsIn linked (Some list))
stands_on linked list node next here h = subst (λ (o : Option ℕ). IfSome next (StandsIn linked o)) here.held h

-- ---- what a forced pass takes from a key on

pub takes_on : (limit left : ℕ) (takes : Key → Bool) (found : List Key) (key : Key) (keys : List Key) → limit ≤ left
    → found ++ collected limit left takes (key ∷ keys) ≡ (if takes key then found ++ key ∷ [] else found) ++ collected limit (if takes key then left - 1 else left) takes keys
takes_on limit left takes found key keys enough = by_limit (nat_lt left limit) refl where
  by_takes : (u : Bool) → found ++ (if u then key ∷ collected limit (left - 1) takes keys else collected limit left takes keys) ≡ (if u then found ++ key ∷ [] else found) ++ collected limit (if u then left - 1 else left) takes keys
  by_takes true = sym (append_assoc found (key ∷ []) (collected limit (left - 1) takes keys))
  by_takes false = refl

  by_limit : (t : Bool) → nat_lt left limit ≡ t → found ++ (if t then [] else (if takes key then key ∷ collected limit (left - 1) takes keys else collected limit left takes keys)) ≡ (if takes key then found ++ key ∷ [] else found) ++ collected limit (if takes key then left - 1 else left) takes keys
  by_limit true e = absurd (grind (arith, nat_tests))
  by_limit false e = by_takes (takes key)

-- and no more than the nodes that were met
pub taken_few : (t : Bool) (found more : List Key) (key : Key) (xs : List ℕ) (next behind : Option ℕ) (node : ℕ) → more ≡ (if t then found ++ key ∷ [] else found) → rest_from next xs ≡ node ∷ rest_from behind xs → length found + length (rest_from next xs) ≤ length xs
    → length more + length (rest_from behind xs) ≤ length xs
taken_few true found more key xs next behind node is walked few =
    let size = ap (λ (ks : List Key). length ks) is in let one = length-append found (key ∷ []) in let rest = ap (λ (ns : List ℕ). length ns) walked in omega (arith, size, one, rest, few)
taken_few false found more key xs next behind node is walked few =
    let size = ap (λ (ks : List Key). length ks) is in let rest = ap (λ (ns : List ℕ). length ns) walked in omega (arith, size, rest, few)

-- ---- what is left once the nodes of a front are taken out, unless they pass a test

abbrev pub left_of : (ℕ → Bool) → List ℕ → List ℕ → List ℕ
left_of test front xs = filter (λ x. not (has x front) || test x) xs

filter_like : (f g : ℕ → Bool) (xs : List ℕ) → ((x : ℕ) → f x ≡ g x) → filter f xs ≡ filter g xs
filter_like f g xs h = ap (λ (test : ℕ → Bool). filter test xs) (λ i. λ x. h x i)

filter_twice : (f g h : ℕ → Bool) (xs : List ℕ) → ((x : ℕ) → h x ≡ (g x && f x)) → filter g (filter f xs) ≡ filter h xs
filter_twice f g h [] e = refl
filter_twice f g h (x ∷ xs) e = by_test (f x) (g x) refl refl (filter_twice f g h xs e) where
  by_test : (t u : Bool) → f x ≡ t → g x ≡ u → filter g (filter f xs) ≡ filter h xs → filter g (if t then x ∷ filter f xs else filter f xs) ≡ (if h x then x ∷ filter h xs else filter h xs)
  by_test true true ef eg rest = rw (e x, ef, eg) (ap (λ (ys : List ℕ). x ∷ ys) rest)
  by_test true false ef eg rest = rw (e x, ef, eg) rest
  by_test false true ef eg rest = rw (e x, ef, eg) rest
  by_test false false ef eg rest = rw (e x, ef, eg) rest

all_left : (xs : List ℕ) → filter (λ (x : ℕ). true) xs ≡ xs
all_left [] = refl
all_left (x ∷ xs) = ap (λ (ys : List ℕ). x ∷ ys) (all_left xs)

-- at first all
pub none_left_out : (test : ℕ → Bool) (xs : List ℕ) → left_of test [] xs ≡ xs
none_left_out test xs = all_left xs

-- with one more in the front
pub one_left_out : (test : ℕ → Bool) (front xs : List ℕ) (node : ℕ) → (if test node then left_of test front xs ∷ [] else take_out (left_of test front xs ∷ []) node) ≡ left_of test (front ++ node ∷ []) xs ∷ []
one_left_out test front xs node = by_test (test node) refl where
  pushed : (x : ℕ) → not (has x (front ++ node ∷ [])) || test x ≡ not (has x front || (eqb x node || false)) || test x
  pushed x = ap (λ (b : Bool). not b || test x) (has-push x node front)

  or_true : (b t : Bool) → t ≡ true → (not b || t) ≡ true
  or_true true t e = e
  or_true false t e = refl

  or_false : (b t : Bool) → (not (b || false) || t) ≡ (not b || t)
  or_false true t = refl
  or_false false t = refl

  stays : test node ≡ true → (x : ℕ) → not (has x front) || test x ≡ not (has x (front ++ node ∷ [])) || test x
  stays e x = ⊎_elim
      (λ (same : x ≡ node). let t = ap test same ∙ e in or_true (has x front) (test x) t ∙ sym (or_true (has x (front ++ node ∷ [])) (test x) t))
      (λ (other : x ≢ node). sym (pushed x ∙ ap (λ (b : Bool). not (has x front || (b || false)) || test x) (ne_eqb x node other) ∙ or_false (has x front) (test x)))
      (cases_eq x node)

  goes_same : (x : ℕ) → x ≡ node → test x ≡ false → (not (has x front || (eqb x node || false)) || test x) ≡ (not (eqb node x) && (not (has x front) || test x))
  goes_same x same off = rw (eq-eqb x node same, eq-eqb node x (sym same), off) (both (has x front)) where
    both : (b : Bool) → (not (b || true) || false) ≡ false
    both true = refl
    both false = refl

  goes : test node ≡ false → (x : ℕ) → not (has x (front ++ node ∷ [])) || test x ≡ (not (eqb node x) && (not (has x front) || test x))
  goes e x = pushed x ∙ ⊎_elim
      (λ (same : x ≡ node). goes_same x same (ap test same ∙ e))
      (λ (other : x ≢ node). rw (ne_eqb x node other, ne_eqb node x (λ same. other (sym same))) (or_false (has x front) (test x)))
      (cases_eq x node)

  by_test : (t : Bool) → test node ≡ t → (if t then left_of test front xs ∷ [] else take_out (left_of test front xs ∷ []) node) ≡ left_of test (front ++ node ∷ []) xs ∷ []
  by_test true e = ap (λ (ys : List ℕ). ys ∷ []) (filter_like (λ x. not (has x front) || test x) (λ x. not (has x (front ++ node ∷ [])) || test x) xs (stays e))
  by_test false e = ap (λ (ys : List ℕ). ys ∷ []) (filter_twice (λ x. not (has x front) || test x) (λ x. not (eqb node x)) (λ x. not (has x (front ++ node ∷ [])) || test x) xs (goes e))

-- at last those that pass
own : (test : ℕ → Bool) (xs ys : List ℕ) → ((x : ℕ) → has x xs ≡ true → has x ys ≡ true) → left_of test ys xs ≡ filter test xs
own test [] ys h = refl
own test (x ∷ xs) ys h =
    let here = h x (ap (λ (b : Bool). b || has x xs) (eq-eqb x x refl)) in
    let rest = own test xs ys (λ y there. h y (or_right (eqb y x) (has y xs) there)) in
    rw (here, rest) refl

pub own_left : (test : ℕ → Bool) (xs : List ℕ) → left_of test xs xs ≡ filter test xs
own_left test xs = own test xs xs (λ x there. there)
