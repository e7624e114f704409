-- What is read of a list stands in it.
use Rattle.std.proofs.Common.{◌≡◌, ℕ, Bool, true, false, cond, eqb, List, [], ◌∷◌, Option, Some, None, IfSome, option_and_then, slice_get, refl, sym, subst, eq-eqb}
use Rattle.std.proofs.lemmas.Bool.{or_left, or_right}
use Rattle.std.proofs.lemmas.Option.{same_Some}
use Rattle.slot_links.specs.Lists.{Linked, has, list_at, holder, behind, next_of, StandsIn, StandOnce}

-- the first of a list is in it
front_has : (xs : List ℕ) (x : ℕ) → slice_get xs 0 ≡ Some x → has x xs ≡ true
front_has [] x e = cc
front_has (y ∷ ys) x e = or_left (eqb x y) (has x ys) (eq-eqb x y (sym (same_Some y x e)))

by_here : (ys : List ℕ) (node x : ℕ) (here : Bool) → (behind node ys ≡ Some x → has x ys ≡ true) → cond here (slice_get ys 0) (behind node ys) ≡ Some x → has x ys ≡ true
by_here ys node x true later e = front_has ys x e
by_here ys node x false later e = later e

-- what stands behind one of a list is in it
behind_has : (node : ℕ) (xs : List ℕ) (x : ℕ) → behind node xs ≡ Some x → has x xs ≡ true
behind_has node [] x e = cc
behind_has node (y ∷ ys) x e = or_right (eqb x y) (has x ys) (by_here ys node x (eqb node y) (behind_has node ys x) e)

module _ (linked : Linked) (h : StandOnce linked) where
  stands : (list node : ℕ) → has node (list_at linked.lists list) ≡ true → StandsIn linked (Some list) node
  stands list node m = let is = h.held list node m in record { within = is.0; held = is.1 }

  pub front_stands : (list : ℕ) → IfSome (slice_get (list_at linked.lists list) 0) (StandsIn linked (Some list))
  front_stands list = by_front (slice_get (list_at linked.lists list) 0) refl
    where
      by_front : (o : Option ℕ) → slice_get (list_at linked.lists list) 0 ≡ o → IfSome o (StandsIn linked (Some list))
      by_front None e = tt
      by_front (Some node) e = stands list node (front_has (list_at linked.lists list) node e)

  behind_stands : (node : ℕ) (held : Option ℕ) → IfSome (option_and_then (λ list. behind node (list_at linked.lists list)) held) (StandsIn linked held)
  behind_stands node None = tt
  behind_stands node (Some list) = by_behind (behind node (list_at linked.lists list)) refl
    where
      by_behind : (o : Option ℕ) → behind node (list_at linked.lists list) ≡ o → IfSome o (StandsIn linked (Some list))
      by_behind None e = tt
      by_behind (Some other) e = stands list other (behind_has node (list_at linked.lists list) other e)

  pub next_stands : (node : ℕ) → IfSome (next_of linked.lists node) (StandsIn linked (holder linked.lists node))
  next_stands node = behind_stands node (holder linked.lists node)

pub read_stands : (linked : Linked) (list : Option ℕ) (read is : Option ℕ) → read ≡ is → IfSome is (StandsIn linked list) → IfSome read (StandsIn linked list)
read_stands linked list read is e h = let F : Option ℕ → Type 0 = λ o. IfSome o (StandsIn linked list) in subst F (sym e) h
