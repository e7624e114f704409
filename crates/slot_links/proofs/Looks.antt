-- What is read at a place, in terms of the lists that are shown.
use Rattle.std.proofs.Common.{◌≡◌, ℕ, zero, suc, ◌+◌, ◌-◌, ◌<◌, ◌^◌, true, false, true≢false, ltb, if◌then◌else◌, List, [], ◌∷◌, length, get_or, Option, Some, None, is_some, option_and_then, slice_get, refl, sym, ap, ◌∙◌, subst, arith}
use Rattle.std.proofs.lemmas.Bool.{false_from_ne_true}
use Rattle.slot_links.specs.declared.places.Place.{Place}
use Rattle.slot_links.specs.Lists.{Linked, has, list_at, holder, behind, next_of, take_out, StandOnce}
use Rattle.slot_links.specs.Places.{place_at, next_at, number_at, lists_in, Holds}
use Rattle.slot_links.proofs.Chains.{chain_first, chain_behind}
use Rattle.slot_links.proofs.Members.{take_out_none}
use Rattle.slot_links.proofs.Shows.{none_some, number_shown, stand_once}

-- a place that was read
place_read : (places : List Place) (at : ℕ) (x : Place) → at < length places → x ≡ get_or places at x → place_at places at ≡ x
place_read [] at x s e = absurd (omega arith)
place_read (y ∷ ys) zero x s e = sym e
place_read (y ∷ ys) (suc at) x s e = get_or_default ys at x _ (omega arith) e
  where
    get_or_default : (ys : List Place) (at : ℕ) (x d : Place) → at < length ys → x ≡ get_or ys at x → get_or ys at d ≡ x
    get_or_default [] at x d s e = absurd (omega arith)
    get_or_default (y ∷ ys) zero x d s e = sym e
    get_or_default (y ∷ ys) (suc at) x d s e = get_or_default ys at x d (omega arith) e

some_of_true : (o : Option ℕ) → is_some o ≡ true → (k : ℕ) × (o ≡ Some k)
some_of_true None e = absurd (true≢false (sym e))
some_of_true (Some k) e = (k, refl)

none_of_false : (o : Option ℕ) → is_some o ≡ false → o ≡ None
none_of_false None e = refl
none_of_false (Some k) e = absurd (true≢false e)

module _ (ends nodes : ℕ) (places : List Place) (shown : Linked)
    (v : ◌≡◌ {A = Linked} (record { lists = lists_in ends places; nodes = nodes }) shown)
    (h : Holds ends nodes places (lists_in ends places)) where
  pub shows : Holds ends shown.nodes places shown.lists
  shows = let F : Linked → Type 0 = λ s. Holds ends s.nodes places s.lists in subst F v h

  pub shows_once : StandOnce shown
  shows_once = let F : Linked → Type 0 = StandOnce in subst F v (stand_once ends nodes places (lists_in ends places) h)

  node_place : (node : ℕ) (x : Place) → node < shown.nodes → x ≡ get_or places (ends + node) x → place_at places (ends + node) ≡ x
  node_place node x s e = let len : length places ≡ ends + shown.nodes = shows.places_len in place_read places (ends + node) x (omega arith) e

  pub list_read : (node : ℕ) (x : Place) → node < shown.nodes → x ≡ get_or places (ends + node) x → x.list ≡ holder shown.lists node
  list_read node x s e = sym (ap (λ (p : Place). p.list) (node_place node x s e)) ∙ number_shown ends shown.nodes places shown.lists node s shows

  pub first_read : (list : ℕ) (x : Place) → list < length shown.lists → x ≡ get_or places list x → (if ltb x.next ends then None else Some (x.next - ends)) ≡ slice_get (list_at shown.lists list) 0
  first_read list x s e =
      let within : list < ends = omega (arith, shows.lists_len) in
      let F : ℕ → Type 0 = λ i. (if ltb i ends then None else Some (i - ends)) ≡ slice_get (list_at shown.lists list) 0 in
      let len : length places ≡ ends + shown.nodes = shows.places_len in
      subst F (ap (λ (p : Place). p.next) (place_read places list x (omega arith) e)) (chain_first (next_at places) ends list (list_at shown.lists list) list within (shows.chained list within))

  pub first_bound : (list : ℕ) (x : Place) → list < length shown.lists → x ≡ get_or places list x → x.next < ends + 2 ^ 32
  first_bound list x s e =
      let within : list < ends = omega (arith, shows.lists_len) in
      let len : length places ≡ ends + shown.nodes = shows.places_len in
      let F : ℕ → Type 0 = λ i. i < ends + shown.nodes in
      let bound : x.next < ends + shown.nodes = subst F (ap (λ (p : Place). p.next) (place_read places list x (omega arith) e)) (shows.rounds.behind list (omega arith)).0 in
      let few : shown.nodes < 2 ^ 32 = shows.few in
      omega arith

  pub next_bound : (node : ℕ) (x : Place) → node < shown.nodes → x ≡ get_or places (ends + node) x → x.next < ends + 2 ^ 32
  next_bound node x s e =
      let F : ℕ → Type 0 = λ i. i < ends + shown.nodes in
      let bound : x.next < ends + shown.nodes = subst F (ap (λ (p : Place). p.next) (node_place node x s e)) (shows.rounds.behind (ends + node) (omega arith)).0 in
      let few : shown.nodes < 2 ^ 32 = shows.few in
      omega arith

  pub next_read : (node : ℕ) (x : Place) → node < shown.nodes → x ≡ get_or places (ends + node) x → is_some x.list ≡ true → (if ltb x.next ends then None else Some (x.next - ends)) ≡ next_of shown.lists node
  next_read node x s e some =
      let found : (k : ℕ) × (x.list ≡ Some k) = some_of_true x.list some in
      let number : number_at places (ends + node) ≡ Some found.0 = ap (λ (p : Place). p.list) (node_place node x s e) ∙ found.1 in
      let listed : (found.0 < ends) × (has node (list_at shown.lists found.0) ≡ true) = shows.listed found.0 node s number in
      let F : ℕ → Type 0 = λ i. (if ltb i ends then None else Some (i - ends)) ≡ behind node (list_at shown.lists found.0) in
      let here : (if ltb x.next ends then None else Some (x.next - ends)) ≡ behind node (list_at shown.lists found.0) =
      subst F (ap (λ (p : Place). p.next) (node_place node x s e)) (chain_behind (next_at places) ends found.0 (list_at shown.lists found.0) found.0 node listed.0 (shows.chained found.0 listed.0) listed.1) in
      here ∙ ap (option_and_then (λ k. behind node (list_at shown.lists k))) (sym found.1 ∙ list_read node x s e)

  pub next_none : (node : ℕ) (x : Place) → node < shown.nodes → x ≡ get_or places (ends + node) x → is_some x.list ≡ false → None ≡ next_of shown.lists node
  next_none node x s e none = ap (option_and_then (λ k. behind node (list_at shown.lists k))) (sym (none_of_false x.list none) ∙ list_read node x s e)

  -- a node that is in no list is in none of them
  pub none_out : (node : ℕ) → node < shown.nodes → is_some (holder shown.lists node) ≡ false → take_out shown.lists node ≡ shown.lists
  none_out node s none =
      let number : number_at places (ends + node) ≡ None = number_shown ends shown.nodes places shown.lists node s shows ∙ none_of_false (holder shown.lists node) none in
      take_out_none shown.lists node (λ k. false_from_ne_true (has node (list_at shown.lists k)) (λ m. none_some (number_at places (ends + node)) k number (shows.held k node m).1))
