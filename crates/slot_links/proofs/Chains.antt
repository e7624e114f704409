-- Chains through the places: what the walk along one gives, and what a change of the links leaves of it.
use Rattle.std.proofs.Common.{◌≡◌, ◌≢◌, ℕ, zero, suc, ◌+◌, ◌-◌, ◌<◌, true, eqb, ltb, cond, List, [], ◌∷◌, ◌++◌, length, Some, None, slice_get, refl, sym, ◌∙◌, arith, lt-ltb, le-ltb, eq-eqb, eqb-true, ⊎_elim}
use Rattle.std.proofs.lemmas.Bool.{cases_Bool, or_left, or_right, eqb-false}
use Rattle.slot_links.specs.Lists.{has, behind, without}
use Rattle.slot_links.specs.Places.{Chain, walk}

-- the node at the front is in the list
has_head : (x : ℕ) (xs : List ℕ) → has x (x ∷ xs) ≡ true
has_head x xs = or_left (eqb x x) (has x xs) (eq-eqb x x refl)

-- and so is each behind it
has_later : (n x : ℕ) (xs : List ℕ) → has n xs ≡ true → has n (x ∷ xs) ≡ true
has_later n x xs h = or_right (eqb n x) (has n xs) h

-- the walk along a chain gives the chain's nodes
pub walk_chain : (next : ℕ → ℕ) (ends from : ℕ) (xs : List ℕ) (end most : ℕ) → end < ends → length xs < most → Chain next ends from xs end → walk next ends most (next from) ≡ xs
unfolding Chain walk
walk_chain next ends from xs end zero e small h = absurd (omega arith)
walk_chain next ends from [] end (suc most) e small h = rw (h, lt-ltb end ends e) refl
walk_chain next ends from (x ∷ xs) end (suc most) e small h =
    let rest : walk next ends most (next (ends + x)) ≡ xs = walk_chain next ends (ends + x) xs end most e (omega arith) h.1 in
    let back : ends + x - ends ≡ x = omega arith in
    rw (h.0, le-ltb (ends + x) ends (omega arith), rest, back) refl

-- the first node of a chain, or none
pub chain_first : (next : ℕ → ℕ) (ends from : ℕ) (xs : List ℕ) (end : ℕ) → end < ends → Chain next ends from xs end → cond (ltb (next from) ends) None (Some (next from - ends)) ≡ slice_get xs 0
unfolding Chain
chain_first next ends from [] end e h = rw (h, lt-ltb end ends e) refl
chain_first next ends from (x ∷ xs) end e h =
    let back : ends + x - ends ≡ x = omega arith in
    rw (h.0, le-ltb (ends + x) ends (omega arith), back) refl

-- the node behind one of a chain, or none
pub chain_behind : (next : ℕ → ℕ) (ends from : ℕ) (xs : List ℕ) (end n : ℕ) → end < ends → Chain next ends from xs end → has n xs ≡ true → cond (ltb (next (ends + n)) ends) None (Some (next (ends + n) - ends)) ≡ behind n xs
unfolding Chain
chain_behind next ends from [] end n e h m = absurd cc
chain_behind next ends from (x ∷ xs) end n e h m = ⊎_elim
    (λ t. let same : n ≡ x = eqb-true n x t in
    let here : cond (ltb (next (ends + n)) ends) None (Some (next (ends + n) - ends)) ≡ slice_get xs 0 = rw same (chain_first next ends (ends + x) xs end e h.1) in
    rw t here)
    (λ f. let later : has n xs ≡ true = rw f at m in
    rw f (chain_behind next ends (ends + x) xs end n e h.1 later))
    (cases_Bool (eqb n x))

-- a chain stays where each link of it does
pub chain_same : (f g : ℕ → ℕ) (ends from : ℕ) (xs : List ℕ) (end : ℕ) → g from ≡ f from → ((n : ℕ) → has n xs ≡ true → g (ends + n) ≡ f (ends + n)) → Chain f ends from xs end → Chain g ends from xs end
unfolding Chain
chain_same f g ends from [] end here there h = here ∙ h
chain_same f g ends from (x ∷ xs) end here there h = (here ∙ h.0, chain_same f g ends (ends + x) xs end (there x (has_head x xs)) (λ n m. there n (has_later n x xs m)) h.1)

-- a chain stays where only the link to a place outside it changes
pub chain_kept : (f g : ℕ → ℕ) (Good : ℕ → Type 0) (target ends from : ℕ) (xs : List ℕ) (end : ℕ)
    → ((i : ℕ) → Good i → f i ≢ target → g i ≡ f i)
    → target < ends → end ≢ target → Good from → ((n : ℕ) → has n xs ≡ true → Good (ends + n))
    → Chain f ends from xs end → Chain g ends from xs end
unfolding Chain
chain_kept f g Good target ends from [] end keeps small other good all h = keeps from good (λ e. other (sym h ∙ e)) ∙ h
chain_kept f g Good target ends from (x ∷ xs) end keeps small other good all h = (
  keeps from good (λ e. let same : ends + x ≡ target = sym h.0 ∙ e in omega arith) ∙ h.0,
  chain_kept f g Good target ends (ends + x) xs end keeps small other (all x (has_head x xs)) (λ n m. all n (has_later n x xs m)) h.1,
)

-- a node comes to stand in front of the end
pub chain_pushed : (f g : ℕ → ℕ) (Good : ℕ → Type 0) (ends from : ℕ) (xs : List ℕ) (end node : ℕ)
    → ((i : ℕ) → Good i → f i ≢ end → g i ≡ f i)
    → ((i : ℕ) → Good i → f i ≡ end → g i ≡ ends + node)
    → g (ends + node) ≡ end
    → end < ends → Good from → ((n : ℕ) → has n xs ≡ true → Good (ends + n))
    → Chain f ends from xs end → Chain g ends from (xs ++ node ∷ []) end
unfolding Chain
chain_pushed f g Good ends from [] end node keeps turns last small good all h = (turns from good h, last)
chain_pushed f g Good ends from (x ∷ xs) end node keeps turns last small good all h = (
  keeps from good (λ e. let same : ends + x ≡ end = sym h.0 ∙ e in omega arith) ∙ h.0,
  chain_pushed f g Good ends (ends + x) xs end node keeps turns last small (all x (has_head x xs)) (λ n m. all n (has_later n x xs m)) h.1,
)

-- a node is passed over: where `f` led to it, `g` leads to what stood behind it
pub chain_without : (f g : ℕ → ℕ) (Good : ℕ → Type 0) (ends from start : ℕ) (xs : List ℕ) (end node : ℕ)
    → ((i : ℕ) → Good i → f i ≢ ends + node → g i ≡ f i)
    → ((i : ℕ) → Good i → f i ≡ ends + node → g i ≡ f (ends + node))
    → end < ends
    → (f from ≢ ends + node → g start ≡ f from)
    → (f from ≡ ends + node → g start ≡ f (ends + node))
    → ((n : ℕ) → has n xs ≡ true → n ≢ node → Good (ends + n))
    → Chain f ends from xs end → Chain g ends start (without node xs) end
unfolding Chain
chain_without f g Good ends from start [] end node keeps skips small keep skip all h = keep (λ e. let same : end ≡ ends + node = sym h ∙ e in omega arith) ∙ h
chain_without f g Good ends from start (x ∷ xs) end node keeps skips small keep skip all h = ⊎_elim
    (λ t. let same : node ≡ x = eqb-true node x t in
    let at : f from ≡ ends + node = rw same h.0 in
    let rest : Chain f ends (ends + node) xs end = rw same h.1 in
    rw t (chain_without f g Good ends (ends + node) start xs end node keeps skips small (λ e. skip at) (λ e. skip at) (λ n m other. all n (has_later n x xs m) other) rest))
    (λ u. let differ : node ≢ x = eqb-false node x u in
    let away : f from ≢ ends + node = (λ e. let same : ends + x ≡ ends + node = sym h.0 ∙ e in differ (omega arith)) in
    let good : Good (ends + x) = all x (has_head x xs) (λ e. differ (sym e)) in
    rw u (keep away ∙ h.0, chain_without f g Good ends (ends + x) (ends + x) xs end node keeps skips small (keeps (ends + x) good) (skips (ends + x) good) (λ n m other. all n (has_later n x xs m) other) h.1))
    (cases_Bool (eqb node x))
