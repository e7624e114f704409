-- Links that lead there and back, and still do where a place is put between two others or taken out from between them.
use Rattle.std.proofs.Common.{◌≡◌, ◌≢◌, ℕ, ◌<◌, eqb, cond, refl, sym, ap, ◌∙◌, eq-eqb, ne_eqb, ⊎_elim}
use Rattle.std.proofs.lemmas.Bool.{cases_eq}
use Rattle.slot_links.specs.Places.{Rounds}

-- what is chosen at a number, and elsewhere
pub here : {X : Type 0} (i j : ℕ) (x y : X) → i ≡ j → cond (eqb i j) x y ≡ x
here i j x y e = rw (eq-eqb i j e) refl

pub elsewhere : {X : Type 0} (i j : ℕ) (x y : X) → i ≢ j → cond (eqb i j) x y ≡ y
elsewhere i j x y e = rw (ne_eqb i j e) refl

-- a place that was by itself comes to stand in front of `list`
module _ (size list at : ℕ) (f b g q : ℕ → ℕ) (h : Rounds size f b) (small : list < size) (at_small : at < size) (other : at ≢ list) (alone : f at ≡ at)
    (next : (i : ℕ) → g i ≡ cond (eqb i at) list (cond (eqb i (b list)) at (f i)))
    (previous : (i : ℕ) → q i ≡ cond (eqb i list) at (cond (eqb i at) (b list) (b i))) where
  last_differs : b list ≢ at
  last_differs e = other (sym alone ∙ ap f (sym e) ∙ (h.before list small).1)

  g_at : g at ≡ list
  g_at = next at ∙ here at at list _ refl

  g_last : g (b list) ≡ at
  g_last = next (b list) ∙ elsewhere (b list) at _ _ last_differs ∙ here (b list) (b list) at _ refl

  g_else : (i : ℕ) → i ≢ at → i ≢ b list → g i ≡ f i
  g_else i x y = next i ∙ elsewhere i at _ _ x ∙ elsewhere i (b list) _ _ y

  q_list : q list ≡ at
  q_list = previous list ∙ here list list at _ refl

  q_at : q at ≡ b list
  q_at = previous at ∙ elsewhere at list _ _ other ∙ here at at (b list) _ refl

  q_else : (i : ℕ) → i ≢ list → i ≢ at → q i ≡ b i
  q_else i x y = previous i ∙ elsewhere i list _ _ x ∙ elsewhere i at _ _ y

  pub appended_keeps : (i : ℕ) → i ≢ at → f i ≢ list → g i ≡ f i
  appended_keeps i x away = g_else i x (λ e. away (ap f e ∙ (h.before list small).1))

  pub appended_turns : (i : ℕ) → i < size → f i ≡ list → g i ≡ at
  appended_turns i s e = ap g (sym (h.behind i s).1 ∙ ap b e) ∙ g_last

  pub rounds_appended : Rounds size g q
  rounds_appended = record {
    behind = λ i s. ⊎_elim
        (λ e. let to : g i ≡ list = ap g e ∙ g_at in (rw to small, ap q to ∙ q_list ∙ sym e))
        (λ x. ⊎_elim
        (λ e. let to : g i ≡ at = ap g e ∙ g_last in (rw to at_small, ap q to ∙ q_at ∙ sym e))
        (λ y. let to : g i ≡ f i = g_else i x y in
        let back : b (f i) ≡ i = (h.behind i s).1 in
        (rw to (h.behind i s).0, ap q to ∙ q_else (f i) (λ e. y (sym back ∙ ap b e)) (λ e. x (sym back ∙ ap b (e ∙ sym alone) ∙ (h.behind at at_small).1)) ∙ back))
        (cases_eq i (b list)))
        (cases_eq i at);
    before = λ i s. ⊎_elim
        (λ e. let to : q i ≡ at = ap q e ∙ q_list in (rw to at_small, ap g to ∙ g_at ∙ sym e))
        (λ x. ⊎_elim
        (λ e. let to : q i ≡ b list = ap q e ∙ q_at in (rw to (h.before list small).0, ap g to ∙ g_last ∙ sym e))
        (λ y. let to : q i ≡ b i = q_else i x y in
        let back : f (b i) ≡ i = (h.before i s).1 in
        (rw to (h.before i s).0, ap g to ∙ g_else (b i) (λ e. y (sym back ∙ ap f e ∙ alone)) (λ e. x (sym back ∙ ap f e ∙ (h.before list small).1)) ∙ back))
        (cases_eq i at))
        (cases_eq i list);
  }

-- a place is taken out from between its neighbours
module _ (size at : ℕ) (f b g q : ℕ → ℕ) (h : Rounds size f b) (at_small : at < size)
    (next : (i : ℕ) → g i ≡ cond (eqb i at) at (cond (eqb i (b at)) (f at) (f i)))
    (previous : (i : ℕ) → q i ≡ cond (eqb i at) at (cond (eqb i (f at)) (b at) (b i))) where
  out_g_at : g at ≡ at
  out_g_at = next at ∙ here at at at _ refl

  out_q_at : q at ≡ at
  out_q_at = previous at ∙ here at at at _ refl

  out_g_before : (i : ℕ) → i ≢ at → i ≡ b at → g i ≡ f at
  out_g_before i x e = next i ∙ elsewhere i at _ _ x ∙ here i (b at) (f at) _ e

  out_g_else : (i : ℕ) → i ≢ at → i ≢ b at → g i ≡ f i
  out_g_else i x y = next i ∙ elsewhere i at _ _ x ∙ elsewhere i (b at) _ _ y

  out_q_behind : (i : ℕ) → i ≢ at → i ≡ f at → q i ≡ b at
  out_q_behind i x e = previous i ∙ elsewhere i at _ _ x ∙ here i (f at) (b at) _ e

  out_q_else : (i : ℕ) → i ≢ at → i ≢ f at → q i ≡ b i
  out_q_else i x y = previous i ∙ elsewhere i at _ _ x ∙ elsewhere i (f at) _ _ y

  pub removed_keeps : (i : ℕ) → i ≢ at → f i ≢ at → g i ≡ f i
  removed_keeps i x away = out_g_else i x (λ e. away (ap f e ∙ (h.before at at_small).1))

  pub removed_skips : (i : ℕ) → i < size → i ≢ at → f i ≡ at → g i ≡ f at
  removed_skips i s x e = out_g_before i x (sym (h.behind i s).1 ∙ ap b e)

  pub rounds_removed : Rounds size g q
  rounds_removed = record {
    behind = λ i s. ⊎_elim
        (λ e. let to : g i ≡ at = ap g e ∙ out_g_at in (rw to at_small, ap q to ∙ out_q_at ∙ sym e))
        (λ x. ⊎_elim
        (λ e. let to : g i ≡ f at = out_g_before i x e in
        (rw to (h.behind at at_small).0, ap q to ∙ out_q_behind (f at) (λ same. x (e ∙ ap b (sym same) ∙ (h.behind at at_small).1)) refl ∙ sym e))
        (λ y. let to : g i ≡ f i = out_g_else i x y in
        let back : b (f i) ≡ i = (h.behind i s).1 in
        (rw to (h.behind i s).0, ap q to ∙ out_q_else (f i) (λ e. y (sym back ∙ ap b e)) (λ e. x (sym back ∙ ap b e ∙ (h.behind at at_small).1)) ∙ back))
        (cases_eq i (b at)))
        (cases_eq i at);
    before = λ i s. ⊎_elim
        (λ e. let to : q i ≡ at = ap q e ∙ out_q_at in (rw to at_small, ap g to ∙ out_g_at ∙ sym e))
        (λ x. ⊎_elim
        (λ e. let to : q i ≡ b at = out_q_behind i x e in
        (rw to (h.before at at_small).0, ap g to ∙ out_g_before (b at) (λ same. x (e ∙ ap f (sym same) ∙ (h.before at at_small).1)) refl ∙ sym e))
        (λ y. let to : q i ≡ b i = out_q_else i x y in
        let back : f (b i) ≡ i = (h.before i s).1 in
        (rw to (h.before i s).0, ap g to ∙ out_g_else (b i) (λ e. y (sym back ∙ ap f e)) (λ e. x (sym back ∙ ap f e ∙ (h.before at at_small).1)) ∙ back))
        (cases_eq i (f at)))
        (cases_eq i at);
  }
