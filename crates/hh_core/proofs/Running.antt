-- The steps of a list that were taken so far.
use Rattle.std.proofs.Common.{◌≡◌, ℕ, ◌+◌, ◌<◌, ◌≤◌, Bool, true, false, if◌then◌else◌, List, [], ◌∷◌, length, get_or, drop, Option, Some, None, refl, sym, ap, ◌∙◌, subst, arith, add-one, drop-cons}
use Rattle.std.specs.Option.{option_map}
use Rattle.std.proofs.lemmas.Grind.{common_steps}
use Rattle.hh_core.specs.declared.step.Step.{Step}
use Rattle.hh_core.specs.State.{State}
use Rattle.hh_core.specs.Step.{allowed, after, run, first_refused}

-- the first so many steps lead from one state to the other
pub record RunsTo (steps : List Step) (from : State) (count : ℕ) (to : State) : Type 0 where
  pub state : run (drop count steps) to ≡ run steps from
  pub refused : first_refused steps from ≡ option_map (λ k. k + count) (first_refused (drop count steps) to)

plus_zero : (o : Option ℕ) → o ≡ option_map (λ k. k + 0) o
plus_zero None = refl
plus_zero (Some k) = ap (λ (n : ℕ). Some n) (omega arith)

plus_one : (count : ℕ) (o : Option ℕ) → option_map (λ k. k + count) (option_map (λ k. k + 1) o) ≡ option_map (λ k. k + (count + 1)) o
plus_one count None = refl
plus_one count (Some k) = ap (λ (n : ℕ). Some n) (omega arith)

pub RunsTo-none : (steps : List Step) (from : State) → RunsTo steps from 0 from
RunsTo-none steps from = record { state = refl; refused = plus_zero (first_refused steps from) }

run_first : (x : Step) (xs : List Step) (s : State) → allowed x s ≡ true → run (x ∷ xs) s ≡ run xs (after x s)
run_first x xs s e = ap (λ (b : Bool). if b then run xs (after x s) else s) e

refused_first : (x : Step) (xs : List Step) (s : State) → allowed x s ≡ true → first_refused (x ∷ xs) s ≡ option_map (λ k. k + 1) (first_refused xs (after x s))
refused_first x xs s e = ap (λ (b : Bool). if b then option_map (λ k. k + 1) (first_refused xs (after x s)) else Some 0) e

run_refused : (x : Step) (xs : List Step) (s : State) → allowed x s ≡ false → run (x ∷ xs) s ≡ s
run_refused x xs s e = ap (λ (b : Bool). if b then run xs (after x s) else s) e

refused_here : (x : Step) (xs : List Step) (s : State) → allowed x s ≡ false → first_refused (x ∷ xs) s ≡ Some 0
refused_here x xs s e = ap (λ (b : Bool). if b then option_map (λ k. k + 1) (first_refused xs (after x s)) else Some 0) e

rest_is : (steps : List Step) (count : ℕ) (x : Step) → count < length steps → x ≡ get_or steps count x → drop count steps ≡ x ∷ drop (count + 1) steps
rest_is steps count x small is =
    let F : Step → Type 0 = λ y. drop count steps ≡ y ∷ drop (count + 1) steps in
    subst F (sym is) (rw add-one (drop-cons steps count x small))

pub RunsTo-more : (steps : List Step) (from s : State) (count : ℕ) (x : Step) → count < length steps → x ≡ get_or steps count x → allowed x s ≡ true → RunsTo steps from count s → RunsTo steps from (count + 1) (after x s)
RunsTo-more steps from s count x small is e h =
    let rest = rest_is steps count x small is in
    record {
      state = sym (ap (λ (xs : List Step). run xs s) rest ∙ run_first x (drop (count + 1) steps) s e) ∙ h.state;
      refused = h.refused ∙ ap (λ (xs : List Step). option_map (λ k. k + count) (first_refused xs s)) rest ∙ ap (λ (o : Option ℕ). option_map (λ k. k + count) o) (refused_first x (drop (count + 1) steps) s e) ∙ plus_one count (first_refused (drop (count + 1) steps) (after x s));
    }

pub RunsTo-stop : (steps : List Step) (from s : State) (count : ℕ) (x : Step) → count < length steps → x ≡ get_or steps count x → allowed x s ≡ false → RunsTo steps from count s → (first_refused steps from ≡ Some count) × (s ≡ run steps from)
RunsTo-stop steps from s count x small is e h =
    let rest = rest_is steps count x small is in (
      h.refused ∙ ap (λ (xs : List Step). option_map (λ k. k + count) (first_refused xs s)) rest ∙ ap (λ (o : Option ℕ). option_map (λ k. k + count) o) (refused_here x (drop (count + 1) steps) s e) ∙ ap (λ (n : ℕ). Some n) (omega arith),
      sym (run_refused x (drop (count + 1) steps) s e) ∙ sym (ap (λ (xs : List Step). run xs s) rest) ∙ h.state,
    )

drop_all : (steps : List Step) (count : ℕ) → length steps ≤ count → drop count steps ≡ []
drop_all steps count small = grind (arith, common_steps)

pub RunsTo-end : (steps : List Step) (from s : State) (count : ℕ) → length steps ≤ count → RunsTo steps from count s → (first_refused steps from ≡ None) × (s ≡ run steps from)
RunsTo-end steps from s count small h =
    let rest = drop_all steps count small in
    (h.refused ∙ ap (λ (xs : List Step). option_map (λ k. k + count) (first_refused xs s)) rest, sym (ap (λ (xs : List Step). run xs s) rest) ∙ h.state)
