-- At the end one stamp has seen all turns.
use Rattle.std.proofs.Common.{◌≡◌, ◌⊎◌, ℕ, zero, suc, ◌<◌, Bool, List, [], ◌∷◌, ◌++◌, map, length, get_or, None, refl, sym, ap, ◌∙◌, subst, inl, inr, ⊎_elim, arith, append_assoc, append-nil}
use Rattle.std.specs.Prelude.{if◌then◌else◌, All, Contains}
use Rattle.std.proofs.lemmas.Bool.{eq-eqb}
use Rattle.std.proofs.lemmas.List.Elements.{All-nil, All-cons, All-contains, Contains-append_left, Contains-append_right, Contains-push}
use mathlib.Core.Logic.{dite}
use native.Mathlib.Decide.{ℕ_discrete}
use Rattle.bucket_stamps.specs.declared.view.Turn.{Turn}
use Rattle.bucket_stamps.specs.Own.{turns_of, numbers_below, NeverFall, AreTurnsOf, IsSettled, IsLineOfOne, IsTurnOfOne}
use Rattle.bucket_stamps.specs.Kept.{HasAllOf}
use Rattle.bucket_stamps.specs.Shown.{StamperShown, StampShown, Agrees, AreEveryones, Ends}
use Rattle.bucket_stamps.proofs.Owning.{turns_of-append}

-- ---- the last of a list

snoc_of : {A : Type 0} (xs : List A) → (xs ≡ []) ⊎ ((ys : List A) × (y : A) × (xs ≡ ys ++ y ∷ []))
snoc_of [] = inl refl
snoc_of {A = A} (x ∷ xs) = inr (⊎_elim (λ (e : xs ≡ []). ([], x, ap (λ (l : List A). x ∷ l) e)) (λ (t : (ys : List A) × (y : A) × (xs ≡ ys ++ y ∷ [])). (x ∷ t.0, t.1, ap (λ (l : List A). x ∷ l) t.2)) (snoc_of xs))

abbrev last_or : Turn → List Turn → Turn
last_or d [] = d
last_or d (t ∷ ts) = last_or t ts

last_push : (d : Turn) (ts : List Turn) (t : Turn) → last_or d (ts ++ t ∷ []) ≡ t
last_push d [] t = refl
last_push d (x ∷ ts) t = last_push x ts t

nothing_before : {A : Type 0} (xs ys : List A) → xs ++ ys ≡ [] → xs ≡ []
nothing_before [] ys e = refl
nothing_before (x ∷ xs) ys e = absurd (let bad = e in cc)

own_last : (xs : List Turn) (t : Turn) → turns_of t.participant (xs ++ t ∷ []) ≡ [] → ⊥
own_last xs t none =
    let p : ℕ = t.participant in
    let one : turns_of p (t ∷ []) ≡ t ∷ [] = ap (λ (b : Bool). if b then t ∷ [] else []) (eq-eqb p p refl) in
    let all : turns_of p xs ++ t ∷ [] ≡ [] = ap (λ (l : List Turn). turns_of p xs ++ l) (sym one) ∙ (sym (turns_of-append p xs (t ∷ [])) ∙ none) in
    let empty : turns_of p xs ≡ [] = nothing_before (turns_of p xs) (t ∷ []) all in
    let bad : t ∷ [] ≡ [] = ap (λ (l : List Turn). l ++ t ∷ []) (sym empty) ∙ all in
    cc

-- who has all turns of the last turn's participant has all turns
has_last : (xs seen : List Turn) (t : Turn) → HasAllOf t.participant seen (xs ++ t ∷ []) → seen ≡ xs ++ t ∷ []
has_last xs seen t h =
    ⊎_elim
    (λ (e : h.rest ≡ []). sym (append-nil seen) ∙ (ap (λ (l : List Turn). seen ++ l) (sym e) ∙ h.more))
    (λ (r : (ys : List Turn) × (y : Turn) × (h.rest ≡ ys ++ y ∷ [])).
    let whole : (seen ++ r.0) ++ r.1 ∷ [] ≡ xs ++ t ∷ [] = append_assoc seen r.0 (r.1 ∷ []) ∙ (ap (λ (l : List Turn). seen ++ l) (sym r.2) ∙ h.more) in
    let same : r.1 ≡ t = sym (last_push t (seen ++ r.0) r.1) ∙ (ap (last_or t) whole ∙ last_push t xs t) in
    let F : Turn → Type 0 = λ y. turns_of t.participant (r.0 ++ y ∷ []) ≡ [] in
    absurd (own_last r.0 t (subst F same (ap (turns_of t.participant) (sym r.2) ∙ h.no_other))))
    (snoc_of h.rest)

-- ---- a stamp of each participant

below_there : (n p : ℕ) → p < n → Contains (numbers_below n) p
below_there zero p small = absurd (omega (arith, small))
below_there (suc n) p small =
    dite (ℕ_discrete p n)
    (λ e. subst (λ (q : ℕ). Contains (numbers_below n ++ n ∷ []) q) (sym e) (Contains-push (numbers_below n) n))
    (λ ne. Contains-append_left (numbers_below n) (n ∷ []) p (below_there n p (omega (arith, small, ne))))

stamp_at : (stamps : List StampShown) (k p : ℕ) → k < length (map (λ (s : StampShown). s.participant) stamps) → get_or (map (λ (s : StampShown). s.participant) stamps) k p ≡ p → (t : StampShown) × Contains stamps t × (t.participant ≡ p)
stamp_at [] k p small e = absurd (omega (arith, small))
stamp_at (x ∷ xs) zero p small e = (x, Contains-append_left (x ∷ []) xs x (Contains-push [] x), e)
stamp_at (x ∷ xs) (suc k) p small e =
    let r = stamp_at xs k p (omega (arith, small)) e in
    (r.0, Contains-append_right (x ∷ []) xs r.0 r.1, r.2)

stamp_of_one : (n p : ℕ) (stamps : List StampShown) → AreEveryones n stamps → p < n → (t : StampShown) × Contains stamps t × (t.participant ≡ p)
stamp_of_one n p stamps everyone small =
    let c : Contains (map (λ (s : StampShown). s.participant) stamps) p = subst (λ (l : List ℕ). Contains l p) (sym everyone) (below_there n p small) in
    stamp_at stamps c.0 p c.1 c.2

turns_at : (stamps : List StampShown) (k : ℕ) (t : StampShown) → k < length stamps → get_or stamps k t ≡ t → Contains (map (λ (s : StampShown). s.turns) stamps) t.turns
turns_at [] k t small e = absurd (omega (arith, small))
turns_at (x ∷ xs) zero t small e = subst (λ (ts : List Turn). Contains (map (λ (s : StampShown). s.turns) (x ∷ xs)) ts) (ap (λ (s : StampShown). s.turns) e) (Contains-append_left (x.turns ∷ []) (map (λ (s : StampShown). s.turns) xs) x.turns (Contains-push [] x.turns))
turns_at (x ∷ xs) (suc k) t small e = Contains-append_right (x.turns ∷ []) (map (λ (s : StampShown). s.turns) xs) t.turns (turns_at xs k t (omega (arith, small)) e)

-- the stamp of the last turn's participant, or any where there is none, has seen all turns
pub one_has_all : (s : StamperShown) (stamps : List StampShown) → All (IsTurnOfOne s.participants) s.turns → AreEveryones s.participants stamps → All (Agrees s) stamps → 0 < s.participants → Contains (map (λ (t : StampShown). t.turns) stamps) s.turns
one_has_all s stamps below everyone agrees some =
    let C : List Turn → Type 0 = λ ts. Contains (map (λ (t : StampShown). t.turns) stamps) ts in
    ⊎_elim
    (λ (e : s.turns ≡ []).
    let r = stamp_of_one s.participants 0 stamps everyone some in
    let h = (All-contains (Agrees s) stamps r.0 agrees r.1).turns in
    let none : r.0.turns ≡ [] = nothing_before r.0.turns h.rest (h.more ∙ e) in
    subst C (none ∙ sym e) (turns_at stamps r.1.0 r.0 r.1.1 r.1.2))
    (λ (u : (ys : List Turn) × (y : Turn) × (s.turns ≡ ys ++ y ∷ [])).
    let its : u.1.participant < s.participants = All-contains (IsTurnOfOne s.participants) s.turns u.1 below (subst (λ (ts : List Turn). Contains ts u.1) (sym u.2) (Contains-push u.0 u.1)) in
    let r = stamp_of_one s.participants u.1.participant stamps everyone its in
    let h = (All-contains (Agrees s) stamps r.0 agrees r.1).turns in
    let H : ℕ → Type 0 = λ p. HasAllOf p r.0.turns s.turns in
    let G : List Turn → Type 0 = λ ts. HasAllOf u.1.participant r.0.turns ts in
    let whole : r.0.turns ≡ u.0 ++ u.1 ∷ [] = has_last u.0 r.0.turns u.1 (subst G u.2 (subst H r.2 h)) in
    subst C (whole ∙ sym u.2) (turns_at stamps r.1.0 r.0 r.1.1 r.1.2))
    (snoc_of s.turns)

-- ---- stamps are given up one after another

pub record Gathered (s : StamperShown) (left all : List StampShown) : Type 0 where
  pub done : List StampShown
  pub same : left ++ done ≡ all
  pub ids : All (λ (t : StampShown). t.id ≡ s.id) left
  pub agrees : All (Agrees s) done

pub gathered_none : (s : StamperShown) (all : List StampShown) → All (λ (t : StampShown). t.id ≡ s.id) all → Gathered s all all
gathered_none s all ids = record { done = []; same = append-nil all; ids = ids; agrees = All-nil (Agrees s) }

pub gathered_more : (s : StamperShown) (left more all : List StampShown) (t : StampShown) → more ≡ left ++ t ∷ [] → All (λ (x : StampShown). x.id ≡ s.id) left → Agrees s t → Gathered s more all → Gathered s left all
gathered_more s left more all t e ids its h = record {
  done = t ∷ h.done;
  same = sym (append_assoc left (t ∷ []) h.done) ∙ (ap (λ (l : List StampShown). l ++ h.done) (sym e) ∙ h.same);
  ids = ids;
  agrees = All-cons (Agrees s) t h.done its h.agrees;
}

pub gathered_all : (s : StamperShown) (all : List StampShown) → Gathered s [] all → All (Agrees s) all
gathered_all s all h = subst (λ (l : List StampShown). All (Agrees s) l) h.same h.agrees

-- what the stamper keeps at the end
pub ends : (s now : StamperShown) (stamps left : List StampShown) → now ≡ s → left ≡ [] → Gathered s left stamps → AreEveryones s.participants stamps → s.lodged ≡ None
    → (now.lodged ≡ None → IsSettled now.lines now.turns) → All (IsLineOfOne now.participants) now.lines → All (IsTurnOfOne now.participants) now.turns → AreTurnsOf now.lines now.turns → Ends s stamps
ends s now stamps left same empty h everyone free settled own turns order =
    let G : List StampShown → Type 0 = λ l. Gathered s l stamps in
    let agrees : All (Agrees s) stamps = gathered_all s stamps (subst G empty h) in
    let S : StamperShown → Type 0 = λ x. x.lodged ≡ None → IsSettled x.lines x.turns in
    let O : StamperShown → Type 0 = λ x. All (IsLineOfOne x.participants) x.lines in
    let T : StamperShown → Type 0 = λ x. All (IsTurnOfOne x.participants) x.turns in
    let R : StamperShown → Type 0 = λ x. NeverFall 0 x.turns in
    record {
      agrees = agrees;
      longest = one_has_all s stamps (subst T same turns) everyone agrees;
      settled = subst S same settled free;
      order = subst R same order.rising;
      own = subst O same own;
      own_turns = subst T same turns;
    }
