-- Prefix codes made of others.
use Rattle.std.proofs.Common.{◌≡◌, Bool, true, List, [], ◌∷◌, ◌++◌, length, Option, Some, None, refl, sym, ap, subst, ◌∙◌, append_assoc, arith}
use Rattle.std.specs.Prelude.{IfSome}
use Rattle.std.specs.Option.{option_map_or}
use Rattle.std.specs.List.{list_all}
use Rattle.std.proofs.lemmas.Bool.{and_parts, both_ways}
use Rattle.std.proofs.lemmas.List.{append-nil, append_cancel_left}
use Rattle.text_codes.specs.Codes.{IsCodeBefore, IsCode, IsInjective, BeginsWithout}

-- a head and a tail that are equal
pub cons-same : {A : Type 0} {x y : A} {xs ys : List A} → x ≡ y → xs ≡ ys → (x ∷ xs) ≡ (y ∷ ys)
cons-same p q = cc

-- two fronts of which each element passes the test, with nothing behind them that begins with one that passes
pub front-tells : {A : Type 0} (p : A → Bool) (xs ys r s : List A) → list_all p xs ≡ true → list_all p ys ≡ true → BeginsWithout p r → BeginsWithout p s → xs ++ r ≡ ys ++ s → (xs ≡ ys) × (r ≡ s)
front-tells p [] [] r s h g stops ends e = (refl, e)
front-tells p [] (y ∷ ys) [] s h g stops ends e = absurd cc
front-tells p [] (y ∷ ys) (b ∷ r) s h g stops ends e =
    let same : b ≡ y = cc in
    absurd (both_ways (p y) (ap p (sym same) ∙ stops) (and_parts (p y) (list_all p ys) g).0)
front-tells p (x ∷ xs) [] r [] h g stops ends e = absurd cc
front-tells p (x ∷ xs) [] r (b ∷ s) h g stops ends e =
    let same : x ≡ b = cc in
    absurd (both_ways (p x) (ap p same ∙ ends) (and_parts (p x) (list_all p xs) h).0)
front-tells p (x ∷ xs) (y ∷ ys) r s h g stops ends e =
    let same : x ≡ y = cc in
    let rest : xs ++ r ≡ ys ++ s = cc in
    let both = front-tells p xs ys r s (and_parts (p x) (list_all p xs) h).1 (and_parts (p y) (list_all p ys) g).1 stops ends rest in
    (cons-same same both.0, both.1)

-- two fronts of one length
pub fronts-of_length : {A : Type 0} (xs ys r s : List A) → length xs ≡ length ys → xs ++ r ≡ ys ++ s → (xs ≡ ys) × (r ≡ s)
fronts-of_length [] [] r s h e = (refl, e)
fronts-of_length [] (y ∷ ys) r s h e = absurd (omega arith)
fronts-of_length (x ∷ xs) [] r s h e = absurd (omega arith)
fronts-of_length (x ∷ xs) (y ∷ ys) r s h e =
    let same : x ≡ y = cc in
    let rest : xs ++ r ≡ ys ++ s = cc in
    let both = fronts-of_length xs ys r s (omega arith) rest in
    (cons-same same both.0, both.1)

-- a writer whose text a reader reads again
pub injective-by_reader : {X Y : Type 0} {P : X → Type 0} {f : X → Y} (read : Y → Option X) → ((x : X) → P x → read (f x) ≡ Some x) → IsInjective P f
injective-by_reader {f} read h = record { tells = λ x y px py e. (let same : Some x ≡ Some y = sym (h x px) ∙ ap read e ∙ h y py in cc) }

-- and one that also finds what stands behind
pub code-by_reader : {X A : Type 0} {P : X → Type 0} {R : List A → Type 0} {f : X → List A} (read : List A → Option (X × List A)) → ((x : X) (rest : List A) → P x → R rest → read (f x ++ rest) ≡ Some (x, rest)) → IsCodeBefore P R f
code-by_reader {X} {A} {f} read h = record {
  tells = λ x y r s px py rr rs e.
      let same : ◌≡◌ {A = Option (X × List A)} (Some (x, r)) (Some (y, s)) = sym (h x r px rr) ∙ ap read e ∙ h y s py rs in
      let pair : ◌≡◌ {A = X × List A} (x, r) (y, s) = cc in
      (ap (λ (z : X × List A). z.0) pair, ap (λ (z : X × List A). z.1) pair);
}

-- an injective writer of which each element passes a test, before what doesn't begin with one that passes
pub code-by_test : {X A : Type 0} {P : X → Type 0} {f : X → List A} (p : A → Bool) → IsInjective P f → ((x : X) → P x → list_all p (f x) ≡ true) → IsCodeBefore P (BeginsWithout p) f
code-by_test {f} p c h = record {
  tells = λ x y r s px py stops ends e.
      let both = front-tells p (f x) (f y) r s (h x px) (h y py) stops ends e in
      (c.tells x y px py both.0, both.1);
}

-- an injective writer whose texts have one length
pub code-by_length : {X A : Type 0} {P : X → Type 0} {f : X → List A} → IsInjective P f → ((x y : X) → P x → P y → length (f x) ≡ length (f y)) → IsCode P f
code-by_length {f} c h = record {
  tells = λ x y r s px py stops ends e.
      let both = fronts-of_length (f x) (f y) r s (h x y px py) e in
      (c.tells x y px py both.0, both.1);
}

-- an injective writer at the end of a list
pub code-at_end : {X A : Type 0} {P : X → Type 0} {f : X → List A} → IsInjective P f → IsCodeBefore P (λ rest. rest ≡ []) f
code-at_end {f} c = record {
  tells = λ x y r s px py none no_more e.
      let whole : f x ≡ f y = sym (append-nil (f x)) ∙ ap (λ zs. f x ++ zs) (sym none) ∙ e ∙ ap (λ zs. f y ++ zs) no_more ∙ append-nil (f y) in
      (c.tells x y px py whole, none ∙ sym no_more);
}

-- a prefix code that may stand at the end is injective
pub injective-from_code : {X A : Type 0} {P : X → Type 0} {R : List A → Type 0} {f : X → List A} → IsCodeBefore P R f → R [] → IsInjective P f
injective-from_code {f} c r = record { tells = λ x y px py e. (c.tells x y [] [] px py r r (append-nil (f x) ∙ e ∙ sym (append-nil (f y)))).0 }

-- fewer values, and less that may stand behind
pub code-weaker : {X A : Type 0} {P Q : X → Type 0} {R S : List A → Type 0} {f : X → List A} → IsCodeBefore P R f → ((x : X) → Q x → P x) → ((rest : List A) → S rest → R rest) → IsCodeBefore Q S f
code-weaker c h g = record { tells = λ x y r s px py rr rs e. c.tells x y r s (h x px) (h y py) (g r rr) (g s rs) e }

-- a value by its injective view
pub injective-through : {X Y Z : Type 0} {P : X → Type 0} {Q : Y → Type 0} {f : Y → Z} {view : X → Y} → IsInjective Q f → IsInjective P view → ((x : X) → P x → Q (view x)) → IsInjective P (λ x. f (view x))
injective-through {view} c v h = record { tells = λ x y px py e. v.tells x y px py (c.tells (view x) (view y) (h x px) (h y py) e) }

pub code-through : {X Y A : Type 0} {P : X → Type 0} {Q : Y → Type 0} {R : List A → Type 0} {f : Y → List A} {view : X → Y} → IsCodeBefore Q R f → IsInjective P view → ((x : X) → P x → Q (view x)) → IsCodeBefore P R (λ x. f (view x))
code-through {view} c v h = record {
  tells = λ x y r s px py rr rs e.
      let both = c.tells (view x) (view y) r s (h x px) (h y py) rr rs e in
      (v.tells x y px py both.0, both.1);
}

-- one element that tells the value
pub code-one : {X A : Type 0} {P : X → Type 0} {f : X → A} → IsInjective P f → IsCode P (λ x. f x ∷ [])
code-one {f} c = record {
  tells = λ x y r s px py stops ends e.
      let same : f x ≡ f y = cc in
      let rest : r ≡ s = cc in
      (c.tells x y px py same, rest);
}

-- with something fixed in front
pub code-behind : {X A : Type 0} {P : X → Type 0} {R : List A → Type 0} {f : X → List A} (front : List A) → IsCodeBefore P R f → IsCodeBefore P R (λ x. front ++ f x)
code-behind {f} front c = record {
  tells = λ x y r s px py rr rs e.
      c.tells x y r s px py rr rs (append_cancel_left front (f x ++ r) (f y ++ s) (sym (append_assoc front (f x) r) ∙ e ∙ append_assoc front (f y) s));
}

-- with something fixed behind
pub code-ended : {X A : Type 0} {P : X → Type 0} {R S : List A → Type 0} {f : X → List A} (end : List A) → IsCodeBefore P R f → ((rest : List A) → S rest → R (end ++ rest)) → IsCodeBefore P S (λ x. f x ++ end)
code-ended {f} end c h = record {
  tells = λ x y r s px py rr rs e.
      let both = c.tells x y (end ++ r) (end ++ s) px py (h r rr) (h s rs) (sym (append_assoc (f x) end r) ∙ e ∙ append_assoc (f y) end s) in
      (both.0, append_cancel_left end r s both.1);
}

-- a head that tells something of the value, and a tail that tells the rest of it, where that is known
pub code-by_head : {X T A : Type 0} {P : X → Type 0} {H : T → Type 0} {R S : List A → Type 0} {head : T → List A} {tail : X → List A} (of : X → T)
    → IsCodeBefore H R head
    → ((t : T) → H t → IsCodeBefore (λ x. P x × (of x ≡ t)) S tail)
    → ((x : X) → P x → H (of x))
    → ((x : X) (rest : List A) → P x → S rest → R (tail x ++ rest))
    → IsCodeBefore P S (λ x. head (of x) ++ tail x)
code-by_head {head} {tail} of c d h g = record {
  tells = λ x y r s px py rr rs e.
      let first = c.tells (of x) (of y) (tail x ++ r) (tail y ++ s) (h x px) (h y py) (g x r px rr) (g y s py rs) (sym (append_assoc (head (of x)) (tail x) r) ∙ e ∙ append_assoc (head (of y)) (tail y) s) in
      (d (of y) (h y py)).tells x y r s (px, first.0) (py, refl) rr rs first.1;
}

-- two values, one behind the other; the second's writer may know the first
pub code-then : {X Y A : Type 0} {P : X → Type 0} {Q : X → Y → Type 0} {R S : List A → Type 0} {f : X → List A} {g : X → Y → List A}
    → IsCodeBefore P R f
    → ((x : X) → P x → IsCodeBefore (Q x) S (g x))
    → ((x : X) (y : Y) (rest : List A) → P x → Q x y → S rest → R (g x y ++ rest))
    → IsCodeBefore (λ (z : X × Y). P z.0 × Q z.0 z.1) S (λ (z : X × Y). f z.0 ++ g z.0 z.1)
code-then {X} {Y} {A} {P} {Q} {R} {S} {f} {g} c d h = record {
  tells = λ z w r s pz pw rr rs e.
      let first = c.tells z.0 w.0 (g z.0 z.1 ++ r) (g w.0 w.1 ++ s) pz.0 pw.0 (h z.0 z.1 r pz.0 pz.1 rr) (h w.0 w.1 s pw.0 pw.1 rs) (sym (append_assoc (f z.0) (g z.0 z.1) r) ∙ e ∙ append_assoc (f w.0) (g w.0 w.1) s) in
      let second = subst (λ (x : X). Q x z.1 → g x z.1 ++ r ≡ g w.0 w.1 ++ s → (z.1 ≡ w.1) × (r ≡ s)) (sym first.0) (λ q e'. (d w.0 pw.0).tells z.1 w.1 r s q pw.1 rr rs e') pz.1 first.1 in
      (pair_is first.0 second.0, second.1);
}
  where
    pair_is : {x x' : X} {y y' : Y} → x ≡ x' → y ≡ y' → ◌≡◌ {A = X × Y} (x, y) (x', y')
    pair_is p q = cc

pub code-pair : {X Y A : Type 0} {P : X → Type 0} {Q : Y → Type 0} {R S : List A → Type 0} {f : X → List A} {g : Y → List A}
    → IsCodeBefore P R f
    → IsCodeBefore Q S g
    → ((y : Y) (rest : List A) → Q y → S rest → R (g y ++ rest))
    → IsCodeBefore (λ (z : X × Y). P z.0 × Q z.1) S (λ (z : X × Y). f z.0 ++ g z.1)
code-pair c d h = code-then c (λ x px. d) (λ x y rest px qy s. h y rest qy s)

-- a value or none, of which each is told from the other
pub code-option : {X A : Type 0} {P : X → Type 0} {R : List A → Type 0} {f : X → List A} (none : List A)
    → IsCodeBefore P R f
    → ((x : X) (r s : List A) → P x → R r → R s → f x ++ r ≡ none ++ s → ⊥)
    → IsCodeBefore (λ o. IfSome o P) R (λ o. option_map_or f o none)
code-option {X} {A} {P} {R} {f} none c apart = record { tells = told }
  where
    told : (o w : Option X) (r s : List A) → IfSome o P → IfSome w P → R r → R s → option_map_or f o none ++ r ≡ option_map_or f w none ++ s → (o ≡ w) × (r ≡ s)
    told None None r s po pw rr rs e = (refl, append_cancel_left none r s e)
    told None (Some y) r s po pw rr rs e = absurd (apart y s r pw rs rr (sym e))
    told (Some x) None r s po pw rr rs e = absurd (apart x r s po rr rs e)
    told (Some x) (Some y) r s po pw rr rs e =
        let both = c.tells x y r s po pw rr rs e in
        (ap (λ (z : X). Some z) both.0, both.1)

-- the same of writers that are injective
pub injective-option : {X Y : Type 0} {P : X → Type 0} {f : X → Y} (none : Y)
    → IsInjective P f
    → ((x : X) → P x → f x ≡ none → ⊥)
    → IsInjective (λ o. IfSome o P) (λ o. option_map_or f o none)
injective-option {X} {Y} {P} {f} none c apart = record { tells = told }
  where
    told : (o w : Option X) → IfSome o P → IfSome w P → option_map_or f o none ≡ option_map_or f w none → o ≡ w
    told None None po pw e = refl
    told None (Some y) po pw e = absurd (apart y pw (sym e))
    told (Some x) None po pw e = absurd (apart x po e)
    told (Some x) (Some y) po pw e = ap (λ (z : X). Some z) (c.tells x y po pw e)
