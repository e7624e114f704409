-- Prefix codes of lists.
use Rattle.std.proofs.Common.{◌≡◌, ℕ, Bool, List, [], ◌∷◌, ◌++◌, length, map, refl, sym, ap, subst, ◌∙◌, append_assoc, arith}
use Rattle.std.specs.Prelude.{⊤, IfSome}
use Rattle.std.specs.Option.{option_map_or}
use Rattle.std.specs.List.{flat_map, AllByRecursion}
use Rattle.std.proofs.lemmas.Bool.{both_ways}
use Rattle.text_codes.specs.Codes.{IsCodeBefore, IsInjective, BeginsWithout, BeginsWith, EachFrom}
use Rattle.text_codes.proofs.Combining.{cons-same, code-weaker, code-by_head, code-option}

-- what begins with an element that passes isn't what begins without
pub begins-apart : {A : Type 0} (p : A → Bool) (xs r s : List A) → BeginsWith p xs → BeginsWithout p s → xs ++ r ≡ s → ⊥
begins-apart p [] r s h g e = h
begins-apart p (x ∷ xs) r [] h g e = absurd cc
begins-apart p (x ∷ xs) r (b ∷ s) h g e =
    let same : x ≡ b = cc in
    both_ways (p x) (ap p same ∙ g) h

-- a value or nothing, where a value begins with what passes the test, before what begins without
pub code-optional : {X A : Type 0} {P : X → Type 0} {R : List A → Type 0} {f : X → List A} (p : A → Bool)
    → IsCodeBefore P R f
    → ((x : X) → P x → BeginsWith p (f x))
    → IsCodeBefore (λ o. IfSome o P) (λ rest. R rest × BeginsWithout p rest) (λ o. option_map_or f o [])
code-optional {f} p c b = code-option [] (code-weaker c (λ x px. px) (λ rest r. r.0)) (λ x r s px rr rs e. begins-apart p (f x) r s (b x px) rs.1 e)

-- an injective writer of each element is one of lists
pub injective-map : {X Y : Type 0} {P : X → Type 0} {f : X → Y} → IsInjective P f → IsInjective (AllByRecursion P) (map f)
injective-map {X} {Y} {P} {f} c = record { tells = told }
  where
    told : (xs ys : List X) → AllByRecursion P xs → AllByRecursion P ys → map f xs ≡ map f ys → xs ≡ ys
    told [] [] h g e = refl
    told [] (y ∷ ys) h g e = absurd cc
    told (x ∷ xs) [] h g e = absurd cc
    told (x ∷ xs) (y ∷ ys) h g e =
        let first : f x ≡ f y = cc in
        let rest : map f xs ≡ map f ys = cc in
        cons-same (c.tells x y h.0 g.0 first) (told xs ys h.1 g.1 rest)

-- a known number of elements, of which each is written as its state has it; a state may be the elements before
pub code-from : {S X A : Type 0} {P : S → X → Type 0} {R : List A → Type 0} {f : S → X → List A} (next : S → X → S) (write : S → List X → List A)
    → ((s : S) → write s [] ≡ [])
    → ((s : S) (x : X) (xs : List X) → write s (x ∷ xs) ≡ f s x ++ write (next s x) xs)
    → ((s : S) → IsCodeBefore (P s) R (f s))
    → ((s : S) (x : X) (rest : List A) → P s x → R rest → R (f s x ++ rest))
    → (n : ℕ) (s : S) → IsCodeBefore (λ xs. (length xs ≡ n) × EachFrom next P s xs) R (write s)
code-from {S} {X} {A} {P} {R} {f} next write none more c h n s = record { tells = λ xs ys r t hx hy rr rt e. told s xs ys r t (hx.0 ∙ sym hy.0) hx.1 hy.1 rr rt e }
  where
    begins : (s : S) (xs : List X) (rest : List A) → EachFrom next P s xs → R rest → R (write s xs ++ rest)
    begins s [] rest each r = rw (none s) r
    begins s (x ∷ xs) rest each r = rw (more s x xs, append_assoc (f s x) (write (next s x) xs) rest) (h s x (write (next s x) xs ++ rest) each.0 (begins (next s x) xs rest each.1 r))

    told : (s : S) (xs ys : List X) (r t : List A) → length xs ≡ length ys → EachFrom next P s xs → EachFrom next P s ys → R r → R t → write s xs ++ r ≡ write s ys ++ t → (xs ≡ ys) × (r ≡ t)
    told s [] [] r t same hx hy rr rt e = (refl, ap (λ zs. zs ++ r) (sym (none s)) ∙ e ∙ ap (λ zs. zs ++ t) (none s))
    told s [] (y ∷ ys) r t same hx hy rr rt e = absurd (omega arith)
    told s (x ∷ xs) [] r t same hx hy rr rt e = absurd (omega arith)
    told s (x ∷ xs) (y ∷ ys) r t same hx hy rr rt e =
        let first = (c s).tells x y (write (next s x) xs ++ r) (write (next s y) ys ++ t) hx.0 hy.0 (begins (next s x) xs r hx.1 rr) (begins (next s y) ys t hy.1 rt)
        (sym (append_assoc (f s x) (write (next s x) xs) r) ∙ ap (λ zs. zs ++ r) (sym (more s x xs)) ∙ e ∙ ap (λ zs. zs ++ t) (more s y ys) ∙ append_assoc (f s y) (write (next s y) ys) t) in
        let rest = subst (λ (v : X). EachFrom next P (next s v) xs → write (next s v) xs ++ r ≡ write (next s y) ys ++ t → (xs ≡ ys) × (r ≡ t)) (sym first.0) (λ each e'. told (next s y) xs ys r t (omega arith) each hy.1 rr rt e') hx.1 first.1 in
        (cons-same first.0 rest.0, rest.1)

each-from : {X : Type 0} (P : X → Type 0) (xs : List X) → AllByRecursion P xs → EachFrom (λ (s : ⊤) (x : X). s) (λ (s : ⊤). P) tt xs
each-from P [] h = tt
each-from P (x ∷ xs) h = (h.0, each-from P xs h.1)

-- a known number of elements
pub code-repeated : {X A : Type 0} {P : X → Type 0} {R : List A → Type 0} {f : X → List A}
    → IsCodeBefore P R f
    → ((x : X) (rest : List A) → P x → R rest → R (f x ++ rest))
    → (n : ℕ) → IsCodeBefore (λ xs. (length xs ≡ n) × AllByRecursion P xs) R (flat_map f)
code-repeated {X} {A} {P} {R} {f} c h n = record {
  tells = λ xs ys r t hx hy rr rt e.
      (code-from {P = λ (s : ⊤). P} {R = R} {f = λ (s : ⊤). f} (λ (s : ⊤) (x : X). s) (λ (s : ⊤). flat_map f) (λ s. refl) (λ s x xs. refl) (λ s. c) (λ s. h) n tt).tells xs ys r t
      (hx.0, each-from P xs hx.1) (hy.0, each-from P ys hy.1) rr rt e;
}

-- a list with the number of its elements in front
pub code-counted : {X A : Type 0} {N : ℕ → Type 0} {Q : List X → Type 0} {R S : List A → Type 0} {count : ℕ → List A} {write : List X → List A}
    → IsCodeBefore N R count
    → ((n : ℕ) → IsCodeBefore (λ xs. (length xs ≡ n) × Q xs) S write)
    → ((xs : List X) (rest : List A) → Q xs → S rest → R (write xs ++ rest))
    → IsCodeBefore (λ xs. N (length xs) × Q xs) S (λ xs. count (length xs) ++ write xs)
code-counted {N} {Q} {S} c d h = code-by_head length c (λ n hn. code-weaker (d n) (λ xs g. (g.1, g.0.1)) (λ rest s. s)) (λ xs g. g.0) (λ xs rest g s. h xs rest g.1 s)

-- elements however many, of which each begins with what passes the test, before what begins without
pub code-run : {X A : Type 0} {P : X → Type 0} {R : List A → Type 0} {f : X → List A} (p : A → Bool)
    → IsCodeBefore P R f
    → ((x : X) (rest : List A) → P x → R rest → R (f x ++ rest))
    → ((x : X) → P x → BeginsWith p (f x))
    → IsCodeBefore (AllByRecursion P) (λ rest. R rest × BeginsWithout p rest) (flat_map f)
code-run {X} {A} {P} {R} {f} p c h b = record { tells = told }
  where
    begins : (xs : List X) (rest : List A) → AllByRecursion P xs → R rest → R (flat_map f xs ++ rest)
    begins [] rest each r = r
    begins (x ∷ xs) rest each r = rw (append_assoc (f x) (flat_map f xs) rest) (h x (flat_map f xs ++ rest) each.0 (begins xs rest each.1 r))

    told : (xs ys : List X) (r t : List A) → AllByRecursion P xs → AllByRecursion P ys → R r × BeginsWithout p r → R t × BeginsWithout p t → flat_map f xs ++ r ≡ flat_map f ys ++ t → (xs ≡ ys) × (r ≡ t)
    told [] [] r t hx hy rr rt e = (refl, e)
    told [] (y ∷ ys) r t hx hy rr rt e = absurd (begins-apart p (f y) (flat_map f ys ++ t) r (b y hy.0) rr.1 (sym (append_assoc (f y) (flat_map f ys) t) ∙ sym e))
    told (x ∷ xs) [] r t hx hy rr rt e = absurd (begins-apart p (f x) (flat_map f xs ++ r) t (b x hx.0) rt.1 (sym (append_assoc (f x) (flat_map f xs) r) ∙ e))
    told (x ∷ xs) (y ∷ ys) r t hx hy rr rt e =
        let first = c.tells x y (flat_map f xs ++ r) (flat_map f ys ++ t) hx.0 hy.0 (begins xs r hx.1 rr.0) (begins ys t hy.1 rt.0)
        (sym (append_assoc (f x) (flat_map f xs) r) ∙ e ∙ append_assoc (f y) (flat_map f ys) t) in
        let rest = told xs ys r t hx.1 hy.1 rr rt first.1 in
        (cons-same first.0 rest.0, rest.1)
