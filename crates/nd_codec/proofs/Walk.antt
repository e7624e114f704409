-- Walking over options, one after the other.
use Rattle.std.proofs.Common.{◌≡◌, ℕ, zero, suc, ◌-◌, ◌*◌, ◌<◌, ◌≤◌, ◌∙◌, ◌||◌, Bool, true, false, cond, eqb, ltb, List, [], ◌∷◌, length, get_or, take, drop, Option, Some, None, refl, sym, ap, arith}
use Rattle.std.specs.Option.{option_map, option_and_then, unwrap_or, is_some}
use Rattle.std.proofs.lemmas.List.{length-drop}
use Rattle.std.proofs.lemmas.Bool.{ltb-false, eq-eqb, ne_eqb}
use Rattle.nd_codec.specs.Options.{NdOption, option_at, options_within, options_in, options_of, has_kind, link_address_of}

pub guard_some : {A : Type 0} (b : Bool) (y x : A) → cond b None (Some y) ≡ Some x → (b ≡ false) × (y ≡ x)
guard_some true y x e = absurd cc
guard_some false y x e = (refl, cc)

pub or_false : (a b c : Bool) → (a || b || c) ≡ false → (a ≡ false) × (b ≡ false) × (c ≡ false)
or_false true b c e = absurd cc
or_false false true c e = absurd cc
or_false false false true e = absurd cc
or_false false false false e = (refl, refl, refl)

pub not_zero : (n : ℕ) → eqb n 0 ≡ false → 0 < n
not_zero zero e = absurd cc
not_zero (suc n) e = omega arith

-- what stands behind an option is shorter
pub option_at-shorter : (bytes : List ℕ) (x : NdOption × List ℕ) → option_at bytes ≡ Some x → length x.1 < length bytes
unfolding option_at
option_at-shorter bytes x e =
    let u = get_or bytes 1 0 in
    let g = guard_some (ltb (length bytes) 2 || eqb u 0 || ltb (length bytes) (8 * u)) (record { kind = get_or bytes 0 0; units = u; body = take (8 * u - 2) (drop 2 bytes) }, drop (8 * u) bytes) x e in
    let parts = or_false (ltb (length bytes) 2) (eqb u 0) (ltb (length bytes) (8 * u)) g.0 in
    let long = ltb-false (length bytes) 2 parts.0 in
    let some = not_zero u parts.1 in
    let same : length (drop (8 * u) bytes) ≡ length x.1 = ap (λ (y : NdOption × List ℕ). length y.1) g.1 in
    omega (arith, length-drop (8 * u) bytes)

option_at-nil : option_at [] ≡ None
unfolding option_at
option_at-nil = refl

same_after : (n m : ℕ) (whole : Option (NdOption × List ℕ)) → ((x : NdOption × List ℕ) → whole ≡ Some x → options_within n x.1 ≡ options_within m x.1)
    → option_and_then (λ (x : NdOption × List ℕ). option_map (λ (more : List NdOption). x.0 ∷ more) (options_within n x.1)) whole
    ≡ option_and_then (λ (x : NdOption × List ℕ). option_map (λ (more : List NdOption). x.0 ∷ more) (options_within m x.1)) whole
same_after n m None h = refl
same_after n m (Some x) h = ap (option_map (λ (more : List NdOption). x.0 ∷ more)) (h x refl)

-- as many steps as there are bytes are enough
options_within-enough : (n m : ℕ) (bytes : List ℕ) → length bytes ≤ n → length bytes ≤ m → options_within n bytes ≡ options_within m bytes
unfolding options_within
options_within-enough zero m [] p q = refl
options_within-enough zero m (b ∷ rest) p q = absurd (omega arith)
options_within-enough (suc n) m [] p q = refl
options_within-enough (suc n) zero (b ∷ rest) p q = absurd (omega arith)
options_within-enough (suc n) (suc m) (b ∷ rest) p q =
    same_after n m (option_at (b ∷ rest)) (λ x e. let s = option_at-shorter (b ∷ rest) x e in options_within-enough n m x.1 (omega arith) (omega arith))

pub options_in-nil : options_in [] ≡ Some []
unfolding options_in options_within
options_in-nil = refl

-- one option, and those behind it
pub options_in-step : (bytes : List ℕ) (o : NdOption) (behind : List ℕ) → option_at bytes ≡ Some (o, behind) → options_in bytes ≡ option_map (λ (more : List NdOption). o ∷ more) (options_in behind)
unfolding options_in options_within
options_in-step [] o behind e = let none = option_at-nil in absurd cc
options_in-step (b ∷ rest) o behind e =
    let s = option_at-shorter (b ∷ rest) (o, behind) e in
    ap (option_and_then (λ (x : NdOption × List ℕ). option_map (λ (more : List NdOption). x.0 ∷ more) (options_within (length rest) x.1))) e
    ∙ ap (option_map (λ (more : List NdOption). o ∷ more)) (options_within-enough (length rest) (length behind) behind (omega arith) (omega arith))

-- bytes are there, and no option begins with them
pub options_in-none : (bytes : List ℕ) → option_at bytes ≡ None → 0 < length bytes → options_in bytes ≡ None
unfolding options_in options_within
options_in-none [] e lt = absurd (omega arith)
options_in-none (b ∷ rest) e lt = ap (option_and_then (λ (x : NdOption × List ℕ). option_map (λ (more : List NdOption). x.0 ∷ more) (options_within (length rest) x.1))) e

is_some-map : (o : NdOption) (r : Option (List NdOption)) → is_some (option_map (λ (more : List NdOption). o ∷ more) r) ≡ is_some r
is_some-map o None = refl
is_some-map o (Some os) = refl

pub is_options-step : (bytes : List ℕ) (o : NdOption) (behind : List ℕ) → Some (o, behind) ≡ option_at bytes → is_some (options_in bytes) ≡ is_some (options_in behind)
is_options-step bytes o behind e = ap is_some (options_in-step bytes o behind (sym e)) ∙ is_some-map o (options_in behind)

pub is_options-none : (bytes : List ℕ) → None ≡ option_at bytes → 0 < length bytes → is_some (options_in bytes) ≡ false
is_options-none bytes e lt = ap is_some (options_in-none bytes (sym e) lt)

pub is_options-nil : (bytes : List ℕ) → length bytes ≡ 0 → is_some (options_in bytes) ≡ true
is_options-nil [] e = ap is_some options_in-nil
is_options-nil (b ∷ rest) e = absurd (omega arith)

unwrap-map : (o : NdOption) (r : Option (List NdOption)) → is_some r ≡ true → unwrap_or (option_map (λ (more : List NdOption). o ∷ more) r) [] ≡ o ∷ unwrap_or r []
unwrap-map o None e = absurd cc
unwrap-map o (Some os) e = refl

-- where bytes are options, those behind the first are too
pub options_of-step : (bytes : List ℕ) (o : NdOption) (behind : List ℕ) → Some (o, behind) ≡ option_at bytes → is_some (options_in bytes) ≡ true
    → (options_of bytes ≡ o ∷ options_of behind) × (is_some (options_in behind) ≡ true)
options_of-step bytes o behind e h =
    let more = sym (is_options-step bytes o behind e) ∙ h in
    (ap (λ r. unwrap_or r []) (options_in-step bytes o behind (sym e)) ∙ unwrap-map o (options_in behind) more, more)

pub options_of-stop : (bytes : List ℕ) → None ≡ option_at bytes → is_some (options_in bytes) ≡ true → options_of bytes ≡ []
options_of-stop [] e h = ap (λ (r : Option (List NdOption)). unwrap_or r []) options_in-nil
options_of-stop (b ∷ rest) e h = let none = is_options-none (b ∷ rest) e (omega arith) in absurd cc

-- ---- one option at the front

pub has_kind-here : (kind : ℕ) (o : NdOption) (more : List NdOption) → o.kind ≡ kind → has_kind kind (o ∷ more) ≡ true
has_kind-here kind o more e = rw (eq-eqb o.kind kind e) refl

pub has_kind-behind : (kind : ℕ) (o : NdOption) (more : List NdOption) → (o.kind ≡ kind → ⊥) → has_kind kind (o ∷ more) ≡ has_kind kind more
has_kind-behind kind o more e = rw (ne_eqb o.kind kind e) refl

pub link-here : (kind : ℕ) (o : NdOption) (more : List NdOption) → o.kind ≡ kind → o.units ≡ 1 → link_address_of kind (o ∷ more) ≡ Some (record { 0 = o.body })
link-here kind o more e u = rw (eq-eqb o.kind kind e, eq-eqb o.units 1 u) refl

pub link-behind_kind : (kind : ℕ) (o : NdOption) (more : List NdOption) → (o.kind ≡ kind → ⊥) → link_address_of kind (o ∷ more) ≡ link_address_of kind more
link-behind_kind kind o more e = rw (ne_eqb o.kind kind e) refl

pub link-behind_units : (kind : ℕ) (o : NdOption) (more : List NdOption) → o.kind ≡ kind → (o.units ≡ 1 → ⊥) → link_address_of kind (o ∷ more) ≡ link_address_of kind more
link-behind_units kind o more e u = rw (eq-eqb o.kind kind e, ne_eqb o.units 1 u) refl
