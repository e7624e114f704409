-- The options that are read are those of the grammar.
use Rattle.std.proofs.Common.{◌≡◌, ℕ, zero, suc, ◌+◌, ◌-◌, ◌*◌, ◌<◌, ◌≤◌, ◌∙◌, ◌||◌, Bool, true, false, cond, eqb, ltb, List, [], ◌∷◌, ◌++◌, length, get_or, take, drop, Option, Some, None, refl, sym, ap, subst, arith}
use Rattle.std.specs.Option.{option_map}
use Rattle.std.specs.List.{flat_map, AllByRecursion}
use Rattle.std.proofs.lemmas.Bool.{ltb-false, le-ltb, ne_eqb}
use Rattle.std.proofs.lemmas.List.{length-append, length-drop, length-take-le, take_at, drop_at, drop-drop, take-append-drop}
use Rattle.std.proofs.lemmas.List.Concat.{flat_map-cons}
use Rattle.nd_codec.specs.Options.{NdOption, IsOption, option_bytes, AreOptions, option_at, options_in}
use Rattle.nd_codec.proofs.Walk.{guard_some, or_false, not_zero, option_at-shorter, options_in-nil, options_in-step, options_in-none}

abbrev made : ℕ → ℕ → List ℕ → NdOption
made kind units body = record { kind = kind; units = units; body = body }

chosen : (a b c : Bool) (x : NdOption × List ℕ) → a ≡ false → b ≡ false → c ≡ false → cond (a || b || c) None (Some x) ≡ Some x
chosen true b c x e f g = absurd cc
chosen false true c x e f g = absurd cc
chosen false false true x e f g = absurd cc
chosen false false false x e f g = refl

-- an option that is spelled is read, with what stands behind it
option_at-spelled : (o : NdOption) (rest : List ℕ) → IsOption o → option_at (option_bytes o ++ rest) ≡ Some (o, rest)
unfolding option_at
option_at-spelled o rest fills =
    let bytes : List ℕ = option_bytes o ++ rest in
    let u : ℕ = o.units in
    let long : length (option_bytes o ++ rest) ≡ 2 + length o.body + length rest = omega (arith, length-append o.body rest) in
    chosen (ltb (length bytes) 2) (eqb u 0) (ltb (length bytes) (8 * u)) (made o.kind u (take (8 * u - 2) (o.body ++ rest)), drop (8 * u) bytes)
    (le-ltb (length bytes) 2 (omega arith)) (ne_eqb u 0 (λ e. omega arith)) (le-ltb (length bytes) (8 * u) (omega arith))
    ∙ ap (λ (y : List ℕ). Some (made o.kind u y, drop (8 * u) bytes)) (take_at o.body rest (8 * u - 2) (omega arith))
    ∙ ap (λ (y : List ℕ). Some (o, y)) (drop_at (option_bytes o) rest (8 * u) (omega arith))

all_again : (os : List NdOption) → AllByRecursion IsOption os → options_in (flat_map option_bytes os) ≡ Some os
all_again [] h = options_in-nil
all_again (o ∷ os) h =
    ap options_in (flat_map-cons option_bytes o os)
    ∙ options_in-step (option_bytes o ++ flat_map option_bytes os) o (flat_map option_bytes os) (option_at-spelled o (flat_map option_bytes os) h.0)
    ∙ ap (option_map (λ (more : List NdOption). o ∷ more)) (all_again os h.1)

-- bytes that are options are read as these
pub options-only : (bytes : List ℕ) (os : List NdOption) → AreOptions bytes os → options_in bytes ≡ Some os
options-only bytes os h = ap options_in h.joined ∙ all_again os h.each

two_bytes : (bytes : List ℕ) → 2 ≤ length bytes → bytes ≡ get_or bytes 0 0 ∷ get_or bytes 1 0 ∷ drop 2 bytes
two_bytes [] le = absurd (omega arith)
two_bytes (a ∷ []) le = absurd (omega arith)
two_bytes (a ∷ b ∷ more) le = refl

-- an option that is read stands in front of the rest, and fills its length
option_at-parts : (bytes : List ℕ) (x : NdOption × List ℕ) → option_at bytes ≡ Some x → (bytes ≡ option_bytes x.0 ++ x.1) × IsOption x.0
unfolding option_at
option_at-parts bytes x e =
    let k : ℕ = get_or bytes 0 0 in
    let u : ℕ = get_or bytes 1 0 in
    let body : List ℕ = take (8 * u - 2) (drop 2 bytes) in
    let g = guard_some (ltb (length bytes) 2 || eqb u 0 || ltb (length bytes) (8 * u)) (made k u body, drop (8 * u) bytes) x e in
    let parts = or_false (ltb (length bytes) 2) (eqb u 0) (ltb (length bytes) (8 * u)) g.0 in
    let long = ltb-false (length bytes) 2 parts.0 in
    let some = not_zero u parts.1 in
    let whole = ltb-false (length bytes) (8 * u) parts.2 in
    let size : 8 * u ≡ 2 + (8 * u - 2) = omega arith in
    let behind : drop (8 * u) bytes ≡ drop (8 * u - 2) (drop 2 bytes) = ap (λ n. drop n bytes) size ∙ sym (drop-drop (8 * u - 2) 2 bytes) in
    let rest : drop 2 bytes ≡ body ++ drop (8 * u) bytes = sym (ap (λ (r : List ℕ). body ++ r) behind ∙ take-append-drop (8 * u - 2) (drop 2 bytes)) in
    let filled : length body ≡ 8 * u - 2 = length-take-le (8 * u - 2) (drop 2 bytes) (omega (arith, length-drop 2 bytes)) in
    let fills : length body + 2 ≡ 8 * u = omega arith in
    subst (λ (y : NdOption × List ℕ). (bytes ≡ option_bytes y.0 ++ y.1) × IsOption y.0) g.1
    (two_bytes bytes long ∙ ap (λ (r : List ℕ). k ∷ u ∷ r) rest, fills)

split_map : (o : NdOption) (r : Option (List NdOption)) (os : List NdOption) → option_map (λ (more : List NdOption). o ∷ more) r ≡ Some os → (more : List NdOption) × (r ≡ Some more) × (os ≡ o ∷ more)
split_map o None os e = absurd cc
split_map o (Some more) os e = (more, refl, cc)

first_cases : (bytes : List ℕ) (os : List NdOption) (r : Option (NdOption × List ℕ)) → option_at bytes ≡ r → 0 < length bytes → options_in bytes ≡ Some os
    → ((behind : List ℕ) (more : List NdOption) → length behind < length bytes → options_in behind ≡ Some more → AreOptions behind more) → AreOptions bytes os
first_cases bytes os None first some e later = absurd (let none = options_in-none bytes first some in cc)
first_cases bytes os (Some x) first some e later =
    let step = options_in-step bytes x.0 x.1 first in
    let split = split_map x.0 (options_in x.1) os (sym step ∙ e) in
    let behind = later x.1 split.0 (option_at-shorter bytes x first) split.1 in
    let parts = option_at-parts bytes x first in
    record {
      joined = parts.0 ∙ ap (λ (r : List ℕ). option_bytes x.0 ++ r) behind.joined ∙ sym (flat_map-cons option_bytes x.0 split.0) ∙ ap (flat_map option_bytes) (sym split.2);
      each = subst (λ (v : List NdOption). AllByRecursion IsOption v) (sym split.2) (parts.1, behind.each);
    }

nothing : (os : List NdOption) → options_in [] ≡ Some os → [] ≡ os
nothing os e = let none = options_in-nil in cc

found_within : (n : ℕ) (bytes : List ℕ) (os : List NdOption) → length bytes ≤ n → options_in bytes ≡ Some os → AreOptions bytes os
found_within zero [] os le e = subst (λ (v : List NdOption). AreOptions [] v) (nothing os e) (record { joined = refl; each = tt })
found_within zero (b ∷ rest) os le e = absurd (omega arith)
found_within (suc n) [] os le e = subst (λ (v : List NdOption). AreOptions [] v) (nothing os e) (record { joined = refl; each = tt })
found_within (suc n) (b ∷ rest) os le e =
    first_cases (b ∷ rest) os (option_at (b ∷ rest)) refl (omega arith) e (λ behind more lt h. found_within n behind more (omega arith) h)

-- options that are read are what the bytes are
pub options-found : (bytes : List ℕ) (os : List NdOption) → options_in bytes ≡ Some os → AreOptions bytes os
options-found bytes os e = found_within (length bytes) bytes os (omega arith) e
