-- Splitting and joining undo each other: what n parts of a text spell, and what a text of n parts spells.
use Rattle.std.proofs.Common.{◌≡◌, ℕ, ◌<◌, false, eqb, List, [], ◌∷◌, length, map, Option, Some, None, refl, sym, ap, ◌∙◌, arith, inl, inr}
use Rattle.std.specs.Option.{option_and_then, option_map}
use Rattle.std.specs.List.{slice_split, join_with_byte, All, AllByRecursion}
use Rattle.std.proofs.lemmas.Bool.{eq-eqb}
use Rattle.std.proofs.lemmas.Bool.Decides.{eqb_tells}
use Rattle.std.proofs.lemmas.List.Splits.{slice_split_none, slice_split_at, join_with_byte-slice_split}
use Rattle.nb_base.specs.Parts.{all_spelled, exactly, parts_spelled, IsJoined}
use Rattle.nb_base.proofs.Spelled.{exactly-same}

-- no byte of the part is the separator
abbrev pub Lacks : ℕ → List ℕ → Type 0
Lacks separator part = All (λ b. eqb b separator ≡ false) part

-- each part that spells something lacks the separator
abbrev pub Shuns : (List ℕ → Option ℕ) → ℕ → Type 0
Shuns f separator = (part : List ℕ) (value : ℕ) → f part ≡ Some value → Lacks separator part

pub split-join : (separator : ℕ) (parts : List (List ℕ)) → 0 < length parts → AllByRecursion (Lacks separator) parts → slice_split (λ b. eqb b separator) (join_with_byte separator parts) ≡ parts
split-join separator [] more h = absurd (omega arith)
split-join separator (part ∷ []) more h = slice_split_none (λ b. eqb b separator) part h.0
split-join separator (part ∷ next ∷ parts) more h =
    slice_split_at (λ b. eqb b separator) part separator (join_with_byte separator (next ∷ parts)) h.0 (eq-eqb separator separator refl) ∙ ap (λ (xs : List (List ℕ)). part ∷ xs) (split-join separator (next ∷ parts) (omega arith) h.1)

-- a first value and the values behind it
record HasFirst (first : Option ℕ) (rest : Option (List ℕ)) (values : List ℕ) : Type 0 where
  head : ℕ
  tail : List ℕ
  at_head : first ≡ Some head
  at_tail : rest ≡ Some tail
  whole : values ≡ head ∷ tail

has_first : (first : Option ℕ) (rest : Option (List ℕ)) (values : List ℕ) → option_and_then (λ x. option_map (λ xs. x ∷ xs) rest) first ≡ Some values → HasFirst first rest values
has_first None rest values e = absurd cc
has_first (Some x) None values e = absurd cc
has_first (Some x) (Some xs) values e = record { head = x; tail = xs; at_head = refl; at_tail = refl; whole = cc }

each-from_spelled : (f : List ℕ → Option ℕ) (parts : List (List ℕ)) (values : List ℕ) → all_spelled f parts ≡ Some values → map f parts ≡ map Some values
each-from_spelled f [] [] e = refl
each-from_spelled f [] (v ∷ values) e = absurd cc
each-from_spelled f (part ∷ parts) values e =
    let h = has_first (f part) (all_spelled f parts) values e in
    let rest : map f parts ≡ map Some h.tail = each-from_spelled f parts h.tail h.at_tail in
    rw h.whole (pair h.at_head rest)
  where
    pair : {x y : Option ℕ} {xs ys : List (Option ℕ)} → x ≡ y → xs ≡ ys → (x ∷ xs) ≡ (y ∷ ys)
    pair p q = cc

pub spelled-from_each : (f : List ℕ → Option ℕ) (parts : List (List ℕ)) (values : List ℕ) → map f parts ≡ map Some values → all_spelled f parts ≡ Some values
spelled-from_each f [] [] e = refl
spelled-from_each f [] (v ∷ values) e = absurd cc
spelled-from_each f (part ∷ parts) [] e = absurd cc
spelled-from_each f (part ∷ parts) (v ∷ values) e =
    let first : f part ≡ Some v = cc in
    let rest : map f parts ≡ map Some values = cc in
    rw (first, spelled-from_each f parts values rest) refl

lacking : (f : List ℕ → Option ℕ) (separator : ℕ) → Shuns f separator → (parts : List (List ℕ)) (values : List ℕ) → map f parts ≡ map Some values → AllByRecursion (Lacks separator) parts
lacking f separator shuns [] values e = tt
lacking f separator shuns (part ∷ parts) [] e = absurd cc
lacking f separator shuns (part ∷ parts) (v ∷ values) e =
    let first : f part ≡ Some v = cc in
    let rest : map f parts ≡ map Some values = cc in
    (shuns part v first, lacking f separator shuns parts values rest)

as_many : (f : List ℕ → Option ℕ) (parts : List (List ℕ)) (values : List ℕ) → map f parts ≡ map Some values → length parts ≡ length values
as_many f [] [] e = refl
as_many f [] (v ∷ values) e = absurd cc
as_many f (part ∷ parts) [] e = absurd cc
as_many f (part ∷ parts) (v ∷ values) e =
    let rest : map f parts ≡ map Some values = cc in
    omega (arith, as_many f parts values rest)

counted : (n : ℕ) (r : Option (List ℕ)) (values : List ℕ) → option_and_then (exactly n) r ≡ Some values → (r ≡ Some values) × (length values ≡ n)
counted n None values e = absurd cc
counted n (Some xs) values e =
    elim (eqb_tells (length xs) n) [
      | inl same ↦ (let e' = rw same.0 at e in (e', ap length (unpack (sym e')) ∙ same.1))
      | inr apart ↦ absurd (let e' = rw apart.0 at e in cc)
    ]
  where
    unpack : {xs ys : List ℕ} → Some xs ≡ Some ys → xs ≡ ys
    unpack p = cc

-- a text of which n parts spell values is those parts joined
pub found_parts : (f : List ℕ → Option ℕ) (n separator : ℕ) (text values : List ℕ) → parts_spelled f n separator text ≡ Some values → IsJoined f separator text values × (length values ≡ n)
found_parts f n separator text values e =
    let h = counted n (all_spelled f (slice_split (λ b. eqb b separator) text)) values e in (
      record {
        parts = slice_split (λ b. eqb b separator) text;
        joined = sym (join_with_byte-slice_split separator text);
        each = each-from_spelled f _ values h.0;
      },
      h.1,
    )

-- and a text that is such parts joined spells their values
pub joined_parts : (f : List ℕ → Option ℕ) (n separator : ℕ) → 0 < n → Shuns f separator → (text values : List ℕ) → IsJoined f separator text values → length values ≡ n → parts_spelled f n separator text ≡ Some values
joined_parts f n separator some shuns text values h size =
    let many : 0 < length h.parts = omega (arith, as_many f h.parts values h.each) in
    let split : slice_split (λ b. eqb b separator) text ≡ h.parts = ap (slice_split (λ b. eqb b separator)) h.joined ∙ split-join separator h.parts many (lacking f separator shuns h.parts values h.each) in
    rw (split, spelled-from_each f h.parts values h.each) (exactly-same n values size)
