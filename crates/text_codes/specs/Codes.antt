-- Prefix codes: writers whose text tells what was written and where it ends. The notion is the usual one, as for Huffman codes; here of lists of anything.
use Rattle.std.specs.Prelude.{◌≡◌, Bool, true, false, List, [], ◌∷◌, ◌++◌, ⊤}

-- f is a prefix code: where what it writes of a value stands in front, the whole list tells that value and what stands behind. P holds of the values that are meant, R of what may stand behind
pub record IsCodeBefore {X A : Type 0} (P : X → Type 0) (R : List A → Type 0) (f : X → List A) : Type 0 where
  pub tells : (x y : X) (r s : List A) → P x → P y → R r → R s → f x ++ r ≡ f y ++ s → (x ≡ y) × (r ≡ s)

-- the same whatever stands behind
abbrev pub IsCode : {X A : Type 0} → (X → Type 0) → (X → List A) → Type 0
IsCode {X} {A} P f = IsCodeBefore P (λ (rest : List A). ⊤) f

-- what f gives of a value tells it
pub record IsInjective {X Y : Type 0} (P : X → Type 0) (f : X → Y) : Type 0 where
  pub tells : (x y : X) → P x → P y → f x ≡ f y → x ≡ y

-- nothing, or an element at which the test fails
abbrev pub BeginsWithout : {A : Type 0} → (A → Bool) → List A → Type 0
BeginsWithout p [] = ⊤
BeginsWithout p (a ∷ rest) = p a ≡ false

-- each element of a list is meant where it stands, told by a state that goes on at each
abbrev pub EachFrom : {S X : Type 0} → (S → X → S) → (S → X → Type 0) → S → List X → Type 0
EachFrom next P s [] = ⊤
EachFrom next P s (x ∷ xs) = P s x × EachFrom next P (next s x) xs

-- not nothing, and the first element passes the test
abbrev pub BeginsWith : {A : Type 0} → (A → Bool) → List A → Type 0
BeginsWith p [] = ⊥
BeginsWith p (a ∷ rest) = p a ≡ true
