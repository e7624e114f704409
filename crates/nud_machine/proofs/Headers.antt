-- The fourteen bytes of an Ethernet header.
use Rattle.std.proofs.Common.{◌≡◌, ℕ, List, [], ◌∷◌, ◌++◌, length, slice_index_or, refl, sym, ◌∙◌, ap, arith}

abbrev six_of : List ℕ → List ℕ
six_of xs = slice_index_or xs 0 0 ∷ slice_index_or xs 1 0 ∷ slice_index_or xs 2 0 ∷ slice_index_or xs 3 0 ∷ slice_index_or xs 4 0 ∷ slice_index_or xs 5 0 ∷ []

six : (xs : List ℕ) → length xs ≡ 6 → xs ≡ six_of xs
six [] h = cc
six (a ∷ []) h = cc
six (a ∷ b ∷ []) h = cc
six (a ∷ b ∷ c ∷ []) h = cc
six (a ∷ b ∷ c ∷ d ∷ []) h = cc
six (a ∷ b ∷ c ∷ d ∷ e ∷ []) h = cc
six (a ∷ b ∷ c ∷ d ∷ e ∷ f ∷ []) h = refl
six (a ∷ b ∷ c ∷ d ∷ e ∷ f ∷ g ∷ more) h = absurd (omega arith)

abbrev two_of : List ℕ → List ℕ
two_of xs = slice_index_or xs 0 0 ∷ slice_index_or xs 1 0 ∷ []

two : (xs : List ℕ) → length xs ≡ 2 → xs ≡ two_of xs
two [] h = cc
two (a ∷ []) h = cc
two (a ∷ b ∷ []) h = refl
two (a ∷ b ∷ c ∷ more) h = absurd (omega arith)

pub header_is : (target source kind : List ℕ) → length target ≡ 6 → length source ≡ 6 → length kind ≡ 2 → six_of target ++ six_of source ++ two_of kind ≡ target ++ source ++ kind
header_is target source kind a b c =
    sym (ap (λ (xs : List ℕ). xs ++ source ++ kind) (six target a)
    ∙ (ap (λ (xs : List ℕ). six_of target ++ xs ++ kind) (six source b)
    ∙ ap (λ (xs : List ℕ). six_of target ++ six_of source ++ xs) (two kind c)))
