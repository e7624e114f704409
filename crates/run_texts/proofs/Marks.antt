-- Marks are printed whole.
use Rattle.std.proofs.Common.{◌≡◌, ℕ, List, [], ◌∷◌, ◌++◌, map, refl, sym}
use Rattle.std.specs.Prelude.{Option, codes, decimal}
use Rattle.std.specs.List.{AllByRecursion}
use Rattle.nb_base.specs.declared.host_line.Mark.{Mark}
use Rattle.text_codes.specs.Lines.{Words}
use Rattle.text_codes.proofs.Listing.{injective-map}
use Rattle.neigh_run.specs.Report.{start_word, mark_words}
use Rattle.run_texts.specs.Told.{Small}
use Rattle.run_texts.proofs.Numbers.{numbers-told}
use Rattle.run_texts.proofs.Lists.{heads}

no_start : (x : Option ℕ) (xs : List (Option ℕ)) → [] ≡ x ∷ xs → ⊥
no_start x xs e = cc

starts-parts : (x y : Option ℕ) (xs ys : List (Option ℕ)) → x ∷ xs ≡ y ∷ ys → (x ≡ y) × (xs ≡ ys)
starts-parts x y xs ys e = (cc, cc)

behind_two : (a b x y : List ℕ) (r s : Words) → a ∷ b ∷ r ≡ x ∷ y ∷ s → r ≡ s
behind_two a b x y r s e = cc

same_marks : (x y : Mark) (xs ys : List Mark) → x.start ≡ y.start → x.lengths ≡ y.lengths → xs ≡ ys → x ∷ xs ≡ y ∷ ys
same_marks x y xs ys e f g = λ i. (let mark : Mark = record { start = e i; lengths = f i } in mark) ∷ g i

-- as many marks, at the same moments
pub marks-tell : (xs ys : List Mark) (r s : List Words) → map (λ (mark : Mark). mark.start) xs ≡ map (λ (mark : Mark). mark.start) ys → AllByRecursion (λ (mark : Mark). AllByRecursion Small mark.lengths) xs → AllByRecursion (λ (mark : Mark). AllByRecursion Small mark.lengths) ys
    → map mark_words xs ++ r ≡ map mark_words ys ++ s → (xs ≡ ys) × (r ≡ s)
marks-tell [] [] r s n h g e = (refl, e)
marks-tell [] (y ∷ ys) r s n h g e = absurd (no_start y.start (map (λ (mark : Mark). mark.start) ys) n)
marks-tell (x ∷ xs) [] r s n h g e = absurd (no_start x.start (map (λ (mark : Mark). mark.start) xs) (sym n))
marks-tell (x ∷ xs) (y ∷ ys) r s n h g e =
    let starts = starts-parts x.start y.start (map (λ (mark : Mark). mark.start) xs) (map (λ (mark : Mark). mark.start) ys) n in
    let parts = heads (mark_words x) (mark_words y) (map mark_words xs ++ r) (map mark_words ys ++ s) e in
    let lengths = (injective-map numbers-told).tells x.lengths y.lengths h.0 g.0 (behind_two (codes "mark") (start_word x.start) (codes "mark") (start_word y.start) (map decimal x.lengths) (map decimal y.lengths) parts.0) in
    let rest = marks-tell xs ys r s starts.1 h.1 g.1 parts.1 in
    (same_marks x y xs ys starts.0 lengths rest.0, rest.1)
