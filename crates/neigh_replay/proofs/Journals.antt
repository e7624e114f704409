-- The journals of a table's buckets, one after the other.
use Rattle.std.proofs.Common.{◌≡◌, ℕ, zero, suc, ◌+◌, ◌<◌, List, [], ◌∷◌, ◌++◌, length, take, refl, sym, ◌∙◌, ap, subst, arith}
use Rattle.std.specs.List.{AllByRecursion}
use Rattle.nb_base.specs.declared.line.Line.{Line}
use Rattle.nb_bucket.specs.Bucket.{Journal}
use Rattle.plain_table.specs.Table.{journals_of, bucket_at}
use Rattle.neigh_replay.specs.Verdict.{HasFewLines}

taken : (table : List Journal) (b : ℕ) → b < length table → take (suc b) (journals_of table) ≡ take b (journals_of table) ++ (bucket_at table b).lines ∷ []
taken [] b lt = absurd (omega (arith, lt))
taken (j ∷ js) zero lt = refl
taken (j ∷ js) (suc b) lt = ap (λ (xs : List (List Line)). j.lines ∷ xs) (taken js b (omega (arith, lt)))

few_with : (journals : List (List Line)) (lines : List Line) → AllByRecursion HasFewLines journals → HasFewLines lines → AllByRecursion HasFewLines (journals ++ lines ∷ [])
few_with [] lines few here = (here, tt)
few_with (journal ∷ journals) lines few here = (few.0, few_with journals lines few.1 here)

-- the journals of the first buckets, each of which has few lines
pub record AreTaken (table : List Journal) (b : ℕ) (journals : List (List Line)) : Type 0 where
  pub are : journals ≡ take b (journals_of table)
  pub few : AllByRecursion HasFewLines journals

-- one bucket more
pub taken_more : (table : List Journal) (b : ℕ) (old new : List (List Line)) (lines : List Line) → b < length table → AreTaken table b old → lines ≡ (bucket_at table b).lines → HasFewLines lines → new ≡ old ++ lines ∷ [] → AreTaken table (b + 1) new
taken_more table b old new lines lt h e few is = record {
  are =
      let next : suc b ≡ b + 1 = omega arith in
      is
      ∙ ap (λ (xs : List (List Line)). xs ++ lines ∷ []) h.are
      ∙ ap (λ (ls : List Line). take b (journals_of table) ++ ls ∷ []) e
      ∙ sym (taken table b lt)
      ∙ ap (λ (n : ℕ). take n (journals_of table)) next;
  few = subst (AllByRecursion HasFewLines) (sym is) (few_with old lines h.few few);
}

taken_whole : (table : List Journal) → take (length table) (journals_of table) ≡ journals_of table
taken_whole [] = refl
taken_whole (j ∷ js) = ap (λ (xs : List (List Line)). j.lines ∷ xs) (taken_whole js)

-- all buckets
pub taken_all : (table : List Journal) (b : ℕ) (journals : List (List Line)) → b ≡ length table → AreTaken table b journals → journals ≡ journals_of table
taken_all table b journals all h = h.are ∙ ap (λ (n : ℕ). take n (journals_of table)) all ∙ taken_whole table
