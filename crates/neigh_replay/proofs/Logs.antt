-- One sender more in the logs.
use Rattle.std.proofs.Common.{◌≡◌, ℕ, zero, suc, ◌+◌, List, [], ◌∷◌, ◌++◌, refl, sym, ◌∙◌, ap, arith}
use Rattle.nb_base.specs.declared.outcome.Outcome.{Outcome}
use Rattle.plain_table.specs.declared.answer.Answer.{Answer}
use Rattle.neigh_replay.specs.Answered.{log_by, logs_by}

logs_snoc : (p n : ℕ) (answers : List Answer) → logs_by p (suc n) answers ≡ logs_by p n answers ++ log_by (p + n) answers ∷ []
logs_snoc p zero answers = let same : p + 0 ≡ p = omega arith in rw same refl
logs_snoc p (suc n) answers =
    let next : p + suc n ≡ p + 1 + n = omega arith in
    rw next (ap (λ (logs : List (List Outcome)). log_by p answers ∷ logs) (logs_snoc (p + 1) n answers))

pub logs_more : (n : ℕ) (answers : List Answer) → logs_by 1 (n + 1) answers ≡ logs_by 1 n answers ++ log_by (n + 1) answers ∷ []
logs_more n answers =
    let sum : n + 1 ≡ suc n = omega arith in
    let flip : n + 1 ≡ 1 + n = omega arith in
    ap (λ (m : ℕ). logs_by 1 m answers) sum ∙ logs_snoc 1 n answers ∙ ap (λ (m : ℕ). logs_by 1 n answers ++ log_by m answers ∷ []) (sym flip)
