-- The words of an outcome that went by the bucket's lock.
use Rattle.std.proofs.Common.{◌≡◌, ℕ, ◌∷◌, ◌++◌, refl}
use Rattle.std.specs.Prelude.{decimal}
use Rattle.nb_base.specs.declared.line.Reply.{Reply}
use Rattle.nb_base.specs.declared.outcome.Why.{Why}
use Rattle.nb_base.specs.declared.outcome.Why.TheVariants as why
use Rattle.nb_base.specs.declared.outcome.Outcome.TheVariants as outcome
use Rattle.nb_base.specs.declared.plan.SendItem.{SendItem}
use Rattle.neigh_run.specs.Spelling.{reply_words}
use Rattle.neigh_run.specs.Report.{outcome_words}
use Rattle.neigh_report.specs.Spaced.{why_words}

pub slow_words : (item : SendItem) (w : Why) (place : ℕ) (r : Reply) → outcome_words item (outcome.Slow w place r) ≡ why_words w ++ decimal place ∷ reply_words r
slow_words item why.Inline place r = refl
slow_words item why.First place r = refl
slow_words item (why.Suspect number) place r = refl
slow_words item (why.Again tries) place r = refl
