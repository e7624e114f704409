use Rattle.std.proofs.Common.{◌≡◌, ◌≤◌, ℕ, max, ap, ◌∙◌, subst, arith}
use Rattle.std.proofs.lemmas.Result.{err_from_is_err_and}
use Rattle.nb_bucket.specs.Bucket.{Journal, ComesNext, Refuses}
use Rattle.nb_bucket.proofs.Along.{along-refuses}
use Rattle.nb_bucket.proofs.bucket.Bucket.advance.Goals as goal

pub returns-in_err-run_to-clause-refused : goal.returns-in_err-run_to-clause-refused
returns-in_err-run_to-clause-refused g c =
    let old = c.args.self.now in
    let new = c.run_to.new.self in
    let p = err_from_is_err_and c.from_residual.result c.from_residual.ensures.1 in
    let at : c.later-to.result ≡ max c.args.to old.clock = c.later-to.ensures ∙ ap (λ (j : Journal). max c.args.to j.clock) c.self.view_is in
    let le : old.clock ≤ c.later-to.result = omega (arith, at) in
    rw (p.1, p.2) (subst (λ (n : ℕ). Refuses old new n (ComesNext old.params new.lines n) c.in_err-run_to.field-0.0) at (along-refuses old new c.later-to.result c.in_err-run_to.field-0.0 le c.run_to.ensures.along c.in_err-run_to.ensures.refused))
