use Rattle.std.proofs.Common.{◌≡◌, ◌≤◌, ℕ, Option, max, ap, ◌∙◌, subst, arith}
use Rattle.std.specs.Prelude.{IfErr}
use Rattle.std.proofs.lemmas.Result.{err_from_is_err_and, IfOk-weaker, on_ok_weaker, on_err_weaker}
use Rattle.nb_base.specs.declared.params.Params.{Params}
use Rattle.nb_base.specs.declared.line.Reply.{Reply}
use Rattle.nb_bucket.specs.Bucket.{Journal, Enters, EntersNext, HasCause, Refuses}
use Rattle.nb_bucket.specs.Counting.{shown, CountsAlong, CountsRefused}
use Rattle.nb_bucket.specs.Entering.{IsEntered}
use Rattle.nb_bucket.proofs.Along.{goes_on-params}
use Rattle.nb_bucket.proofs.Calls.{refuses-by_time, refused_at, enters}
use Rattle.nb_bucket.proofs.CountsAlong.{on_refusal, counts-join, refused-along, refused-join}
use Rattle.nb_bucket.proofs.bucket.Bucket.enter.Goals as goal

pub returns-in_err-run_to-clause-refused : goal.returns-in_err-run_to-clause-refused
returns-in_err-run_to-clause-refused g c =
    let old = c.args.self.now in
    let new = c.run_to.new.self in
    let p = err_from_is_err_and c.from_residual.result c.from_residual.ensures.1 in
    let at : c.later-at.result ≡ max c.args.at old.clock = c.later-at.ensures ∙ ap (λ (j : Journal). max c.args.at j.clock) c.self.view_is in
    let le : old.clock ≤ c.later-at.result = omega (arith, at) in
    rw (p.1, p.2) (subst (λ (n : ℕ). Refuses old new n (EntersNext old.params new.lines n c.args.id c.args.op (g.C.Census.others c.args.census.now)) c.in_err-run_to.field-0.0) at
    (refuses-by_time old new c.later-at.result c.args.id c.args.op (g.C.Census.others c.args.census.now) c.in_err-run_to.field-0.0 le c.run_to.ensures.along c.in_err-run_to.ensures.refused))

pub returns-clause-entered : goal.returns-clause-entered
returns-clause-entered g c =
    let old = c.args.self.now in
    let mid = c.run_to.new.self in
    let new = c.enter_at.new.self in
    let at : c.later-at.result ≡ max c.args.at old.clock = c.later-at.ensures ∙ ap (λ (j : Journal). max c.args.at j.clock) c.self.view_is in
    IfOk-weaker c.enter_at.result (λ (x : ℕ × Reply). IsEntered mid new c.later-at.result c.args.id c.args.op x.0 x.1) (λ (x : ℕ × Reply). Enters old new c.args.at c.args.id c.args.op x.0 x.1)
    (λ x entered. enters old mid new c.args.at c.later-at.result c.args.id c.args.op x.0 x.1 at c.run_to.ensures.along entered) c.enter_at.ensures.entered

pub returns-clause-refused : goal.returns-clause-refused
returns-clause-refused g c =
    let old = c.args.self.now in
    let mid = c.run_to.new.self in
    let new = c.enter_at.new.self in
    let at : c.later-at.result ≡ max c.args.at old.clock = c.later-at.ensures ∙ ap (λ (j : Journal). max c.args.at j.clock) c.self.view_is in
    let le : old.clock ≤ c.later-at.result = omega (arith, at) in
    subst (λ (n : ℕ). IfErr c.enter_at.result (Refuses old new n (EntersNext old.params new.lines n c.args.id c.args.op (g.C.Census.others c.args.census.now)))) at
    (refused_at c.enter_at.result old mid new c.later-at.result c.args.id c.args.op (g.C.Census.others c.args.census.now) le c.run_to.ensures.along c.enter_at.ensures.unchanged
    (subst (λ (others : Option ℕ). IfErr c.enter_at.result (HasCause mid (EntersNext mid.params mid.lines c.later-at.result c.args.id c.args.op others))) c.run_to.ensures.counted.others c.enter_at.ensures.refused))

pub returns-in_err-run_to-clause-refused_counted : goal.returns-in_err-run_to-clause-refused_counted
returns-in_err-run_to-clause-refused_counted g c =
    let old = c.args.self.now in
    let new = c.run_to.new.self in
    on_refusal c.from_residual.result (CountsRefused old.params old.lines new.lines (shown g.C.Census.name g.C.Census.share g.C.Census.changes g.C.Census.looks g.C.Census.others c.args.census.now) (shown g.C.Census.name g.C.Census.share g.C.Census.changes g.C.Census.looks g.C.Census.others c.run_to.new.census)) (refused-along old.params old.lines new.lines (shown g.C.Census.name g.C.Census.share g.C.Census.changes g.C.Census.looks g.C.Census.others c.args.census.now) (shown g.C.Census.name g.C.Census.share g.C.Census.changes g.C.Census.looks g.C.Census.others c.run_to.new.census) c.run_to.ensures.counted)

pub returns-clause-counted : goal.returns-clause-counted
returns-clause-counted g c =
    let old = c.args.self.now in
    let mid = c.run_to.new.self in
    let new = c.enter_at.new.self in
    on_ok_weaker c.enter_at.result
    (λ (counted : CountsAlong mid.params mid.lines new.lines (shown g.C.Census.name g.C.Census.share g.C.Census.changes g.C.Census.looks g.C.Census.others c.run_to.new.census) (shown g.C.Census.name g.C.Census.share g.C.Census.changes g.C.Census.looks g.C.Census.others c.enter_at.new.census)).
    counts-join old.params old.lines mid.lines new.lines (shown g.C.Census.name g.C.Census.share g.C.Census.changes g.C.Census.looks g.C.Census.others c.args.census.now) (shown g.C.Census.name g.C.Census.share g.C.Census.changes g.C.Census.looks g.C.Census.others c.run_to.new.census) (shown g.C.Census.name g.C.Census.share g.C.Census.changes g.C.Census.looks g.C.Census.others c.enter_at.new.census) c.run_to.ensures.counted
    (subst (λ (p : Params). CountsAlong p mid.lines new.lines (shown g.C.Census.name g.C.Census.share g.C.Census.changes g.C.Census.looks g.C.Census.others c.run_to.new.census) (shown g.C.Census.name g.C.Census.share g.C.Census.changes g.C.Census.looks g.C.Census.others c.enter_at.new.census)) (goes_on-params old mid c.run_to.ensures.along.goes_on) counted))
    c.enter_at.ensures.counted

pub returns-clause-refused_counted : goal.returns-clause-refused_counted
returns-clause-refused_counted g c =
    let old = c.args.self.now in
    let mid = c.run_to.new.self in
    let new = c.enter_at.new.self in
    on_err_weaker c.enter_at.result
    (λ (counted : CountsRefused mid.params mid.lines new.lines (shown g.C.Census.name g.C.Census.share g.C.Census.changes g.C.Census.looks g.C.Census.others c.run_to.new.census) (shown g.C.Census.name g.C.Census.share g.C.Census.changes g.C.Census.looks g.C.Census.others c.enter_at.new.census)).
    refused-join old.params old.lines mid.lines new.lines (shown g.C.Census.name g.C.Census.share g.C.Census.changes g.C.Census.looks g.C.Census.others c.args.census.now) (shown g.C.Census.name g.C.Census.share g.C.Census.changes g.C.Census.looks g.C.Census.others c.run_to.new.census) (shown g.C.Census.name g.C.Census.share g.C.Census.changes g.C.Census.looks g.C.Census.others c.enter_at.new.census) c.run_to.ensures.counted
    (subst (λ (p : Params). CountsRefused p mid.lines new.lines (shown g.C.Census.name g.C.Census.share g.C.Census.changes g.C.Census.looks g.C.Census.others c.run_to.new.census) (shown g.C.Census.name g.C.Census.share g.C.Census.changes g.C.Census.looks g.C.Census.others c.enter_at.new.census)) (goes_on-params old mid c.run_to.ensures.along.goes_on) counted))
    c.enter_at.ensures.refused_counted
