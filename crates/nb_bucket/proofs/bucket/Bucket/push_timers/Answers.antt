use Rattle.std.proofs.Common.{[], ◌∷◌, length, sym, ap, ◌∙◌, subst, arith}
use Rattle.std.proofs.lemmas.List.{length-append}
use Rattle.nb_base.specs.declared.params.Params.{Params}
use Rattle.nb_bucket.specs.Bucket.{Journal}
use Rattle.nb_bucket.specs.Counting.{shown, CountsAlong}
use Rattle.nb_bucket.specs.Going.{GoesAlong}
use Rattle.nb_bucket.proofs.Along.{along-same, along-one_more, goes_on-params}
use Rattle.nb_bucket.proofs.CountsAlong.{counts-same, counts-join}
use Rattle.nb_bucket.proofs.bucket.Bucket.push_timers.Goals as goal

pub loop-init : goal.loop-init
loop-init g c = record {
  along = along-same c.args.self.now c.args.until;
  next = c.requires.next;
  counted = counts-same c.args.self.now.params c.args.self.now.lines (shown g.C.Census.name g.C.Census.share g.C.Census.changes g.C.Census.looks g.C.Census.others c.args.census.now) c.requires.census;
}

pub loop-preserved : goal.loop-preserved
loop-preserved g c =
    let params = goes_on-params c.args.self.now c.loop.self c.loop.invariant.along.goes_on in
    record {
      along = along-one_more c.args.self.now c.loop.self c.push_timer.new.self c.args.until c.loop.invariant.along (c.in_ok-push_timer.ensures.pushed c.if-branch.true);
      next = c.in_ok-push_timer.ensures.next c.if-branch.true;
      counted = counts-join c.args.self.now.params c.args.self.now.lines c.loop.self.lines c.push_timer.new.self.lines (shown g.C.Census.name g.C.Census.share g.C.Census.changes g.C.Census.looks g.C.Census.others c.args.census.now) (shown g.C.Census.name g.C.Census.share g.C.Census.changes g.C.Census.looks g.C.Census.others c.loop.census) (shown g.C.Census.name g.C.Census.share g.C.Census.changes g.C.Census.looks g.C.Census.others c.push_timer.new.census) c.loop.invariant.counted
          (subst (λ (p : Params). CountsAlong p c.loop.self.lines c.push_timer.new.self.lines (shown g.C.Census.name g.C.Census.share g.C.Census.changes g.C.Census.looks g.C.Census.others c.loop.census) (shown g.C.Census.name g.C.Census.share g.C.Census.changes g.C.Census.looks g.C.Census.others c.push_timer.new.census)) params c.push_timer.ensures.counted);
    }

pub returns-in_err-push_timer-clause-counted : goal.returns-in_err-push_timer-clause-counted
returns-in_err-push_timer-clause-counted g c =
    let params = goes_on-params c.args.self.now c.loop.self c.loop.invariant.along.goes_on in
    counts-join c.args.self.now.params c.args.self.now.lines c.loop.self.lines c.push_timer.new.self.lines (shown g.C.Census.name g.C.Census.share g.C.Census.changes g.C.Census.looks g.C.Census.others c.args.census.now) (shown g.C.Census.name g.C.Census.share g.C.Census.changes g.C.Census.looks g.C.Census.others c.loop.census) (shown g.C.Census.name g.C.Census.share g.C.Census.changes g.C.Census.looks g.C.Census.others c.push_timer.new.census) c.loop.invariant.counted
    (subst (λ (p : Params). CountsAlong p c.loop.self.lines c.push_timer.new.self.lines (shown g.C.Census.name g.C.Census.share g.C.Census.changes g.C.Census.looks g.C.Census.others c.loop.census) (shown g.C.Census.name g.C.Census.share g.C.Census.changes g.C.Census.looks g.C.Census.others c.push_timer.new.census)) params c.push_timer.ensures.counted)

pub loop-smaller : goal.loop-smaller
loop-smaller g c =
    let one = c.in_ok-push_timer.ensures.pushed c.if-branch.true in
    let grown = ap (λ (j : Journal). length j.lines) one.grown ∙ length-append c.loop.self.lines (one.line ∷ []) in
    let limit = ap (λ (j : Journal). j.limit) one.grown in
    let room = one.room in
    omega (arith, grown, limit, room)

pub returns-clause-lawful : goal.returns-clause-lawful
returns-clause-lawful g c =
    λ le lt. c.in_ok-push_timer.ensures.lawful c.if-branch.false (omega (arith, ap (λ (j : Journal). j.clock) (c.in_ok-push_timer.ensures.same c.if-branch.false), c.loop.invariant.along.within, le)) lt

pub returns-clause-along : goal.returns-clause-along
returns-clause-along g c = subst (λ (j : Journal). GoesAlong c.args.self.now j c.args.until) (sym (c.in_ok-push_timer.ensures.same c.if-branch.false)) c.loop.invariant.along

pub returns-clause-counted : goal.returns-clause-counted
returns-clause-counted g c =
    let params = goes_on-params c.args.self.now c.loop.self c.loop.invariant.along.goes_on in
    counts-join c.args.self.now.params c.args.self.now.lines c.loop.self.lines c.push_timer.new.self.lines (shown g.C.Census.name g.C.Census.share g.C.Census.changes g.C.Census.looks g.C.Census.others c.args.census.now) (shown g.C.Census.name g.C.Census.share g.C.Census.changes g.C.Census.looks g.C.Census.others c.loop.census) (shown g.C.Census.name g.C.Census.share g.C.Census.changes g.C.Census.looks g.C.Census.others c.push_timer.new.census) c.loop.invariant.counted
    (subst (λ (p : Params). CountsAlong p c.loop.self.lines c.push_timer.new.self.lines (shown g.C.Census.name g.C.Census.share g.C.Census.changes g.C.Census.looks g.C.Census.others c.loop.census) (shown g.C.Census.name g.C.Census.share g.C.Census.changes g.C.Census.looks g.C.Census.others c.push_timer.new.census)) params c.push_timer.ensures.counted)
