use Rattle.std.proofs.Common.{◌≤◌, ◌<◌, subst, arith, rules}
use Rattle.std.proofs.lemmas.Result.{err_from_is_err_and}
use Rattle.nb_base.specs.declared.params.Params.{Params}
use Rattle.nb_bucket.specs.Counting.{shown, CountsAlong}
use Rattle.nb_bucket.proofs.Along.{along-same, along-then, along-further, cause-further, goes_on-params, on_ok-then}
use Rattle.nb_bucket.proofs.CountsAlong.{counts-same, counts-join}
use Rattle.nb_bucket.proofs.bucket.Bucket.run_to.Goals as goal

pub loop-self-init : goal.loop-self-init
loop-self-init g c = record {
  along = along-same c.args.self.now c.args.to;
  next = c.next_sweep-next.ensures;
  counted = counts-same c.args.self.now.params c.args.self.now.lines (shown g.C.Census.name g.C.Census.share g.C.Census.changes g.C.Census.looks g.C.Census.others c.args.census.now) c.requires.census;
}

pub returns-in_err-next-clause-along : goal.returns-in_err-next-clause-along
returns-in_err-next-clause-along g c =
    let le : c.loop-self.next ≤ c.args.to = search rules in
    along-then c.args.self.now c.loop-self.self c.pass_sweep.new.self c.args.to c.args.to (omega arith) c.loop-self.invariant.along
    (along-further c.loop-self.self c.pass_sweep.new.self c.loop-self.next c.args.to le c.pass_sweep.ensures.along)

pub returns-in_err-next-clause-refused : goal.returns-in_err-next-clause-refused
returns-in_err-next-clause-refused g c =
    let p = err_from_is_err_and c.from_residual.result c.from_residual.ensures.1 in
    let le : c.loop-self.next ≤ c.args.to = search rules in
    rw (p.1, p.2) (cause-further c.pass_sweep.new.self c.loop-self.next c.args.to _ le c.in_err-next.ensures.refused)

pub returns-in_err-next-clause-counted : goal.returns-in_err-next-clause-counted
returns-in_err-next-clause-counted g c =
    let params = goes_on-params c.args.self.now c.loop-self.self c.loop-self.invariant.along.goes_on in
    counts-join c.args.self.now.params c.args.self.now.lines c.loop-self.self.lines c.pass_sweep.new.self.lines (shown g.C.Census.name g.C.Census.share g.C.Census.changes g.C.Census.looks g.C.Census.others c.args.census.now) (shown g.C.Census.name g.C.Census.share g.C.Census.changes g.C.Census.looks g.C.Census.others c.loop-self.census) (shown g.C.Census.name g.C.Census.share g.C.Census.changes g.C.Census.looks g.C.Census.others c.pass_sweep.new.census) c.loop-self.invariant.counted
    (subst (λ (p : Params). CountsAlong p c.loop-self.self.lines c.pass_sweep.new.self.lines (shown g.C.Census.name g.C.Census.share g.C.Census.changes g.C.Census.looks g.C.Census.others c.loop-self.census) (shown g.C.Census.name g.C.Census.share g.C.Census.changes g.C.Census.looks g.C.Census.others c.pass_sweep.new.census)) params c.pass_sweep.ensures.counted)

pub loop-self-preserved : goal.loop-self-preserved
loop-self-preserved g c =
    let le : c.loop-self.next ≤ c.args.to = search rules in
    let params = goes_on-params c.args.self.now c.loop-self.self c.loop-self.invariant.along.goes_on in
    record {
      along = along-then c.args.self.now c.loop-self.self c.pass_sweep.new.self c.args.to c.args.to (omega arith) c.loop-self.invariant.along
          (along-further c.loop-self.self c.pass_sweep.new.self c.loop-self.next c.args.to le c.pass_sweep.ensures.along);
      next = c.in_ok-next.ensures.next;
      counted = counts-join c.args.self.now.params c.args.self.now.lines c.loop-self.self.lines c.pass_sweep.new.self.lines (shown g.C.Census.name g.C.Census.share g.C.Census.changes g.C.Census.looks g.C.Census.others c.args.census.now) (shown g.C.Census.name g.C.Census.share g.C.Census.changes g.C.Census.looks g.C.Census.others c.loop-self.census) (shown g.C.Census.name g.C.Census.share g.C.Census.changes g.C.Census.looks g.C.Census.others c.pass_sweep.new.census) c.loop-self.invariant.counted
          (subst (λ (p : Params). CountsAlong p c.loop-self.self.lines c.pass_sweep.new.self.lines (shown g.C.Census.name g.C.Census.share g.C.Census.changes g.C.Census.looks g.C.Census.others c.loop-self.census) (shown g.C.Census.name g.C.Census.share g.C.Census.changes g.C.Census.looks g.C.Census.others c.pass_sweep.new.census)) params c.pass_sweep.ensures.counted);
    }

pub returns-clause-along : goal.returns-clause-along
returns-clause-along g c = along-then c.args.self.now c.loop-self.self c.push_timers.new.self c.args.to c.args.to (omega arith) c.loop-self.invariant.along c.push_timers.ensures.along

pub returns-clause-lawful : goal.returns-clause-lawful
returns-clause-lawful g c =
    let lt : c.args.to < c.loop-self.next = search rules in
    let le : c.loop-self.self.clock ≤ c.args.to = let within = c.loop-self.invariant.along.within in let clock = c.requires.clock in omega (arith, within, clock) in
    on_ok-then c.push_timers.result (λ lawful. lawful le lt) c.push_timers.ensures.lawful

pub returns-clause-counted : goal.returns-clause-counted
returns-clause-counted g c =
    let params = goes_on-params c.args.self.now c.loop-self.self c.loop-self.invariant.along.goes_on in
    counts-join c.args.self.now.params c.args.self.now.lines c.loop-self.self.lines c.push_timers.new.self.lines (shown g.C.Census.name g.C.Census.share g.C.Census.changes g.C.Census.looks g.C.Census.others c.args.census.now) (shown g.C.Census.name g.C.Census.share g.C.Census.changes g.C.Census.looks g.C.Census.others c.loop-self.census) (shown g.C.Census.name g.C.Census.share g.C.Census.changes g.C.Census.looks g.C.Census.others c.push_timers.new.census) c.loop-self.invariant.counted
    (subst (λ (p : Params). CountsAlong p c.loop-self.self.lines c.push_timers.new.self.lines (shown g.C.Census.name g.C.Census.share g.C.Census.changes g.C.Census.looks g.C.Census.others c.loop-self.census) (shown g.C.Census.name g.C.Census.share g.C.Census.changes g.C.Census.looks g.C.Census.others c.push_timers.new.census)) params c.push_timers.ensures.counted)
