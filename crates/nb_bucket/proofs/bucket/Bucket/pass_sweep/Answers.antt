use Rattle.std.proofs.Common.{subst}
use Rattle.nb_base.specs.declared.params.Params.{Params}
use Rattle.nb_bucket.specs.Counting.{shown, CountsAlong}
use Rattle.nb_bucket.proofs.Along.{along-either, goes_on-params}
use Rattle.nb_bucket.proofs.CountsAlong.{counts-join}
use Rattle.nb_bucket.proofs.bucket.Bucket.pass_sweep.Goals as goal

pub returns-clause-along : goal.returns-clause-along
returns-clause-along g c = along-either c.push_sweep.result c.args.self.now c.push_timers.new.self c.push_sweep.new.self c.args.next c.push_timers.ensures.along c.push_sweep.ensures.pushed c.push_sweep.ensures.unchanged

pub returns-clause-counted : goal.returns-clause-counted
returns-clause-counted g c =
    let params = goes_on-params c.args.self.now c.push_timers.new.self c.push_timers.ensures.along.goes_on in
    counts-join c.args.self.now.params c.args.self.now.lines c.push_timers.new.self.lines c.push_sweep.new.self.lines (shown g.C.Census.name g.C.Census.share g.C.Census.changes g.C.Census.looks g.C.Census.others c.args.census.now) (shown g.C.Census.name g.C.Census.share g.C.Census.changes g.C.Census.looks g.C.Census.others c.push_timers.new.census) (shown g.C.Census.name g.C.Census.share g.C.Census.changes g.C.Census.looks g.C.Census.others c.push_sweep.new.census) c.push_timers.ensures.counted
    (subst (λ (p : Params). CountsAlong p c.push_timers.new.self.lines c.push_sweep.new.self.lines (shown g.C.Census.name g.C.Census.share g.C.Census.changes g.C.Census.looks g.C.Census.others c.push_timers.new.census) (shown g.C.Census.name g.C.Census.share g.C.Census.changes g.C.Census.looks g.C.Census.others c.push_sweep.new.census)) params c.push_sweep.ensures.counted)
