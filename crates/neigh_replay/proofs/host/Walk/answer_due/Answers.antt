use Rattle.std.proofs.Common.{◌∙◌}
use Rattle.neigh_replay.proofs.Hosting.{nothing_due}
use Rattle.neigh_replay.proofs.host.Walk.answer_due.Goals as goal

pub returns : goal.returns
returns c =
    nothing_due c.args.plan.now c.args.at c.loop-job.self.proxies c.due.new.self c.loop-job.self.answers.now c.loop-job.self.lines c.due.ensures.others c.in_default.ensures.jobs (c.due.ensures.none.0 c.in_default.is)
    ∙ c.loop-job.invariant
