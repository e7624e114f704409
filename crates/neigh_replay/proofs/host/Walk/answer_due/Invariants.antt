-- What was answered, and what is to be, is what was due.
use Rattle.std.proofs.Common.{◌≡◌, length}
use Rattle.neigh_replay.specs.Hosting.{at_point, after_due}
use Rattle.neigh_replay.proofs.host.Walk.answer_due.Given as goal

abbrev pub invariant-loop-job : goal.invariant-loop-job
invariant-loop-job l =
    after_due l.plan l.at (at_point l.self.proxies l.self.answers.now l.self.lines) ≡ after_due l.plan l.at (at_point l.fn.self.proxies l.fn.self.answers.now l.fn.self.lines)

abbrev pub decreases-loop-job : goal.decreases-loop-job
decreases-loop-job l = length l.self.proxies.jobs
