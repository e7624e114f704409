use Rattle.std.proofs.Common.{◌-◌, ◌+◌}
use Rattle.nb_bucket.specs.Counting.{shown, CountsAlong}
use Rattle.nb_bucket.specs.Keeps.{IsNextSweep}
use Rattle.nb_bucket.specs.Going.{GoesAlong}
use Rattle.nb_bucket.proofs.bucket.Bucket.run_to.Given as goal

abbrev pub invariant-loop-self : goal.invariant-loop-self
invariant-loop-self g l = record {
  along : GoesAlong l.fn.self l.self l.to;
  next : IsNextSweep l.self.params l.self.lines l.self.clock l.next;
  counted : CountsAlong l.fn.self.params l.fn.self.lines l.self.lines (shown g.C.Census.name g.C.Census.share g.C.Census.changes g.C.Census.looks g.C.Census.others l.fn.census) (shown g.C.Census.name g.C.Census.share g.C.Census.changes g.C.Census.looks g.C.Census.others l.census);
}

abbrev pub decreases-loop-self : goal.decreases-loop-self
decreases-loop-self g l = l.to + 1 - l.next
