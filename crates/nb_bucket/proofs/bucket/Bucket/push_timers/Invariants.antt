use Rattle.std.proofs.Common.{◌-◌, length}
use Rattle.nb_bucket.specs.Counting.{shown, CountsAlong}
use Rattle.nb_bucket.specs.Keeps.{IsNextSweep}
use Rattle.nb_bucket.specs.Going.{GoesAlong}
use Rattle.nb_bucket.proofs.bucket.Bucket.push_timers.Given as goal

abbrev pub invariant-loop : goal.invariant-loop
invariant-loop g l = record {
  along : GoesAlong l.initial.self l.self l.until;
  next : IsNextSweep l.self.params l.self.lines l.self.clock l.next;
  counted : CountsAlong l.initial.self.params l.initial.self.lines l.self.lines (shown g.C.Census.name g.C.Census.share g.C.Census.changes g.C.Census.looks g.C.Census.others l.initial.census) (shown g.C.Census.name g.C.Census.share g.C.Census.changes g.C.Census.looks g.C.Census.others l.census);
}

abbrev pub decreases-loop : goal.decreases-loop
decreases-loop g l = l.self.limit - length l.self.lines
