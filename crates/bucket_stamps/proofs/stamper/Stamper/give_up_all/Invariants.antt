use Rattle.std.proofs.Common.{◌≡◌}
use Rattle.bucket_stamps.proofs.Ending.{Gathered}
use Rattle.bucket_stamps.proofs.stamper.Stamper.give_up_all.Given as goal

abbrev pub invariant-loop-stamp : goal.invariant-loop-stamp
invariant-loop-stamp l = (l.self ≡ l.fn.self) × Gathered l.fn.self l.stamps.items l.fn.stamps.items

abbrev pub decreases-loop-stamp : goal.decreases-loop-stamp
decreases-loop-stamp l = goal.left-loop-stamp l
