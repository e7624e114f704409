use Rattle.std.proofs.Common.{take}
use Rattle.nb_bucket.specs.Dues.{ClearsGone}
use Rattle.nb_bucket.proofs.timers.clear_gone.Given as goal

abbrev pub invariant-loop-rank : goal.invariant-loop-rank
invariant-loop-rank l = ClearsGone l.fold.params l.fold.lines (take l.rank-index l.ranks) l.fn.timers l.timers
