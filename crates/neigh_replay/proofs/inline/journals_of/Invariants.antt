-- The journals of the buckets so far are taken.
use Rattle.neigh_replay.proofs.Journals.{AreTaken}
use Rattle.neigh_replay.proofs.inline.journals_of.Given as goal

abbrev pub invariant-loop-bucket : goal.invariant-loop-bucket
invariant-loop-bucket l = AreTaken l.table l.bucket l.journals
