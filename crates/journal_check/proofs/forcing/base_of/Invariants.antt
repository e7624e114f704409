use Rattle.std.proofs.Common.{◌≡◌, ◌≤◌, take, length}
use Rattle.nb_journal.specs.Lawful.{base_of}
use Rattle.journal_check.proofs.forcing.base_of.Given as goal

abbrev pub invariant-loop-len : goal.invariant-loop-len
invariant-loop-len l = record {
  within : l.len ≤ length l.lines;
  base : base_of (take l.len l.lines) ≡ base_of l.lines;
}

abbrev pub decreases-loop-len : goal.decreases-loop-len
decreases-loop-len l = l.len
