use Rattle.std.proofs.Common.{◌≡◌, ◌≤◌, ◌<◌, ◌+◌, ◌-◌, ℕ, true, length}
use Rattle.nb_journal.specs.Lawful.{IsSweepMoment, before_sweep}
use Rattle.journal_check.specs.Evaluated.{sweep_stands}
use Rattle.journal_check.proofs.sweeping.sweeps_stand.Given as goal

abbrev pub invariant-loop-clock : goal.invariant-loop-clock
invariant-loop-clock l = record {
  is : IsSweepMoment l.params l.moment;
  within : l.moment ≤ l.clock + l.params.gc_interval;
  stand : (u : ℕ) → IsSweepMoment l.params u → u < l.moment → sweep_stands u l.lines (length (before_sweep u l.lines)) ≡ true;
}

abbrev pub decreases-loop-clock : goal.decreases-loop-clock
decreases-loop-clock l = l.clock + 1 + l.params.gc_interval - l.moment
