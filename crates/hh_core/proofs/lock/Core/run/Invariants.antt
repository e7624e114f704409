use Rattle.std.proofs.Common.{◌+◌, ◌≤◌, length}
use Rattle.hh_core.specs.Safe.{IsSafe}
use Rattle.hh_core.proofs.Running.{RunsTo}
use Rattle.hh_core.proofs.lock.Core.run.Given as goal

abbrev pub invariant-loop-place : goal.invariant-loop-place
invariant-loop-place l = record {
  taken : RunsTo l.steps l.fn.self.state l.place l.self.state;
  published : length l.self.state.published ≤ length l.fn.self.state.published + l.place;
  spare : length l.steps ≤ l.self.spare + l.place;
  kept : l.fn.self.spare ≤ l.self.spare + l.place;
  safe : IsSafe l.self.state;
}
