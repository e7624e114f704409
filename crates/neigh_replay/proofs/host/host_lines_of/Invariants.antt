-- Behind the items so far the rest of the walk is what is left of the whole, and the requests that wait are ready for every later moment.
use Rattle.std.proofs.Common.{◌≡◌, ℕ, ◌+◌, ◌≤◌, [], drop, take, map}
use Rattle.neigh_run.specs.Control.{control_at}
use Rattle.neigh_plan.specs.Inline.{greatest_of}
use Rattle.neigh_replay.specs.Hosting.{at_point, walked, IsReady, start_table}
use Rattle.neigh_replay.proofs.host.host_lines_of.Given as goal

abbrev pub invariant-loop-before : goal.invariant-loop-before
invariant-loop-before l = record {
  walk : walked l.plan (l.before + 1) (drop l.before l.plan.control) (at_point l.walk.proxies l.walk.answers.now l.walk.lines) ≡ walked l.plan 1 l.plan.control (at_point (start_table l.plan) l.answers []);
  ready : (at : ℕ) → greatest_of (map control_at (take l.before l.plan.control)) ≤ at → IsReady l.plan at l.walk.proxies;
}
