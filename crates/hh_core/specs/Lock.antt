-- The fields of a lock: what they show, and what holds of them.
use Rattle.std.specs.Prelude.{◌+◌, ◌≤◌, map, vec_len, vec_capacity}
use Rattle.std.specs.List.{All}
use Rattle.hh_core.specs.declared.lock.Core.TheInside.{Inside}
use Rattle.hh_core.specs.State.{State}
use Rattle.hh_core.specs.Safe.{IsSafe}
use Rattle.hh_core.specs.Shown.{Shown, reader_state, HasRoom}

abbrev pub state_in : Inside → State
state_in core = record {
  number = core.number;
  a = core.a;
  b = core.b;
  published = core.published.items;
  writer = core.writer;
  readers = map reader_state core.readers.items;
}

abbrev pub shown_by : Inside → Shown
shown_by core = record { state = state_in core; spare = core.spare }

-- the state is safe, and there is memory for the spare steps
pub record IsLock (core : Inside) : Type 0 where
  pub safe : IsSafe (state_in core)
  pub published : vec_len core.published + core.spare ≤ vec_capacity core.published
  pub readers : All (HasRoom core.spare) core.readers.items
