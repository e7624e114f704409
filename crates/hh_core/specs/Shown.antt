-- What contracts see of a lock and of a reader.
use Rattle.std.specs.Prelude.{◌≡◌, ℕ, ◌+◌, ◌≤◌, Bool, if◌then◌else◌, vec_len, vec_capacity}
use Rattle.hh_core.specs.declared.reader.Reader.{Reader}
use Rattle.hh_core.specs.declared.step.Step.{Step}
use Rattle.hh_core.specs.State.{State, ReaderState}
use Rattle.hh_core.specs.Step.{allowed, after}
use Rattle.hh_core.specs.Safe.{IsSafe}

-- the state of a lock, and for how many further steps its memory suffices
pub record Shown : Type 0 where
  pub state : State
  pub spare : ℕ

-- a reader as its lists
abbrev pub reader_state : Reader → ReaderState
reader_state reader = record { phase = reader.phase; known = reader.known.items; floor = reader.floor; tries = reader.tries.items }

-- a reader's memory suffices for so many further tries
pub record HasRoom (more : ℕ) (reader : Reader) : Type 0 where
  pub known : vec_len reader.known + more ≤ vec_capacity reader.known
  pub tries : vec_len reader.tries + more ≤ vec_capacity reader.tries

-- A step is taken exactly where it is allowed; else all stays. It uses at most one of the spare steps, and the state behind it is safe.
pub record Takes (step : Step) (old new : Shown) (taken : Bool) : Type 0 where
  pub enabled : taken ≡ allowed step old.state
  pub state : new.state ≡ (if taken then after step old.state else old.state)
  pub spare : old.spare ≤ new.spare + (if taken then 1 else 0)
  pub no_more : new.spare ≤ old.spare
  pub safe : IsSafe new.state
