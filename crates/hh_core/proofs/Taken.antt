-- A step of the code as a step of the state.
use Rattle.std.proofs.Common.{◌≡◌, ◌+◌, ◌≤◌, Bool, true, false, ◌&&◌, sym, subst}
use Rattle.hh_core.specs.declared.step.Step.{Step}
use Rattle.hh_core.specs.declared.lock.Core.TheInside.{Inside}
use Rattle.hh_core.specs.Step.{allowed, after}
use Rattle.hh_core.specs.Safe.{IsSafe}
use Rattle.hh_core.specs.Shown.{Shown, Takes}
use Rattle.hh_core.specs.Lock.{state_in, shown_by, IsLock}
use Rattle.hh_core.proofs.Orders.{safe_step}

-- the fields make this step
pub record Moves (step : Step) (now next : Inside) : Type 0 where
  pub enabled : allowed step (state_in now) ≡ true
  pub state : state_in next ≡ after step (state_in now)

pub safe_next : (step : Step) (now next : Inside) → Moves step now next → IsLock now → IsSafe (state_in next)
safe_next step now next m h = subst IsSafe (sym m.state) (safe_step step (state_in now) m.enabled h.safe)

pub takes : (step : Step) (now next : Inside) (old : Shown) → shown_by now ≡ old → IsLock now → Moves step now next → next.spare ≤ now.spare → now.spare ≤ next.spare + 1 → Takes step old (shown_by next) true
takes step now next old is h m less more =
    let F : Shown → Type 0 = λ o. Takes step o (shown_by next) true in
    subst F is (record { enabled = sym m.enabled; state = m.state; spare = more; no_more = less; safe = safe_next step now next m h })

pub both_true : (a b : Bool) → a ≡ true → b ≡ true → (a && b) ≡ true
both_true true b e f = f
both_true false b e f = e

-- the same state, with room for more
pub kept_safe : (now next : Inside) → state_in next ≡ state_in now → IsLock now → IsSafe (state_in next)
kept_safe now next is h = subst IsSafe (sym is) h.safe
