-- What holds of the parts of all buckets of one counter, which stand in order of number (this project's own).
use Rattle.std.specs.Prelude.{◌≡◌, ℕ, ◌<◌, ◌≤◌, List, length}
use Rattle.std.specs.List.{AllByRecursion as Each}
use mathlib.Core.Option.{some}
use lib.ListN.{get_elem?}
use Rattle.change_order.specs.declared.part.Part.{Part}
use Rattle.change_order.specs.Ticks.{how_many, total_by, is_at, share_before, Rise, NeverFall}

-- the number of all buckets' changes together
abbrev pub changes_in : List Part → ℕ
changes_in parts = total_by (λ p. length p.changes) parts

-- how many changes have this tick
abbrev pub changes_at : ℕ → List Part → ℕ
changes_at t parts = total_by (λ p. how_many (is_at t) p.changes) parts

-- the sum over all buckets of the share behind the bucket's last change with a tick below this one
abbrev pub shares_before : ℕ → List Part → ℕ
shares_before t parts = total_by (λ p. share_before t p.changes) parts

-- a bucket's ticks are in order, where there are n changes of all buckets: those of its changes rise and are below n, and those of its looks never fall and are at most n
pub record IsOrdered (n : ℕ) (p : Part) : Type 0 where
  pub rising : Rise 0 p.changes
  pub below : Each (λ c. c.0 < n) p.changes
  pub standing : NeverFall 0 p.looks
  pub within : Each (λ l. l.0 ≤ n) p.looks

-- the part of the bucket of this number: its ticks are in order, and the value of each look is the sum over all buckets of the share behind the last change with a tick below the look's
pub record IsPart (parts : List Part) (b : ℕ) (p : Part) : Type 0 where
  pub number : p.bucket ≡ b
  pub order : IsOrdered (changes_in parts) p
  pub values : Each (λ l. l.1 ≡ shares_before l.0 parts) p.looks

-- each number below that of all changes is the tick of exactly one change, and each bucket has its part
pub record AreCounted (parts : List Part) : Type 0 where
  pub once : (t : ℕ) → t < changes_in parts → changes_at t parts ≡ 1
  pub each : (b : ℕ) (p : Part) → get_elem? parts b ≡ some p → IsPart parts b p
