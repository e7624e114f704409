-- What a bucket's helpers promise one another on the way through a call. This project's own.
use Rattle.std.specs.Prelude.{◌≡◌, ℕ, ◌<◌, ◌≤◌, true, [], ◌∷◌, ◌++◌, length, max}
use Rattle.nb_base.specs.declared.line.Line.{Line}
use Rattle.nb_bucket.specs.Bucket.{Journal, is_by_time, GoesOn, clock_behind}

-- one line more, which comes by time up to the moment, and the clock at it
pub record GoesOneOn (old new : Journal) (until : ℕ) : Type 0 where
  pub line : Line
  pub grown : new ≡ record old { lines = old.lines ++ line ∷ []; clock = line.at }
  pub by_time : is_by_time line.op ≡ true
  pub due : line.at ≤ until
  pub room : length old.lines < old.limit

-- the journal goes on by time, up to the moment, and the clock with its last line
pub record GoesAlong (old new : Journal) (until : ℕ) : Type 0 where
  pub goes_on : GoesOn old new
  pub clock : new.clock ≡ clock_behind old.clock goes_on.more
  pub within : new.clock ≤ max old.clock until
