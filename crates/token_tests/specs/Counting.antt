-- What a seat has done behind a thousand changes and a thousand looks.
use Rattle.std.specs.Prelude.{◌≡◌, ◌+◌, length}
use Rattle.nb_census.specs.Shown.{SeatShown}

-- the seat is the same, and has a thousand more changes and a thousand more looks
pub record HasCounted (old new : SeatShown) : Type 0 where
  pub headcount : new.headcount ≡ old.headcount
  pub bucket : new.bucket ≡ old.bucket
  pub changes : length new.changes ≡ length old.changes + 1000
  pub looks : length new.looks ≡ length old.looks + 1000
