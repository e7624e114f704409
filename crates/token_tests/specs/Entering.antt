-- What a stamp has behind some lines of its participant.
use Rattle.std.specs.Prelude.{◌≡◌, ℕ, ◌+◌, length}
use Rattle.bucket_stamps.specs.Shown.{StampShown}

-- the participant is the same, and has so many more own lines
pub record HasEntered (old new : StampShown) (count : ℕ) : Type 0 where
  pub participant : new.participant ≡ old.participant
  pub pairs : length new.pairs ≡ length old.pairs + count
