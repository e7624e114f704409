-- The tokens' fields, as contracts see them.
use Rattle.std.specs.Prelude.{◌≡◌, [], ◌∷◌, List, Some}
use Rattle.std.specs.Option.{unwrap_or}
use Rattle.std.specs.Arc.{arc_value}
use Rattle.change_order.specs.declared.part.Part.{Part}
use Rattle.nb_census.specs.declared.seat.SeatCensus.TheInside as seat
use Rattle.nb_census.specs.declared.seat.Headcount.TheInside as headcount
use Rattle.nb_census.specs.declared.seat.Counts.TheInside as counts
use Rattle.nb_census.specs.Views.{first_part}
use Rattle.nb_census.specs.Shown.{SeatShown, HeadcountShown, seat_of_part}

abbrev pub seat_shown : seat.Inside → SeatShown
seat_shown s = seat_of_part s.seat.table_id (first_part s.seat.me.0.parts)

-- the seat is one of this word's, and has one part
pub record IsSeatToken (s : seat.Inside) : Type 0 where
  pub same : arc_value s.word ≡ s.seat.table_id
  pub one : s.seat.me.0.parts ≡ first_part s.seat.me.0.parts ∷ []
  pub slots : s.seat.me.1 ≡ []

abbrev pub headcount_shown : headcount.Inside → HeadcountShown
headcount_shown h = record { id = h.seat.table_id; buckets = unwrap_or h.seat.me.0.made 0 }

-- the maker's seat is one of this word's, and has no part
pub record IsMakerToken (h : headcount.Inside) : Type 0 where
  pub same : arc_value h.word ≡ h.seat.table_id
  pub made : h.seat.me.0.made ≡ Some (unwrap_or h.seat.me.0.made 0)
  pub none : h.seat.me.0.parts ≡ []
  pub slots : h.seat.me.1 ≡ []

abbrev pub counts_shown : counts.Inside → List Part
counts_shown c = c.seat.me.0.parts
