-- The tokens' fields, as contracts see them.
use Rattle.std.specs.Prelude.{◌≡◌, ◌<◌, true, List, [], ◌∷◌, Option, Some, None, IfSome, All}
use Rattle.bucket_stamps.specs.declared.view.Part.{Part}
use Rattle.bucket_stamps.specs.declared.view.View.{View}
use Rattle.bucket_stamps.specs.declared.stamper.Stamper.TheInside as stamper
use Rattle.bucket_stamps.specs.declared.stamper.Stamp.TheInside as stamp
use Rattle.bucket_stamps.specs.Own.{AreTurnsOf, IsSettled, IsLineOfOne, IsTurnOfOne}
use Rattle.bucket_stamps.specs.Views.{newcomer}
use Rattle.bucket_stamps.specs.Shown.{StamperShown, StampShown, stamper_of, stamp_of}

abbrev pub stamper_shown : stamper.Inside → StamperShown
stamper_shown s = stamper_of s.table.shared.table_id s.seat.me.0

-- the seat is the stamper's, on this word of its own; every own line and every turn is of one of the participants, and the turns are in order; while nothing is lodged, every line belongs to a turn
pub record IsStamperToken (s : stamper.Inside) : Type 0 where
  pub word : s.table.shared.table_id.words ≡ 1
  pub table : s.seat.table_id ≡ s.table.shared.table_id
  pub slots : s.seat.me.1 ≡ []
  pub is : s.seat.me.0.stamper ≡ true
  pub settled : s.seat.me.0.part ≡ None → IsSettled s.seat.me.0.history.lines s.seat.me.0.history.turns
  pub lodged : IfSome s.seat.me.0.part (λ m. m.participant < s.seat.me.0.participants)
  pub own : All (IsLineOfOne s.seat.me.0.participants) s.seat.me.0.history.lines
  pub turns : All (IsTurnOfOne s.seat.me.0.participants) s.seat.me.0.history.turns
  pub order : AreTurnsOf s.seat.me.0.history.lines s.seat.me.0.history.turns

-- the part of the one view, if it has one
abbrev pub part_by : Option Part → Part
part_by None = newcomer 0
part_by (Some m) = m

abbrev pub part_in : List View → Part
part_in [] = newcomer 0
part_in (v ∷ vs) = part_by v.part

abbrev pub stamp_shown : stamp.Inside → StampShown
stamp_shown s = stamp_of s.badge.table_id (part_in s.badge.views)

-- a participant stands there
pub record IsStampToken (s : stamp.Inside) : Type 0 where
  pub v : View
  pub one : s.badge.views ≡ v ∷ []
  pub m : Part
  pub is : v.part ≡ Some m
