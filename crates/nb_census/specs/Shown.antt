-- What contracts see of a headcount, its seats and its counts (this project's own).
use Rattle.std.specs.Prelude.{◌≡◌, ℕ, zero, suc, List, [], ◌∷◌, ◌++◌, length}
use Rattle.atomic_table.specs.Seated.{TableId}
use Rattle.change_order.specs.declared.part.Part.{Part}

-- which seat of which headcount it is
pub record SeatName : Type 0 where
  pub headcount : TableId
  pub bucket : ℕ

pub record SeatShown : Type 0 where
  pub headcount : TableId
  pub bucket : ℕ
  pub changes : List (ℕ × ℕ)
  pub looks : List (ℕ × ℕ)

pub record HeadcountShown : Type 0 where
  pub id : TableId
  pub buckets : ℕ

abbrev pub seat_of_part : TableId → Part → SeatShown
seat_of_part id p = record { headcount = id; bucket = p.bucket; changes = p.changes; looks = p.looks }

abbrev pub part_of_seat : SeatShown → Part
part_of_seat s = record { bucket = s.bucket; changes = s.changes; looks = s.looks }

-- a seat that has done nothing yet
abbrev pub fresh_seat : TableId → ℕ → SeatShown
fresh_seat id b = record { headcount = id; bucket = b; changes = []; looks = [] }

-- one such seat for each of this many buckets, in order of number
abbrev pub fresh_seats : TableId → ℕ → List SeatShown
fresh_seats id zero = []
fresh_seats id (suc n) = fresh_seats id n ++ fresh_seat id n ∷ []

-- seats of this headcount, of the buckets from this one on
abbrev pub AreFrom : TableId → ℕ → List SeatShown → Type 0
AreFrom id b [] = Unit {0}
AreFrom id b (s ∷ ss) = (s.headcount ≡ id) × (s.bucket ≡ b) × AreFrom id (suc b) ss

-- all seats of this headcount, in order of number
pub record AreSeatsOf (h : HeadcountShown) (seats : List SeatShown) : Type 0 where
  pub all : length seats ≡ h.buckets
  pub order : AreFrom h.id 0 seats

-- a census that one bucket has alone
pub record PlainShown : Type 0 where
  pub share : ℕ
  pub others : ℕ
  pub changes : List (ℕ × ℕ)
  pub looks : List (ℕ × ℕ)
