-- The two numbers that a header cell keeps for a record (this project's own).
use Rattle.std.specs.Prelude.{◌≡◌, ℕ, Bool, true, false, List, [], ◌∷◌, ◌++◌}
use Rattle.std.specs.Int.{w64, to_be_bytes}
use Rattle.nb_base.specs.declared.record.Record.{Record}

-- 1 where the header may be used, else 0
abbrev pub usable_byte : Bool → ℕ
usable_byte true = 1
usable_byte false = 0

-- the sixteen bytes of a record: its header's fourteen, the one for usable, and a zero
abbrev pub record_bytes : Record → List ℕ
record_bytes r = r.header ++ usable_byte r.usable ∷ 0 ∷ []

-- the two numbers, each with its most significant byte first, have the record's bytes
pub record AreWords (a b : ℕ) (r : Record) : Type 0 where
  pub spelled : to_be_bytes w64 a ++ to_be_bytes w64 b ≡ record_bytes r
