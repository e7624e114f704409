-- What the last two bytes of a record's second number say (this project's own).
use Rattle.std.specs.Prelude.{ℕ, ◌%◌, Bool, true, false, ◌==◌, if◌then◌else◌, Option, Some, None}

-- they are 0 and 0, or 1 and 0
abbrev pub usable_in : ℕ → Option Bool
usable_in b = if b % 0x10000 == 0 then Some false else (if b % 0x10000 == 0x100 then Some true else None)
