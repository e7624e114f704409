-- Which file numbers are opened, of the two that there are. (This project's own.)
use Rattle.std.specs.Prelude.{ℕ, ◌==◌, Bool, false, List, Option, is_some, if◌then◌else◌}
use Rattle.std.specs.Option.{option_and_then}

-- the file of number 0 is the first, that of another number is the second
abbrev pub opened_at : {F : Type 0} → Option F → Option F → ℕ → Option F
opened_at first second file = if file == 0 then first else second

-- number 0 where the first file is there, number 1 where the second is, and no other
abbrev pub is_opened : {F : Type 0} → Option F → Option F → ℕ → Bool
is_opened first second file = if file == 0 then is_some first else (if file == 1 then is_some second else false)

-- what the opened file still gives, where it is there and tells that
abbrev pub behind : {F : Type 0} → (F → Option (List ℕ)) → Option F → Option (List ℕ)
behind remaining opened = option_and_then remaining opened
