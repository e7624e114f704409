-- What a reader obtains where each try is one step (this project's own).
use Rattle.std.specs.Prelude.{ℕ, true, false, List, []}
use Rattle.hh_cell.specs.declared.cell.Obtained.{Obtained}
use Rattle.hh_cell.specs.declared.cell.Obtained.TheVariants.{Fresh, Suspect, Again}
use Rattle.hh_cell.specs.Shown.{PassShown, Reads}

-- the first try is good and reads the record, which is usable, or isn't; no try fails
abbrev pub ObtainsAtOnce : PassShown → PassShown → Obtained → Type 0
ObtainsAtOnce old new (Fresh number header) = Reads old new [] number (record { usable = true; header = header })
ObtainsAtOnce old new (Suspect number) = (header : List ℕ) × Reads old new [] number (record { usable = false; header = header })
ObtainsAtOnce old new (Again tries) = ⊥
