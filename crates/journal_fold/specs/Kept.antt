-- The entries of known keys, by rank. This project's own.
use Rattle.std.specs.Prelude.{◌≡◌, ℕ, Bool, List, map, filter, length}
use Rattle.std.specs.List.{AllByRecursion}
use Rattle.nb_base.specs.declared.key.Key.{Key}
use Rattle.nb_base.specs.declared.line.Line.{Line}
use Rattle.nb_base.specs.declared.params.Params.{Params}
use Rattle.nud_machine.specs.State.{absent}
use Rattle.nb_journal.specs.declared.kept.Kept.{Kept}
use Rattle.nb_journal.specs.Steps.{IsKept, state_in}
use Rattle.nb_journal.specs.Fold as rules
use Rattle.nb_journal.specs.Fold.{state_of}

-- an entry for each of the keys, in their order: it has its key's state behind the lines, and what holds of a state between lines
pub record AreKept (p : Params) (lines : List Line) (keys : List Key) (kept : List Kept) : Type 0 where
  pub states : map state_in kept ≡ map (state_of p lines) keys
  pub each : AllByRecursion (IsKept p) kept

-- the parts of a key that isn't known: no entry, and no packet
abbrev pub IsReady : Params → Kept → Type 0
IsReady p kept = IsKept p kept × (state_in kept ≡ absent)

abbrev pub is_present : Kept → Bool
is_present kept = kept.entry.present

-- how many entries are present
abbrev pub number_present : List Kept → ℕ
number_present kept = length (filter is_present kept)

-- its entry is present, and neither PERMANENT nor NOARP
abbrev pub is_loose : Kept → Bool
is_loose kept = rules.is_loose (state_in kept)
