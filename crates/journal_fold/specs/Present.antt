-- Ranks that hold those of all present keys. This project's own.
use Rattle.std.specs.Prelude.{◌≡◌, ℕ, ◌<◌, true, eqb, List, length}
use Rattle.std.specs.List.{AllByRecursion, IsDistinct, list_any}
use Rattle.nb_base.specs.declared.key.Key.{Key}
use Rattle.nb_base.specs.declared.params.Params.{Params}
use Rattle.nb_base.specs.declared.line.Line.{Line}
use Rattle.nb_journal.specs.Fold.{known_keys, rank_of, is_present}

-- the ranks are different ones of known keys, and that of each present key is there
pub record HoldsPresent (p : Params) (lines : List Line) (ranks : List ℕ) : Type 0 where
  pub known : AllByRecursion (λ rank. rank < length (known_keys lines)) ranks
  pub once : IsDistinct eqb ranks
  pub present : (key : Key) → is_present p lines key ≡ true → list_any (eqb (rank_of lines key)) ranks ≡ true
