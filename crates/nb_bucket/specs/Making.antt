-- The order of making, as linked lists hold it: one list, of the ranks of the present keys. This project's own.
use Rattle.std.specs.Prelude.{◌≡◌, ℕ, ◌≤◌, Bool, true, false, ◌&&◌, not, if◌then◌else◌, List, [], ◌∷◌, length, map, slice_index_or, Option, Some, None}
use Rattle.nb_base.specs.declared.key.Key.{Key}
use Rattle.nb_base.specs.declared.key.Key.TheVariants.{V4}
use Rattle.nb_base.specs.declared.params.Params.{Params}
use Rattle.nb_base.specs.declared.op.Op.{Op}
use Rattle.nb_base.specs.declared.op.Op.TheVariants as op
use Rattle.nb_base.specs.declared.line.Line.{Line}
use Rattle.nb_journal.specs.Keys.{has_key}
use Rattle.nb_journal.specs.Fold.{known_keys, rank_of, is_present}
use Rattle.nb_journal.specs.Lawful.{making_order}
use Rattle.slot_links.specs.Lists.{Linked, put_back, take_out}

-- an operation that goes to all present keys
abbrev pub goes_to_each : Op → Bool
goes_to_each op.Show = true
goes_to_each op.Flush = true
goes_to_each op.Sweep = true
goes_to_each _ = false

-- the key of a rank
abbrev pub key_at : List Line → ℕ → Key
key_at lines rank = slice_index_or (known_keys lines) rank (V4 0)

-- its entry is present behind the lines
abbrev pub present_at : Params → List Line → ℕ → Bool
present_at p lines rank = is_present p lines (key_at lines rank)

abbrev pub ranks_of : List Line → List Key → List ℕ
ranks_of lines keys = map (rank_of lines) keys

-- one list has the ranks of the order of making, in which each present key stands; the ranks of all known keys are nodes
pub record HoldsOrder (p : Params) (lines : List Line) (order : Linked) : Type 0 where
  pub list : order.lists ≡ ranks_of lines (making_order p lines) ∷ []
  pub all : (key : Key) → is_present p lines key ≡ true → has_key (making_order p lines) key ≡ true
  pub nodes : length (known_keys lines) ≤ order.nodes

-- the lists without the rank of a key that was named, where it is known and its entry isn't present
abbrev pub dropped : Params → List Line → Option Key → List (List ℕ) → List (List ℕ)
dropped p lines None lists = lists
dropped p lines (Some key) lists = if has_key (known_keys lines) key && not (is_present p lines key) then take_out lists (rank_of lines key) else lists

-- the lists with the rank of a made key behind the others
abbrev pub pushed : List Line → Option Key → List (List ℕ) → List (List ℕ)
pushed lines None lists = lists
pushed lines (Some key) lists = put_back lists 0 (rank_of lines key)
