-- The lines that a call of the command writes to standard error where no verdict is shown.
use Rattle.std.specs.Prelude.{ℕ, ◌<◌, ◌==◌, IsTrue, List, [], ◌∷◌, ◌++◌, take, length, Option, codes}
use Rattle.std.specs.List.{list_any}
use Rattle.std.specs.Io.KnownBytes.{Appends}
use Rattle.nb_io.specs.Faults.{Rose}

-- the status is one of these
abbrev pub IsOneOf : List ℕ → ℕ → Type 0
IsOneOf statuses status = IsTrue (list_any (λ other. other == status) statuses)

-- status 1: want of memory
unfoldable pub memory_line : List ℕ
memory_line = codes "neigh: no memory\n"

-- status 2: the words aren't of the command
unfoldable pub usage_line : List ℕ
usage_line = codes "neigh: usage: neigh --script FILE [--capture FILE] [--mode inline|threads] [--window MS] [--buckets N] | neigh --generate NUMBER\n"

-- status 3: the file of this name can't be read
unfoldable pub read_line : List ℕ → List ℕ
read_line name = codes "neigh: cannot read " ++ (name ++ 10 ∷ [])

-- status 6: the output can't be written
unfoldable pub write_line : List ℕ
write_line = codes "neigh: cannot write\n"

-- a part of a line was taken, from the front, and the whole unless the count rose
pub record Says (old new : Option (List ℕ)) (before now : ℕ) (line : List ℕ) : Type 0 where
  pub count : ℕ
  pub written : Appends old new (take count line)
  pub whole : count < length line → Rose before now
