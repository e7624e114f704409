-- What the inputs in memory hold, and how they answer. (This project's own.)
use Rattle.std.specs.Prelude.{◌≡◌, ℕ, Bool, List, length, min, Option, None, is_some, not, ◌&&◌}
use Rattle.nb_io.specs.Faults.{fails_at, next_call}
use Rattle.nb_io.specs.Kept.{place_of, held_in, faults_in, name_at, left_at}
use Rattle.nb_io.specs.declared.memory.MemoryFile.{MemoryFile}
use Rattle.nb_io.specs.declared.memory.MemoryInputs.{MemoryInputs}

-- the files that it has
abbrev pub files_of : MemoryInputs → List MemoryFile
files_of s = s.files.items

-- the numbers of the calls that are to fail
abbrev pub inputs_fails : MemoryInputs → List ℕ
inputs_fails s = s.calls.fails.items

-- how many calls were made
abbrev pub inputs_calls : MemoryInputs → ℕ
inputs_calls s = s.calls.made

-- the number of the file of that name
abbrev pub number_of : MemoryInputs → List ℕ → Option ℕ
number_of s name = place_of (files_of s) name

-- what that name holds
abbrev pub held_of : MemoryInputs → List ℕ → Option (List ℕ)
held_of s name = held_in (files_of s) name

-- how many calls for that name have failed
abbrev pub faults_of : MemoryInputs → List ℕ → ℕ
faults_of s name = faults_in (files_of s) s.readers.items s.missing name

-- the name of an opened file number
abbrev pub name_of_number : MemoryInputs → ℕ → Option (List ℕ)
name_of_number s file = name_at (files_of s) s.readers.items file

-- what stands behind the place of a file number
abbrev pub left_of : MemoryInputs → ℕ → Option (List ℕ)
left_of s file = left_at (files_of s) s.readers.items file

-- the next call's number isn't among those that are to fail
abbrev pub read_succeeds : MemoryInputs → Bool
read_succeeds s = not (fails_at (inputs_fails s) (next_call (inputs_calls s)))

-- a read that doesn't fail gives the least of what is left of the file and the room for it
abbrev pub read_count : MemoryInputs → List ℕ → ℕ → ℕ
read_count s rest room = min (length rest) room

-- an opening also asks that the name is held
abbrev pub open_succeeds : MemoryInputs → List ℕ → Bool
open_succeeds s name = read_succeeds s && is_some (number_of s name)

-- a call is counted; the files and the calls that are to fail stay
pub record CountsCall (old new : MemoryInputs) : Type 0 where
  pub calls : inputs_calls new ≡ next_call (inputs_calls old)
  pub files : files_of new ≡ files_of old
  pub fails : inputs_fails new ≡ inputs_fails old

-- exactly these files and failing calls, with no call made, no fault counted and nothing opened
pub record IsNew (given : List MemoryFile) (failing : List ℕ) (s : MemoryInputs) : Type 0 where
  pub files : files_of s ≡ given
  pub fails : inputs_fails s ≡ failing
  pub calls : inputs_calls s ≡ 0
  pub faults : (name : List ℕ) → faults_of s name ≡ 0
  pub closed : (file : ℕ) → name_of_number s file ≡ None
