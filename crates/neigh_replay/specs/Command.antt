-- What a call of the command does, by its words.
use Rattle.std.specs.Prelude.{◌≡◌, ℕ, List, [], ◌∷◌, Some, None}
use Rattle.neigh_words.specs.Settings.{Wanted, Replay, Generate, wanted}
use Rattle.neigh_replay.specs.declared.program.NoWords.{NoWords}
use Rattle.neigh_replay.specs.declared.program.NoWords.TheVariants.{NotText, Memory}
use Rattle.neigh_replay.specs.Status.{IsOneOf, memory_line, usage_line}
use Rattle.neigh_replay.specs.Replay.{FilesCall, SinkCall, SinkSays, IsUntouched, IsReplay}
use Rattle.neigh_replay.specs.Generated.{IsGeneratedRun}

-- what the words ask for ended with the status: a replay, or the run of what is generated from a number
abbrev pub HasEnded : Wanted → FilesCall → SinkCall → SinkCall → ℕ → Type 0
HasEnded (Replay a) files out err status = IsReplay a files out err status
HasEnded (Generate number) files out err status = IsGeneratedRun number out err status

-- a call of the command with these words ended with the status
pub record IsCommand (words : List (List ℕ)) (files : FilesCall) (out err : SinkCall) (status : ℕ) : Type 0 where
  -- 2: exactly where the words aren't of the command, unless no memory was left before that was known
  pub usage : status ≡ 2 → wanted words ≡ None
  pub usage_always : wanted words ≡ None → IsOneOf (2 ∷ 1 ∷ []) status
  pub usage_said : status ≡ 2 → SinkSays err usage_line
  pub usage_untouched : wanted words ≡ None → IsUntouched out
  pub usage_memory : wanted words ≡ None → status ≡ 1 → SinkSays err memory_line
  -- otherwise it is what they ask for
  pub asked : (w : Wanted) → wanted words ≡ Some w → HasEnded w files out err status

-- a program without words ended with the status: words that aren't text are none of the command's
abbrev pub IsWithoutWords : NoWords → SinkCall → SinkCall → ℕ → Type 0
IsWithoutWords NotText out err status = (status ≡ 2) × IsUntouched out × SinkSays err usage_line
IsWithoutWords Memory out err status = (status ≡ 1) × IsUntouched out × SinkSays err memory_line
