-- The words of the command `neigh --script FILE [--capture FILE] [--mode inline] [--window MS] [--buckets N]`, or `neigh --generate NUMBER`, and what they ask for (this project's own). The mode `threads` isn't built yet, so words that ask for it aren't of the command.
use Rattle.std.specs.Prelude.{ℕ, ◌^◌, Bool, true, ◌||◌, ◌&&◌, nat_le, nat_lt, if◌then◌else◌, List, [], ◌∷◌, length, Option, Some, None, is_none, bytes_eq, codes, string_bytes}
use Rattle.std.specs.List.{list_all, list_any}
use Rattle.std.specs.Char.{is_ascii_digit}
use Rattle.std.specs.Option.{option_map}
use Rattle.std.specs.Str.Parse.{digits_value}
use Rattle.clap.specs.Walk.{Row, Rule, Text, first_of}
use Rattle.clap.specs.Simple.{App, matches_of, new_rule, new_shape}
use Rattle.clap.specs.Takes.{takes}
use Rattle.clap.specs.declared.builder.action.ArgAction.TheVariants.{Set}
use Rattle.nb_base.specs.Buckets.{is_bucket_count}
use Rattle.nb_base.specs.Parts.{number_of}
use Rattle.nb_base.specs.declared.plan.Mode.{Mode}
use Rattle.nb_base.specs.declared.plan.Mode.TheVariants.{Inline}
use Rattle.neigh_words.specs.declared.options.Settings.{Settings}
use Rattle.neigh_words.specs.declared.options.Command.{Command}
use Rattle.neigh_words.specs.declared.options.Command.TheVariants as command
use Rattle.neigh_words.specs.Window.{is_window}

infixl 10 ◌>>=◌
-- what the second makes of the first's value, where there is one
abbrev pub ◌>>=◌ : {A B : Type 0} → Option A → (A → Option B) → Option B
None >>= f = None
(Some x) >>= f = f x

-- ---- the words

-- an option `--NAME` of one value, which is the next word or stands behind `=`, given at most once
abbrev pub option_named : Text → Rule
option_named name = record (new_rule name) { long = Some name; action = Some Set }

-- the command as `clap` defines commands: these options in any order, and no other word, no abbreviation, no help and no version option; the program's own name isn't among the words
abbrev pub neigh_command : App
neigh_command = record {
  top = record (new_shape (codes "neigh")) {
    rules = option_named (codes "script") ∷ option_named (codes "capture") ∷ option_named (codes "mode") ∷ option_named (codes "window") ∷ option_named (codes "buckets") ∷ option_named (codes "generate") ∷ [];
    no_binary_name = true;
    disable_help_flag = true;
    disable_version_flag = true;
  };
  subs = [];
}

-- a word that is exactly `-` or `--`, which is no word of the command wherever it stands
abbrev pub is_dashes : Text → Bool
is_dashes word = bytes_eq word (codes "-") || bytes_eq word (codes "--")

-- the options are given as the command takes them
unfoldable pub is_taken : List Text → Bool
is_taken words = takes neigh_command words

-- what they are given, option by option
unfoldable pub given : List Text → List Row
given words = matches_of neigh_command words

-- ---- the values

-- the one mode that is built
abbrev pub mode_of : Text → Option Mode
mode_of text = if bytes_eq text (codes "inline") then Some Inline else None

-- a window's length, as a number of 1 to 10 decimal digits
abbrev pub window_of : Text → Option ℕ
window_of text = number_of text >>= λ n. if is_window n then Some n else None

-- a number of buckets that a table may have, as a number of 1 to 10 decimal digits
abbrev pub buckets_of : Text → Option ℕ
buckets_of text = number_of text >>= λ n. if is_bucket_count n then Some n else None

-- 1 to 20 decimal digits
abbrev pub is_long_number : Text → Bool
is_long_number text = nat_le 1 (length text) && nat_le (length text) 20 && list_all is_ascii_digit text

-- the number from which an input is generated, as such a number below 2^64
abbrev pub generated_of : Text → Option ℕ
generated_of text = if is_long_number text && nat_lt (digits_value 10 text) (2 ^ 64) then Some (digits_value 10 text) else None

-- an option's value is read where the option is given, and is `otherwise` where it isn't
abbrev pub read_or : {A : Type 0} → A → (Text → Option A) → Option Text → Option A
read_or otherwise read None = Some otherwise
read_or otherwise read (Some text) = read text

-- ---- the settings

-- the name of the script, that of the capture where one is asked for, the mode, the window in milliseconds and the number of buckets
pub record Asked : Type 0 where
  pub script : Text
  pub capture : Option Text
  pub mode : Mode
  pub window : ℕ
  pub buckets : ℕ

-- what settings ask for
abbrev pub asked_by : Settings → Asked
asked_by s = record { script = string_bytes s.script; capture = option_map string_bytes s.capture; mode = s.mode; window = s.window; buckets = s.buckets }

-- the settings that the options' values ask for: inline, 50 ms and one bucket where the words don't say, and no capture where none is named
unfoldable pub asked_in : List Row → Option Asked
asked_in rows = do
  script ← first_of (codes "script") rows
  mode ← read_or Inline mode_of (first_of (codes "mode") rows)
  window ← read_or 50 window_of (first_of (codes "window") rows)
  buckets ← read_or 1 buckets_of (first_of (codes "buckets") rows)
  Some (record { script = script; capture = first_of (codes "capture") rows; mode = mode; window = window; buckets = buckets })

-- ---- the command

-- a replay of what is asked for, or a run of the input that is generated from a number
pub data Wanted : Type 0 where
  Replay : Asked → Wanted
  Generate : ℕ → Wanted

-- what a command asks for
abbrev pub wanted_by : Command → Wanted
wanted_by (command.Replay s) = Replay (asked_by s)
wanted_by (command.Generate number) = Generate number

-- no option of a replay is given
abbrev pub is_alone : List Row → Bool
is_alone rows =
    is_none (first_of (codes "script") rows) && is_none (first_of (codes "capture") rows) && is_none (first_of (codes "mode") rows) && is_none (first_of (codes "window") rows) && is_none (first_of (codes "buckets") rows)

-- a number to generate from stands alone, and without it a replay is asked for
abbrev pub wanted_with : Option Text → List Row → Option Wanted
wanted_with (Some text) rows = if is_alone rows then option_map Generate (generated_of text) else None
wanted_with None rows = option_map Replay (asked_in rows)

-- what the options' values ask for
unfoldable pub wanted_in : List Row → Option Wanted
wanted_in rows = wanted_with (first_of (codes "generate") rows) rows

-- what words of the command ask for, and `None` exactly where the words aren't of the command
abbrev pub wanted : List Text → Option Wanted
wanted words = if list_any is_dashes words then None else if is_taken words then wanted_in (given words) else None
