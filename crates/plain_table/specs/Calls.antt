-- Calls of the buckets of a table, one after the other, by one thread (this project's own).
use Rattle.std.specs.Prelude.{ℕ, ◌==◌, List, map, filter}
use Rattle.std.specs.List.{flat_map}
use Rattle.nb_base.specs.declared.line.Line.{Line}
use Rattle.neigh_run.specs.Merged.{Entered}
use Rattle.neigh_run.specs.Seen.{buckets_from}
use Rattle.neigh_run.specs.Inline.{entered_line}

-- an operation goes to a bucket
pub record Call : Type 0 where
  pub bucket : ℕ
  pub entered : Entered

abbrev pub call_to : Entered → ℕ → Call
call_to x b = record { bucket = b; entered = x }

-- an operation's calls in a table of so many buckets, in order of their numbers
abbrev pub calls_for : ℕ → Entered → List Call
calls_for buckets x = map (call_to x) (buckets_from buckets 0 buckets x.op)

-- the calls of operations, one after the other
unfoldable pub calls_of : ℕ → List Entered → List Call
calls_of buckets operations = flat_map (calls_for buckets) operations

-- the calls of the operations of lines
abbrev pub calls_on : ℕ → List Line → List Call
calls_on buckets lines = calls_of buckets (map entered_line lines)

-- the buckets that are called, call by call
abbrev pub buckets_called : List Call → List ℕ
buckets_called calls = map (λ call. call.bucket) calls

-- a bucket's operations among calls
abbrev pub entered_at : ℕ → List Call → List Entered
entered_at b calls = map (λ call. call.entered) (filter (λ call. call.bucket == b) calls)
