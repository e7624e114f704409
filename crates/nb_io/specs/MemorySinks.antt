-- What the sink in memory holds, and how it answers. (This project's own.)
use Rattle.std.specs.Prelude.{◌≡◌, ℕ, ◌-◌, ◌==◌, Bool, List, length, min, ◌||◌}
use Rattle.nb_io.specs.Faults.{fails_at, next_call}
use Rattle.nb_io.specs.declared.memory_sink.MemorySink.{MemorySink}

-- the bytes taken
abbrev pub sink_bytes : MemorySink → List ℕ
sink_bytes s = s.bytes.items

-- how many bytes it takes in all
abbrev pub sink_room : MemorySink → ℕ
sink_room s = s.room

-- how many bytes it takes in one call
abbrev pub sink_most : MemorySink → ℕ
sink_most s = s.most

-- the numbers of the calls that are to fail
abbrev pub sink_fails : MemorySink → List ℕ
sink_fails s = s.calls.fails.items

-- how many calls were made
abbrev pub sink_calls : MemorySink → ℕ
sink_calls s = s.calls.made

-- how many calls have failed
abbrev pub sink_faults : MemorySink → ℕ
sink_faults s = s.faults

-- how many bytes its room is still good for
abbrev pub sink_left : MemorySink → ℕ
sink_left s = sink_room s - length (sink_bytes s)

-- the next write fails where its number is among those that are to fail, or where the room is full
abbrev pub write_fails : MemorySink → Bool
write_fails s = fails_at (sink_fails s) (next_call (sink_calls s)) || (sink_left s == 0)

-- a write that doesn't fail takes the least of the bytes given, the most of one call, and the room left
abbrev pub write_count : MemorySink → List ℕ → ℕ
write_count s bytes = min (min (length bytes) (sink_most s)) (sink_left s)

-- a write counts one call; the room, the most of one call and the calls that are to fail stay
pub record CountsWrite (old new : MemorySink) : Type 0 where
  pub calls : sink_calls new ≡ next_call (sink_calls old)
  pub room : sink_room new ≡ sink_room old
  pub most : sink_most new ≡ sink_most old
  pub fails : sink_fails new ≡ sink_fails old
