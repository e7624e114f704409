-- The packets of a generated script: four senders to 200 neighbours (this project's own).
use Rattle.std.specs.Prelude.{ℕ, ◌+◌, ◌*◌, ◌%◌, List, map}
use Rattle.std.specs.Int.{w32, to_be_bytes}
use Rattle.std.specs.List.{range_with_len}
use Rattle.nb_base.specs.declared.key.Key.TheVariants.{V4}
use Rattle.neigh_script.specs.declared.script.ScriptItem.{ScriptItem}
use Rattle.neigh_script.specs.declared.script.ScriptItem.TheVariants.{Send}
use Rattle.generated_input.specs.Draws.{draw, neighbour}
use Rattle.generated_input.specs.Heard.{neighbour_ip4}

-- packet j, counted from 0, at 5 j: the senders take turns, a draw says to whom it goes, and its payload is j as four bytes, the most significant first
abbrev pub sent_by : ℕ → ℕ → ScriptItem
sent_by j drawn = Send (5 * j) (1 + j % 4) (V4 (neighbour_ip4 (neighbour drawn))) (to_be_bytes w32 j)

-- one draw for each packet
abbrev pub sent_at : ℕ → ℕ → ScriptItem
sent_at x j = sent_by j (draw j x)

-- the first n packets
unfoldable pub sent : ℕ → ℕ → List ScriptItem
sent n x = map (sent_at x) (range_with_len 0 n)
