-- Numbers that are drawn one after the other, each from the state that the one before has left (a linear congruential generator with Knuth's multiplier for 64 bits, of MMIX).
use Rattle.std.specs.Prelude.{ℕ, zero, suc, ◌+◌, ◌*◌, ◌/◌, ◌%◌, ◌^◌}

-- the state that a draw leaves
unfoldable pub next_state : ℕ → ℕ
next_state x = (x * 6364136223846793005 + 1442695040888963407) % 2 ^ 64

-- the state once so many numbers were drawn
unfoldable pub state_after : ℕ → ℕ → ℕ
state_after zero x = x
state_after (suc n) x = next_state (state_after n x)

-- what is drawn with a state: its upper 31 bits
abbrev pub drawn : ℕ → ℕ
drawn state = state / 2 ^ 33

-- the draw behind so many others
abbrev pub draw : ℕ → ℕ → ℕ
draw n x = drawn (next_state (state_after n x))

-- one of 200 neighbours by a draw: 1 to 200
abbrev pub neighbour : ℕ → ℕ
neighbour drawn = drawn % 200 + 1
