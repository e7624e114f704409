-- The length of a window.
use Rattle.std.specs.Prelude.{ℕ, Bool, ◌&&◌, nat_le}

-- a window has 1 to 60,000 ms (this project's own)
abbrev pub is_window : ℕ → Bool
is_window n = nat_le 1 n && nat_le n 60000
