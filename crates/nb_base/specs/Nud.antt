-- The states of an entry: their bits, and which are connected, valid and in a timer (Linux, include/net/neighbour.h).
use Rattle.std.specs.Prelude.{ℕ, Bool, true, false}
use Rattle.nb_base.specs.declared.nud.Nud.{Nud}
use Rattle.nb_base.specs.declared.nud.Nud.TheVariants as nud

-- the bit of a state (NUD_INCOMPLETE to NUD_PERMANENT)
abbrev pub bits : Nud → ℕ
bits nud.None = 0
bits nud.Incomplete = 0x01
bits nud.Reachable = 0x02
bits nud.Stale = 0x04
bits nud.Delay = 0x08
bits nud.Probe = 0x10
bits nud.Failed = 0x20
bits nud.Noarp = 0x40
bits nud.Permanent = 0x80

-- PERMANENT, NOARP and REACHABLE (NUD_CONNECTED)
abbrev pub is_connected : Nud → Bool
is_connected nud.None = false
is_connected nud.Incomplete = false
is_connected nud.Reachable = true
is_connected nud.Stale = false
is_connected nud.Delay = false
is_connected nud.Probe = false
is_connected nud.Failed = false
is_connected nud.Noarp = true
is_connected nud.Permanent = true

-- the connected ones, PROBE, STALE and DELAY (NUD_VALID)
abbrev pub is_valid : Nud → Bool
is_valid nud.None = false
is_valid nud.Incomplete = false
is_valid nud.Reachable = true
is_valid nud.Stale = true
is_valid nud.Delay = true
is_valid nud.Probe = true
is_valid nud.Failed = false
is_valid nud.Noarp = true
is_valid nud.Permanent = true

-- INCOMPLETE, REACHABLE, DELAY and PROBE (NUD_IN_TIMER)
abbrev pub in_timer : Nud → Bool
in_timer nud.None = false
in_timer nud.Incomplete = true
in_timer nud.Reachable = true
in_timer nud.Stale = false
in_timer nud.Delay = true
in_timer nud.Probe = true
in_timer nud.Failed = false
in_timer nud.Noarp = false
in_timer nud.Permanent = false
