-- The keys that operations name.
use Rattle.std.specs.Prelude.{ℕ, ◌+◌, Bool, true, false, ◌&&◌, nat_le, if◌then◌else◌, List, [], ◌∷◌, Option, Some, None}
use Rattle.std.specs.List.{list_all}
use Rattle.nb_base.specs.declared.key.Key.{Key}
use Rattle.nb_base.specs.declared.op.Op.{Op}
use Rattle.nb_base.specs.declared.op.Op.TheVariants as op
use Rattle.nb_base.specs.declared.line.Line.{Line}
use Rattle.nud_machine.specs.Asked.{is_settable}
unfoldable pub use Rattle.nb_queues.specs.SameKey.{is_key}
pub use Rattle.nb_queues.specs.SameKey.{has_key}

-- the key that an operation names
abbrev pub key_of : Op → Option Key
key_of (op.Send key len) = Some key
key_of (op.Arp key mac make solicited) = Some key
key_of (op.Ns key mac) = Some key
key_of (op.Na key mac router solicited overrides) = Some key
key_of (op.Add key mac nud) = Some key
key_of (op.Change key mac nud) = Some key
key_of (op.Replace key mac nud) = Some key
key_of (op.Del key) = Some key
key_of (op.Confirm key) = Some key
key_of op.Show = None
key_of op.Flush = None
key_of (op.Timer key) = Some key
key_of op.Sweep = None
key_of (op.Collect key) = Some key

-- the key that an operation makes known: one that is sent to, or for which it would make an entry
abbrev pub made_known : Op → Option Key
made_known (op.Send key len) = Some key
made_known (op.Arp key mac true solicited) = Some key
made_known (op.Ns key mac) = Some key
made_known (op.Add key (Some mac) nud) = Some key
made_known (op.Replace key (Some mac) nud) = Some key
made_known _ = None

-- an operation of a participant, which has an id; timers, sweeps and collects are the bucket's own
abbrev pub is_own : Op → Bool
is_own (op.Timer key) = false
is_own op.Sweep = false
is_own (op.Collect key) = false
is_own _ = true

-- a timer's line
abbrev pub is_timer : Op → Bool
is_timer (op.Timer key) = true
is_timer _ = false

-- a sweep's line
abbrev pub is_sweep : Op → Bool
is_sweep op.Sweep = true
is_sweep _ = false

-- an operation that sends a packet
abbrev pub is_send : Op → Bool
is_send (op.Send key len) = true
is_send _ = false

-- the key's place among the keys, or their number where it isn't there
abbrev pub place_among : List Key → Key → ℕ
place_among [] key = 0
place_among (other ∷ others) key = if is_key other key then 0 else place_among others key + 1

-- an operation that may be asked for: by hand an entry becomes PERMANENT, NOARP, REACHABLE or STALE, and a packet has 1 to 1,500 bytes
abbrev pub may_be_asked : Op → Bool
may_be_asked (op.Send key len) = nat_le 1 len && nat_le len 1_500
may_be_asked (op.Add key mac nud) = is_settable nud
may_be_asked (op.Change key mac nud) = is_settable nud
may_be_asked (op.Replace key mac nud) = is_settable nud
may_be_asked _ = true

-- the operations of all of these lines may be asked for
abbrev pub may_all_be_asked : List Line → Bool
may_all_be_asked lines = list_all (λ line. may_be_asked line.op) lines
