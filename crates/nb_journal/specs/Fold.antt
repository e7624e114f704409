-- What a journal means for each key: the effect of an operation on an entry, states and acts by a fold over the lines, and replies (the rules of a bucket are this project's own, after ip-neighbour(8) and Linux).
use Rattle.std.specs.Prelude.{ℕ, ◌+◌, Bool, true, false, ◌||◌, ◌&&◌, not, nat_le, nat_lt, is_none, unwrap_or, if◌then◌else◌, List, [], Option, Some, is_some, ◌∷◌, fold, filter, length, None}
use Rattle.std.specs.Option.{option_map_or}
use Rattle.nb_base.specs.declared.mac.Mac.{Mac}
use Rattle.nb_base.specs.declared.time.OpId.{OpId}
use Rattle.nb_base.specs.declared.nud.Nud.TheVariants as nud
use Rattle.nb_base.specs.declared.params.Params.{Params}
use Rattle.nb_base.specs.declared.op.Op.{Op}
use Rattle.nb_base.specs.declared.op.Op.TheVariants as op
use Rattle.nb_base.specs.declared.line.Line.{Line}
use Rattle.nb_base.specs.declared.line.Reply.{Reply}
use Rattle.nb_base.specs.declared.line.Reply.TheVariants as reply
use Rattle.nb_base.specs.Nud.{is_valid}
use Rattle.nb_queues.specs.Queue.{Packet}
use Rattle.nud_machine.specs.declared.event.Event.{Event}
use Rattle.nud_machine.specs.declared.event.Event.TheVariants as event
use Rattle.nud_machine.specs.State.{State, same_nud, Stepped, absent, made, stays}
use Rattle.nud_machine.specs.Update.{is_fixed}
use Rattle.std.specs.List.{list_any}
use Rattle.nb_base.specs.declared.key.Key.{Key}
use Rattle.nud_machine.specs.declared.act.Act.{Act}
use Rattle.nud_machine.specs.declared.act.Act.TheVariants.{Drop}
use Rattle.nud_machine.specs.declared.act.Cause.TheVariants.{TableFull}
use Rattle.nud_machine.specs.Step.{step}
use Rattle.nb_queues.specs.SameKey as same
use Rattle.nb_journal.specs.Keys.{is_key, key_of, made_known, place_among, is_own}
use Rattle.nud_machine.specs.declared.act.Act.TheVariants as act
use Rattle.nud_machine.specs.declared.act.Cause.TheVariants as cause

-- ---- what an operation comes to for one key: a row for each (this project's own, after ip-neighbour(8) and Linux)

-- nothing; a refusal, with its reply; or an event, for which an absent entry is made first
pub data Effect : Type 0 where
  Passes : Effect
  Refuses : Reply → Effect
  Brings : Event → Effect

-- a line's number, or 0 where it has none
abbrev pub id_of : Line → OpId
id_of line = unwrap_or line.id (record { 0 = 0 })

-- what a packet counts for where it waits: the bytes of its payload, and 256 more (this project's own, after the size that Linux counts for a packet)
abbrev pub size_of : ℕ → ℕ
size_of len = len + 256

-- what a line saw of the whole table, or 0 where it looked at nothing
abbrev pub seen_of : Line → ℕ
seen_of line = unwrap_or line.seen 0

-- present, and neither PERMANENT nor NOARP
abbrev pub is_loose : State → Bool
is_loose s = s.entry.present && not (is_fixed s.entry.nud)

-- a packet waits
abbrev pub has_waiting : State → Bool
has_waiting s = waits s.waiting
  where
    waits : List Packet → Bool
    waits [] = false
    waits _ = true

-- more than so many milliseconds ago, or never
abbrev pub is_past : ℕ → Option ℕ → ℕ → Bool
is_past at since millis = option_map_or (λ then_at. nat_lt (then_at + millis) at) since true

-- a sweep removes the entry: loose, no packet waits, and FAILED or long unused and unconfirmed
abbrev pub is_swept : Params → ℕ → State → Bool
is_swept p at s =
    is_loose s && not (has_waiting s)
    && (same_nud s.entry.nud nud.Failed || (is_past at (Some s.entry.used) p.gc_stale_time && is_past at s.entry.confirmed p.gc_stale_time))

-- a sweep's line saw enough entries for entries to be removed
abbrev pub saw_enough : Params → Option ℕ → Bool
saw_enough p None = false
saw_enough p (Some seen) = nat_le p.gc_thresh1 seen

-- the event where the test holds, or else nothing
abbrev pub if_so : Bool → Event → Effect
if_so b e = if b then Brings e else Passes

-- no address is given and the entry has none
abbrev pub lacks_address : Option Mac → State → Bool
lacks_address mac s = is_none mac && not (is_valid s.entry.nud)

-- a row for each operation
abbrev pub effect : Params → Line → State → Op → Effect
effect p line s (op.Send key len) = Brings (event.Send (id_of line) (size_of len))
effect p line s (op.Arp key mac make solicited) = if s.entry.present || make then Brings (event.Arp mac solicited) else Refuses reply.Ignored
effect p line s (op.Ns key mac) = Brings (event.Ns mac)
effect p line s (op.Na key mac router solicited overrides) = if s.entry.present then Brings (event.Na mac router solicited overrides) else Refuses reply.Ignored
effect p line s (op.Add key mac nud) = if s.entry.present then Refuses reply.Exists else (if is_none mac then Refuses reply.NoAddress else Brings (event.Admin mac nud))
effect p line s (op.Change key mac nud) = if not s.entry.present then Refuses reply.Missing else (if lacks_address mac s then Refuses reply.NoAddress else Brings (event.Admin mac nud))
effect p line s (op.Replace key mac nud) = if lacks_address mac s then Refuses reply.NoAddress else Brings (event.Admin mac nud)
effect p line s (op.Del key) = if not s.entry.present then Refuses reply.Missing else Brings event.Remove
effect p line s (op.Confirm key) = if s.entry.present && is_valid s.entry.nud then Brings event.Confirm else Refuses reply.Ignored
effect p line s op.Show = Passes
effect p line s op.Flush = if_so (is_loose s) event.Remove
effect p line s (op.Timer key) = if_so s.entry.present event.Timer
effect p line s op.Sweep = if_so (saw_enough p line.seen && is_swept p line.at s) event.Remove
effect p line s (op.Collect key) = if_so s.entry.present event.Remove

-- ---- what a journal says of its keys: a fold over its lines, from the absent entry

-- the effect meets the entry, which is made first where it is absent
abbrev pub meet : Params → Line → State → Effect → Stepped
meet p line s Passes = stays s
meet p line s (Refuses r) = stays s
meet p line s (Brings e) = step p line.at (if s.entry.present then s else made line.at) e

-- a line that found the table full changes nothing; the packet of a send is dropped
abbrev pub turn_away : Line → State → Op → Stepped
turn_away line s (op.Send key len) = record { state = s; acts = Drop (id_of line) TableFull ∷ [] }
turn_away line s _ = stays s

-- what a line does to the entry of a key that it names, or of any key where it names none
abbrev pub change_by : Params → Line → Key → State → Option Key → Stepped
change_by p line key s None = meet p line s (effect p line s line.op)
change_by p line key s (Some named) =
    if is_key named key then (if is_some line.full then turn_away line s line.op else meet p line s (effect p line s line.op)) else stays s

-- what a line means for a key
unfoldable pub change : Params → Line → Key → State → Stepped
change p line key s = change_by p line key s (key_of line.op)

-- a key's state behind a journal
unfoldable pub state_of : Params → List Line → Key → State
state_of p lines key = fold (λ s line. (change p line key s).state) absent lines

-- the acts of a line behind a journal, for a key
abbrev pub acts_of : Params → List Line → Line → Key → List Act
acts_of p past line key = (change p line key (state_of p past key)).acts

-- the keys with one more, unless it is there
abbrev pub with_key : List Key → Option Key → List Key
with_key keys None = keys
with_key keys (Some key) = same.with_key keys key

-- the keys that a journal knows, in the order of the first lines that made them known
unfoldable pub known_keys : List Line → List Key
known_keys lines = fold (λ keys line. with_key keys (made_known line.op)) [] lines

-- a key's place in that order
abbrev pub rank_of : List Line → Key → ℕ
rank_of lines key = place_among (known_keys lines) key

-- a key's entry is present behind the lines
abbrev pub is_present : Params → List Line → Key → Bool
is_present p lines key = (state_of p lines key).entry.present

-- how many entries are present
unfoldable pub present_count : Params → List Line → ℕ
present_count p lines = length (filter (is_present p lines) (known_keys lines))

-- ---- what an own line is answered, by the lines before it and by its `full`

-- an act by which a packet goes out
abbrev pub is_transmit : Act → Bool
is_transmit (act.Transmit id mac) = true
is_transmit _ = false

-- an act by which a packet is dropped since no probe may be sent
abbrev pub is_no_probes : Act → Bool
is_no_probes (act.Drop id cause.NoProbes) = true
is_no_probes _ = false

-- an act by which a packet is dropped for a further one
abbrev pub is_queue_full : Act → Bool
is_queue_full (act.Drop id cause.QueueFull) = true
is_queue_full _ = false

-- a send is answered by what became of its packet
abbrev pub reply_to_send : List Act → Reply
reply_to_send acts =
    if list_any is_transmit acts then reply.Sent
    else (if list_any is_no_probes acts then reply.NoProbes else reply.Waits (length (filter is_queue_full acts)))

-- and every other event is done
abbrev pub reply_after : Op → List Act → Reply
reply_after (op.Send key len) acts = reply_to_send acts
reply_after _ acts = reply.Done

-- nothing, the refusal, or what comes of the event
abbrev pub reply_to_effect : Op → List Act → Effect → Option Reply
reply_to_effect o acts Passes = None
reply_to_effect o acts (Refuses r) = Some r
reply_to_effect o acts (Brings e) = Some (reply_after o acts)

-- for an operation that names a key
abbrev pub reply_for : Params → List Line → Line → Key → Option ℕ → Option Reply
reply_for p past line key (Some seen) = Some (reply.Full seen)
reply_for p past line key None = reply_to_effect line.op (acts_of p past line key) (effect p line (state_of p past key) line.op)

-- Show and Flush are answered by a number, every other operation by its key
abbrev pub reply_by : Params → List Line → Line → Op → Option Key → Option Reply
reply_by p past line op.Show named = Some (reply.Counted (present_count p past))
reply_by p past line op.Flush named = Some (reply.Counted (length (filter (λ key. is_loose (state_of p past key)) (known_keys past))))
reply_by p past line o (Some key) = reply_for p past line key line.full
reply_by p past line o None = None

-- the reply to a line behind the past, where it is an own line
unfoldable pub reply_of : Params → List Line → Line → Option Reply
reply_of p past line = if is_own line.op then reply_by p past line line.op (key_of line.op) else None
