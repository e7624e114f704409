-- What a journal comes to: the records that a key's cell publishes, the fate of each packet, and how many lines there can be (this project's own).
use Rattle.std.specs.Prelude.{ℕ, ◌+◌, ◌-◌, ◌*◌, ◌/◌, Bool, true, false, ◌==◌, nat_le, nat_lt, if◌then◌else◌, List, [], ◌∷◌, ◌++◌, map, filter, length, Option, Some, None}
use Rattle.std.specs.List.{flat_map, list_any}
use Rattle.nb_base.specs.declared.mac.Mac.{Mac}
use Rattle.nb_base.specs.declared.key.Key.{Key}
use Rattle.nb_base.specs.declared.time.OpId.{OpId}
use Rattle.nb_base.specs.declared.host.Host.{Host}
use Rattle.nb_base.specs.declared.nud.Nud.{Nud}
use Rattle.nb_base.specs.declared.nud.Nud.TheVariants as nud
use Rattle.nb_base.specs.declared.params.Params.{Params}
use Rattle.nb_base.specs.declared.record.Record.{Record}
use Rattle.nb_base.specs.declared.op.Op.{Op}
use Rattle.nb_base.specs.declared.op.Op.TheVariants as op
use Rattle.nb_base.specs.declared.line.Line.{Line}
use Rattle.nud_machine.specs.declared.act.Act.{Act}
use Rattle.nud_machine.specs.declared.act.Act.TheVariants as act
use Rattle.nud_machine.specs.declared.act.Cause.{Cause}
use Rattle.nud_machine.specs.declared.entry.Entry.{Entry}
use Rattle.nud_machine.specs.State.{State, absent}
use Rattle.nud_machine.specs.Record.{record_of, same_record}
use Rattle.nud_machine.specs.Laws.{leaving, ids_of}
use Rattle.nb_journal.specs.Keys.{is_key, is_own, is_send}
use Rattle.nb_journal.specs.Fold.{id_of, change, state_of, acts_of, known_keys, is_transmit}
use Rattle.nb_journal.specs.Lawful.{fold_lines, bare_line}

-- ---- published records

-- a key's states behind each line, from the one before the first
abbrev pub states_from : Params → Key → State → List Line → List State
states_from p key s [] = s ∷ []
states_from p key s (line ∷ lines) = s ∷ states_from p key (change p line key s).state lines

-- equal neighbours once
abbrev pub without_repeats : List Record → List Record
without_repeats [] = []
without_repeats (r ∷ []) = r ∷ []
without_repeats (r ∷ next ∷ records) = if same_record r next then without_repeats (next ∷ records) else r ∷ without_repeats (next ∷ records)

-- the records that a key's cell has published: those of its entry behind each beginning of the journal, from the empty one on, equal neighbours once
unfoldable pub published : Params → Host → List Line → Key → List Record
published p host journal key = without_repeats (map (λ (s : State). record_of s.entry host key) (states_from p key absent journal))

-- the number of the last one, from 0
abbrev pub last_number : Params → Host → List Line → Key → ℕ
last_number p host journal key = length (published p host journal key) - 1

-- the last record is this one
abbrev pub ends_with : List Record → Record → Bool
ends_with [] r = false
ends_with (last ∷ []) r = same_record last r
ends_with (first ∷ next ∷ records) r = ends_with (next ∷ records) r

-- one record more, unless it is the last one again
abbrev pub with_record : List Record → Record → List Record
with_record records r = if ends_with records r then records else records ++ r ∷ []

-- ---- fates

-- what becomes of a packet: it was sent at a line, to an address; it was dropped at a line, by a cause; or it waits
pub data Fate : Type 0 where
  Sent : ℕ → Mac → Fate
  Dropped : ℕ → Cause → Fate
  Waits : Fate

-- two numbers of operations are one
abbrev pub is_id : OpId → OpId → Bool
is_id a b = a.0 == b.0

-- what an act at a place says of a packet
abbrev pub fate_by_act : ℕ → OpId → Act → List Fate
fate_by_act place id (act.Transmit other mac) = if is_id id other then Sent place mac ∷ [] else []
fate_by_act place id (act.Drop other cause) = if is_id id other then Dropped place cause ∷ [] else []
fate_by_act place id (act.Wait other) = []
fate_by_act place id act.SolicitGroup = []
fate_by_act place id (act.SolicitUnicast mac) = []

-- the acts of a line, over the keys that are known behind it, by rank
abbrev pub acts_at : Params → List Line → Line → List Act
acts_at p past line = flat_map (acts_of p past line) (known_keys (past ++ line ∷ []))

-- where a packet was sent or dropped, in the lines behind the past
abbrev pub ends_behind : Params → OpId → List Line → List Line → List Fate
ends_behind p id past [] = []
ends_behind p id past (line ∷ lines) = flat_map (fate_by_act (length past) id) (acts_at p past line) ++ ends_behind p id (past ++ line ∷ []) lines

-- the packet stands in a queue
abbrev pub is_waiting : Params → List Line → OpId → Bool
is_waiting p journal id = list_any (λ key. list_any (is_id id) (ids_of (state_of p journal key).waiting)) (known_keys journal)

-- what a journal says of a packet: where it was sent, where it was dropped, and whether it waits
unfoldable pub fates_of : Params → List Line → OpId → List Fate
fates_of p journal id = ends_behind p id [] journal ++ (if is_waiting p journal id then Waits ∷ [] else [])

-- a line sends the packet
abbrev pub sends_packet : OpId → Line → Op → Bool
sends_packet id line (op.Send key len) = is_id id (id_of line)
sends_packet id line _ = false

-- how many lines send it
abbrev pub times_sent : List Line → OpId → ℕ
times_sent journal id = length (filter (λ line. sends_packet id line line.op) journal)

-- the packets that acts end, in order: those that go out or are dropped
abbrev pub ended : List Act → List OpId
ended acts = flat_map leaving acts

-- the packet that a line sends to a key
abbrev pub sent_by : Line → Key → Op → List OpId
sent_by line key (op.Send named len) = if is_key named key then id_of line ∷ [] else []
sent_by line key _ = []

-- the packets that were sent to a key, in the order of their lines
abbrev pub sends_to : List Line → Key → List OpId
sends_to journal key = flat_map (λ line. sent_by line key line.op) journal

-- those of a key that have gone out or been dropped, in the order in which they did
unfoldable pub ended_of : Params → List Line → Key → List OpId
ended_of p journal key = fold_lines (λ ids past line. ids ++ ended (acts_of p past line key)) [] [] journal

-- ---- how many packets went out, were dropped, and wait

-- an act by which a packet is dropped
abbrev pub is_drop : Act → Bool
is_drop (act.Drop id cause) = true
is_drop _ = false

-- all acts of the lines behind the past, in order
abbrev pub acts_behind : Params → List Line → List Line → List Act
acts_behind p past [] = []
acts_behind p past (line ∷ lines) = acts_at p past line ++ acts_behind p (past ++ line ∷ []) lines

-- the packets that wait behind a journal, by rank of their keys
abbrev pub waiting_behind : Params → List Line → List OpId
waiting_behind p journal = flat_map (λ key. ids_of (state_of p journal key).waiting) (known_keys journal)

-- the lines that send
abbrev pub send_lines : List Line → List Line
send_lines journal = filter (λ line. is_send line.op) journal

-- how many packets went out or were dropped at lines, and wait behind them
abbrev pub fates_total : Params → List Line → ℕ
fates_total p journal =
    length (filter is_transmit (acts_behind p [] journal)) + length (filter is_drop (acts_behind p [] journal))
    + length (waiting_behind p journal)

-- ---- the line bound

-- how many timers REACHABLE may still have, by its due and the end of its confirmation
abbrev pub reachable_potential : Params → Option ℕ → Option ℕ → ℕ
reachable_potential p None due = p.ucast_solicit + 2
reachable_potential p (Some confirmed) None = p.ucast_solicit + 2
reachable_potential p (Some confirmed) (Some due) =
    if nat_lt due (confirmed + p.base_reachable_time) then p.ucast_solicit + 4
    else (if due == confirmed + p.base_reachable_time then p.ucast_solicit + 3 else p.ucast_solicit + 2)

-- DELAY goes back to REACHABLE where a confirmation comes before its end
abbrev pub delay_potential : Params → Option ℕ → Option ℕ → ℕ
delay_potential p None due = p.ucast_solicit + 1
delay_potential p (Some confirmed) None = p.ucast_solicit + 1
delay_potential p (Some confirmed) (Some due) = if nat_le due (confirmed + p.delay_first_probe_time) then p.ucast_solicit + 4 else p.ucast_solicit + 1

-- how many timers a present entry may still have, by its state
abbrev pub timers_left : Nud → Params → Entry → ℕ
timers_left nud.Incomplete p e = p.mcast_solicit - e.probes + 1
timers_left nud.Probe p e = p.ucast_solicit - e.probes + 1
timers_left nud.Delay p e = delay_potential p e.confirmed e.due
timers_left nud.Reachable p e = reachable_potential p e.confirmed e.due
timers_left nud.None p e = 0
timers_left nud.Stale p e = 0
timers_left nud.Failed p e = 0
timers_left nud.Noarp p e = 0
timers_left nud.Permanent p e = 0

-- how many lines of the bucket's own an entry may still have: its timers, and one that removes it
abbrev pub potential : Params → Entry → ℕ
potential p e = if e.present then timers_left e.nud p e + 1 else 0

-- a timer's line
abbrev pub timer_line : ℕ → Key → Line
timer_line at key = bare_line at (op.Timer key) None

-- the operations' lines
abbrev pub own_lines : List Line → List Line
own_lines journal = filter (λ line. is_own line.op) journal

-- an operation as it is entered: its moment, its number and what it asks
pub record Operation : Type 0 where
  pub at : ℕ
  pub id : Option OpId
  pub op : Op

-- the operation of an own line
abbrev pub operation_of : Line → Operation
operation_of line = record { at = line.at; id = line.id; op = line.op }

-- the operations of a journal, in order
abbrev pub operations : List Line → List Operation
operations journal = map operation_of (own_lines journal)

-- the most lines that a journal may have: 2^22
abbrev pub most_lines : ℕ
most_lines = 4_194_304

-- the most lines that a bucket can have with so many operations up to a moment
abbrev pub line_bound : Params → ℕ → ℕ → ℕ
line_bound p operations moment = operations * (p.mcast_solicit + p.ucast_solicit + 10) + moment / p.gc_interval + 1
