-- Damaged runs with a thread for each participant, which the definition refuses, at least one for each clause and each bound; the plans and journals are those of worked runs.
use Rattle.std.proofs.Common.{◌≡◌, ℕ, ◌+◌, ◌<◌, ◌≤◌, max, Bool, true, false, List, [], ◌∷◌, length, refl, sym, ap, ◌∙◌, arith}
use Rattle.std.specs.Prelude.{codes, Option, Some, None, slice_index_or}
use Rattle.std.specs.List.{AllZip}
use Rattle.std.proofs.lemmas.Bool.{false≢true}
use Rattle.nb_base.specs.declared.mac.Mac.{Mac}
use Rattle.nb_base.specs.declared.key.Key.{Key}
use Rattle.nb_base.specs.declared.key.Key.TheVariants.{V4}
use Rattle.nb_base.specs.declared.host.Host.{Host}
use Rattle.nb_base.specs.declared.nud.Nud.{Nud}
use Rattle.nb_base.specs.declared.nud.Nud.TheVariants as nud
use Rattle.nb_base.specs.declared.op.Op.TheVariants as op
use Rattle.nb_base.specs.declared.record.Record.{Record}
use Rattle.nb_base.specs.declared.line.Line.{Line}
use Rattle.nb_base.specs.declared.line.Reply.{Reply}
use Rattle.nb_base.specs.declared.line.Reply.TheVariants as reply
use Rattle.nb_base.specs.declared.outcome.Why.TheVariants as why
use Rattle.nb_base.specs.declared.outcome.Outcome.{Outcome}
use Rattle.nb_base.specs.declared.outcome.Outcome.TheVariants as outcome
use Rattle.nb_base.specs.declared.host_line.Mark.{Mark}
use Rattle.nb_base.specs.declared.host_line.Placed.{Placed}
use Rattle.nb_base.specs.declared.host_line.HostLine.{HostLine}
use Rattle.nb_base.specs.declared.host_line.HostLine.TheVariants as host_line
use Rattle.nb_base.specs.declared.plan.Mode.TheVariants as mode
use Rattle.nb_base.specs.declared.plan.Plan.{Plan}
use Rattle.nb_base.specs.declared.plan.SendItem.{SendItem}
use Rattle.nb_base.specs.declared.plan.ControlItem.TheVariants as control
use Rattle.nb_base.specs.Params.{default_params}
use Rattle.nb_journal.specs.Keys.{is_key}
use Rattle.nb_journal.specs.Fold.{change, state_of, known_keys, present_count, reply_of}
use Rattle.nb_journal.specs.Accounts.{published, timer_line}
use Rattle.change_order.specs.Orders.{JournalCounts, present_behind, IsSeenAt}
use Rattle.journal_counts.specs.Counts.{counts_of}
use Rattle.neigh_run.specs.declared.run.Run.{Run}
use Rattle.neigh_run.specs.Windows.{windows}
use Rattle.neigh_run.specs.Threaded.{IsThreadedRun}

-- ---- what the runs have in common

abbrev pub k1 : Key
k1 = V4 167772161

abbrev pub host_mac : Mac
host_mac = record { 0 = 2 ∷ 0 ∷ 0 ∷ 0 ∷ 0 ∷ 2 ∷ [] }

abbrev pub mac_a : Mac
mac_a = record { 0 = 0x00 ∷ 0x11 ∷ 0x22 ∷ 0x33 ∷ 0x44 ∷ 0x55 ∷ [] }

abbrev pub header : List ℕ
header = 0x00 ∷ 0x11 ∷ 0x22 ∷ 0x33 ∷ 0x44 ∷ 0x55 ∷ 2 ∷ 0 ∷ 0 ∷ 0 ∷ 0 ∷ 2 ∷ 8 ∷ 0 ∷ []

abbrev pub host : Host
host = record { dev = codes "eth0"; mac = host_mac; ip4 = Some 167772162; ip6 = None }

abbrev pub send : ℕ → ℕ → SendItem
send at byte = record { at = at; key = k1; payload = byte ∷ [] }

-- one bucket, windows of 50, an entry added at 0 in this state
abbrev pub plan_with : Nud → List (List SendItem) → Plan
plan_with n senders = record { host = host; params = default_params; buckets = 1; window = 50; control = control.Neigh 0 (op.Add k1 (Some mac_a) n) ∷ []; senders = senders }

-- the line that adds the entry, and saw so many
abbrev pub add_seen : ℕ → Nud → Line
add_seen seen n = record { at = 0; id = Some (record { 0 = 32 }); op = op.Add k1 (Some mac_a) n; seen = Some seen; full = None }

abbrev pub add_line : Nud → Line
add_line n = add_seen 0 n

abbrev pub send_line : ℕ → ℕ → Line
send_line at id = record { at = at; id = Some (record { 0 = id }); op = op.Send k1 1; seen = None; full = None }

abbrev pub mark : Option ℕ → ℕ → Mark
mark start n = record { start = start; lengths = n ∷ [] }

abbrev pub slow : ℕ → Outcome
slow place = outcome.Slow why.First place reply.Sent

abbrev pub fast : ℕ → Outcome
fast number = outcome.Fast number header

abbrev pub suspect : ℕ → ℕ → Outcome
suspect number place = outcome.Slow (why.Suspect number) place reply.Sent

abbrev pub again : List (ℕ × ℕ) → Outcome
again tries = outcome.Slow (why.Again tries) 2 reply.Sent

abbrev pub added : List HostLine
added = host_line.Neigh 1 0 (record { bucket = 0; place = 0; reply = reply.Done } ∷ []) ∷ []

abbrev pub run_of : Plan → List Line → List (List Outcome) → List Mark → Run
run_of plan journal logs marks = record { mode = mode.Threads; plan = plan; journals = journal ∷ []; host_lines = added; logs = logs; marks = marks }

-- a permanent entry: two senders, each with its first packet by the lock and two fast ones
abbrev pub packets : List SendItem
packets = send 50 17 ∷ send 51 18 ∷ send 52 19 ∷ []

abbrev pub permanent : Plan
permanent = plan_with nud.Permanent (packets ∷ packets ∷ [])

abbrev pub two_sends : List Line
two_sends = add_line nud.Permanent ∷ send_line 50 33 ∷ send_line 50 34 ∷ []

abbrev pub log_at : ℕ → List Outcome
log_at place = slow place ∷ fast 1 ∷ fast 1 ∷ []

abbrev pub two_marks : List Mark
two_marks = mark (Some 0) 0 ∷ mark (Some 50) 1 ∷ mark None 3 ∷ []

-- a stale entry, whose cell has published nothing: a packet by the lock, and one that read a record which isn't usable
abbrev pub stale : Plan
stale = plan_with nud.Stale ((send 50 17 ∷ send 100 18 ∷ []) ∷ [])

abbrev pub stale_sends : List Line
stale_sends = add_line nud.Stale ∷ send_line 50 33 ∷ send_line 100 65 ∷ []

abbrev pub three_marks : List Mark
three_marks = mark (Some 0) 0 ∷ mark (Some 50) 1 ∷ mark (Some 100) 2 ∷ mark None 3 ∷ []

-- a stale entry that is made permanent behind the first packet: its cell's first usable record has the number 1
abbrev pub changed : Plan
changed = record stale { control = control.Neigh 0 (op.Add k1 (Some mac_a) nud.Stale) ∷ control.Neigh 60 (op.Change k1 (Some mac_a) nud.Permanent) ∷ [] }

abbrev pub changed_sends : List Line
changed_sends =
    add_line nud.Stale
    ∷ send_line 50 33
    ∷ record { at = 60; id = Some (record { 0 = 64 }); op = op.Change k1 (Some mac_a) nud.Permanent; seen = None; full = None }
    ∷ send_line 100 65
    ∷ []

abbrev pub changed_marks : List Mark
changed_marks = mark (Some 0) 0 ∷ mark (Some 50) 1 ∷ mark (Some 100) 3 ∷ mark None 4 ∷ []

-- a packet at 0 and one at 10,000 to a stale entry, of which three probes between them find nothing
abbrev pub probed : Plan
probed = plan_with nud.Stale ((send 0 17 ∷ send 10_000 18 ∷ []) ∷ [])

abbrev pub probed_sends : List Line
probed_sends = add_line nud.Stale ∷ send_line 0 33 ∷ timer_line 5_000 k1 ∷ timer_line 6_000 k1 ∷ timer_line 7_000 k1 ∷ timer_line 8_000 k1 ∷ send_line 10_000 65 ∷ []

-- a permanent entry, to which a sender sends by the lock and then fast, in the window in which it is added
abbrev pub own_number : Plan
own_number = plan_with nud.Permanent ((send 0 17 ∷ send 1 18 ∷ []) ∷ [])

abbrev pub own_sends : List Line
own_sends = add_line nud.Permanent ∷ send_line 0 33 ∷ []

abbrev pub own_marks : List Mark
own_marks = mark (Some 0) 0 ∷ mark None 2 ∷ []

-- ---- logs and marks

-- a packet without an outcome
no_outcome : IsThreadedRun permanent (run_of permanent two_sends ((slow 1 ∷ fast 1 ∷ []) ∷ log_at 2 ∷ []) two_marks) → ⊥
no_outcome h = let e : 2 ≡ 3 = h.logs.0 in omega (arith, e)

-- no mark at the end
no_end : IsThreadedRun permanent (run_of permanent two_sends (log_at 1 ∷ log_at 2 ∷ []) (mark (Some 0) 0 ∷ mark (Some 50) 1 ∷ [])) → ⊥
unfolding windows
no_end h = let e = ap length h.marks.starts_are in let k : 2 ≡ 3 = e in omega (arith, k)

-- the last mark isn't the journals' length
short_end : IsThreadedRun permanent (run_of permanent two_sends (log_at 1 ∷ log_at 2 ∷ []) (mark (Some 0) 0 ∷ mark (Some 50) 1 ∷ mark None 2 ∷ [])) → ⊥
short_end h = let e : 2 ≡ 3 = ap first_of h.marks.last in omega (arith, e) where
  first_of : List ℕ → ℕ
  first_of [] = 0
  first_of (n ∷ ns) = n

-- lengths that fall
falling : IsThreadedRun permanent (run_of permanent two_sends (log_at 1 ∷ log_at 2 ∷ []) (mark (Some 0) 2 ∷ mark (Some 50) 1 ∷ mark None 3 ∷ [])) → ⊥
falling h = let le : 2 ≤ 1 = (h.marks.rises 0).1.0 in omega (arith, le)

-- ---- journals

-- a journal whose moments fall
unlawful : IsThreadedRun permanent (run_of permanent (add_line nud.Permanent ∷ send_line 50 33 ∷ send_line 49 34 ∷ []) (log_at 1 ∷ log_at 2 ∷ []) two_marks) → ⊥
unlawful h = let le : 50 ≤ 49 = h.lawful.0.whole.orderly.moments.1.1.0 in omega (arith, le)

-- a mark that leaves out timers before its moment
unlawful_mark : IsThreadedRun probed (run_of probed probed_sends ((slow 1 ∷ suspect 0 6 ∷ []) ∷ []) (mark (Some 0) 0 ∷ mark (Some 10_000) 2 ∷ mark None 7 ∷ [])) → ⊥
unfolding state_of change is_key
unlawful_mark h = let late : 10_000 < 5_000 = h.lawful.0.marked.1.0.none_left k1 in omega (arith, late)

-- a line before the mark of its window
outside : IsThreadedRun permanent (run_of permanent two_sends (log_at 1 ∷ log_at 2 ∷ []) (mark (Some 0) 0 ∷ mark (Some 50) 2 ∷ mark None 3 ∷ [])) → ⊥
outside h = let low : 2 ≤ 1 = h.lines.0.senders.0.0.behind in omega (arith, low)

-- a line at another moment than its item's and the last operation's
late : IsThreadedRun permanent (run_of permanent (add_line nud.Permanent ∷ send_line 51 33 ∷ send_line 51 34 ∷ []) (log_at 1 ∷ log_at 2 ∷ []) two_marks) → ⊥
late h = let e : 51 ≡ max 50 0 = h.lines.0.senders.0.0.moment in omega (arith, e)

-- a packet that was entered twice
entered_twice : IsThreadedRun permanent (run_of permanent (add_line nud.Permanent ∷ send_line 50 33 ∷ send_line 50 33 ∷ send_line 50 34 ∷ []) (log_at 1 ∷ log_at 3 ∷ []) (mark (Some 0) 0 ∷ mark (Some 50) 1 ∷ mark None 4 ∷ [])) → ⊥
entered_twice h = h.lines.0.senders.0.1

-- a line of nobody
foreign : IsThreadedRun permanent (run_of permanent (add_line nud.Permanent ∷ send_line 50 33 ∷ send_line 50 34 ∷ send_line 50 35 ∷ []) (log_at 1 ∷ log_at 2 ∷ []) (mark (Some 0) 0 ∷ mark (Some 50) 1 ∷ mark None 4 ∷ [])) → ⊥
foreign h = let le : 3 ≤ 2 = h.lines.0.only.1.1.1.0 in omega (arith, le)

-- ---- outcomes

-- another line's place
other_place : IsThreadedRun permanent (run_of permanent two_sends (log_at 2 ∷ log_at 2 ∷ []) two_marks) → ⊥
other_place h = let e = ap (λ (x : Placed). x.place) h.places.0.0 in let k : 1 ≡ 2 = e in omega (arith, k)

-- another reply than the line's
other_reply : IsThreadedRun permanent (run_of permanent two_sends ((outcome.Slow why.First 1 reply.Done ∷ fast 1 ∷ fast 1 ∷ []) ∷ log_at 2 ∷ []) two_marks) → ⊥
unfolding reply_of state_of change is_key
other_reply h = let e = ap (λ (x : Placed). is_sent x.reply) h.places.0.0 in false≢true (sym e) where
  is_sent : Reply → Bool
  is_sent reply.Sent = true
  is_sent _ = false

-- the cause of an inline run
by_inline : IsThreadedRun permanent (run_of permanent two_sends ((outcome.Slow why.Inline 1 reply.Sent ∷ fast 1 ∷ fast 1 ∷ []) ∷ log_at 2 ∷ []) two_marks) → ⊥
by_inline h = false≢true (sym h.causes.0.0.inline)

-- `First` at a second packet
twice_first : IsThreadedRun permanent (run_of permanent two_sends ((slow 1 ∷ slow 1 ∷ fast 1 ∷ []) ∷ log_at 2 ∷ []) two_marks) → ⊥
unfolding is_key
twice_first h = false≢true (sym h.causes.0.1.0.first)

-- a number below the last one at the mark of its window
below_low : IsThreadedRun changed (run_of changed changed_sends ((slow 1 ∷ suspect 0 3 ∷ []) ∷ []) changed_marks) → ⊥
unfolding windows published state_of change is_key
below_low h = let le : 1 ≤ 0 = h.bounds.0.1.0.0.marked in omega (arith, le)

-- a number below that which the sender's own line left
below_known : IsThreadedRun own_number (run_of own_number own_sends ((slow 1 ∷ fast 0 ∷ []) ∷ []) own_marks) → ⊥
unfolding windows published state_of change is_key
below_known h = let le : 1 ≤ 0 = h.bounds.0.1.0.0.known in omega (arith, le)

-- a number above the last one at the next mark
above_high : IsThreadedRun stale (run_of stale stale_sends ((slow 1 ∷ suspect 1 2 ∷ []) ∷ []) three_marks) → ⊥
unfolding windows published state_of change is_key
above_high h = let le : 1 ≤ 0 = h.bounds.0.1.0.0.next in omega (arith, le)

-- another header than the record's
other_header : IsThreadedRun permanent (run_of permanent two_sends ((slow 1 ∷ outcome.Fast 1 (1 ∷ []) ∷ fast 1 ∷ []) ∷ log_at 2 ∷ []) two_marks) → ⊥
unfolding published state_of change is_key
other_header h = let r = h.bounds.0.1.0.1 in let e : 0 ≡ 1 = ap (λ (x : Option Record). first_byte x) (r.1 ∙ ap Some r.2) in omega (arith, e) where
  first_byte : Option Record → ℕ
  first_byte None = 2
  first_byte (Some r) = slice_index_or r.header 0 2

-- a fast packet by a record that isn't usable
not_usable : IsThreadedRun stale (run_of stale stale_sends ((slow 1 ∷ fast 0 ∷ []) ∷ []) three_marks) → ⊥
unfolding published state_of change is_key
not_usable h = let r = h.bounds.0.1.0.1 in false≢true (ap (λ (x : Option Record). is_usable x) (r.1 ∙ ap Some r.2)) where
  is_usable : Option Record → Bool
  is_usable None = false
  is_usable (Some r) = r.usable

-- a packet that a usable record stopped
not_suspect : IsThreadedRun permanent (run_of permanent two_sends ((slow 1 ∷ suspect 1 2 ∷ fast 1 ∷ []) ∷ log_at 2 ∷ []) two_marks) → ⊥
unfolding published state_of change is_key
not_suspect h = let r = h.bounds.0.1.0.1 in false≢true (sym (ap (λ (x : Option Record). is_usable x) r.1 ∙ r.2)) where
  is_usable : Option Record → Bool
  is_usable None = false
  is_usable (Some r) = r.usable

-- tries that failed while nothing was published
invented_tries : IsThreadedRun stale (run_of stale stale_sends ((slow 1 ∷ again ((1, 1) ∷ (1, 1) ∷ (1, 1) ∷ (1, 1) ∷ []) ∷ []) ∷ []) three_marks) → ⊥
unfolding windows published state_of change is_key
invented_tries h = let le : 1 ≤ 0 = h.bounds.0.1.0.within.0.next in omega (arith, le)

-- fewer than four tries
one_try : IsThreadedRun stale (run_of stale stale_sends ((slow 1 ∷ again ((1, 1) ∷ []) ∷ []) ∷ []) three_marks) → ⊥
one_try h = let e : 1 ≡ 4 = h.bounds.0.1.0.four in omega (arith, e)

-- a try that is good
good_try : IsThreadedRun stale (run_of stale stale_sends ((slow 1 ∷ again ((0, 0) ∷ (1, 1) ∷ (1, 1) ∷ (1, 1) ∷ []) ∷ []) ∷ []) three_marks) → ⊥
good_try h = false≢true (sym h.bounds.0.1.0.failed.0)

-- numbers of tries that fall
falling_tries : IsThreadedRun stale (run_of stale stale_sends ((slow 1 ∷ again ((3, 1) ∷ (3, 3) ∷ (3, 3) ∷ (3, 3) ∷ []) ∷ []) ∷ []) three_marks) → ⊥
falling_tries h = let le : 3 ≤ 1 = h.bounds.0.1.0.rises.1.0 in omega (arith, le)

-- ---- the host

-- no line of participant 0's item
no_host_line : IsThreadedRun permanent (record (run_of permanent two_sends (log_at 1 ∷ log_at 2 ∷ []) two_marks) { host_lines = [] }) → ⊥
no_host_line h = let e : 0 ≡ 1 = ap length h.host_lines in omega (arith, e)

-- ---- the order of all changes

-- a line that saw an entry before there was one
abbrev seeing_sends : List Line
seeing_sends = add_seen 1 nud.Permanent ∷ send_line 50 33 ∷ send_line 50 34 ∷ []

saw_one : IsThreadedRun permanent (run_of permanent seeing_sends (log_at 1 ∷ log_at 2 ∷ []) two_marks) → ⊥
unfolding present_count known_keys state_of change is_key
saw_one h = let places = h.order.each 0 counts refl in by_lengths places.lengths places.lines where
  counts : JournalCounts
  counts = counts_of default_params seeing_sends

  by_lengths : (ns : List ℕ) → AllZip (IsSeenAt (counts ∷ []) h.order.order 0) ns (record { before = 0; seen = 1 } ∷ []) → ⊥
  by_lengths [] zipped = zipped
  by_lengths (n ∷ ns) zipped = let e : 1 ≡ 0 = zipped.0.sum ∙ ap (λ (k : ℕ). present_behind k (1 ∷ []) + 0) zipped.0.mine in omega (arith, e)

-- ---- the end

-- a sweep behind the last operation
goes_on : IsThreadedRun permanent (run_of permanent (add_line nud.Permanent ∷ send_line 50 33 ∷ send_line 50 34 ∷ record { at = 30_000; id = None; op = op.Sweep; seen = Some 1; full = None } ∷ []) (log_at 1 ∷ log_at 2 ∷ []) (mark (Some 0) 0 ∷ mark (Some 50) 1 ∷ mark None 4 ∷ [])) → ⊥
goes_on h = let le : 30_000 ≤ max 50 50 = h.ends.0 in omega (arith, le)
