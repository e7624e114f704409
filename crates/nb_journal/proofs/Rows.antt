-- Worked journals, by computation: they test the definitions.
use Rattle.std.proofs.Common.{◌≡◌, ℕ, true, false, is_some, List, [], ◌∷◌, ◌++◌, Some, None, refl, sym, ap, ◌∙◌, arith}
use Rattle.std.proofs.lemmas.Bool.{false≢true}
use Rattle.nb_base.specs.declared.mac.Mac.{Mac}
use Rattle.nb_base.specs.declared.key.Key.{Key}
use Rattle.nb_base.specs.declared.key.Key.TheVariants.{V4}
use Rattle.nb_base.specs.declared.host.Host.{Host}
use Rattle.nb_base.specs.declared.time.OpId.{OpId}
use Rattle.nb_base.specs.declared.nud.Nud.TheVariants as nud
use Rattle.nb_base.specs.declared.params.Params.{Params}
use Rattle.nb_base.specs.declared.op.Op.{Op}
use Rattle.nb_base.specs.declared.op.Op.TheVariants as op
use Rattle.nb_base.specs.declared.line.Line.{Line}
use Rattle.nb_base.specs.declared.line.Reply.TheVariants as reply
use Rattle.nb_base.specs.Params.{default_params}
use Rattle.nud_machine.specs.declared.act.Act.TheVariants.{Drop}
use Rattle.nud_machine.specs.declared.act.Cause.TheVariants as cause
use Rattle.nud_machine.specs.Record.{unusable}
use Rattle.nb_journal.specs.Keys.{is_key}
use Rattle.nb_journal.specs.Fold.{change, state_of, acts_of, known_keys, rank_of, present_count, reply_of}
use Rattle.nb_journal.specs.Lawful.{IsLawful, due_of, before_sweep, sweep_line, last_pass, making_order, collects, collect_line, full_of}
use Rattle.nb_journal.specs.Accounts.{Dropped, Waits, fates_of, published, timer_line, line_bound}
use Rattle.nb_journal.proofs.Sums.{total_potential}

abbrev id : ℕ → OpId
id n = record { 0 = n }

-- an operation's line
abbrev own : ℕ → ℕ → Op → Line
own at n o = record { at = at; id = Some (id n); op = o; seen = None; full = None }

-- the line of an operation that makes an entry, and saw so many
abbrev making : ℕ → ℕ → Op → ℕ → Line
making at n o seen = record { at = at; id = Some (id n); op = o; seen = Some seen; full = None }

-- 10.0.0.N
abbrev ten : ℕ → Key
ten n = V4 n

abbrev mac_a : Mac
mac_a = record { 0 = 0x00 ∷ 0x11 ∷ 0x22 ∷ 0x33 ∷ 0x44 ∷ 0x55 ∷ [] }

abbrev mac_b : Mac
mac_b = record { 0 = 0x00 ∷ 0x11 ∷ 0x22 ∷ 0x33 ∷ 0x44 ∷ 0x66 ∷ [] }

-- ---- four packets to one address, which three probes don't find

abbrev k1 : Key
k1 = V4 167772161

abbrev four_sends : List Line
four_sends = making 0 33 (op.Send k1 1) 0 ∷ own 0 65 (op.Send k1 1) ∷ own 0 97 (op.Send k1 1) ∷ own 0 129 (op.Send k1 1) ∷ []

abbrev unresolved : List Line
unresolved = four_sends ++ timer_line 1000 k1 ∷ timer_line 2000 k1 ∷ timer_line 3000 k1 ∷ []

-- 800 bytes may wait
abbrev narrow : Params
narrow = record default_params { unres_qlen_bytes = 800 }

-- three packets of one byte do, and the fourth pushes out the first
pushed_out : reply_of narrow (making 0 33 (op.Send k1 1) 0 ∷ own 0 65 (op.Send k1 1) ∷ own 0 97 (op.Send k1 1) ∷ []) (own 0 129 (op.Send k1 1)) ≡ Some (reply.Waits 1)
unfolding reply_of state_of change is_key
pushed_out = refl

first_due : due_of narrow four_sends k1 ≡ Some 1000
unfolding state_of change is_key
first_due = refl

third_due : due_of narrow (four_sends ++ timer_line 1000 k1 ∷ timer_line 2000 k1 ∷ []) k1 ≡ Some 3000
unfolding state_of change is_key
third_due = refl

-- the third timer drops the other three
unresolved_acts : acts_of narrow (four_sends ++ timer_line 1000 k1 ∷ timer_line 2000 k1 ∷ []) (timer_line 3000 k1) k1 ≡ Drop (id 65) cause.Unresolved ∷ Drop (id 97) cause.Unresolved ∷ Drop (id 129) cause.Unresolved ∷ []
unfolding state_of change is_key
unresolved_acts = refl

unresolved_failed : (state_of narrow unresolved k1).entry.nud ≡ nud.Failed
unfolding state_of change is_key
unresolved_failed = refl

unresolved_counted : reply_of narrow unresolved (own 4000 64 op.Show) ≡ Some (reply.Counted 1)
unfolding reply_of present_count state_of known_keys change is_key
unresolved_counted = refl

first_fate : fates_of narrow unresolved (id 33) ≡ Dropped 3 cause.QueueFull ∷ []
unfolding fates_of state_of known_keys change is_key
first_fate = refl

second_fate : fates_of narrow unresolved (id 65) ≡ Dropped 6 cause.Unresolved ∷ []
unfolding fates_of state_of known_keys change is_key
second_fate = refl

waiting_fate : fates_of narrow four_sends (id 65) ≡ Waits ∷ []
unfolding fates_of state_of known_keys change is_key
waiting_fate = refl

-- ---- ties go by rank

abbrev k7 : Key
k7 = V4 167772167

abbrev k5 : Key
k5 = V4 167772165

abbrev two_keys : List Line
two_keys = making 0 33 (op.Send k7 1) 0 ∷ making 0 65 (op.Send k5 1) 1 ∷ []

tie : due_of default_params two_keys k7 ≡ Some 1000
unfolding state_of change is_key
tie = refl

tied : due_of default_params two_keys k5 ≡ Some 1000
unfolding state_of change is_key
tied = refl

first_rank : rank_of two_keys k7 ≡ 0
unfolding known_keys is_key
first_rank = refl

second_rank : rank_of two_keys k5 ≡ 1
unfolding known_keys is_key
second_rank = refl

-- ---- a REACHABLE entry turns STALE

abbrev reachable : List Line
reachable = making 0 32 (op.Add k1 (Some mac_a) nud.Reachable) 0 ∷ timer_line 30000 k1 ∷ sweep_line 30000 1 ∷ []

rearmed : due_of default_params reachable k1 ≡ Some 30010
unfolding state_of change is_key
rearmed = refl

turns_stale : (state_of default_params (reachable ++ timer_line 30010 k1 ∷ []) k1).entry ≡ record { present = true; nud = nud.Stale; mac = Some mac_a; confirmed = Some 0; updated = 30010; used = 0; probes = 0; due = None; router = false }
unfolding state_of change is_key
turns_stale = refl

-- ---- a full table, and a forced pass

abbrev small : Params
small = record default_params { gc_thresh1 = 1; gc_thresh2 = 2; gc_thresh3 = 3 }

abbrev k11 : Key
k11 = V4 167772171

abbrev k12 : Key
k12 = V4 167772172

abbrev k13 : Key
k13 = V4 167772173

abbrev k14 : Key
k14 = V4 167772174

abbrev three_present : List Line
three_present = making 0 33 (op.Send k11 1) 0 ∷ making 0 65 (op.Send k12 1) 1 ∷ making 0 97 (op.Send k13 1) 2 ∷ []

abbrev fourth : Line
fourth = record { at = 0; id = Some (id 129); op = op.Send k14 1; seen = Some 3; full = Some 3 }

fourth_collects : collects small three_present fourth ≡ []
unfolding present_count state_of known_keys last_pass making_order change is_key
fourth_collects = refl

fourth_full : full_of small three_present fourth ≡ Some 3
unfolding present_count state_of known_keys change is_key
fourth_full = refl

fourth_reply : reply_of small three_present fourth ≡ Some (reply.Full 3)
unfolding reply_of state_of change is_key
fourth_reply = refl

fourth_acts : acts_of small three_present fourth k14 ≡ Drop (id 129) cause.TableFull ∷ []
unfolding state_of change is_key
fourth_acts = refl

abbrev timed_out : List Line
timed_out =
    three_present ++ fourth ∷ timer_line 1000 k11 ∷ timer_line 1000 k12 ∷ timer_line 1000 k13 ∷ timer_line 2000 k11 ∷ timer_line 2000 k12 ∷ timer_line 2000 k13
    ∷ timer_line 3000 k11 ∷ timer_line 3000 k12 ∷ timer_line 3000 k13 ∷ []

abbrev fifth : Line
fifth = making 5001 161 (op.Send k14 1) 3

order : making_order small timed_out ≡ k11 ∷ k12 ∷ k13 ∷ []
unfolding making_order present_count state_of known_keys change is_key
order = refl

forced : collects small timed_out fifth ≡ collect_line 5001 k11 ∷ collect_line 5001 k12 ∷ []
unfolding last_pass making_order present_count state_of known_keys change is_key
forced = refl

-- one entry is left: the packet waits
not_full : full_of small (timed_out ++ collects small timed_out fifth) fifth ≡ None
unfolding last_pass making_order present_count state_of known_keys change is_key
not_full = refl

fifth_reply : reply_of small (timed_out ++ collects small timed_out fifth) fifth ≡ Some (reply.Waits 0)
unfolding reply_of last_pass making_order present_count state_of known_keys change is_key
fifth_reply = refl

-- ---- the third sweep removes a STALE entry

abbrev one_low : Params
one_low = record default_params { gc_thresh1 = 1 }

abbrev stale_at_0 : List Line
stale_at_0 = making 0 32 (op.Add k1 (Some mac_a) nud.Stale) 0 ∷ []

abbrev swept_twice : List Line
swept_twice = stale_at_0 ++ sweep_line 30000 1 ∷ sweep_line 60000 1 ∷ []

still_there : present_count one_low swept_twice ≡ 1
unfolding present_count state_of known_keys change is_key
still_there = refl

swept : present_count one_low (swept_twice ++ sweep_line 90000 1 ∷ []) ≡ 0
unfolding present_count state_of known_keys change is_key
swept = refl

before_third : before_sweep 90000 (swept_twice ++ sweep_line 90000 1 ∷ []) ≡ swept_twice
before_third = refl

-- by default it removes none where it saw no more than are present
spared : present_count default_params (swept_twice ++ sweep_line 90000 1 ∷ []) ≡ 1
unfolding present_count state_of known_keys change is_key
spared = refl

-- but where it saw 127 in other buckets
swept_by_all : present_count default_params (swept_twice ++ sweep_line 90000 128 ∷ []) ≡ 0
unfolding present_count state_of known_keys change is_key
swept_by_all = refl

-- ---- a table that both of two buckets fill

-- this bucket has one entry, the other one two
abbrev one_of_two : List Line
one_of_two = making 0 65 (op.Send k12 1) 1 ∷ []

no_collects_by_both : collects small one_of_two fourth ≡ []
unfolding present_count state_of known_keys last_pass making_order change is_key
no_collects_by_both = refl

full_by_both : full_of small one_of_two fourth ≡ Some 3
unfolding present_count state_of known_keys change is_key
full_by_both = refl

-- ---- the lock time holds an address

abbrev heard_twice : List Line
heard_twice = own 0 32 (op.Add k1 (Some mac_a) nud.Stale) ∷ own 1000 96 (op.Arp k1 mac_b false true) ∷ []

held : (state_of default_params heard_twice k1).entry ≡ (state_of default_params (own 0 32 (op.Add k1 (Some mac_a) nud.Stale) ∷ []) k1).entry
unfolding state_of change is_key
held = refl

released : (state_of default_params (heard_twice ++ own 1001 128 (op.Arp k1 mac_b false true) ∷ []) k1).entry ≡ record { present = true; nud = nud.Reachable; mac = Some mac_b; confirmed = Some 1001; updated = 1001; used = 0; probes = 0; due = Some 31001; router = false }
unfolding state_of change is_key
released = refl

-- ---- records, potentials

abbrev host : Host
host = record { dev = 0x65 ∷ 0x74 ∷ 0x68 ∷ 0x30 ∷ []; mac = record { 0 = 0x02 ∷ 0x00 ∷ 0x00 ∷ 0x00 ∷ 0x00 ∷ 0x02 ∷ [] }; ip4 = Some 167772162; ip6 = None }

-- a permanent entry's header
permanent_record : published default_params host (own 0 32 (op.Add k1 (Some mac_a) nud.Permanent) ∷ own 5 33 (op.Send k1 1) ∷ []) k1
    ≡ unusable ∷ record { usable = true; header = 0x00 ∷ 0x11 ∷ 0x22 ∷ 0x33 ∷ 0x44 ∷ 0x55 ∷ 0x02 ∷ 0x00 ∷ 0x00 ∷ 0x00 ∷ 0x00 ∷ 0x02 ∷ 0x08 ∷ 0x00 ∷ [] } ∷ []
unfolding published state_of change is_key
permanent_record = refl

-- INCOMPLETE with one probe of three
waiting_potential : total_potential default_params four_sends ≡ 4
unfolding total_potential state_of known_keys change is_key
waiting_potential = refl

bound_at_its_limit : line_bound default_params 262144 0 ≡ 4194305
bound_at_its_limit = refl

-- ---- damaged journals aren't lawful

not_that : (m n : ℕ) → Some m ≡ Some n → m ≡ n
not_that m n e = cc

-- a timer at another moment than its due
timer_elsewhere : IsLawful narrow (four_sends ++ timer_line 999 k1 ∷ []) 999 → ⊥
timer_elsewhere h = let same = not_that 1000 999 (sym first_due ∙ h.orderly.timers.1.1.1.1.0.due) in omega (arith, same)

-- of two timers of one moment the second key's goes first
wrong_rank_first : IsLawful default_params (two_keys ++ timer_line 1000 k5 ∷ []) 1000 → ⊥
wrong_rank_first h = let le = h.orderly.timers.1.1.0.first k7 tie in let a = first_rank in let b = second_rank in omega (arith, le, a, b)

-- a moment that falls
falling_moment : IsLawful default_params (own 5 33 (op.Send k7 1) ∷ own 4 65 (op.Send k5 1) ∷ []) 5 → ⊥
falling_moment h = let le = h.orderly.moments.1.0 in omega (arith, le)

-- `full` is missing
must_be_full : full_of small three_present (making 0 129 (op.Send k14 1) 3) ≡ Some 3
unfolding present_count state_of known_keys change is_key
must_be_full = refl

full_missing : IsLawful small (three_present ++ making 0 129 (op.Send k14 1) 3 ∷ []) 0 → ⊥
full_missing h = false≢true (ap is_some (h.orderly.full.1.1.1.0 ∙ must_be_full))

-- a making line that saw fewer than are present
two_present : present_count small (making 0 33 (op.Send k11 1) 0 ∷ making 0 65 (op.Send k12 1) 1 ∷ []) ≡ 2
unfolding present_count state_of known_keys change is_key
two_present = refl

seen_too_few : IsLawful small (making 0 33 (op.Send k11 1) 0 ∷ making 0 65 (op.Send k12 1) 1 ∷ making 0 97 (op.Send k13 1) 1 ∷ []) 0 → ⊥
seen_too_few h = let le = h.orderly.seen.1.1.0.enough in let two = two_present in omega (arith, le, two)

-- a sweep is missing, though few are present
sweep_missing : IsLawful default_params stale_at_0 30000 → ⊥
sweep_missing h =
    let has = h.sweeps 30000 (0, refl) (omega arith) in
    let none : [] ≡ sweep_line 30000 has.0 ∷ has.1 = cc in
    not_empty (sweep_line 30000 has.0) has.1 none where
      not_empty : (x : Line) (xs : List Line) → [] ≡ x ∷ xs → ⊥
      not_empty x xs e = cc

-- a collect that no line asks for
collect_too_many : IsLawful default_params (own 0 32 (op.Add k1 (Some mac_a) nud.Permanent) ∷ collect_line 0 k1 ∷ own 0 64 op.Show ∷ []) 0 → ⊥
collect_too_many h = longer (own 0 32 (op.Add k1 (Some mac_a) nud.Permanent)) (collect_line 0 k1) h.orderly.passes.1.1.0 where
  longer : (x y : Line) → x ∷ y ∷ [] ≡ x ∷ [] → ⊥
  longer x y e = cc
