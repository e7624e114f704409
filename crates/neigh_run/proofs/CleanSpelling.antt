-- The parts of a report's lines are words without space and LF.
use Rattle.std.proofs.Common.{ℕ, Bool, true, false, ◌==◌, if◌then◌else◌, List, [], ◌∷◌, ◌++◌, map, Option, Some, None, refl}
use Rattle.std.specs.Prelude.{codes, decimal}
use Rattle.std.specs.List.{AllByRecursion}
use Rattle.nb_base.specs.declared.mac.Mac.{Mac}
use Rattle.nb_base.specs.declared.key.Key.{Key}
use Rattle.nb_base.specs.declared.key.Key.TheVariants.{V4, V6}
use Rattle.nb_base.specs.declared.host.Host.{Host}
use Rattle.nb_base.specs.declared.time.OpId.{OpId}
use Rattle.nb_base.specs.declared.nud.Nud.{Nud}
use Rattle.nb_base.specs.declared.nud.Nud.TheVariants as nud
use Rattle.nb_base.specs.declared.op.Op.{Op}
use Rattle.nb_base.specs.declared.op.Op.TheVariants as op
use Rattle.nb_base.specs.declared.line.Reply.{Reply}
use Rattle.nb_base.specs.declared.line.Reply.TheVariants as reply
use Rattle.nb_base.specs.declared.plan.Mode.{Mode}
use Rattle.nb_base.specs.declared.plan.Mode.TheVariants as mode
use Rattle.nb_base.specs.declared.plan.SendItem.{SendItem}
use Rattle.nb_base.specs.declared.outcome.Why.TheVariants as why
use Rattle.nb_base.specs.declared.outcome.Outcome.{Outcome}
use Rattle.nb_base.specs.declared.outcome.Outcome.TheVariants as outcome
use Rattle.nb_base.specs.declared.host_line.Class.{Class}
use Rattle.nb_base.specs.declared.host_line.Class.TheVariants as class
use Rattle.nb_base.specs.declared.host_line.Placed.{Placed}
use Rattle.nb_base.specs.declared.host_line.HostLine.{HostLine}
use Rattle.nb_base.specs.declared.host_line.HostLine.TheVariants as host_line
use Rattle.nb_base.specs.Address.{key_text}
use Rattle.nud_machine.specs.declared.act.Cause.{Cause}
use Rattle.nud_machine.specs.declared.act.Cause.TheVariants as cause
use Rattle.nud_machine.specs.declared.entry.Entry.{Entry}
use Rattle.text_codes.specs.Lines.{Words, IsClean}
use Rattle.text_codes.proofs.Each.{Each-append}
use Rattle.neigh_run.specs.Spelling.{mode_word, inet_words, inet6_words, host_words, state_word, state_name, mac_word, flag, op_words, id_word, dropping_words, reply_words, reply_part, cause_word, class_word, placed_words}
use Rattle.neigh_run.specs.Entries.{address_words, entry_words}
use Rattle.neigh_run.specs.Report.{queued_words, tx_words, op_part, host_line_words, try_word, outcome_words, start_word}
use Rattle.neigh_run.proofs.CleanWords.{all-flat_map, all-map, clean-either, clean-append, clean-decimal, clean-hex, clean-mac, clean-key}

-- each of these words is clean
abbrev pub AreClean : Words → Type 0
AreClean words = AllByRecursion IsClean words

pub clean-mode : (m : Mode) → IsClean (mode_word m)
clean-mode mode.Inline = refl
clean-mode mode.Threads = refl

-- ---- the host

clean-inet : (ip4 : Option ℕ) → AreClean (inet_words ip4)
clean-inet None = tt
clean-inet (Some n) = (refl, (clean-key (V4 n), tt))

clean-inet6 : (ip6 : Option ℕ) → AreClean (inet6_words ip6)
clean-inet6 None = tt
clean-inet6 (Some n) = (refl, (clean-key (V6 n), tt))

pub clean-host : (h : Host) → IsClean h.dev → AreClean (host_words h)
clean-host h dev = (refl, (refl, (dev, (refl, (clean-mac h.mac, Each-append IsClean (inet_words h.ip4) (inet6_words h.ip6) (clean-inet h.ip4) (clean-inet6 h.ip6))))))

-- ---- operations

clean-state : (n : Nud) → IsClean (state_word n)
clean-state nud.None = refl
clean-state nud.Incomplete = refl
clean-state nud.Reachable = refl
clean-state nud.Stale = refl
clean-state nud.Delay = refl
clean-state nud.Probe = refl
clean-state nud.Failed = refl
clean-state nud.Noarp = refl
clean-state nud.Permanent = refl

clean-state_name : (n : Nud) → IsClean (state_name n)
clean-state_name nud.None = refl
clean-state_name nud.Incomplete = refl
clean-state_name nud.Reachable = refl
clean-state_name nud.Stale = refl
clean-state_name nud.Delay = refl
clean-state_name nud.Probe = refl
clean-state_name nud.Failed = refl
clean-state_name nud.Noarp = refl
clean-state_name nud.Permanent = refl

clean-mac_word : (mac : Option Mac) → IsClean (mac_word mac)
clean-mac_word None = refl
clean-mac_word (Some mac) = clean-mac mac

clean-flags : (router solicited overrides : Bool) → IsClean (flag router 114 ∷ flag solicited 115 ∷ flag overrides 111 ∷ [])
clean-flags true true true = refl
clean-flags true true false = refl
clean-flags true false true = refl
clean-flags true false false = refl
clean-flags false true true = refl
clean-flags false true false = refl
clean-flags false false true = refl
clean-flags false false false = refl

-- a name, a key, an address and a state
clean-given : (name : List ℕ) (key : Key) (mac : Option Mac) (n : Nud) → IsClean name → AreClean (name ∷ key_text key ∷ mac_word mac ∷ state_word n ∷ [])
clean-given name key mac n h = (h, (clean-key key, (clean-mac_word mac, (clean-state n, tt))))

pub clean-op : (o : Op) → AreClean (op_words o)
clean-op (op.Send key len) = (refl, (clean-key key, tt))
clean-op (op.Arp key mac make solicited) =
    (refl, (clean-key key, (clean-mac mac, (clean-either make (codes "make") (codes "keep") refl refl, (clean-either solicited (codes "reachable") (codes "stale") refl refl, tt)))))
clean-op (op.Ns key mac) = (refl, (clean-key key, (clean-mac mac, tt)))
clean-op (op.Na key mac router solicited overrides) = (refl, (clean-key key, (clean-mac_word mac, (clean-flags router solicited overrides, tt))))
clean-op (op.Add key mac nud) = clean-given (codes "add") key mac nud refl
clean-op (op.Change key mac nud) = clean-given (codes "change") key mac nud refl
clean-op (op.Replace key mac nud) = clean-given (codes "replace") key mac nud refl
clean-op (op.Del key) = (refl, (clean-key key, tt))
clean-op (op.Confirm key) = (refl, (clean-key key, tt))
clean-op op.Show = (refl, tt)
clean-op op.Flush = (refl, tt)
clean-op (op.Timer key) = (refl, (clean-key key, tt))
clean-op op.Sweep = (refl, tt)
clean-op (op.Collect key) = (refl, (clean-key key, tt))

pub clean-id : (id : Option OpId) → IsClean (id_word id)
clean-id None = refl
clean-id (Some id) = clean-decimal id.0

-- ---- replies

clean-dropping : (dropped : ℕ) → AreClean (dropping_words dropped)
clean-dropping dropped = by_test (dropped == 0) where
  by_test : (none : Bool) → AreClean (if none then [] else codes "dropping" ∷ decimal dropped ∷ [])
  by_test true = tt
  by_test false = (refl, (clean-decimal dropped, tt))

pub clean-reply : (r : Reply) → AreClean (reply_words r)
clean-reply reply.Sent = (refl, tt)
clean-reply (reply.Waits dropped) = (refl, clean-dropping dropped)
clean-reply reply.NoProbes = (refl, tt)
clean-reply (reply.Full seen) = (refl, (clean-decimal seen, tt))
clean-reply reply.Done = (refl, tt)
clean-reply reply.Exists = (refl, tt)
clean-reply reply.Missing = (refl, tt)
clean-reply reply.NoAddress = (refl, tt)
clean-reply reply.Ignored = (refl, tt)
clean-reply (reply.Counted n) = (refl, (clean-decimal n, tt))

pub clean-reply_part : (r : Option Reply) → AreClean (reply_part r)
clean-reply_part None = (refl, tt)
clean-reply_part (Some r) = clean-reply r

pub clean-cause : (c : Cause) → IsClean (cause_word c)
clean-cause cause.QueueFull = refl
clean-cause cause.NoProbes = refl
clean-cause cause.Unresolved = refl
clean-cause cause.Removed = refl
clean-cause cause.TableFull = refl

pub clean-placed : (p : Placed) → AreClean (placed_words p)
clean-placed p = (refl, (clean-decimal p.bucket, (clean-decimal p.place, clean-reply p.reply)))

-- ---- entries

clean-address : (mac : Option Mac) → AreClean (address_words mac)
clean-address None = tt
clean-address (Some mac) = (refl, (clean-mac mac, tt))

clean-router : (router : Bool) → AreClean (if router then codes "router" ∷ [] else [])
clean-router true = (refl, tt)
clean-router false = tt

pub clean-entry : (h : Host) (key : Key) (e : Entry) → IsClean h.dev → AreClean (entry_words h key e)
clean-entry h key e dev =
    let mark = if e.router then codes "router" ∷ [] else [] in
    (clean-key key, (refl, (dev, Each-append IsClean (address_words e.mac ++ mark) (state_name e.nud ∷ []) (Each-append IsClean (address_words e.mac) mark (clean-address e.mac) (clean-router e.router)) (clean-state_name e.nud, tt))))

-- ---- lines of the host

clean-class : (c : Class) → IsClean (class_word c)
clean-class class.Short = refl
clean-class class.Own = refl
clean-class class.Foreign = refl
clean-class class.BadArp = refl
clean-class class.Arp = refl
clean-class (class.NdBad check) = clean-append (codes "ndbad") (decimal check) refl (clean-decimal check)
clean-class class.Nd = refl
clean-class class.Other = refl

clean-queued : (queued : Option Bool) → AreClean (queued_words queued)
clean-queued None = tt
clean-queued (Some true) = (refl, tt)
clean-queued (Some false) = (refl, tt)

clean-tx : (tx : Option (List ℕ)) → AreClean (tx_words tx)
clean-tx None = tt
clean-tx (Some frame) = (refl, (clean-hex frame, tt))

clean-op_part : (o : Option Placed) → AreClean (op_part o)
clean-op_part None = tt
clean-op_part (Some placed) = clean-placed placed

pub clean-host_line : (line : HostLine) → AreClean (host_line_words line)
clean-host_line (host_line.Frame n at c queued tx o) = (
  clean-decimal n,
  (
    clean-decimal at,
    (
      refl,
      (
        clean-class c,
        Each-append IsClean (queued_words queued ++ tx_words tx) (op_part o) (Each-append IsClean (queued_words queued) (tx_words tx) (clean-queued queued) (clean-tx tx)) (clean-op_part o),
      ),
    ),
  ),
)
clean-host_line (host_line.Neigh n at ops) = (clean-decimal n, (clean-decimal at, (refl, all-flat_map IsClean placed_words clean-placed ops)))
clean-host_line (host_line.Proxy n at r) = (clean-decimal n, (clean-decimal at, (refl, clean-reply r)))
clean-host_line (host_line.Answer due frame) = (refl, (clean-decimal due, (refl, (clean-hex frame, tt))))

-- ---- outcomes and marks

clean-try : (numbers : ℕ × ℕ) → IsClean (try_word numbers)
clean-try numbers = clean-append (decimal numbers.0) (47 ∷ decimal numbers.1) (clean-decimal numbers.0) (clean-append (47 ∷ []) (decimal numbers.1) refl (clean-decimal numbers.1))

pub clean-outcome : (item : SendItem) (o : Outcome) → AreClean (outcome_words item o)
clean-outcome item (outcome.Fast number header) = (refl, (clean-decimal number, (clean-hex (header ++ item.payload), tt)))
clean-outcome item (outcome.Slow why.Inline place r) = (refl, (clean-decimal place, clean-reply r))
clean-outcome item (outcome.Slow why.First place r) = (refl, (clean-decimal place, clean-reply r))
clean-outcome item (outcome.Slow (why.Suspect number) place r) = (refl, (clean-decimal number, (clean-decimal place, clean-reply r)))
clean-outcome item (outcome.Slow (why.Again tries) place r) =
    (refl, Each-append IsClean (map try_word tries) (decimal place ∷ reply_words r) (all-map IsClean try_word clean-try tries) (clean-decimal place, clean-reply r))

pub clean-start : (start : Option ℕ) → IsClean (start_word start)
clean-start None = refl
clean-start (Some start) = clean-decimal start
