-- A line that names no key only removes entries.
use Rattle.std.proofs.Common.{◌≡◌, ℕ, ◌<◌, ◌≤◌, ◌+◌, zero, suc, Bool, true, false, ◌&&◌, if◌then◌else◌, List, [], ◌∷◌, map, length, take, get_or, None, refl, sym, ap, ◌∙◌, arith}
use Rattle.std.specs.List.{flat_map}
use Rattle.std.proofs.lemmas.Bool.{and_parts}
use Rattle.std.proofs.lemmas.List.{length-append, length-map}
use Rattle.nb_base.specs.declared.key.Key.{Key}
use Rattle.nb_base.specs.declared.params.Params.{Params}
use Rattle.nb_base.specs.declared.op.Op.{Op}
use Rattle.nb_base.specs.declared.op.Op.TheVariants as op
use Rattle.nb_base.specs.declared.line.Line.{Line}
use Rattle.nb_queues.specs.Queue.{Packet}
use Rattle.nud_machine.specs.declared.act.Act.{Act}
use Rattle.nud_machine.specs.declared.act.Act.TheVariants.{Drop}
use Rattle.nud_machine.specs.declared.act.Cause.TheVariants.{Removed}
use Rattle.nud_machine.specs.declared.event.Event.TheVariants as event
use Rattle.nud_machine.specs.State.{State, Stepped, absent, stays, drops}
use Rattle.nud_machine.specs.Step.{step}
use Rattle.nb_journal.specs.declared.kept.Kept.{Kept}
use Rattle.nb_journal.specs.Keys.{key_of}
use Rattle.nb_journal.specs.Fold.{effect, if_so, is_loose, is_swept, saw_enough, meet, change, state_of, acts_of}
use Rattle.nb_journal.specs.Lawful.{brings_event}
use Rattle.nb_journal.specs.Steps.{concerns, state_in}
use Rattle.nb_journal.proofs.Changed.{change_met}
use Rattle.journal_fold.specs.Removing.{removes, number_waiting}

-- an entry that is present is removed, and the packets that wait for it are dropped
abbrev pub removed : State → Stepped
removed s = record { state = absent; acts = drops Removed s.waiting }

step_removed : (p : Params) (at : ℕ) (s : State) → step p at s event.Remove ≡ removed s
step_removed p at s = refl

meet_removed : (p : Params) (line : Line) (s : State) (b : Bool) → (b ≡ true → s.entry.present ≡ true) → meet p line s (if_so b event.Remove) ≡ (if brings_event (if_so b event.Remove) then removed s else stays s)
meet_removed p line s true there = rw (there refl) refl
meet_removed p line s false there = refl

loose_present : (s : State) → is_loose s ≡ true → s.entry.present ≡ true
loose_present s h = (and_parts _ _ h).0

swept_present : (p : Params) (line : Line) (s : State) → (saw_enough p line.seen && is_swept p line.at s) ≡ true → s.entry.present ≡ true
swept_present p line s h = loose_present s (and_parts _ _ (and_parts _ _ (and_parts _ _ h).1).0).0

met_unnamed : (p : Params) (line : Line) (s : State) (o : Op) → key_of o ≡ None → meet p line s (effect p line s o) ≡ (if brings_event (effect p line s o) then removed s else stays s)
met_unnamed p line s op.Show e = refl
met_unnamed p line s op.Flush e = meet_removed p line s (is_loose s) (loose_present s)
met_unnamed p line s op.Sweep e = meet_removed p line s (saw_enough p line.seen && is_swept p line.at s) (swept_present p line s)
met_unnamed p line s _ e = cc

brings_present : (s : State) (b : Bool) → (b ≡ true → s.entry.present ≡ true) → brings_event (if_so b event.Remove) ≡ true → s.entry.present ≡ true
brings_present s true there h = there refl
brings_present s false there h = cc

present_unnamed : (p : Params) (line : Line) (s : State) (o : Op) → key_of o ≡ None → brings_event (effect p line s o) ≡ true → s.entry.present ≡ true
present_unnamed p line s op.Show e h = cc
present_unnamed p line s op.Flush e h = brings_present s (is_loose s) (loose_present s) h
present_unnamed p line s op.Sweep e h = brings_present s (saw_enough p line.seen && is_swept p line.at s) (swept_present p line s) h
present_unnamed p line s _ e h = cc

-- what it removes is present
pub removes_present : (p : Params) (line : Line) (s : State) → key_of line.op ≡ None → removes p line s ≡ true → s.entry.present ≡ true
removes_present p line s e h = present_unnamed p line s line.op e h

-- and that is all it does
pub change_unnamed : (p : Params) (line : Line) (key : Key) (s : State) → key_of line.op ≡ None → change p line key s ≡ (if removes p line s then removed s else stays s)
change_unnamed p line key s e = change_met p line key s (ap (concerns line key) e) ∙ met_unnamed p line s line.op e

few_acts : (s : State) (b : Bool) → length (if b then removed s else stays s).acts ≤ length s.waiting
few_acts s true = let size = length-map s.waiting (λ (packet : Packet). Drop packet.0 Removed) in omega (arith, size)
few_acts s false = omega arith

-- so it has no more acts than packets wait
pub acts_within : (p : Params) (past : List Line) (line : Line) (keys : List Key) (kept : List Kept) → key_of line.op ≡ None → map state_in kept ≡ map (state_of p past) keys → length (flat_map (acts_of p past line) keys) ≤ number_waiting kept
acts_within p past line [] [] e same = omega arith
acts_within p past line (key ∷ keys) [] e same = cc
acts_within p past line [] (one ∷ more) e same = cc
acts_within p past line (key ∷ keys) (one ∷ more) e same =
    let here : state_in one ≡ state_of p past key = cc in
    let rest : map state_in more ≡ map (state_of p past) keys = cc in
    let few = few_acts (state_in one) (removes p line (state_in one)) in
    let acts : acts_of p past line key ≡ (if removes p line (state_in one) then removed (state_in one) else stays (state_in one)).acts =
    ap (λ (s : State). (change p line key s).acts) (sym here) ∙ ap (λ (x : Stepped). x.acts) (change_unnamed p line key (state_in one) e) in
    let size = ap (λ (acts : List Act). length acts) acts in
    let both = length-append (acts_of p past line key) (flat_map (acts_of p past line) keys) in
    let others = acts_within p past line keys more e rest in
    omega (arith, few, size, both, others)

-- the packets that wait for the first so many keys, and for one more
waiting_suc : (kept : List Kept) (rank : ℕ) (one : Kept) → one ≡ get_or kept rank one → rank < length kept → number_waiting (take (suc rank) kept) ≡ number_waiting (take rank kept) + length one.waiting
waiting_suc [] rank one is lt = absurd (omega (arith, lt))
waiting_suc (k ∷ ks) zero one is lt = ap (λ (x : Kept). number_waiting (x ∷ [])) (sym is) ∙ omega arith
waiting_suc (k ∷ ks) (suc rank) one is lt =
    let rest = waiting_suc ks rank one is (omega (arith, lt)) in
    omega (arith, rest)

pub waiting_next : (kept : List Kept) (rank : ℕ) (one : Kept) → one ≡ get_or kept rank one → rank < length kept → number_waiting (take (rank + 1) kept) ≡ number_waiting (take rank kept) + length one.waiting
waiting_next kept rank one is lt = let next : rank + 1 ≡ suc rank = omega arith in ap (λ (n : ℕ). number_waiting (take n kept)) next ∙ waiting_suc kept rank one is lt
