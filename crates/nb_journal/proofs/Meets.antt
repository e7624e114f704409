-- What a line's effect brings, and what the line does to the keys that it concerns.
use Rattle.std.proofs.Common.{◌≡◌, ◌⊎◌, ⊎_elim, ℕ, ◌*◌, ◌<◌, ◌≤◌, Bool, true, false, is_none, is_some, if◌then◌else◌, List, [], ◌∷◌, Option, Some, None, refl, sym, ap, subst, ◌∙◌, arith}
use Rattle.std.specs.Prelude.{◌+◌, ◌||◌, ◌&&◌, not, nat_le, nat_lt, IsTrue}
use Rattle.std.proofs.lemmas.Bool.{cond_both, and_parts, cases_lt}
use Rattle.std.proofs.Math.Nat.{mul-le-mul_right}
use Rattle.nb_base.specs.declared.key.Key.{Key}
use Rattle.nb_base.specs.declared.params.Params.{Params}
use Rattle.nb_base.specs.declared.op.Op.{Op}
use Rattle.nb_base.specs.declared.op.Op.TheVariants as op
use Rattle.nb_base.specs.declared.line.Line.{Line}
use Rattle.nb_base.specs.declared.line.Reply.TheVariants as reply
use Rattle.nb_base.specs.Nud.{is_valid}
use Rattle.nud_machine.specs.declared.event.Event.{Event}
use Rattle.nud_machine.specs.declared.event.Event.TheVariants as event
use Rattle.nud_machine.specs.Asked.{greatest, NamesSettable, BringsSized}
use Rattle.nud_machine.specs.State.{State, stays, is_size}
use Rattle.nb_journal.specs.Keys.{is_key, key_of, may_be_asked}
use Rattle.nb_journal.specs.Fold.{Effect, Passes, Refuses, Brings, effect, is_loose, is_swept, saw_enough, size_of, lacks_address, meet, turn_away, change_by, change, state_of}
use Rattle.nb_journal.specs.Lawful.{due_of, IsSweepMoment, collected}
use Rattle.nb_journal.specs.Steps.{is_line_of_run, concerns, IsTimersDue, IsTimersMoment, IsAtDue}
use Rattle.std.proofs.lemmas.Bool.Decides.{nat_tests}
use Rattle.nb_journal.proofs.Grows.{is_key-one}

-- the event that an effect brings gives a state that may be given, and has a packet's size
abbrev pub BringsSettable : Effect → Type 0
BringsSettable (Brings e) = NamesSettable e × BringsSized e
BringsSettable _ = Unit {0}

either : (b : Bool) (x y : Effect) → BringsSettable x → BringsSettable y → BringsSettable (if b then x else y)
either b x y hx hy = cond_both b x y BringsSettable (λ e. hx) (λ e. hy)

-- the bytes of a payload and 256 more are a packet's size
sized : (len : ℕ) → (nat_le 1 len && nat_le len 1_500) ≡ true → is_size (size_of len) ≡ true
sized len h = grind (arith, nat_tests, h)

brings_settable : (p : Params) (line : Line) (s : State) (o : Op) → may_be_asked o ≡ true → BringsSettable (effect p line s o)
brings_settable p line s (op.Send key len) h = (tt, sized len h)
brings_settable p line s (op.Arp key mac make solicited) h = either (s.entry.present || make) (Brings (event.Arp mac solicited)) (Refuses reply.Ignored) (tt, tt) tt
brings_settable p line s (op.Ns key mac) h = (tt, tt)
brings_settable p line s (op.Na key mac router solicited overrides) h = either s.entry.present (Brings (event.Na mac router solicited overrides)) (Refuses reply.Ignored) (tt, tt) tt
brings_settable p line s (op.Add key mac nud) h =
    either s.entry.present (Refuses reply.Exists) (if is_none mac then Refuses reply.NoAddress else Brings (event.Admin mac nud)) tt
    (either (is_none mac) (Refuses reply.NoAddress) (Brings (event.Admin mac nud)) tt (h, tt))
brings_settable p line s (op.Change key mac nud) h =
    either (not s.entry.present) (Refuses reply.Missing) (if lacks_address mac s then Refuses reply.NoAddress else Brings (event.Admin mac nud)) tt
    (either (lacks_address mac s) (Refuses reply.NoAddress) (Brings (event.Admin mac nud)) tt (h, tt))
brings_settable p line s (op.Replace key mac nud) h = either (lacks_address mac s) (Refuses reply.NoAddress) (Brings (event.Admin mac nud)) tt (h, tt)
brings_settable p line s (op.Del key) h = either (not s.entry.present) (Refuses reply.Missing) (Brings event.Remove) tt (tt, tt)
brings_settable p line s (op.Confirm key) h = either (s.entry.present && is_valid s.entry.nud) (Brings event.Confirm) (Refuses reply.Ignored) (tt, tt) tt
brings_settable p line s op.Show h = tt
brings_settable p line s op.Flush h = either (is_loose s) (Brings event.Remove) Passes (tt, tt) tt
brings_settable p line s (op.Timer key) h = either s.entry.present (Brings event.Timer) Passes (tt, tt) tt
brings_settable p line s op.Sweep h = either (saw_enough p line.seen && is_swept p line.at s) (Brings event.Remove) Passes (tt, tt) tt
brings_settable p line s (op.Collect key) h = either s.entry.present (Brings event.Remove) Passes (tt, tt) tt

pub settable_of : (p : Params) (line : Line) (s : State) (e : Event) → may_be_asked line.op ≡ true → Brings e ≡ effect p line s line.op → NamesSettable e × BringsSized e
settable_of p line s e h is = subst BringsSettable (sym is) (brings_settable p line s line.op h)

turned_away : (l : Line) (s : State) (o : Op) → (turn_away l s o).state ≡ s
turned_away l s (op.Send key len) = refl
turned_away l s _ = refl

-- a line that concerns the key does what its effect does, and every other line nothing
pub change-concerns : (p : Params) (line : Line) (key : Key) (s : State) → concerns line key (key_of line.op) ≡ true → (change p line key s).state ≡ (meet p line s (effect p line s line.op)).state
unfolding change
change-concerns p line key s h = by_key (key_of line.op) h where
  by_full : Option ℕ → Type 0
  by_full full = (if is_some full then turn_away line s line.op else meet p line s (effect p line s line.op)).state ≡ (meet p line s (effect p line s line.op)).state

  none_full : (full : Option ℕ) → is_none full ≡ true → by_full full
  none_full None e = refl
  none_full (Some n) e = cc

  by_test : (t : Bool) → (t && is_none line.full) ≡ true → (if t then (if is_some line.full then turn_away line s line.op else meet p line s (effect p line s line.op)) else stays s).state ≡ (meet p line s (effect p line s line.op)).state
  by_test true e = none_full line.full e
  by_test false e = cc

  by_key : (o : Option Key) → concerns line key o ≡ true → (change_by p line key s o).state ≡ (meet p line s (effect p line s line.op)).state
  by_key None e = refl
  by_key (Some named) e = by_test (is_key named key) e

pub change-apart : (p : Params) (line : Line) (key : Key) (s : State) → concerns line key (key_of line.op) ≡ false → (change p line key s).state ≡ s
unfolding change
change-apart p line key s h = by_key (key_of line.op) h where
  full : (o : Option ℕ) → is_none o ≡ false → (if is_some o then turn_away line s line.op else meet p line s (effect p line s line.op)).state ≡ s
  full None e = cc
  full (Some n) e = turned_away line s line.op

  by_test : (t : Bool) → (t && is_none line.full) ≡ false → (if t then (if is_some line.full then turn_away line s line.op else meet p line s (effect p line s line.op)) else stays s).state ≡ s
  by_test true e = full line.full e
  by_test false e = refl

  by_key : (o : Option Key) → concerns line key o ≡ false → (change_by p line key s o).state ≡ s
  by_key None e = cc
  by_key (Some named) e = by_test (is_key named key) e

-- where a timer's line concerns the key it stands at the entry's due
pub timers_moment : (line : Line) (key : Key) (s : State) → concerns line key (key_of line.op) ≡ true → IsTimersDue key line.at s line.op → IsTimersMoment line.at s line.op
timers_moment line key s h due = by_op line.op h due where
  by_op : (o : Op) → concerns line key (key_of o) ≡ true → IsTimersDue key line.at s o → IsTimersMoment line.at s o
  by_op (op.Timer named) e d = d (and_parts (is_key named key) (is_none line.full) e).0
  by_op _ e d = tt

-- a line that the machine can step over stands at the due of the key that it names
pub timers_due : (p : Params) (past : List Line) (line : Line) (key : Key) (s : State) → s ≡ state_of p past key → IsAtDue p past line.at line.op → IsTimersDue key line.at s line.op
timers_due p past line key s e at = by_op line.op at where
  by_op : (o : Op) → IsAtDue p past line.at o → IsTimersDue key line.at s o
  by_op (op.Timer named) d = λ same. ap (λ (t : State). t.entry.due) e ∙ ap (λ (k : Key). due_of p past k) (sym (is_key-one named key same)) ∙ d
  by_op _ d = tt

-- where fewer are left than the limit, a pass takes none
pub collected_none : (limit present : ℕ) (takes : Key → Bool) (keys : List Key) → present < limit → collected limit present takes keys ≡ []
collected_none limit present takes [] lt = refl
collected_none limit present takes (key ∷ keys) lt = let few : nat_lt present limit ≡ true = grind (arith, nat_tests) in rw few refl

pub moment_of_run : (line : Line) → IsTrue (is_line_of_run line) → line.at ≤ greatest
moment_of_run line h = let first = (and_parts (nat_le line.at greatest) (may_be_asked line.op) h).0 in grind (arith, nat_tests, first)

-- two multiples of the interval less than an interval apart are one
pub moments_apart : (p : Params) (u m : ℕ) → 0 < p.gc_interval → IsSweepMoment p u → IsSweepMoment p m → m ≤ u → u < m + p.gc_interval → u ≡ m
moments_apart p u m some iu im le lt = by_order (cases_lt iu.0 im.0) (cases_lt im.0 iu.0) where
  below : iu.0 < im.0 → u ≡ m
  below less = let much = mul-le-mul_right {m = iu.0 + 1 + 1} {n = im.0 + 1} p.gc_interval (omega arith) in let a = iu.1 in let b = im.1 in absurd (omega (arith, much, a, b, le, some))

  above : im.0 < iu.0 → u ≡ m
  above less = let much = mul-le-mul_right {m = im.0 + 1 + 1} {n = iu.0 + 1} p.gc_interval (omega arith) in let a = iu.1 in let b = im.1 in absurd (omega (arith, much, a, b, lt))

  by_order : (iu.0 < im.0) ⊎ (im.0 ≤ iu.0) → (im.0 < iu.0) ⊎ (iu.0 ≤ im.0) → u ≡ m
  by_order x y = ⊎_elim below (λ (ge : im.0 ≤ iu.0). ⊎_elim above (λ (le2 : iu.0 ≤ im.0). let same : iu.0 ≡ im.0 = omega (arith, ge, le2) in iu.1 ∙ ap (λ (n : ℕ). (n + 1) * p.gc_interval) same ∙ sym im.1) y) x

pub moment_after : (p : Params) (m : ℕ) → IsSweepMoment p m → IsSweepMoment p (m + p.gc_interval)
moment_after p m is = (is.0 + 1, let e = is.1 in omega (arith, e))
