-- What a line does to a key that it concerns, and to one that it doesn't.
use Rattle.std.proofs.Common.{◌≡◌, ℕ, Bool, true, false, is_none, is_some, if◌then◌else◌, List, [], ◌∷◌, Option, Some, None, refl, ap}
use Rattle.std.specs.Prelude.{◌&&◌}
use Rattle.nb_base.specs.declared.key.Key.{Key}
use Rattle.nb_base.specs.declared.params.Params.{Params}
use Rattle.nb_base.specs.declared.op.Op.{Op}
use Rattle.nb_base.specs.declared.op.Op.TheVariants as op
use Rattle.nb_base.specs.declared.line.Line.{Line}
use Rattle.nud_machine.specs.declared.act.Act.TheVariants.{Drop}
use Rattle.nud_machine.specs.declared.act.Cause.TheVariants.{TableFull}
use Rattle.nud_machine.specs.State.{State, Stepped, stays}
use Rattle.nud_machine.specs.declared.act.Act.{Act}
use Rattle.nb_journal.specs.Keys.{is_key, key_of}
use Rattle.nb_journal.specs.Fold.{effect, id_of, meet, turn_away, change_by, change}
use Rattle.nb_journal.specs.Steps.{concerns, is_turned_away}
use Rattle.nb_journal.proofs.Meets.{change-apart}

pub change_met : (p : Params) (line : Line) (key : Key) (s : State) → concerns line key (key_of line.op) ≡ true → change p line key s ≡ meet p line s (effect p line s line.op)
unfolding change
change_met p line key s h = by_key (key_of line.op) h where
  by_full : (full : Option ℕ) → is_none full ≡ true → (if is_some full then turn_away line s line.op else meet p line s (effect p line s line.op)) ≡ meet p line s (effect p line s line.op)
  by_full None e = refl
  by_full (Some n) e = cc

  by_test : (t : Bool) → (t && is_none line.full) ≡ true → (if t then (if is_some line.full then turn_away line s line.op else meet p line s (effect p line s line.op)) else stays s) ≡ meet p line s (effect p line s line.op)
  by_test true e = by_full line.full e
  by_test false e = cc

  by_key : (o : Option Key) → concerns line key o ≡ true → change_by p line key s o ≡ meet p line s (effect p line s line.op)
  by_key None e = refl
  by_key (Some named) e = by_test (is_key named key) e

-- a line that names a key, doesn't concern it and turns no packet away brings no acts
none_apart : (p : Params) (line : Line) (key : Key) (s : State) (named : Key) → (turn_away line s line.op).acts ≡ [] → concerns line key (Some named) ≡ false → (change_by p line key s (Some named)).acts ≡ []
none_apart p line key s named none h = by_test (is_key named key) h where
  by_full : (full : Option ℕ) → is_none full ≡ false → (if is_some full then turn_away line s line.op else meet p line s (effect p line s line.op)).acts ≡ []
  by_full None e = cc
  by_full (Some n) e = none

  by_test : (t : Bool) → (t && is_none line.full) ≡ false → (if t then (if is_some line.full then turn_away line s line.op else meet p line s (effect p line s line.op)) else stays s).acts ≡ []
  by_test true e = by_full line.full e
  by_test false e = refl

-- a packet that is sent to the key is dropped where the table was full
send_apart : (p : Params) (line : Line) (key : Key) (s : State) (named : Key) → (turn_away line s line.op).acts ≡ Drop (id_of line) TableFull ∷ [] → concerns line key (Some named) ≡ false
    → (change_by p line key s (Some named)).acts ≡ (if is_key named key && is_some line.full then Drop (id_of line) TableFull ∷ [] else [])
send_apart p line key s named away h = by_test (is_key named key) h where
  by_full : (full : Option ℕ) → is_none full ≡ false → (if is_some full then turn_away line s line.op else meet p line s (effect p line s line.op)).acts ≡ (if is_some full then Drop (id_of line) TableFull ∷ [] else [])
  by_full None e = cc
  by_full (Some n) e = away

  by_test : (t : Bool) → (t && is_none line.full) ≡ false → (if t then (if is_some line.full then turn_away line s line.op else meet p line s (effect p line s line.op)) else stays s).acts ≡ (if t && is_some line.full then Drop (id_of line) TableFull ∷ [] else [])
  by_test true e = by_full line.full e
  by_test false e = refl

pub acts_apart : (p : Params) (line : Line) (key : Key) (s : State) → concerns line key (key_of line.op) ≡ false → (change p line key s).acts ≡ (if is_turned_away line key line.op then Drop (id_of line) TableFull ∷ [] else [])
unfolding change
acts_apart p line key s h = by_op line.op refl h where
  by_op : (o : Op) → line.op ≡ o → concerns line key (key_of o) ≡ false → (change_by p line key s (key_of o)).acts ≡ (if is_turned_away line key o then Drop (id_of line) TableFull ∷ [] else [])
  by_op (op.Send named len) is e = send_apart p line key s named (rw is refl) e
  by_op (op.Arp named mac make solicited) is e = none_apart p line key s named (rw is refl) e
  by_op (op.Ns named mac) is e = none_apart p line key s named (rw is refl) e
  by_op (op.Na named mac router solicited overrides) is e = none_apart p line key s named (rw is refl) e
  by_op (op.Add named mac nud) is e = none_apart p line key s named (rw is refl) e
  by_op (op.Change named mac nud) is e = none_apart p line key s named (rw is refl) e
  by_op (op.Replace named mac nud) is e = none_apart p line key s named (rw is refl) e
  by_op (op.Del named) is e = none_apart p line key s named (rw is refl) e
  by_op (op.Confirm named) is e = none_apart p line key s named (rw is refl) e
  by_op (op.Timer named) is e = none_apart p line key s named (rw is refl) e
  by_op (op.Collect named) is e = none_apart p line key s named (rw is refl) e
  by_op op.Show is e = cc
  by_op op.Flush is e = cc
  by_op op.Sweep is e = cc

-- both at once
pub change_missed : (p : Params) (line : Line) (key : Key) (s : State) → concerns line key (key_of line.op) ≡ false
    → change p line key s ≡ record { state = s; acts = if is_turned_away line key line.op then Drop (id_of line) TableFull ∷ [] else [] }
change_missed p line key s h = ap (λ (x : State × List Act). (let whole : Stepped = record { state = x.0; acts = x.1 } in whole)) (λ i. (change-apart p line key s h i, acts_apart p line key s h i))
