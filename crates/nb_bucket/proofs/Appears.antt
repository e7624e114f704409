-- A key becomes present only by an operation that names it and finds the table not full.
use Rattle.std.proofs.Common.{◌≡◌, ℕ, Bool, true, false, ◌&&◌, is_some, is_none, List, [], ◌∷◌, ◌++◌, Option, Some, None, refl, sym, ◌∙◌, ap}
use Rattle.std.proofs.lemmas.Bool.{false≢true, and_parts}
use Rattle.nb_base.specs.declared.key.Key.{Key}
use Rattle.nb_base.specs.declared.params.Params.{Params}
use Rattle.nb_base.specs.declared.op.Op.{Op}
use Rattle.nb_base.specs.declared.op.Op.TheVariants as op
use Rattle.nb_base.specs.declared.line.Line.{Line}
use Rattle.nud_machine.specs.declared.event.Event.TheVariants as event
use Rattle.nud_machine.specs.State.{State}
use Rattle.nb_journal.specs.Keys.{is_key, key_of, is_own}
use Rattle.nb_journal.specs.Fold.{Effect, Passes, Refuses, Brings, effect, if_so, is_loose, is_swept, saw_enough, meet, change, state_of, is_present}
use Rattle.nb_journal.specs.Lawful.{brings_event}
use Rattle.nb_journal.specs.Steps.{concerns}
use Rattle.nb_journal.proofs.Folds.{state_of-snoc}
use Rattle.nb_journal.proofs.Grows.{is_key-one}
use Rattle.nb_journal.proofs.Meets.{change-concerns, change-apart}

pub record Appears (p : Params) (lines : List Line) (l : Line) (key : Key) : Type 0 where
  pub names : key_of l.op ≡ Some key
  pub own : is_own l.op ≡ true
  pub full : l.full ≡ None
  pub brings : brings_event (effect p l (state_of p lines key) l.op) ≡ true

removes_none : (p : Params) (l : Line) (s : State) (b : Bool) → s.entry.present ≡ false → (meet p l s (if_so b event.Remove)).state.entry.present ≡ false
removes_none p l s true off = refl
removes_none p l s false off = off

unmade : (p : Params) (l : Line) (s : State) (o : Op) → (is_own o && is_some (key_of o)) ≡ false → s.entry.present ≡ false → (meet p l s (effect p l s o)).state.entry.present ≡ false
unmade p l s op.Show n off = off
unmade p l s op.Flush n off = removes_none p l s (is_loose s) off
unmade p l s op.Sweep n off = removes_none p l s (saw_enough p l.seen && is_swept p l.at s) off
unmade p l s (op.Timer k) n off = ap (λ (b : Bool). (meet p l s (if_so b event.Timer)).state.entry.present) off ∙ off
unmade p l s (op.Collect k) n off = removes_none p l s s.entry.present off
unmade p l s _ n off = cc

brings_some : (p : Params) (l : Line) (s : State) (x : Effect) → s.entry.present ≡ false → (meet p l s x).state.entry.present ≡ true → brings_event x ≡ true
brings_some p l s Passes off on = sym off ∙ on
brings_some p l s (Refuses r) off on = sym off ∙ on
brings_some p l s (Brings e) off on = refl

full_none : (full : Option ℕ) → is_none full ≡ true → full ≡ None
full_none None e = refl
full_none (Some n) e = cc

of_named : (p : Params) (lines : List Line) (l : Line) (key : Key) (o : Option Key) → key_of l.op ≡ o → concerns l key o ≡ true → is_some o ≡ true → is_own l.op ≡ true → brings_event (effect p l (state_of p lines key) l.op) ≡ true → Appears p lines l key
of_named p lines l key None names here some own brings = cc
of_named p lines l key (Some named) names here some own brings =
    let parts = and_parts (is_key named key) (is_none l.full) here in
    record { names = names ∙ ap (λ (k : Key). Some k) (is_key-one named key parts.0); own = own; full = full_none l.full parts.1; brings = brings }

pub appears : (p : Params) (lines : List Line) (l : Line) (key : Key) → is_present p lines key ≡ false → is_present p (lines ++ l ∷ []) key ≡ true → Appears p lines l key
appears p lines l key off on = by_test (concerns l key (key_of l.op)) refl where
  s : State
  s = state_of p lines key

  changed : (change p l key s).state.entry.present ≡ true
  changed = ap (λ (t : State). t.entry.present) (sym (state_of-snoc p lines l key)) ∙ on

  by_test : (t : Bool) → concerns l key (key_of l.op) ≡ t → Appears p lines l key
  by_test false e = absurd (false≢true (sym off ∙ ap (λ (t : State). t.entry.present) (sym (change-apart p l key s e)) ∙ changed))
  by_test true e = by_own (is_own l.op && is_some (key_of l.op)) refl (ap (λ (t : State). t.entry.present) (sym (change-concerns p l key s e)) ∙ changed) where
    by_own : (t : Bool) → (is_own l.op && is_some (key_of l.op)) ≡ t → (meet p l s (effect p l s l.op)).state.entry.present ≡ true → Appears p lines l key
    by_own false n met = absurd (false≢true (sym (unmade p l s l.op n off) ∙ met))
    by_own true n met =
        let parts = and_parts (is_own l.op) (is_some (key_of l.op)) n in
        of_named p lines l key (key_of l.op) refl e parts.1 parts.0 (brings_some p l s (effect p l s l.op) off met)

-- every other line leaves no key present that wasn't
pub was_present : (p : Params) (lines : List Line) (l : Line) (key : Key) → (is_own l.op && is_some (key_of l.op)) ≡ false → is_present p (lines ++ l ∷ []) key ≡ true → is_present p lines key ≡ true
was_present p lines l key other on = by_test (is_present p lines key) refl where
  by_test : (t : Bool) → is_present p lines key ≡ t → is_present p lines key ≡ true
  by_test true e = e
  by_test false e = let a = appears p lines l key e on in absurd (false≢true (sym other ∙ ap (λ (b : Bool). b && is_some (key_of l.op)) a.own ∙ ap (λ (o : Option Key). is_some o) a.names))
