-- A line that shows the table does nothing to a key.
use Rattle.std.proofs.Common.{◌≡◌, List, [], ◌∷◌, ◌++◌, map, refl, sym, ap, ◌∙◌}
use Rattle.std.specs.List.{flat_map}
use Rattle.nb_base.specs.declared.key.Key.{Key}
use Rattle.nb_base.specs.declared.params.Params.{Params}
use Rattle.nb_base.specs.declared.op.Op.{Op}
use Rattle.nb_base.specs.declared.op.Op.TheVariants as op
use Rattle.nb_base.specs.declared.line.Line.{Line}
use Rattle.nud_machine.specs.State.{State, Stepped, stays}
use Rattle.nb_journal.specs.declared.kept.Kept.{Kept}
use Rattle.nb_journal.specs.Keys.{key_of}
use Rattle.nb_journal.specs.Fold.{effect, meet, change, state_of, acts_of, known_keys}
use Rattle.nb_journal.specs.Accounts.{acts_at}
use Rattle.nb_journal.specs.Steps.{concerns}
use Rattle.nb_journal.proofs.Folds.{state_of-snoc}
use Rattle.nb_journal.proofs.Changed.{change_met}
use Rattle.journal_fold.specs.Kept.{AreKept}

change_shown : (p : Params) (line : Line) (key : Key) (s : State) → line.op ≡ op.Show → change p line key s ≡ stays s
change_shown p line key s is = change_met p line key s (ap (λ (o : Op). concerns line key (key_of o)) is) ∙ ap (λ (o : Op). meet p line s (effect p line s o)) is

stays_shown : (p : Params) (past : List Line) (line : Line) → line.op ≡ op.Show → (key : Key) → state_of p (past ++ line ∷ []) key ≡ state_of p past key
stays_shown p past line is key = state_of-snoc p past line key ∙ ap (λ (x : Stepped). x.state) (change_shown p line key (state_of p past key) is)

pub kept_shown : (p : Params) (past : List Line) (line : Line) (keys : List Key) (kept : List Kept) → line.op ≡ op.Show → AreKept p past keys kept → AreKept p (past ++ line ∷ []) keys kept
kept_shown p past line keys kept is are = record {
  states = are.states ∙ ap (λ (f : Key → State). map f keys) (λ i. λ key. sym (stays_shown p past line is key) i);
  each = are.each;
}

none_shown : (p : Params) (past : List Line) (line : Line) (keys : List Key) → line.op ≡ op.Show → flat_map (acts_of p past line) keys ≡ []
none_shown p past line [] is = refl
none_shown p past line (key ∷ keys) is = rw (ap (λ (x : Stepped). x.acts) (change_shown p line key (state_of p past key) is), none_shown p past line keys is) refl

pub acts_shown : (p : Params) (past : List Line) (line : Line) → line.op ≡ op.Show → acts_at p past line ≡ []
acts_shown p past line is = none_shown p past line (known_keys (past ++ line ∷ [])) is
