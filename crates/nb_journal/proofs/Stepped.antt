-- The machine can step over a journal of a run.
use Rattle.std.proofs.Common.{◌≡◌, ℕ, Bool, true, false, nat_le, if◌then◌else◌, List, [], ◌∷◌, ◌++◌, refl, subst, arith}
use Rattle.std.proofs.lemmas.Bool.{and_parts}
use Rattle.nb_base.specs.declared.params.Params.{Params}
use Rattle.nb_base.specs.declared.op.Op.{Op}
use Rattle.nb_base.specs.declared.op.Op.TheVariants as op
use Rattle.nb_base.specs.declared.line.Line.{Line}
use Rattle.nud_machine.specs.Asked.{greatest}
use Rattle.nb_journal.specs.Keys.{is_own, may_be_asked, may_all_be_asked}
use Rattle.nb_journal.specs.Lawful.{EachLine, IsTimersTurn}
use Rattle.nb_journal.specs.Accounts.{own_lines}
use Rattle.nb_journal.specs.Steps.{IsAtDue, IsStep}
use Rattle.nb_journal.specs.Laws.{OrderlyJournalsAreStepped}
use Rattle.nb_journal.proofs.Lines.{each-of, each-at}
use Rattle.nb_journal.proofs.Fits.{moment-within}
use Rattle.nb_journal.proofs.Tests.{and_both, le_to}

-- the bucket's own lines may be asked for
bucket_settable : (o : Op) → is_own o ≡ false → may_be_asked o ≡ true
bucket_settable (op.Send key len) e = cc
bucket_settable (op.Add key mac nud) e = cc
bucket_settable (op.Change key mac nud) e = cc
bucket_settable (op.Replace key mac nud) e = cc
bucket_settable _ e = refl

-- so where the operations do, every line does
settable_at : (past rest : List Line) (l : Line) → may_all_be_asked (own_lines (past ++ l ∷ rest)) ≡ true → may_be_asked l.op ≡ true
settable_at [] rest l h = by_test (is_own l.op) refl h where
  by_test : (t : Bool) → is_own l.op ≡ t → may_all_be_asked (if t then l ∷ own_lines rest else own_lines rest) ≡ true → may_be_asked l.op ≡ true
  by_test true e g = (and_parts (may_be_asked l.op) (may_all_be_asked (own_lines rest)) g).0
  by_test false e g = bucket_settable l.op e
settable_at (x ∷ xs) rest l h = settable_at xs rest l (by_test (is_own x.op) h) where
  by_test : (t : Bool) → may_all_be_asked (if t then x ∷ own_lines (xs ++ l ∷ rest) else own_lines (xs ++ l ∷ rest)) ≡ true → may_all_be_asked (own_lines (xs ++ l ∷ rest)) ≡ true
  by_test true g = (and_parts (may_be_asked x.op) (may_all_be_asked (own_lines (xs ++ l ∷ rest))) g).1
  by_test false g = g

-- a timer whose turn it is stands at its key's due
turn_due : (p : Params) (past : List Line) (at : ℕ) (o : Op) → IsTimersTurn p past at o → IsAtDue p past at o
turn_due p past at (op.Timer key) t = t.due
turn_due p past at _ t = t

pub orderly_stepped : OrderlyJournalsAreStepped
orderly_stepped p journal orderly small settable = each-of (IsStep p) journal step where
  step : (past rest : List Line) (l : Line) → journal ≡ past ++ l ∷ rest → IsStep p past l
  step past rest l e =
      let within = moment-within journal past rest l orderly.moments e in (
        and_both (nat_le l.at greatest) (may_be_asked l.op) (le_to l.at greatest (omega (arith, within, small)))
            (settable_at past rest l (subst (λ (xs : List Line). may_all_be_asked (own_lines xs) ≡ true) e settable)),
        turn_due p past l.at l.op (each-at (λ before line. IsTimersTurn p before line.at line.op) past rest l (subst (EachLine (λ before line. IsTimersTurn p before line.at line.op)) e orderly.timers)),
      )
