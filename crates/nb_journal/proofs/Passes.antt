-- A lawful journal goes on by an operation's line behind its collects.
use Rattle.std.proofs.Common.{◌≡◌, ◌≤◌, ℕ, ◌+◌, true, false, is_some, List, [], ◌∷◌, ◌++◌, Option, Some, None, refl, sym, ◌∙◌, ap, subst, append_assoc, append-nil}
use Rattle.std.specs.Prelude.{map}
use Rattle.nb_base.specs.declared.key.Key.{Key}
use Rattle.nb_base.specs.declared.params.Params.{Params}
use Rattle.nb_base.specs.declared.op.Op.{Op}
use Rattle.nb_base.specs.declared.op.Op.TheVariants as op
use Rattle.nb_base.specs.declared.line.Line.{Line}
use Rattle.nb_base.specs.Params.{InRange}
use Rattle.nb_journal.specs.Keys.{key_of, is_own, is_sweep}
use Rattle.nb_journal.specs.Fold.{present_count}
use Rattle.nb_journal.specs.Lawful.{NothingDue, IsTimersTurn, PassesNoDue, sweep_line, base_of, made_by, looks, HasSeen, asked_of_pass, collect_line, collects, HasItsPass, full_of}
use Rattle.nb_journal.specs.Laws.{GoesOnByOperation}
use Rattle.nb_journal.proofs.Lines.{base_of-collect, base_of-other}
use Rattle.nb_journal.proofs.Dues.{nothing_due-from}
use Rattle.nb_journal.proofs.Fits.{Fits, FitsSweep, Runs, runs-lawful, lawful-runs}
use Rattle.nb_journal.proofs.Appends.{runs-other, own_other}

made_none : (p : Params) (base : List Line) (l : Line) (o : Option Key) → is_own l.op ≡ false → made_by p base l o ≡ None
made_none p base l None e = refl
made_none p base l (Some key) e = rw e refl

-- only an operation's line has `full`
pub own-full : (p : Params) (past : List Line) (l : Line) → is_own l.op ≡ false → full_of p past l ≡ None
own-full p past l e = rw (made_none p (base_of past) l (key_of l.op) e) refl

pub looks-none : (p : Params) (base : List Line) (l : Line) → is_own l.op ≡ false → is_sweep l.op ≡ false → looks p base l ≡ false
looks-none p base l e s = rw (s, made_none p base l (key_of l.op) e) refl

-- and no line of the bucket's own but a sweep looks at the table
pub bare-seen : (p : Params) (past : List Line) (l : Line) → is_own l.op ≡ false → is_sweep l.op ≡ false → l.seen ≡ None → HasSeen p (base_of past) l
bare-seen p past l e s none = record { there = ap is_some none ∙ sym (looks-none p (base_of past) l e s); enough = rw none tt }

-- a sweep sees at least what is present
pub sweep-seen : (p : Params) (past : List Line) (u seen : ℕ) → base_of past ≡ past → present_count p past ≤ seen → HasSeen p (base_of past) (sweep_line u seen)
sweep-seen p past u seen bare enough = record { there = refl; enough = rw bare enough }

pub collect_fits : (p : Params) (lines : List Line) (at from next : ℕ) (key : Key) → Runs p lines at (at + 1) next → Fits p lines (collect_line at key)
collect_fits p lines at from next key runs = record {
  moment = runs.within;
  id = refl;
  timer = tt;
  due = nothing_due-from p lines at runs.dues;
  sweep = tt;
  seen = bare-seen p lines (collect_line at key) refl refl refl;
  pass = tt;
  full = sym (own-full p lines (collect_line at key) refl);
}

pub runs-collects : (p : Params) (lines : List Line) (at : ℕ) (keys : List Key) → InRange p → Runs p lines at (at + 1) (at + 1) → Runs p (lines ++ map (collect_line at) keys) at (at + 1) (at + 1)
runs-collects p lines at [] r runs = subst (λ (xs : List Line). Runs p xs at (at + 1) (at + 1)) (sym (append-nil lines)) runs
runs-collects p lines at (key ∷ keys) r runs =
    subst (λ (xs : List Line). Runs p xs at (at + 1) (at + 1)) (append_assoc lines (collect_line at key ∷ []) (map (collect_line at) keys))
    (runs-collects p (lines ++ collect_line at key ∷ []) at keys r (runs-other p lines (collect_line at key) at (at + 1) r runs refl (collect_fits p lines at (at + 1) (at + 1) key runs)))

pub base_of-collects : (lines : List Line) (at : ℕ) (keys : List Key) → base_of (lines ++ map (collect_line at) keys) ≡ base_of lines
base_of-collects lines at [] = ap base_of (append-nil lines)
base_of-collects lines at (key ∷ keys) =
    ap base_of (sym (append_assoc lines (collect_line at key ∷ []) (map (collect_line at) keys)))
    ∙ base_of-collects (lines ++ collect_line at key ∷ []) at keys
    ∙ base_of-collect lines (collect_line at key) refl

-- the keys whose collects stand before a line
pub collects_keys : (p : Params) (base : List Line) (l : Line) → (keys : List Key) × (collects p base l ≡ map (collect_line l.at) keys)
collects_keys p base l = (asked_of_pass p base l, refl)

own_timer : (p : Params) (past : List Line) (at : ℕ) (o : Op) → is_own o ≡ true → IsTimersTurn p past at o
own_timer p past at (op.Timer key) e = cc
own_timer p past at _ e = tt

own_due : (p : Params) (past : List Line) (at : ℕ) (o : Op) → NothingDue p past at → PassesNoDue p past at o
own_due p past at (op.Timer key) n = tt
own_due p past at _ n = n

own_sweep : (p : Params) (past : List Line) (l : Line) (o : Op) → is_own o ≡ true → FitsSweep p past l o
own_sweep p past l op.Sweep e = cc
own_sweep p past l _ e = tt

own_pass : (p : Params) (past : List Line) (l : Line) (o : Op) → is_own o ≡ true → past ≡ base_of past ++ collects p (base_of past) l → HasItsPass p past l o
own_pass p past l (op.Timer key) e h = cc
own_pass p past l op.Sweep e h = cc
own_pass p past l (op.Collect key) e h = cc
own_pass p past l _ e h = h

pub goes_on : GoesOnByOperation
goes_on p journal l r lawful own id seen full =
    let keys = collects_keys p journal l in
    let all = journal ++ collects p journal l in
    let written = sym (ap (λ (xs : List Line). journal ++ xs) keys.1) in
    let runs = subst (λ (xs : List Line). Runs p xs l.at (l.at + 1) (l.at + 1)) written (runs-collects p journal l.at keys.0 r (lawful-runs p journal l.at lawful)) in
    let base = ap base_of (sym written) ∙ base_of-collects journal l.at keys.0 ∙ lawful.orderly.passes_only in
    let other = own_other l.op own in
    runs-lawful p (all ++ l ∷ []) l.at r
    (runs-other p all l l.at (l.at + 1) r runs other.0 (record {
      moment = runs.within;
      id = id ∙ sym own;
      timer = own_timer p all l.at l.op own;
      due = own_due p all l.at l.op (nothing_due-from p all l.at runs.dues);
      sweep = own_sweep p all l l.op own;
      seen = subst (λ (b : List Line). HasSeen p b l) (sym base) seen;
      pass = own_pass p all l l.op own (subst (λ (b : List Line). all ≡ b ++ collects p b l) (sym base) refl);
      full = full;
    }))
    (base_of-other all l other.1)
