-- A lawful journal goes on by a line that may stand behind it.
use Rattle.std.proofs.Common.{◌≡◌, ⊎_elim, ℕ, ◌+◌, ◌<◌, ◌≤◌, true, false, List, [], ◌∷◌, ◌++◌, refl, sym, ◌∙◌, ap, subst, arith, append_assoc}
use Rattle.std.proofs.lemmas.Bool.{cases_lt}
use Rattle.std.proofs.Math.Nat.{mul-le-mul_right}
use Rattle.nb_base.specs.declared.params.Params.{Params}
use Rattle.nb_base.specs.declared.op.Op.{Op}
use Rattle.nb_base.specs.declared.op.Op.TheVariants as op
use Rattle.nb_base.specs.declared.line.Line.{Line}
use Rattle.nb_base.specs.Params.{InRange}
use Rattle.nb_journal.specs.Keys.{is_own, is_timer}
use Rattle.nb_journal.specs.Lawful.{last_moment, IsSweepMoment, is_before_sweep, before_sweep, sweep_line, HasSweep, is_collect, IsLawful}
use Rattle.nb_journal.proofs.Lines.{each-snoc, last_moment-snoc, base_of-other}
use Rattle.nb_journal.proofs.Dues.{DuesFrom, dues_from-nil, dues_from-less, dues_from-snoc, nothing_due-from, dues_from-nothing_due}
use Rattle.nb_journal.proofs.Fits.{Fits, Runs, dues_at, dues_behind, before_other, before_late, before-off, runs-lawful, lawful-runs}

has_sweep-snoc : (u : ℕ) (lines : List Line) (l : Line) → is_before_sweep u l ≡ false → HasSweep u lines → HasSweep u (lines ++ l ∷ [])
has_sweep-snoc u lines l off has = (
  has.0,
  has.1 ++ l ∷ [],
  ap (λ (xs : List Line). xs ++ l ∷ []) has.2 ∙ append_assoc (before_sweep u lines) (sweep_line u has.0 ∷ has.1) (l ∷ []) ∙ ap (λ (xs : List Line). xs ++ (sweep_line u has.0 ∷ has.1 ++ l ∷ [])) (sym (before-off u lines l off)),
)

-- the empty journal
pub runs-nil : (p : Params) (from : ℕ) → Runs p [] 0 from 0
runs-nil p from = record { within = omega arith; each = tt; dues = dues_from-nil p from; sweeps = λ u is lt. absurd (none u lt) } where
  none : (u : ℕ) → u < 0 → ⊥
  none u lt = omega (arith, lt)

-- a line that may stand behind a journal carries it on, where no sweep asked for so far stands behind the line
pub runs-snoc : (p : Params) (lines : List Line) (l : Line) (clock from next later : ℕ) → InRange p → Runs p lines clock from next → Fits p lines l → later ≤ l.at + 10 → DuesFrom p lines later
    → ((u : ℕ) → IsSweepMoment p u → u < next → is_before_sweep u l ≡ false) → Runs p (lines ++ l ∷ []) l.at later next
runs-snoc p lines l clock from next later r runs fits le dues off = record {
  within = rw (last_moment-snoc lines l) (omega arith);
  each = each-snoc (Fits p) lines l runs.each fits;
  dues = dues_from-snoc p lines l later r le dues;
  sweeps = λ u is lt. has_sweep-snoc u lines l (off u is lt) (runs.sweeps u is lt);
}

-- a timer's line
pub runs-timer : (p : Params) (lines : List Line) (l : Line) (clock from next : ℕ) → InRange p → Runs p lines clock from next → is_timer l.op ≡ true → Fits p lines l → ((u : ℕ) → IsSweepMoment p u → u < next → u < l.at) → Runs p (lines ++ l ∷ []) l.at l.at next
runs-timer p lines l clock from next r runs timer fits behind =
    runs-snoc p lines l clock from next l.at r runs fits (omega arith) (dues_at p lines l.at l.op fits.timer fits.due) (λ u is lt. before_late u l (behind u is lt))

-- a line of an operation, or a collect
pub runs-other : (p : Params) (lines : List Line) (l : Line) (clock from : ℕ) → InRange p → Runs p lines clock from (l.at + 1) → is_timer l.op ≡ false → Fits p lines l → Runs p (lines ++ l ∷ []) l.at (l.at + 1) (l.at + 1)
runs-other p lines l clock from r runs other fits =
    runs-snoc p lines l clock from (l.at + 1) (l.at + 1) r runs fits (omega arith) (dues_behind p lines l.at l.op other fits.due) (λ u is lt. before_other u l (omega (arith, lt)) other)

-- a sweep, where the sweeps below it are there
pub runs-sweep : (p : Params) (lines : List Line) (clock from u seen : ℕ) → InRange p → Runs p lines clock from u → Fits p lines (sweep_line u seen) → Runs p (lines ++ sweep_line u seen ∷ []) u (u + 1) (u + 1)
runs-sweep p lines clock from u seen r runs fits =
    let more = runs-snoc p lines (sweep_line u seen) clock from u (u + 1) r runs fits (omega arith) (dues_behind p lines u op.Sweep refl fits.due) (λ v is lt. before_other v (sweep_line u seen) (omega (arith, lt)) refl) in
    record {
      within = more.within;
      each = more.each;
      dues = more.dues;
      sweeps = λ v is lt. ⊎_elim
          (λ (below : v < u). more.sweeps v is below)
          (λ (above : u ≤ v). let same : u ≡ v = omega (arith, above, lt) in subst (λ (w : ℕ). HasSweep w (lines ++ sweep_line u seen ∷ [])) same here)
          (cases_lt v u);
    } where
      here : HasSweep u (lines ++ sweep_line u seen ∷ [])
      here = (seen, [], ap (λ (xs : List Line). xs ++ sweep_line u seen ∷ []) (fits.sweep.2 ∙ sym (before-off u lines (sweep_line u seen) (before_other u (sweep_line u seen) (omega arith) refl))))

-- time passes where there is no multiple of the interval
pub runs-pass : (p : Params) (lines : List Line) (clock from next later : ℕ) → Runs p lines clock from next → ((u : ℕ) → IsSweepMoment p u → next ≤ u → u < later → ⊥) → Runs p lines clock from later
runs-pass p lines clock from next later runs none = record {
  within = runs.within;
  each = runs.each;
  dues = runs.dues;
  sweeps = λ u is lt. ⊎_elim (λ (below : u < next). runs.sweeps u is below) (λ (above : next ≤ u). absurd (none u is above lt)) (cases_lt u next);
}

-- at a clock and with dues and sweeps less far
pub runs-less : (p : Params) (lines : List Line) (clock clock2 from from2 next next2 : ℕ) → Runs p lines clock from next → last_moment lines ≤ clock2 → from2 ≤ from → next2 ≤ next → Runs p lines clock2 from2 next2
runs-less p lines clock clock2 from from2 next next2 runs within dues sweeps = record {
  within = within;
  each = runs.each;
  dues = dues_from-less p lines from2 from dues runs.dues;
  sweeps = λ u is lt. runs.sweeps u is (omega (arith, lt, sweeps));
}

pub own_other : (o : Op) → is_own o ≡ true → (is_timer o ≡ false) × (is_collect o ≡ false)
own_other (op.Timer key) e = cc
own_other op.Sweep e = cc
own_other (op.Collect key) e = cc
own_other _ e = (refl, refl)

-- a sweep's moment is at least the interval
pub sweep_moment-above : (p : Params) (u : ℕ) → IsSweepMoment p u → p.gc_interval ≤ u
sweep_moment-above p u is = let le = mul-le-mul_right {m = 1} {n = is.0 + 1} p.gc_interval (omega arith) in let e = is.1 in omega (arith, le, e)

-- the empty journal is lawful at the clock 0
pub lawful-nil : (p : Params) → InRange p → IsLawful p [] 0
lawful-nil p r = runs-lawful p [] 0 r (runs-pass p [] 0 1 0 1 (runs-nil p 1) (λ u is above lt. none u is lt)) refl where
  none : (u : ℕ) → IsSweepMoment p u → u < 1 → ⊥
  none u is lt = let le = sweep_moment-above p u is in let positive = r.gc_interval.0 in omega (arith, le, lt, positive)

-- a lawful journal goes on by an operation's line at its clock
pub lawful-own : (p : Params) (lines : List Line) (l : Line) → InRange p → IsLawful p lines l.at → is_own l.op ≡ true → Fits p lines l → IsLawful p (lines ++ l ∷ []) l.at
lawful-own p lines l r lawful own fits =
    let other = own_other l.op own in
    runs-lawful p (lines ++ l ∷ []) l.at r (runs-other p lines l l.at (l.at + 1) r (lawful-runs p lines l.at lawful) other.0 fits) (base_of-other lines l other.1)

-- lawful at every lesser clock that the last line hasn't passed
pub lawful-lesser : (p : Params) (lines : List Line) (clock lesser : ℕ) → lesser ≤ clock → last_moment lines ≤ lesser → IsLawful p lines clock → IsLawful p lines lesser
lawful-lesser p lines clock lesser le within lawful = record {
  orderly = lawful.orderly;
  within = within;
  none_left = nothing_due-from p lines lesser (dues_from-less p lines (lesser + 1) (clock + 1) (omega (arith, le)) (dues_from-nothing_due p lines clock lawful.none_left));
  sweeps = λ u is at. lawful.sweeps u is (omega (arith, le, at));
}
