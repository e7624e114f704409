-- A journal goes on by its timers, its sweeps, and by time alone.
use Rattle.std.proofs.Common.{◌≡◌, ⊎_elim, ℕ, ◌+◌, ◌<◌, ◌≤◌, Bool, true, false, if◌then◌else◌, List, [], ◌∷◌, ◌++◌, refl, sym, ◌∙◌, subst, arith}
use Rattle.std.proofs.lemmas.Bool.{cases_lt, false≢true}
use Rattle.nb_base.specs.declared.params.Params.{Params}
use Rattle.nb_base.specs.declared.line.Line.{Line}
use Rattle.nb_journal.specs.Lawful.{last_moment, is_before_sweep, before_sweep, sweep_line, base_of}
use Rattle.nb_journal.specs.Accounts.{timer_line}
use Rattle.nb_journal.specs.Laws.{StandsUpTo, Lawful, BrokenOff, GoesOnByTimer, GoesOnBySweep, GoesOnInTime}
use Rattle.nb_journal.proofs.Lines.{base_of-other}
use Rattle.nb_journal.proofs.Dues.{dues_from-nothing_due}
use Rattle.nb_journal.proofs.Fits.{Fits, Runs, before_late, runs-lawful, lawful-runs, runs-broken_off, broken_off-runs}
use Rattle.nb_journal.proofs.Appends.{runs-timer, runs-sweep, runs-pass}
use Rattle.nb_journal.proofs.Passes.{own-full, bare-seen, sweep-seen}

-- the working form of a journal that stands up to a moment
record Standing (p : Params) (journal : List Line) (from : ℕ) : Type 0 where
  clock : ℕ
  runs : Runs p journal clock from from
  within : clock ≤ from
  bare : base_of journal ≡ journal

standing : (p : Params) (journal : List Line) (from : ℕ) → StandsUpTo p journal from → Standing p journal from
standing p journal from (Lawful clock lawful) = record { clock = clock; runs = lawful-runs p journal clock lawful; within = omega arith; bare = lawful.orderly.passes_only }
standing p journal from (BrokenOff clock broken) = record { clock = clock; runs = broken_off-runs p journal clock broken; within = omega arith; bare = broken.orderly.passes_only }

pub on_by_timer : GoesOnByTimer
on_by_timer p journal from key at r stands next none =
    let s = standing p journal from stands in
    let runs = runs-pass p journal s.clock from from at s.runs none in
    let late = s.runs.dues key at next.due in
    let last = s.runs.within in
    let clock = s.within in
    let fits : Fits p journal (timer_line at key) = record {
      moment = omega (arith, late, last, clock);
      id = refl;
      timer = next;
      due = tt;
      sweep = tt;
      seen = bare-seen p journal (timer_line at key) refl refl refl;
      pass = s.bare;
      full = sym (own-full p journal (timer_line at key) refl);
    } in
    runs-broken_off p (journal ++ timer_line at key ∷ []) at r (journal, timer_line at key, refl, refl, refl) (runs-timer p journal (timer_line at key) s.clock from at r runs refl fits (λ u is lt. lt))

-- where all lines stand before a sweep, so does the last
last_before : (u : ℕ) (lines : List Line) → lines ≡ before_sweep u lines → last_moment lines ≤ u
last_before u lines e = subst (λ (xs : List Line). last_moment xs ≤ u) (sym e) (go lines) where
  early : (l : Line) → is_before_sweep u l ≡ true → l.at ≤ u
  early l h = ⊎_elim (λ (le : l.at < u + 1). omega (arith, le)) (λ (gt : u + 1 ≤ l.at). absurd (false≢true (sym (before_late u l (omega (arith, gt))) ∙ h))) (cases_lt l.at (u + 1))

  some : (l : Line) (ls : List Line) → l.at ≤ u → last_moment ls ≤ u → last_moment (l ∷ ls) ≤ u
  some l [] here rest = here
  some l (x ∷ xs) here rest = rest

  go : (xs : List Line) → last_moment (before_sweep u xs) ≤ u
  go [] = omega arith
  go (l ∷ ls) = by_test (is_before_sweep u l) refl (go ls) where
    by_test : (t : Bool) → is_before_sweep u l ≡ t → last_moment (before_sweep u ls) ≤ u → last_moment (if t then l ∷ before_sweep u ls else before_sweep u ls) ≤ u
    by_test true h rest = some l (before_sweep u ls) (early l h) rest
    by_test false h rest = rest

pub on_in_time : GoesOnInTime
on_in_time p journal from clock r stands within due none =
    let s = standing p journal from stands in
    let runs = runs-pass p journal s.clock from from (clock + 1) s.runs none in
    runs-lawful p journal clock r (record { within = within; each = runs.each; dues = dues_from-nothing_due p journal clock due; sweeps = runs.sweeps }) s.bare

pub on_by_sweep : GoesOnBySweep
on_by_sweep p journal from u seen r stands is due before enough none =
    let s = standing p journal from stands in
    let runs = runs-pass p journal s.clock from from u s.runs none in
    let last = last_before u journal before in
    let fits : Fits p journal (sweep_line u seen) = record {
      moment = last;
      id = refl;
      timer = tt;
      due = due;
      sweep = (is, refl, before);
      seen = sweep-seen p journal u seen s.bare enough;
      pass = s.bare;
      full = sym (own-full p journal (sweep_line u seen) refl);
    } in
    runs-lawful p (journal ++ sweep_line u seen ∷ []) u r (runs-sweep p journal s.clock from u seen r runs fits) (base_of-other journal (sweep_line u seen) refl)
