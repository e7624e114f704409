-- The next sweep's moment, while the journal goes on.
use Rattle.std.proofs.Common.{◌≡◌, ⊎_elim, ℕ, ◌+◌, ◌<◌, ◌≤◌, Bool, true, false, if◌then◌else◌, List, [], ◌∷◌, ◌++◌, length, refl, sym, ◌∙◌, ap, subst, arith}
use Rattle.std.specs.Prelude.{filter, Option, IfSome}
use Rattle.std.proofs.lemmas.Bool.{cases_lt, false≢true}
use Rattle.std.proofs.lemmas.List.{length-append}
use Rattle.nb_base.specs.declared.key.Key.{Key}
use Rattle.nb_base.specs.declared.params.Params.{Params}
use Rattle.nb_base.specs.declared.line.Line.{Line}
use Rattle.nb_base.specs.Params.{InRange}
use Rattle.nb_journal.specs.Fold.{present_count}
use Rattle.nb_journal.specs.Lawful.{last_moment, NothingDue, IsNextDue, IsSweepMoment, is_before_sweep, before_sweep, sweep_line, HasSweep, IsLawful, IsBrokenOff}
use Rattle.nb_journal.specs.Accounts.{timer_line}
use Rattle.nb_journal.specs.Laws.{NoSweepBetween, StandsUpTo}
use Rattle.nb_journal.specs.Laws as laws
use Rattle.nb_journal.proofs.Dues.{dues_from-less, dues_from-nothing_due, nothing_due-from, dues_from-nothing_overdue}
use Rattle.nb_journal.proofs.Fits.{before_early, before_late, before_timer, before-on}
use Rattle.nb_journal.proofs.Appends.{sweep_moment-above}
use Rattle.nb_journal.proofs.Meets.{moments_apart, moment_after}
use Rattle.nb_journal.proofs.GoesOn.{on_by_timer, on_by_sweep, on_in_time}
use Rattle.nb_bucket.specs.Bucket.{Stands, Lawful, BrokenOff}
use Rattle.nb_bucket.specs.Keeps.{IsNextSweep}

-- ---- sweeps' moments

-- below the moment after a sweep's moment stands none but this one and earlier ones
pub none_between : (p : Params) (m : ℕ) → InRange p → IsSweepMoment p m → (u : ℕ) → IsSweepMoment p u → u < m + p.gc_interval → u ≤ m
none_between p m r im u iu lt = ⊎_elim
    (λ (le : u < m + 1). omega (arith, le))
    (λ (gt : m + 1 ≤ u). let some = r.gc_interval.0 in let same = moments_apart p u m (omega (arith, some)) iu im (omega (arith, gt)) lt in omega (arith, same))
    (cases_lt u (m + 1))

-- ---- lines before a sweep

filter_more : (small large : Line → Bool) (lines : List Line) → ((l : Line) → small l ≡ true → large l ≡ true) → filter large (filter small lines) ≡ filter small lines
filter_more small large [] h = refl
filter_more small large (l ∷ ls) h = by_test (small l) refl (filter_more small large ls h) where
  by_test : (t : Bool) → small l ≡ t → filter large (filter small ls) ≡ filter small ls → filter large (if t then l ∷ filter small ls else filter small ls) ≡ (if t then l ∷ filter small ls else filter small ls)
  by_test true e rest = rw (h l e) (ap (λ (xs : List Line). l ∷ xs) rest)
  by_test false e rest = rest

at_most : (u : ℕ) (l : Line) → is_before_sweep u l ≡ true → l.at ≤ u
at_most u l h = ⊎_elim (λ (le : l.at < u + 1). omega (arith, le)) (λ (gt : u + 1 ≤ l.at). absurd (false≢true (sym (before_late u l (omega (arith, gt))) ∙ h))) (cases_lt l.at (u + 1))

-- lines before a sweep stand before every later one
pub before_later : (u v : ℕ) (lines : List Line) → u < v → lines ≡ before_sweep u lines → lines ≡ before_sweep v lines
before_later u v lines lt e =
    e ∙ sym (filter_more (is_before_sweep u) (is_before_sweep v) lines (λ l h. let le = at_most u l h in before_early v l (omega (arith, le, lt)))) ∙ ap (before_sweep v) (sym e)

pub before_one_more : (u : ℕ) (lines : List Line) (l : Line) → lines ≡ before_sweep u lines → is_before_sweep u l ≡ true → lines ++ l ∷ [] ≡ before_sweep u (lines ++ l ∷ [])
before_one_more u lines l e h = ap (λ (xs : List Line). xs ++ l ∷ []) e ∙ sym (before-on u lines l h)

-- where all lines stand before a sweep, it isn't there
pub not_there : (u : ℕ) (lines : List Line) → lines ≡ before_sweep u lines → HasSweep u lines → ⊥
not_there u lines e has =
    let rest = sweep_line u has.0 ∷ has.1 in
    let size = ap (λ (xs : List Line). length xs) has.2 ∙ length-append (before_sweep u lines) rest in
    let same = ap (λ (xs : List Line). length xs) e in
    absurd (omega (arith, size, same))

-- ---- the next sweep

pub next-nil : (p : Params) → InRange p → IsNextSweep p [] 0 p.gc_interval
next-nil p r = record {
  moment = (0, omega arith);
  before = refl;
  swept = λ u is lt. let le = sweep_moment-above p u is in absurd (omega (arith, le, lt));
  passed = λ u is lt. let le = sweep_moment-above p u is in absurd (omega (arith, le, lt));
}

-- there is one next sweep
pub next-one : (p : Params) (lines : List Line) (clock m n : ℕ) → IsNextSweep p lines clock m → IsNextSweep p lines clock n → m ≡ n
next-one p lines clock m n a b = ⊎_elim
    (λ (lt : m < n). absurd (not_there m lines a.before (b.swept m a.moment lt)))
    (λ (le : n ≤ m). ⊎_elim (λ (lt : n < m). absurd (not_there n lines b.before (a.swept n b.moment lt))) (λ (ge : m ≤ n). omega (arith, le, ge)) (cases_lt n m))
    (cases_lt m n)

-- a moment up to which all lines stand, and from which on there is no sweep before the next
pub record IsUpTo (p : Params) (lines : List Line) (next : ℕ) : Type 0 where
  pub from : ℕ
  pub stands : StandsUpTo p lines from
  pub none : NoSweepBetween p from next

pub up_to : (p : Params) (lines : List Line) (clock next : ℕ) → Stands p lines clock → IsNextSweep p lines clock next → IsUpTo p lines next
up_to p lines clock next (Lawful lawful) n = record {
  from = clock + 1;
  stands = laws.Lawful clock lawful;
  none = λ u is ge lt. let le = n.passed u is lt in omega (arith, le, ge);
}
up_to p lines clock next (BrokenOff broken) n = record {
  from = clock;
  stands = laws.BrokenOff clock broken;
  none = λ u is ge lt. let le = n.passed u is lt in let same : u ≡ clock = omega (arith, le, ge) in broken.no_sweep_yet (subst (λ (v : ℕ). HasSweep v lines) same (n.swept u is lt));
}

nothing_due-lower : (p : Params) (lines : List Line) (u v : ℕ) → u ≤ v → NothingDue p lines v → NothingDue p lines u
nothing_due-lower p lines u v le none = nothing_due-from p lines u (dues_from-less p lines (u + 1) (v + 1) (omega (arith, le)) (dues_from-nothing_due p lines v none))

-- nothing is due up to an earlier sweep's moment
passed-none : (p : Params) (lines : List Line) (clock next u : ℕ) → Stands p lines clock → IsNextSweep p lines clock next → IsSweepMoment p u → u < next → NothingDue p lines u
passed-none p lines clock next u (Lawful lawful) n is lt = nothing_due-lower p lines u clock (n.passed u is lt) lawful.none_left
passed-none p lines clock next u (BrokenOff broken) n is lt = ⊎_elim
    (λ (early : u < clock). nothing_due-from p lines u (dues_from-less p lines (u + 1) clock (omega (arith, early)) (dues_from-nothing_overdue p lines clock broken.none_overdue)))
    (λ (late : clock ≤ u). let le = n.passed u is lt in let same : u ≡ clock = omega (arith, le, late) in absurd (broken.no_sweep_yet (subst (λ (v : ℕ). HasSweep v lines) same (n.swept u is lt))))
    (cases_lt u clock)

-- a due lies behind each earlier sweep
pub behind_passed : (p : Params) (lines : List Line) (clock next : ℕ) (key : Key) (at : ℕ) → Stands p lines clock → IsNextSweep p lines clock next → IsNextDue p lines key at → (u : ℕ) → IsSweepMoment p u → u < next → u < at
behind_passed p lines clock next key at stands n due u is lt = subst (λ (o : Option ℕ). IfSome o (λ d. u < d)) due.due (passed-none p lines clock next u stands n is lt key)

-- ---- a timer's line

pub timer-broken_off : (p : Params) (lines : List Line) (clock next : ℕ) (key : Key) (at : ℕ) → InRange p → Stands p lines clock → IsNextSweep p lines clock next → IsNextDue p lines key at → at ≤ next → IsBrokenOff p (lines ++ timer_line at key ∷ []) at
timer-broken_off p lines clock next key at r stands n due le =
    let far = up_to p lines clock next stands n in
    on_by_timer p lines far.from key at r far.stands due (λ u is ge lt. far.none u is ge (omega (arith, lt, le)))

pub next-timer : (p : Params) (lines : List Line) (clock next : ℕ) (key : Key) (at : ℕ) → InRange p → Stands p lines clock → IsNextSweep p lines clock next → IsNextDue p lines key at → at ≤ next → IsNextSweep p (lines ++ timer_line at key ∷ []) at next
next-timer p lines clock next key at r stands n due le = record {
  moment = n.moment;
  before = before_one_more next lines (timer_line at key) n.before (before_timer next (timer_line at key) le refl);
  swept = λ u is lt. (timer-broken_off p lines clock next key at r stands n due le).sweeps u is (behind_passed p lines clock next key at stands n due u is lt);
  passed = λ u is lt. let behind = behind_passed p lines clock next key at stands n due u is lt in omega (arith, behind);
}

-- ---- a sweep's line

pub sweep-lawful : (p : Params) (lines : List Line) (clock next seen : ℕ) → InRange p → Stands p lines clock → IsNextSweep p lines clock next → NothingDue p lines next → present_count p lines ≤ seen → IsLawful p (lines ++ sweep_line next seen ∷ []) next
sweep-lawful p lines clock next seen r stands n none enough =
    let far = up_to p lines clock next stands n in
    on_by_sweep p lines far.from next seen r far.stands n.moment none n.before enough far.none

pub next-sweep : (p : Params) (lines : List Line) (clock next seen : ℕ) → InRange p → Stands p lines clock → IsNextSweep p lines clock next → NothingDue p lines next → present_count p lines ≤ seen → IsNextSweep p (lines ++ sweep_line next seen ∷ []) next (next + p.gc_interval)
next-sweep p lines clock next seen r stands n none enough =
    let some = r.gc_interval.0 in
    let later : next < next + p.gc_interval = omega (arith, some) in
    record {
      moment = moment_after p next n.moment;
      before = before_one_more (next + p.gc_interval) lines (sweep_line next seen) (before_later next (next + p.gc_interval) lines later n.before) (before_early (next + p.gc_interval) (sweep_line next seen) later);
      swept = λ u is lt. (sweep-lawful p lines clock next seen r stands n none enough).sweeps u is (none_between p next r n.moment u is lt);
      passed = none_between p next r n.moment;
    }

-- ---- by time alone

-- the journal is lawful at a moment before the next sweep, where nothing is due any more
pub lawful_at : (p : Params) (lines : List Line) (clock next to : ℕ) → InRange p → Stands p lines clock → IsNextSweep p lines clock next → to < next → last_moment lines ≤ to → NothingDue p lines to → IsLawful p lines to
lawful_at p lines clock next to r stands n lt within none =
    let far = up_to p lines clock next stands n in
    on_in_time p lines far.from to r far.stands within none (λ u is ge early. far.none u is ge (omega (arith, early, lt)))

-- where it is lawful at a moment, the next sweep stands behind that
pub lawful-ahead : (p : Params) (lines : List Line) (clock next to : ℕ) → IsNextSweep p lines clock next → IsLawful p lines to → to < next
lawful-ahead p lines clock next to n lawful = ⊎_elim (λ (lt : to < next). lt) (λ (le : next ≤ to). absurd (not_there next lines n.before (lawful.sweeps next n.moment le))) (cases_lt to next)

-- the clock isn't behind the next sweep
pub clock-ahead : (p : Params) (lines : List Line) (clock next : ℕ) → Stands p lines clock → IsNextSweep p lines clock next → clock ≤ next
clock-ahead p lines clock next (Lawful lawful) n = let lt = lawful-ahead p lines clock next clock n lawful in omega (arith, lt)
clock-ahead p lines clock next (BrokenOff broken) n = ⊎_elim (λ (lt : next < clock). absurd (not_there next lines n.before (broken.sweeps next n.moment lt))) (λ (le : clock ≤ next). le) (cases_lt next clock)

-- and the clock may be set to it
pub next-later : (p : Params) (lines : List Line) (clock later next : ℕ) → clock ≤ later → IsNextSweep p lines clock next → IsNextSweep p lines later next
next-later p lines clock later next le n = record {
  moment = n.moment;
  before = n.before;
  swept = n.swept;
  passed = λ u is lt. let early = n.passed u is lt in omega (arith, early, le);
}
