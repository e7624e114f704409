-- What may stand behind a history, line by line: the working form of the lawful journal, and that the two agree.
use Rattle.std.proofs.Common.{◌≡◌, ⊎_elim, ℕ, ◌+◌, ◌<◌, ◌≤◌, Bool, true, false, is_some, if◌then◌else◌, List, [], ◌∷◌, ◌++◌, Some, refl, sym, ◌∙◌, ap, subst, arith, append_assoc, append-nil}
use Rattle.std.specs.Prelude.{filter}
use Rattle.std.proofs.lemmas.Bool.{cases_lt, false≢true}
use Rattle.std.proofs.lemmas.Bool.Decides.{nat_tests}
use Rattle.std.proofs.lemmas.List.Elements.{filter-append}
use Rattle.nb_base.specs.declared.key.Key.{Key}
use Rattle.nb_base.specs.declared.params.Params.{Params}
use Rattle.nb_base.specs.declared.op.Op.{Op}
use Rattle.nb_base.specs.declared.op.Op.TheVariants as op
use Rattle.nb_base.specs.declared.line.Line.{Line}
use Rattle.nb_base.specs.Params.{InRange}
use Rattle.nb_journal.specs.Keys.{is_own, is_timer}
use Rattle.nb_journal.specs.Fold.{seen_of}
use Rattle.nb_journal.specs.Lawful.{each_line, EachLine, last_moment, due_of, IsTimersTurn, PassesNoDue, IsSweepMoment, is_before_sweep, before_sweep, sweep_line, HasSweep, HasSeen, IsSweepInPlace, HasNoOtherSweep, is_collect, base_of, HasItsPass, full_of, IsOrderly, IsLawful, EndsAtTimer, IsBrokenOff}
use Rattle.nb_journal.proofs.Lines.{split_last, each-last, each-at, each-of, each-map, each-behind, last_moment-snoc, base_of-other}
use Rattle.nb_journal.proofs.Dues.{DuesFrom, nothing_due-from, dues_from-nothing_due, nothing_overdue-from, dues_from-nothing_overdue, dues_from-less, dues_from-snoc}

-- a sweep's line is in its place
abbrev pub FitsSweep : Params → List Line → Line → Op → Type 0
FitsSweep p past l op.Sweep = IsSweepMoment p l.at × (l ≡ sweep_line l.at (seen_of l)) × (past ≡ before_sweep l.at past)
FitsSweep p past l _ = Unit {0}

-- the line may stand behind the past
pub record Fits (p : Params) (past : List Line) (line : Line) : Type 0 where
  pub moment : last_moment past ≤ line.at
  pub id : is_some line.id ≡ is_own line.op
  pub timer : IsTimersTurn p past line.at line.op
  pub due : PassesNoDue p past line.at line.op
  pub sweep : FitsSweep p past line line.op
  pub seen : HasSeen p (base_of past) line
  pub pass : HasItsPass p past line line.op
  pub full : line.full ≡ full_of p past line

-- each line may stand behind those before it, the last one isn't behind the clock, the dues lie at a moment or behind it, and the sweeps below another are there
pub record Runs (p : Params) (journal : List Line) (clock from next : ℕ) : Type 0 where
  pub within : last_moment journal ≤ clock
  pub each : EachLine (Fits p) journal
  pub dues : DuesFrom p journal from
  pub sweeps : (u : ℕ) → IsSweepMoment p u → u < next → HasSweep u journal

-- ---- dues

-- a line's moment and timers are in order
abbrev pub IsTimely : Params → List Line → Line → Type 0
IsTimely p past l = (last_moment past ≤ l.at) × IsTimersTurn p past l.at l.op × PassesNoDue p past l.at l.op

pub timely : (p : Params) (past : List Line) (l : Line) → Fits p past l → IsTimely p past l
timely p past l f = (f.moment, f.timer, f.due)

pub dues_at : (p : Params) (past : List Line) (at : ℕ) (o : Op) → IsTimersTurn p past at o → PassesNoDue p past at o → DuesFrom p past at
dues_at p past at (op.Timer key) t n = dues_from-nothing_overdue p past at t.least
dues_at p past at _ t n = dues_from-less p past at (at + 1) (omega arith) (dues_from-nothing_due p past at n)

pub dues_behind : (p : Params) (past : List Line) (at : ℕ) (o : Op) → is_timer o ≡ false → PassesNoDue p past at o → DuesFrom p past (at + 1)
dues_behind p past at (op.Timer key) e n = cc
dues_behind p past at _ e n = dues_from-nothing_due p past at n

timer_at : (p : Params) (past : List Line) (at : ℕ) (o : Op) → is_timer o ≡ true → IsTimersTurn p past at o → (key : Key) × (due_of p past key ≡ Some at)
timer_at p past at (op.Timer key) e t = (key, t.due)
timer_at p past at _ e t = cc

-- ---- the lines before a sweep

pub before_late : (u : ℕ) (l : Line) → u < l.at → is_before_sweep u l ≡ false
before_late u l h = grind (arith, nat_tests)

pub before_other : (u : ℕ) (l : Line) → u ≤ l.at → is_timer l.op ≡ false → is_before_sweep u l ≡ false
before_other u l h t = grind (arith, nat_tests)

pub before_early : (u : ℕ) (l : Line) → l.at < u → is_before_sweep u l ≡ true
before_early u l h = grind (arith, nat_tests)

pub before_timer : (u : ℕ) (l : Line) → l.at ≤ u → is_timer l.op ≡ true → is_before_sweep u l ≡ true
before_timer u l h t = grind (arith, nat_tests)

not_before : (u : ℕ) (l : Line) → is_before_sweep u l ≡ false → u ≤ l.at
not_before u l e = ⊎_elim (λ (lt : l.at < u). absurd (false≢true (sym e ∙ before_early u l lt))) (λ (le : u ≤ l.at). le) (cases_lt l.at u)

not_before_timer : (u : ℕ) (l : Line) → is_before_sweep u l ≡ false → is_timer l.op ≡ true → u < l.at
not_before_timer u l e t = ⊎_elim (λ (lt : u < l.at). lt) (λ (le : l.at ≤ u). absurd (false≢true (sym e ∙ before_timer u l le t))) (cases_lt u l.at)

-- a sweep's moment is over: no further line stands before it
abbrev pub IsOver : Params → List Line → ℕ → Type 0
IsOver p past u = (u ≤ last_moment past) × DuesFrom p past (u + 1)

pub over-next : (p : Params) (past : List Line) (l : Line) (u : ℕ) → InRange p → IsOver p past u → IsTimely p past l → (is_before_sweep u l ≡ false) × IsOver p (past ++ l ∷ []) u
over-next p past l u r over t =
    let moment = over.0 in
    let later = t.0 in
    (by_timer (is_timer l.op) refl, (rw (last_moment-snoc past l) (omega (arith, moment, later)), dues_from-snoc p past l (u + 1) r (omega (arith, moment, later)) over.1)) where
      by_timer : (b : Bool) → is_timer l.op ≡ b → is_before_sweep u l ≡ false
      by_timer true e =
          let due = timer_at p past l.at l.op e t.1 in
          let behind = over.1 due.0 l.at due.1 in
          before_late u l (omega (arith, behind))
      by_timer false e = let a = over.0 in let b = t.0 in before_other u l (omega (arith, a, b)) e

pub over-first : (p : Params) (past : List Line) (l : Line) (u : ℕ) → InRange p → IsTimely p past l → is_before_sweep u l ≡ false → IsOver p (past ++ l ∷ []) u
over-first p past l u r t off =
    let le = not_before u l off in
    (rw (last_moment-snoc past l) le, dues_from-snoc p past l (u + 1) r (omega (arith, le)) (by_timer (is_timer l.op) refl)) where
      by_timer : (b : Bool) → is_timer l.op ≡ b → DuesFrom p past (u + 1)
      by_timer true e = let lt = not_before_timer u l off e in dues_from-less p past (u + 1) l.at (omega (arith, lt)) (dues_at p past l.at l.op t.1 t.2)
      by_timer false e = let le = not_before u l off in dues_from-less p past (u + 1) (l.at + 1) (omega (arith, le)) (dues_behind p past l.at l.op e t.2)

-- the sweep's moment stays over
pub over-through : (p : Params) (past lines : List Line) (u : ℕ) → InRange p → each_line (IsTimely p) past lines → IsOver p past u → IsOver p (past ++ lines) u
over-through p past [] u r all over = subst (λ (xs : List Line). IsOver p xs u) (sym (append-nil past)) over
over-through p past (x ∷ xs) u r all over =
    subst (λ (ys : List Line). IsOver p ys u) (append_assoc past (x ∷ []) xs)
    (over-through p (past ++ x ∷ []) xs u r all.1 (over-next p past x u r over all.0).1)

-- where it is over, none of the further lines stands before it
pub over-none : (p : Params) (past lines : List Line) (u : ℕ) → InRange p → each_line (IsTimely p) past lines → IsOver p past u → before_sweep u lines ≡ []
over-none p past [] u r all over = refl
over-none p past (x ∷ xs) u r all over =
    let next = over-next p past x u r over all.0 in
    rw next.0 (over-none p (past ++ x ∷ []) xs u r all.1 next.1)

front_from : (p : Params) (past lines : List Line) (u : ℕ) → InRange p → each_line (IsTimely p) past lines → (rest : List Line) × (lines ≡ before_sweep u lines ++ rest)
front_from p past [] u r all = ([], refl)
front_from p past (x ∷ xs) u r all = by_test (is_before_sweep u x) refl (front_from p (past ++ x ∷ []) xs u r all.1) where
  by_test : (b : Bool) → is_before_sweep u x ≡ b → ((rest : List Line) × (xs ≡ before_sweep u xs ++ rest)) → (rest : List Line) × (x ∷ xs ≡ before_sweep u (x ∷ xs) ++ rest)
  by_test true e more = (more.0, rw e (ap (λ (ys : List Line). x ∷ ys) more.1))
  by_test false e more = (x ∷ xs, rw (e, over-none p (past ++ x ∷ []) xs u r all.1 (over-first p past x u r all.0 e)) refl)

-- the lines before a sweep's moment and the timers at it are the first lines
pub before_sweep-front : (p : Params) (journal : List Line) (u : ℕ) → InRange p → EachLine (IsTimely p) journal → (rest : List Line) × (journal ≡ before_sweep u journal ++ rest)
before_sweep-front p journal u r all = front_from p [] journal u r all

pub before-off : (u : ℕ) (lines : List Line) (l : Line) → is_before_sweep u l ≡ false → before_sweep u (lines ++ l ∷ []) ≡ before_sweep u lines
before-off u lines l h = filter-append (is_before_sweep u) lines (l ∷ []) ∙ rw h (append-nil (before_sweep u lines))

pub before-on : (u : ℕ) (lines : List Line) (l : Line) → is_before_sweep u l ≡ true → before_sweep u (lines ++ l ∷ []) ≡ before_sweep u lines ++ l ∷ []
before-on u lines l h = filter-append (is_before_sweep u) lines (l ∷ []) ∙ ap (λ (b : Bool). before_sweep u lines ++ (if b then l ∷ [] else [])) h

filter-twice : (test : Line → Bool) (xs : List Line) → filter test (filter test xs) ≡ filter test xs
filter-twice test [] = refl
filter-twice test (x ∷ xs) = by_test (test x) refl (filter-twice test xs) where
  by_test : (b : Bool) → test x ≡ b → filter test (filter test xs) ≡ filter test xs → filter test (filter test (x ∷ xs)) ≡ filter test (x ∷ xs)
  by_test true e rest = rw (e, e) (ap (λ (ys : List Line). x ∷ ys) rest)
  by_test false e rest = rw e rest

-- ---- the two forms agree

sweep_fits : (p : Params) (past : List Line) (l : Line) → l.op ≡ op.Sweep → FitsSweep p past l l.op → FitsSweep p past l op.Sweep
sweep_fits p past l e h = subst (FitsSweep p past l) e h

sweep_timer : (o : Op) → o ≡ op.Sweep → is_timer o ≡ false
sweep_timer o e = ap is_timer e

place_of : (p : Params) (journal past rest : List Line) (l : Line) → InRange p → EachLine (Fits p) journal → journal ≡ past ++ l ∷ rest → l.op ≡ op.Sweep → past ≡ before_sweep l.at past → past ≡ before_sweep l.at journal
place_of p journal past rest l r all e sweep before =
    let here = each-at (Fits p) past rest l (subst (EachLine (Fits p)) e all) in
    let off = before_other l.at l (omega arith) (sweep_timer l.op sweep) in
    let behind = each-behind (IsTimely p) (past ++ l ∷ []) rest (each-map (Fits p) (IsTimely p) ((past ++ l ∷ []) ++ rest) (timely p) (subst (EachLine (Fits p)) (e ∙ sym (append_assoc past (l ∷ []) rest)) all)) in
    let none = over-none p (past ++ l ∷ []) rest l.at r behind (over-first p past l l.at r (timely p past l here) off) in
    before ∙ sym (append-nil (before_sweep l.at past)) ∙ ap (λ (xs : List Line). before_sweep l.at past ++ xs) (sym (both l.at l rest off none))
    ∙ sym (filter-append (is_before_sweep l.at) past (l ∷ rest)) ∙ ap (before_sweep l.at) (sym e) where
      both : (u : ℕ) (x : Line) (xs : List Line) → is_before_sweep u x ≡ false → before_sweep u xs ≡ [] → before_sweep u (x ∷ xs) ≡ []
      both u x xs a b = rw a b

fits-no_other_sweep : (p : Params) (journal : List Line) → InRange p → EachLine (Fits p) journal → HasNoOtherSweep p journal
fits-no_other_sweep p journal r all past rest l e sweep =
    let s = sweep_fits p past l sweep (each-at (Fits p) past rest l (subst (EachLine (Fits p)) e all)).sweep in
    record { moment = s.0; line_is = s.1; behind = place_of p journal past rest l r all e sweep s.2 }

pub fits-orderly : (p : Params) (journal : List Line) → InRange p → EachLine (Fits p) journal → base_of journal ≡ journal → IsOrderly p journal
fits-orderly p journal r all only = record {
  moments = each-map (Fits p) (λ past line. last_moment past ≤ line.at) journal (λ past l f. f.moment) all;
  ids = each-map (Fits p) (λ past line. is_some line.id ≡ is_own line.op) journal (λ past l f. f.id) all;
  timers = each-map (Fits p) (λ past line. IsTimersTurn p past line.at line.op) journal (λ past l f. f.timer) all;
  dues = each-map (Fits p) (λ past line. PassesNoDue p past line.at line.op) journal (λ past l f. f.due) all;
  sweeps_only = fits-no_other_sweep p journal r all;
  seen = each-map (Fits p) (λ past line. HasSeen p (base_of past) line) journal (λ past l f. f.seen) all;
  passes = each-map (Fits p) (λ past line. HasItsPass p past line line.op) journal (λ past l f. f.pass) all;
  passes_only = only;
  full = each-map (Fits p) (λ past line. line.full ≡ full_of p past line) journal (λ past l f. f.full) all;
}

pub runs-lawful : (p : Params) (journal : List Line) (clock : ℕ) → InRange p → Runs p journal clock (clock + 1) (clock + 1) → base_of journal ≡ journal → IsLawful p journal clock
runs-lawful p journal clock r runs only = record {
  orderly = fits-orderly p journal r runs.each only;
  within = runs.within;
  none_left = nothing_due-from p journal clock runs.dues;
  sweeps = λ u is le. runs.sweeps u is (omega (arith, le));
}

moments_rise : (past lines : List Line) → each_line (λ past line. last_moment past ≤ line.at) past lines → last_moment past ≤ last_moment (past ++ lines)
moments_rise past [] all = rw (append-nil past) (omega arith)
moments_rise past (x ∷ xs) all =
    let rest = subst (λ (ys : List Line). last_moment (past ++ x ∷ []) ≤ last_moment ys) (append_assoc past (x ∷ []) xs) (moments_rise (past ++ x ∷ []) xs all.1) in
    let at = last_moment-snoc past x in
    let first = all.0 in
    omega (arith, rest, at, first)

-- no line lies behind the last one
pub moment-within : (journal past rest : List Line) (l : Line) → EachLine (λ past line. last_moment past ≤ line.at) journal → journal ≡ past ++ l ∷ rest → l.at ≤ last_moment journal
moment-within journal past rest l all e =
    let split = e ∙ sym (append_assoc past (l ∷ []) rest) in
    let le = moments_rise (past ++ l ∷ []) rest (each-behind (λ past line. last_moment past ≤ line.at) (past ++ l ∷ []) rest (subst (EachLine (λ past line. last_moment past ≤ line.at)) split all)) in
    let at = last_moment-snoc past l in
    let same = ap last_moment split in
    omega (arith, le, at, same)

has_sweep_in_place : (p : Params) (journal past rest : List Line) (l : Line) → journal ≡ past ++ l ∷ rest → IsSweepInPlace p journal past l → HasSweep l.at journal
has_sweep_in_place p journal past rest l e place =
    (seen_of l, rest, e ∙ ap (λ (xs : List Line). xs ++ l ∷ rest) place.behind ∙ ap (λ (x : Line). before_sweep l.at journal ++ x ∷ rest) place.line_is)

pub orderly-fits : (p : Params) (journal : List Line) → IsOrderly p journal → EachLine (Fits p) journal
orderly-fits p journal o = each-of (Fits p) journal
    (λ past rest l e. record {
      moment = each-at (λ past line. last_moment past ≤ line.at) past rest l (subst (EachLine (λ past line. last_moment past ≤ line.at)) e o.moments);
      id = each-at (λ past line. is_some line.id ≡ is_own line.op) past rest l (subst (EachLine (λ past line. is_some line.id ≡ is_own line.op)) e o.ids);
      timer = each-at (λ past line. IsTimersTurn p past line.at line.op) past rest l (subst (EachLine (λ past line. IsTimersTurn p past line.at line.op)) e o.timers);
      due = each-at (λ past line. PassesNoDue p past line.at line.op) past rest l (subst (EachLine (λ past line. PassesNoDue p past line.at line.op)) e o.dues);
      sweep = by_op past rest l e l.op refl;
      seen = each-at (λ past line. HasSeen p (base_of past) line) past rest l (subst (EachLine (λ past line. HasSeen p (base_of past) line)) e o.seen);
      pass = each-at (λ past line. HasItsPass p past line line.op) past rest l (subst (EachLine (λ past line. HasItsPass p past line line.op)) e o.passes);
      full = each-at (λ past line. line.full ≡ full_of p past line) past rest l (subst (EachLine (λ past line. line.full ≡ full_of p past line)) e o.full);
    }) where
      sweep_at : (past rest : List Line) (l : Line) → journal ≡ past ++ l ∷ rest → l.op ≡ op.Sweep → FitsSweep p past l op.Sweep
      sweep_at past rest l e s =
          let place = o.sweeps_only past rest l e s in (
            place.moment,
            place.line_is,
            place.behind ∙ sym (filter-twice (is_before_sweep l.at) journal) ∙ ap (before_sweep l.at) (sym place.behind),
          )

      by_op : (past rest : List Line) (l : Line) → journal ≡ past ++ l ∷ rest → (x : Op) → l.op ≡ x → FitsSweep p past l x
      by_op past rest l e op.Sweep s = sweep_at past rest l e s
      by_op past rest l e _ s = tt

pub lawful-runs : (p : Params) (journal : List Line) (clock : ℕ) → IsLawful p journal clock → Runs p journal clock (clock + 1) (clock + 1)
lawful-runs p journal clock lawful = let within = lawful.within in record {
  within = within;
  each = orderly-fits p journal lawful.orderly;
  dues = dues_from-nothing_due p journal clock lawful.none_left;
  sweeps = λ u is lt. lawful.sweeps u is (omega (arith, lt));
}

pub broken_off-runs : (p : Params) (journal : List Line) (clock : ℕ) → IsBrokenOff p journal clock → Runs p journal clock clock clock
broken_off-runs p journal clock broken = let within = broken.within in record {
  within = within;
  each = orderly-fits p journal broken.orderly;
  dues = dues_from-nothing_overdue p journal clock broken.none_overdue;
  sweeps = λ u is lt. broken.sweeps u is lt;
}

timer_collect : (o : Op) → is_timer o ≡ true → is_collect o ≡ false
timer_collect (op.Timer key) e = refl
timer_collect _ e = cc

-- behind a sweep stands no timer of its moment
no_timer_behind : (p : Params) (past more : List Line) (l : Line) (u seen : ℕ) → InRange p → EachLine (Fits p) ((past ++ sweep_line u seen ∷ more) ++ l ∷ []) → is_timer l.op ≡ true → l.at ≡ u → ⊥
no_timer_behind p past more l u seen r all t at =
    let parts = each-last (Fits p) (past ++ sweep_line u seen ∷ more) l all in
    let here = each-at (Fits p) past more (sweep_line u seen) parts.0 in
    let split = sym (append_assoc past (sweep_line u seen ∷ []) more) in
    let behind = each-behind (IsTimely p) (past ++ sweep_line u seen ∷ []) more (each-map (Fits p) (IsTimely p) ((past ++ sweep_line u seen ∷ []) ++ more) (timely p) (subst (EachLine (Fits p)) split parts.0)) in
    let over = over-through p (past ++ sweep_line u seen ∷ []) more u r behind (over-first p past (sweep_line u seen) u r (timely p past (sweep_line u seen) here) (before_other u (sweep_line u seen) (omega arith) refl)) in
    let off = (over-next p (past ++ sweep_line u seen ∷ more) l u r (subst (λ (xs : List Line). IsOver p xs u) (sym split) over) (timely p (past ++ sweep_line u seen ∷ more) l parts.1)).0 in
    false≢true (sym off ∙ before_timer u l (omega (arith, at)) t)

pub runs-broken_off : (p : Params) (journal : List Line) (clock : ℕ) → InRange p → EndsAtTimer journal clock → Runs p journal clock clock clock → IsBrokenOff p journal clock
runs-broken_off p journal clock r ends runs = record {
  orderly = fits-orderly p journal r runs.each (subst (λ (xs : List Line). base_of xs ≡ xs) (sym ends.2) (base_of-other ends.0 ends.1 (timer_collect ends.1.op ends.3)));
  within = runs.within;
  ends = ends;
  none_overdue = nothing_overdue-from p journal clock runs.dues;
  sweeps = λ u is lt. runs.sweeps u is lt;
  no_sweep_yet = λ has. ⊎_elim
      (λ (a : (ends.0 ≡ before_sweep clock journal) × (ends.1 ≡ sweep_line clock has.0)). false≢true (sym (ap (λ (x : Line). is_timer x.op) a.1) ∙ ends.3))
      (λ (b : (more : List Line) × (ends.0 ≡ before_sweep clock journal ++ sweep_line clock has.0 ∷ more)).
      no_timer_behind p (before_sweep clock journal) b.0 ends.1 clock has.0 r (subst (λ (xs : List Line). EachLine (Fits p) (xs ++ ends.1 ∷ [])) b.1 (subst (EachLine (Fits p)) ends.2 runs.each)) ends.3 ends.4)
      (split_last ends.0 (before_sweep clock journal) has.1 ends.1 (sweep_line clock has.0) (sym ends.2 ∙ has.2));
}
