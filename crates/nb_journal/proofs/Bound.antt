-- The line bound: what a journal's lines are paid by.
use Rattle.std.proofs.Common.{◌≡◌, ⊎_elim, ℕ, suc, ◌+◌, ◌*◌, ◌<◌, ◌≤◌, Bool, true, false, if◌then◌else◌, List, [], ◌∷◌, ◌++◌, length, refl, sym, ◌∙◌, ap, subst, arith, append_assoc, append-nil}
use Rattle.std.specs.Prelude.{map, filter}
use Rattle.std.proofs.lemmas.Bool.{cond_both, cases_lt, false≢true}
use Rattle.std.proofs.lemmas.List.{length-append, length-map}
use Rattle.std.proofs.lemmas.List.Elements.{filter-append}
use Rattle.std.proofs.lemmas.Nat.{le-div}
use Rattle.std.proofs.Math.Nat.{mul-le-mul_right, zero-mul, suc-mul}
use Rattle.nb_base.specs.declared.key.Key.{Key}
use Rattle.nb_base.specs.declared.params.Params.{Params}
use Rattle.nb_base.specs.declared.op.Op.{Op}
use Rattle.nb_base.specs.declared.op.Op.TheVariants as op
use Rattle.nb_base.specs.declared.line.Line.{Line}
use Rattle.nb_base.specs.Params.{InRange}
use Rattle.nb_journal.specs.Keys.{has_key, is_own, is_timer, is_sweep, key_of}
use Rattle.nb_journal.specs.Fold.{is_present, seen_of, state_of, known_keys}
use Rattle.nb_journal.specs.Lawful.{each_line, EachLine, last_moment, IsTimersTurn, is_before_sweep, before_sweep, is_collect, base_of, making_order, is_collectable, has_pass, taken_by_pass, collect_line, collects, HasItsPass}
use Rattle.nb_journal.specs.Accounts.{own_lines, line_bound}
use Rattle.nb_journal.specs.Laws.{LawfulInBound, BrokenOffInBound}
use Rattle.nb_journal.proofs.Lines.{by_last, each-last, last_moment-snoc, base_of-collect, base_of-other}
use Rattle.nb_journal.proofs.Folds.{filter_within}
use Rattle.nb_journal.proofs.Fits.{Fits, FitsSweep, before_other, lawful-runs, broken_off-runs}
use Rattle.nb_journal.proofs.Appends.{sweep_moment-above}
use Rattle.nb_journal.proofs.Passes.{own-full}
use Rattle.nb_journal.proofs.Totals.{total-free, total-line, total-timer, total-collects}
use Rattle.nb_journal.proofs.Counts.{AreDistinct}
use Rattle.nb_journal.proofs.Orders.{order-is, collected-within, collected-distinct}
use Rattle.nb_journal.proofs.Sums.{total_potential}

abbrev sweep_lines : List Line → List Line
sweep_lines journal = filter (λ line. is_sweep line.op) journal

-- what one operation pays for
abbrev share : Params → ℕ
share p = p.mcast_solicit + p.ucast_solicit + 10

-- ---- counts of lines

count-snoc : (test : Line → Bool) (lines : List Line) (l : Line) → length (filter test (lines ++ l ∷ [])) ≡ length (filter test lines) + (if test l then 1 else 0)
count-snoc test lines l =
    ap length (filter-append test lines (l ∷ [])) ∙ length-append (filter test lines) (filter test (l ∷ [])) ∙ ap (λ (n : ℕ). length (filter test lines) + n) (one (test l) refl) where
      one : (t : Bool) → test l ≡ t → length (if t then l ∷ [] else []) ≡ (if t then 1 else 0)
      one true e = refl
      one false e = refl

count-on : (test : Line → Bool) (lines : List Line) (l : Line) → test l ≡ true → length (filter test (lines ++ l ∷ [])) ≡ length (filter test lines) + 1
count-on test lines l e = count-snoc test lines l ∙ ap (λ (t : Bool). length (filter test lines) + (if t then 1 else 0)) e

count-off : (test : Line → Bool) (lines : List Line) (l : Line) → test l ≡ false → length (filter test (lines ++ l ∷ [])) ≡ length (filter test lines)
count-off test lines l e = let c = count-snoc test lines l ∙ ap (λ (t : Bool). length (filter test lines) + (if t then 1 else 0)) e in omega (arith, c)

collects_off : (test : Line → Bool) (lines : List Line) (at : ℕ) (keys : List Key) → ((key : Key) → test (collect_line at key) ≡ false) → length (filter test (lines ++ map (collect_line at) keys)) ≡ length (filter test lines)
collects_off test lines at [] h = ap (λ (xs : List Line). length (filter test xs)) (append-nil lines)
collects_off test lines at (key ∷ keys) h =
    ap (λ (xs : List Line). length (filter test xs)) (sym (append_assoc lines (collect_line at key ∷ []) (map (collect_line at) keys)))
    ∙ collects_off test (lines ++ collect_line at key ∷ []) at keys h
    ∙ count-off test lines (collect_line at key) (h key)

-- ---- each line is paid

-- lines and potentials are paid by operations and sweeps
abbrev IsPaid : Params → List Line → Type 0
IsPaid p lines = length lines + total_potential p lines ≤ length (own_lines lines) * share p + length (sweep_lines lines)

-- a line that is counted by nothing and lowers the sum
paid-timer : (p : Params) (lines : List Line) (l : Line) (key : Key) → InRange p → l.op ≡ op.Timer key → Fits p lines l → IsPaid p lines → IsPaid p (lines ++ l ∷ [])
paid-timer p lines l key r e fits paid =
    let full = fits.full ∙ own-full p lines l (ap is_own e) in
    let next = subst (IsTimersTurn p lines l.at) e fits.timer in
    let lower = total-timer p lines l key r e full next.due in
    let own = count-off (λ line. is_own line.op) lines l (ap is_own e) in
    let same = ap (λ (n : ℕ). n * share p) own in
    let swept = count-off (λ line. is_sweep line.op) lines l (ap is_sweep e) in
    let long = length-append lines (l ∷ []) in
    omega (arith, paid, lower, same, swept, long)

paid-sweep : (p : Params) (lines : List Line) (l : Line) → l.op ≡ op.Sweep → IsPaid p lines → IsPaid p (lines ++ l ∷ [])
paid-sweep p lines l e paid =
    let less = total-free p lines l (ap key_of e) in
    let own = count-off (λ line. is_own line.op) lines l (ap is_own e) in
    let same = ap (λ (n : ℕ). n * share p) own in
    let swept = count-on (λ line. is_sweep line.op) lines l (ap is_sweep e) in
    let long = length-append lines (l ∷ []) in
    omega (arith, paid, less, same, swept, long)

own_sweep_off : (o : Op) → is_own o ≡ true → is_sweep o ≡ false
own_sweep_off op.Sweep e = cc
own_sweep_off _ e = refl

one_share : (n m s : ℕ) → n ≡ m + 1 → n * s ≡ m * s + s
one_share n m s e = let next : n ≡ suc m = omega (arith, e) in ap (λ (k : ℕ). k * s) next ∙ suc-mul m s

paid-own : (p : Params) (lines : List Line) (l : Line) → is_own l.op ≡ true → IsPaid p lines → IsPaid p (lines ++ l ∷ [])
paid-own p lines l e paid =
    let rise = total-line p lines l in
    let own = one_share (length (own_lines (lines ++ l ∷ []))) (length (own_lines lines)) (share p) (count-on (λ line. is_own line.op) lines l e) in
    let swept = count-off (λ line. is_sweep line.op) lines l (own_sweep_off l.op e) in
    let long = length-append lines (l ∷ []) in
    omega (arith, paid, rise, own, swept, long)

-- the collects before a line are of different present entries
paid-keys : (p : Params) (base : List Line) (at : ℕ) (keys : List Key) → AreDistinct keys → ((key : Key) → has_key keys key ≡ true → is_present p base key ≡ true) → IsPaid p base → IsPaid p (base ++ map (collect_line at) keys)
paid-keys p base at keys distinct present paid =
    let lower = total-collects p base at keys distinct present in
    let own = collects_off (λ line. is_own line.op) base at keys (λ key. refl) in
    let same = ap (λ (n : ℕ). n * share p) own in
    let swept = collects_off (λ line. is_sweep line.op) base at keys (λ key. refl) in
    let long = length-append base (map (collect_line at) keys) ∙ ap (λ (n : ℕ). length base + n) (length-map keys (collect_line at)) in
    omega (arith, paid, lower, same, swept, long)

paid-collects : (p : Params) (base : List Line) (l : Line) → IsPaid p base → IsPaid p (base ++ collects p base l)
paid-collects p base l paid =
    cond_both (has_pass p base l) (taken_by_pass p base l) [] (λ (keys : List Key). IsPaid p (base ++ map (collect_line l.at) keys)) (λ e. taken) (λ e. none) where
      none : IsPaid p (base ++ [])
      none = subst (IsPaid p) (sym (append-nil base)) paid

      taken : IsPaid p (base ++ map (collect_line l.at) (taken_by_pass p base l))
      taken =
          let order = order-is p base in
          let takes = λ (key : Key). is_collectable l.at (state_of p base key) in
          paid-keys p base l.at (taken_by_pass p base l)
          (collected-distinct p.gc_thresh2 (seen_of l) takes (making_order p base) order.distinct)
          (λ key there. order.present key (collected-within p.gc_thresh2 (seen_of l) takes (making_order p base) key there)) paid

own_pass : (p : Params) (past : List Line) (l : Line) (o : Op) → is_own o ≡ true → HasItsPass p past l o → past ≡ base_of past ++ collects p (base_of past) l
own_pass p past l (op.Timer key) e h = cc
own_pass p past l op.Sweep e h = cc
own_pass p past l (op.Collect key) e h = cc
own_pass p past l _ e h = h

paid-line : (p : Params) (lines : List Line) (l : Line) (o : Op) → InRange p → l.op ≡ o → Fits p lines l → IsPaid p (base_of lines) → IsPaid p (base_of (lines ++ l ∷ []))
paid-line p lines l (op.Collect key) r e fits paid = subst (IsPaid p) (sym (base_of-collect lines l (ap is_collect e))) paid
paid-line p lines l (op.Timer key) r e fits paid =
    subst (IsPaid p) (sym (base_of-other lines l (ap is_collect e))) (paid-timer p lines l key r e fits (subst (IsPaid p) (subst (HasItsPass p lines l) e fits.pass) paid))
paid-line p lines l op.Sweep r e fits paid =
    subst (IsPaid p) (sym (base_of-other lines l (ap is_collect e))) (paid-sweep p lines l e (subst (IsPaid p) (subst (HasItsPass p lines l) e fits.pass) paid))
paid-line p lines l o r e fits paid =
    subst (IsPaid p) (sym (base_of-other lines l (ap is_collect e)))
    (paid-own p lines l (ap is_own e) (subst (IsPaid p) (sym (own_pass p lines l l.op (ap is_own e) fits.pass)) (paid-collects p (base_of lines) l paid)))

no_potential : (p : Params) → total_potential p [] ≡ 0
unfolding total_potential known_keys
no_potential p = refl

each_paid : (p : Params) (lines : List Line) → InRange p → EachLine (Fits p) lines → IsPaid p (base_of lines)
each_paid p lines r = by_last (λ (xs : List Line). EachLine (Fits p) xs → IsPaid p (base_of xs)) (λ all. let none = no_potential p in omega (arith, none))
    (λ xs x h all. let parts = each-last (Fits p) xs x all in paid-line p xs x x.op r refl parts.1 (h parts.0)) lines

-- ---- sweeps are at least an interval apart

abbrev AllBefore : ℕ → List Line → Type 0
AllBefore u lines = EachLine (λ past line. is_before_sweep u line ≡ true) lines

-- no more sweeps than intervals
record IsApart (p : Params) (lines : List Line) : Type 0 where
  intervals : ℕ
  enough : length (sweep_lines lines) ≤ intervals
  passed : intervals * p.gc_interval ≤ last_moment lines
  behind : (u : ℕ) → 0 < u → AllBefore u lines → intervals * p.gc_interval < u

apart-nil : (p : Params) → IsApart p []
apart-nil p = let none = zero-mul p.gc_interval in record {
  intervals = 0;
  enough = omega arith;
  passed = omega (arith, none);
  behind = λ u some all. omega (arith, none, some);
}

apart-other : (p : Params) (lines : List Line) (l : Line) → is_sweep l.op ≡ false → Fits p lines l → IsApart p lines → IsApart p (lines ++ l ∷ [])
apart-other p lines l e fits a =
    let same = count-off (λ line. is_sweep line.op) lines l e in
    let enough = a.enough in
    let passed = a.passed in
    let moment = fits.moment in
    let last = last_moment-snoc lines l in
    record {
      intervals = a.intervals;
      enough = omega (arith, same, enough);
      passed = omega (arith, passed, moment, last);
      behind = λ u some all. a.behind u some (each-last (λ past line. is_before_sweep u line ≡ true) lines l all).0;
    }

all_before : (u : ℕ) (first lines : List Line) → lines ≡ before_sweep u lines → each_line (λ past line. is_before_sweep u line ≡ true) first lines
all_before u first [] e = tt
all_before u first (x ∷ xs) e = by_test (is_before_sweep u x) refl e (all_before u (first ++ x ∷ []) xs) where
  too_long : (m n : ℕ) → n ≤ m → suc m ≡ n → ⊥
  too_long m n le e = omega (arith, le, e)

  by_test : (t : Bool) → is_before_sweep u x ≡ t → x ∷ xs ≡ (if t then x ∷ before_sweep u xs else before_sweep u xs)
      → (xs ≡ before_sweep u xs → each_line (λ past line. is_before_sweep u line ≡ true) (first ++ x ∷ []) xs)
      → (is_before_sweep u x ≡ true) × each_line (λ past line. is_before_sweep u line ≡ true) (first ++ x ∷ []) xs
  by_test true t g rest = let tail : xs ≡ before_sweep u xs = cc in (t, rest tail)
  by_test false t g rest = let less = filter_within (is_before_sweep u) xs in let same = ap length g in absurd (too_long (length xs) (length (before_sweep u xs)) less same)

apart-sweep : (p : Params) (lines : List Line) (l : Line) → InRange p → l.op ≡ op.Sweep → Fits p lines l → IsApart p lines → IsApart p (lines ++ l ∷ [])
apart-sweep p lines l r e fits a =
    let s = subst (FitsSweep p lines l) e fits.sweep in
    let positive = r.gc_interval.0 in
    let above = sweep_moment-above p l.at s.0 in
    let lt = a.behind l.at (omega (arith, positive, above)) (all_before l.at [] lines s.2) in
    let at = s.0.1 in
    let le = mul-le-mul_right {m = a.intervals + 1} {n = s.0.0 + 1} p.gc_interval (next_interval a.intervals s.0.0 l.at lt at) in
    let more = count-on (λ line. is_sweep line.op) lines l (ap is_sweep e) in
    let enough = a.enough in
    let last = last_moment-snoc lines l in
    record {
      intervals = a.intervals + 1;
      enough = omega (arith, more, enough);
      passed = omega (arith, le, at, last);
      behind = λ u some all. let later = before_is u (each-last (λ past line. is_before_sweep u line ≡ true) lines l all).1 in omega (arith, le, at, later);
    } where
      next_interval : (k n u : ℕ) → k * p.gc_interval < u → u ≡ (n + 1) * p.gc_interval → k + 1 ≤ n + 1
      next_interval k n u lt at = ⊎_elim
          (λ (less : k < n + 1). omega (arith, less))
          (λ (more : n + 1 ≤ k). let le = mul-le-mul_right {m = n + 1} {n = k} p.gc_interval more in absurd (no_less (omega (arith, le, at, lt))))
          (cases_lt k (n + 1)) where
            no_less : 1 ≤ 0 → ⊥
            no_less h = omega arith

      before_is : (u : ℕ) → is_before_sweep u l ≡ true → l.at < u
      before_is u on = ⊎_elim
          (λ (less : l.at < u). less)
          (λ (le : u ≤ l.at). absurd (false≢true (sym (before_other u l le (ap is_timer e)) ∙ on)))
          (cases_lt l.at u)

apart-line : (p : Params) (lines : List Line) (l : Line) (o : Op) → InRange p → l.op ≡ o → Fits p lines l → IsApart p lines → IsApart p (lines ++ l ∷ [])
apart-line p lines l op.Sweep r e fits a = apart-sweep p lines l r e fits a
apart-line p lines l _ r e fits a = apart-other p lines l (ap is_sweep e) fits a

each_apart : (p : Params) (lines : List Line) → InRange p → EachLine (Fits p) lines → IsApart p lines
each_apart p lines r = by_last (λ (xs : List Line). EachLine (Fits p) xs → IsApart p xs) (λ all. apart-nil p)
    (λ xs x h all. let parts = each-last (Fits p) xs x all in apart-line p xs x x.op r refl parts.1 (h parts.0)) lines

-- ---- the bound

pub each-in_bound : (p : Params) (lines : List Line) (moment operations : ℕ) → InRange p → EachLine (Fits p) lines → base_of lines ≡ lines → last_moment lines ≤ moment → length (own_lines lines) ≤ operations → length lines < line_bound p operations moment
each-in_bound p lines moment operations r all only within few =
    let paid = subst (IsPaid p) only (each_paid p lines r all) in
    let a = each_apart p lines r all in
    let passed = a.passed in
    let enough = a.enough in
    let positive = r.gc_interval.0 in
    let swept = le-div a.intervals moment p.gc_interval (omega (arith, positive)) (omega (arith, passed, within)) in
    let own = mul-le-mul_right {m = length (own_lines lines)} {n = operations} (share p) few in
    omega (arith, paid, enough, swept, own)

pub lawful_in_bound : LawfulInBound
lawful_in_bound p journal clock moment operations r lawful le few =
    let within = lawful.within in
    each-in_bound p journal moment operations r (lawful-runs p journal clock lawful).each lawful.orderly.passes_only (omega (arith, within, le)) few

pub broken_off_in_bound : BrokenOffInBound
broken_off_in_bound p journal clock moment operations r broken le few =
    let within = broken.within in
    each-in_bound p journal moment operations r (broken_off-runs p journal clock broken).each broken.orderly.passes_only (omega (arith, within, le)) few
