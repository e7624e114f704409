-- The tests of sweeps, passes and `full`, and that all tests together decide whether a journal is lawful.
use Rattle.std.proofs.Common.{◌≡◌, ⊎_elim, ℕ, ◌+◌, ◌-◌, ◌*◌, ◌<◌, ◌≤◌, Bool, true, false, is_none, if◌then◌else◌, List, [], ◌∷◌, ◌++◌, drop, length, Option, Some, None, refl, sym, ap, subst, ◌∙◌, arith, append-nil, length-append}
use Rattle.std.specs.Prelude.{◌%◌, ◌/◌, ◌&&◌, ◌==◌, nat_le, nat_lt, map, is_some, unwrap_or, IfSome}
use Rattle.std.specs.List.{list_all}
use Rattle.std.proofs.lemmas.Bool.{and_parts, eqb-true, eq-eqb, cases_lt}
use Rattle.std.proofs.lemmas.Bool.Decides.{nat_tests}
use Rattle.std.proofs.lemmas.Nat.{div-add-mod', mod-mul-add}
use Rattle.std.proofs.lemmas.List.{drop_at, append_cancel_left, nil_from_length}
use Rattle.nb_base.specs.declared.key.Key.{Key}
use Rattle.nb_base.specs.declared.params.Params.{Params}
use Rattle.nb_base.specs.declared.op.Op.{Op}
use Rattle.nb_base.specs.declared.op.Op.TheVariants as op
use Rattle.nb_base.specs.declared.line.Line.{Line}
use Rattle.nb_base.specs.Params.{InRange}
use Rattle.nb_journal.specs.Keys.{is_key}
use Rattle.nb_journal.specs.Fold.{seen_of, present_count}
use Rattle.nb_journal.specs.Lawful.{each_line, last_moment, IsSweepMoment, is_before_sweep, before_sweep, sweep_line, bare_line, HasSweep, looks, HasSeen, base_of, collects, collect_line, HasItsPass, full_of, IsLawful}
use Rattle.journal_check.specs.Evaluated.{is_sweep_moment, is_bare, same_answer, is_enough, seen_test, sweep_test, is_sweep_at, begins_with_sweep, sweep_stands, is_collect_of, collects_key, are_collects, base_length, ends_bare, pass_test, same_number, stamp_test, timer_test, due_test, time_test, number_test, fit_test, all_fit, none_before, PassesTests}
use Rattle.nb_journal.specs.Lawful.{asked_of_pass}
use Rattle.nb_journal.proofs.Grows.{is_key-one}
use Rattle.nb_journal.proofs.Changes.{is_key-same}
use Rattle.nb_journal.proofs.Lines.{each-map}
use Rattle.nb_journal.proofs.Fits.{Fits, FitsSweep, IsTimely, timely, before_sweep-front, runs-lawful, lawful-runs}
use Rattle.nb_journal.proofs.Takes.{base_of-front}
use Rattle.nb_journal.proofs.Tests.{and_both, le_from, le_to}
use Rattle.journal_check.proofs.Decides.{same_from, same_to, stamp_from, stamp_to, timer_from, timer_to, due_from, due_to, none_before-dues, dues-none_before}

-- ---- sweeps

moment_from : (p : Params) (u : ℕ) → 0 < p.gc_interval → is_sweep_moment p u ≡ true → IsSweepMoment p u
moment_from p u some e =
    let parts = and_parts (u % p.gc_interval == 0) (nat_lt 0 u) e in
    let whole = eqb-true (u % p.gc_interval) 0 parts.0 in
    let split = div-add-mod' u p.gc_interval in
    let positive : 0 < u = grind (arith, nat_tests, parts.1) in
    times (u / p.gc_interval) (sym split ∙ ap (λ (n : ℕ). u / p.gc_interval * p.gc_interval + n) whole) positive where
      times : (q : ℕ) → u ≡ q * p.gc_interval + 0 → 0 < u → IsSweepMoment p u
      times q split positive = ⊎_elim
          (λ (less : q < 1). let none : q ≡ 0 = omega (arith, less) in let zero : u ≡ 0 * p.gc_interval + 0 = subst (λ (n : ℕ). u ≡ n * p.gc_interval + 0) none split in absurd (omega (arith, zero, positive)))
          (λ (more : 1 ≤ q). let back : q ≡ q - 1 + 1 = omega (arith, more) in let again : u ≡ (q - 1 + 1) * p.gc_interval + 0 = subst (λ (n : ℕ). u ≡ n * p.gc_interval + 0) back split in (q - 1, omega (arith, again)))
          (cases_lt q 1)

moment_to : (p : Params) (u : ℕ) → 0 < p.gc_interval → IsSweepMoment p u → is_sweep_moment p u ≡ true
moment_to p u some is =
    let e = is.1 in
    let whole : u % p.gc_interval ≡ 0 = ap (λ (n : ℕ). n % p.gc_interval) (let f : u ≡ (is.0 + 1) * p.gc_interval + 0 = omega (arith, e) in f) ∙ mod-mul-add (is.0 + 1) p.gc_interval 0 some in
    let positive : 0 < u = omega (arith, e, some) in
    and_both (u % p.gc_interval == 0) (nat_lt 0 u) (eq-eqb (u % p.gc_interval) 0 whole) (grind (arith, nat_tests, positive))

none_from : {A : Type 0} (o : Option A) → is_none o ≡ true → o ≡ None
none_from None e = refl
none_from (Some x) e = cc

bare_from : (l : Line) → is_bare l ≡ true → (l.id ≡ None) × (l.full ≡ None)
bare_from l e = let parts = and_parts (is_none l.id) (is_none l.full) e in (none_from l.id parts.0, none_from l.full parts.1)

line_is : (l : Line) (at : ℕ) (o : Op) (seen : Option ℕ) → l.at ≡ at → is_bare l ≡ true → l.op ≡ o → l.seen ≡ seen → l ≡ bare_line at o seen
line_is l at o seen moment bare same saw = let parts = bare_from l bare in λ i. record { at = moment i; id = parts.0 i; op = same i; seen = saw i; full = parts.1 i }

seen_is : (o : Option ℕ) → is_some o ≡ true → o ≡ Some (unwrap_or o 0)
seen_is None e = cc
seen_is (Some n) e = refl

all_before : (u : ℕ) (lines : List Line) → list_all (is_before_sweep u) lines ≡ true → lines ≡ before_sweep u lines
all_before u [] e = refl
all_before u (l ∷ ls) e =
    let parts = and_parts (is_before_sweep u l) (list_all (is_before_sweep u) ls) e in
    rw parts.0 (ap (λ (xs : List Line). l ∷ xs) (all_before u ls parts.1))

before_all : (u : ℕ) (lines : List Line) → list_all (is_before_sweep u) (before_sweep u lines) ≡ true
before_all u [] = refl
before_all u (l ∷ ls) = by_test (is_before_sweep u l) refl (before_all u ls) where
  by_test : (t : Bool) → is_before_sweep u l ≡ t → list_all (is_before_sweep u) (before_sweep u ls) ≡ true → list_all (is_before_sweep u) (if t then l ∷ before_sweep u ls else before_sweep u ls) ≡ true
  by_test true e rest = and_both (is_before_sweep u l) (list_all (is_before_sweep u) (before_sweep u ls)) e rest
  by_test false e rest = rest

sweep_from : (p : Params) (past : List Line) (l : Line) (o : Op) → 0 < p.gc_interval → l.op ≡ o → sweep_test p past l o ≡ true → FitsSweep p past l o
sweep_from p past l op.Sweep some same e =
    let halves = and_parts (is_sweep_moment p l.at && (is_bare l && is_some l.seen)) (list_all (is_before_sweep l.at) past) e in
    let a = and_parts (is_sweep_moment p l.at) (is_bare l && is_some l.seen) halves.0 in
    let b = and_parts (is_bare l) (is_some l.seen) a.1 in
    (moment_from p l.at some a.0, line_is l l.at op.Sweep (Some (seen_of l)) refl b.0 same (seen_is l.seen b.1), all_before l.at past halves.1)
sweep_from p past l _ some same e = tt

sweep_to : (p : Params) (past : List Line) (l : Line) (o : Op) → 0 < p.gc_interval → FitsSweep p past l o → sweep_test p past l o ≡ true
sweep_to p past l op.Sweep some f =
    and_both (is_sweep_moment p l.at && (is_bare l && is_some l.seen)) (list_all (is_before_sweep l.at) past)
    (and_both (is_sweep_moment p l.at) (is_bare l && is_some l.seen) (moment_to p l.at some f.0)
    (and_both (is_bare l) (is_some l.seen) (ap is_bare f.1) (ap (λ (x : Line). is_some x.seen) f.1)))
    (ap (list_all (is_before_sweep l.at)) f.2 ∙ before_all l.at past)
sweep_to p past l _ some f = refl

-- ---- what lines saw

answer_from : (a b : Bool) → same_answer a b ≡ true → a ≡ b
answer_from true true e = refl
answer_from true false e = sym e
answer_from false true e = e
answer_from false false e = refl

answer_to : (a b : Bool) → a ≡ b → same_answer a b ≡ true
answer_to true true e = refl
answer_to true false e = sym e
answer_to false true e = e
answer_to false false e = refl

enough_from : (present : ℕ) (seen : Option ℕ) → is_enough present seen ≡ true → IfSome seen (λ n. present ≤ n)
enough_from present None e = tt
enough_from present (Some n) e = le_from present n e

enough_to : (present : ℕ) (seen : Option ℕ) → IfSome seen (λ n. present ≤ n) → is_enough present seen ≡ true
enough_to present None h = refl
enough_to present (Some n) h = le_to present n h

seen_from : (p : Params) (past : List Line) (l : Line) → seen_test p past l ≡ true → HasSeen p (base_of past) l
seen_from p past l e =
    let parts = and_parts (same_answer (is_some l.seen) (looks p (base_of past) l)) (is_enough (present_count p (base_of past)) l.seen) e in
    record { there = answer_from (is_some l.seen) (looks p (base_of past) l) parts.0; enough = enough_from (present_count p (base_of past)) l.seen parts.1 }

seen_to : (p : Params) (past : List Line) (l : Line) → HasSeen p (base_of past) l → seen_test p past l ≡ true
seen_to p past l h =
    and_both (same_answer (is_some l.seen) (looks p (base_of past) l)) (is_enough (present_count p (base_of past)) l.seen)
    (answer_to (is_some l.seen) (looks p (base_of past) l) h.there) (enough_to (present_count p (base_of past)) l.seen h.enough)

-- ---- passes

collect_from : (at : ℕ) (key : Key) (l : Line) → is_collect_of at key l ≡ true → l ≡ collect_line at key
collect_from at key l e =
    let parts = and_parts (l.at == at) ((is_bare l && is_none l.seen) && collects_key key l.op) e in
    let more = and_parts (is_bare l && is_none l.seen) (collects_key key l.op) parts.1 in
    let bare = and_parts (is_bare l) (is_none l.seen) more.0 in
    line_is l at (op.Collect key) None (eqb-true l.at at parts.0) bare.0 (names l.op more.1) (none_from l.seen bare.1) where
      names : (o : Op) → collects_key key o ≡ true → o ≡ op.Collect key
      names (op.Collect named) h = ap (λ (k : Key). op.Collect k) (is_key-one named key h)
      names _ h = cc

collect_self : (at : ℕ) (key : Key) → is_collect_of at key (collect_line at key) ≡ true
collect_self at key = and_both (at == at) (is_key key key) (eq-eqb at at refl) (is_key-same key)

collects_from : (at : ℕ) (lines : List Line) (keys : List Key) → are_collects at lines keys ≡ true → lines ≡ map (collect_line at) keys
collects_from at [] [] e = refl
collects_from at [] (k ∷ ks) e = cc
collects_from at (l ∷ ls) [] e = cc
collects_from at (l ∷ ls) (k ∷ ks) e =
    let parts = and_parts (is_collect_of at k l) (are_collects at ls ks) e in
    ap (λ (x : Line). x ∷ ls) (collect_from at k l parts.0) ∙ ap (λ (xs : List Line). collect_line at k ∷ xs) (collects_from at ls ks parts.1)

collects_self : (at : ℕ) (keys : List Key) → are_collects at (map (collect_line at) keys) keys ≡ true
collects_self at [] = refl
collects_self at (k ∷ ks) = and_both (is_collect_of at k (collect_line at k)) (are_collects at (map (collect_line at) ks) ks) (collect_self at k) (collects_self at ks)

behind_base : (lines : List Line) → lines ≡ base_of lines ++ drop (base_length lines) lines
behind_base lines =
    let front = base_of-front lines in
    front.1 ∙ ap (λ (xs : List Line). base_of lines ++ xs) (sym (ap (drop (base_length lines)) front.1 ∙ drop_at (base_of lines) front.0 (base_length lines) refl))

bare_end_from : (lines : List Line) → ends_bare lines ≡ true → base_of lines ≡ lines
bare_end_from lines e =
    let front = base_of-front lines in
    let same = eqb-true (base_length lines) (length lines) e in
    let sum = ap length front.1 ∙ length-append (base_of lines) front.0 in
    let none : front.0 ≡ [] = nil_from_length front.0 (omega (arith, same, sum)) in
    sym (front.1 ∙ ap (λ (xs : List Line). base_of lines ++ xs) none ∙ append-nil (base_of lines))

bare_end_to : (lines : List Line) → base_of lines ≡ lines → ends_bare lines ≡ true
bare_end_to lines e = eq-eqb (base_length lines) (length lines) (ap length e)

own_from : (p : Params) (past : List Line) (l : Line) → are_collects l.at (drop (base_length past) past) (asked_of_pass p (base_of past) l) ≡ true → past ≡ base_of past ++ collects p (base_of past) l
own_from p past l e =
    behind_base past ∙ ap (λ (xs : List Line). base_of past ++ xs) (collects_from l.at (drop (base_length past) past) (asked_of_pass p (base_of past) l) e)

own_to : (p : Params) (past : List Line) (l : Line) → past ≡ base_of past ++ collects p (base_of past) l → are_collects l.at (drop (base_length past) past) (asked_of_pass p (base_of past) l) ≡ true
own_to p past l e =
    let rest : drop (base_length past) past ≡ map (collect_line l.at) (asked_of_pass p (base_of past) l) =
    append_cancel_left (base_of past) (drop (base_length past) past) (map (collect_line l.at) (asked_of_pass p (base_of past) l)) (sym (behind_base past) ∙ e) in
    ap (λ (xs : List Line). are_collects l.at xs (asked_of_pass p (base_of past) l)) rest ∙ collects_self l.at (asked_of_pass p (base_of past) l)

pass_from : (p : Params) (past : List Line) (l : Line) (o : Op) → pass_test p past l o ≡ true → HasItsPass p past l o
pass_from p past l (op.Timer key) e = bare_end_from past e
pass_from p past l op.Sweep e = bare_end_from past e
pass_from p past l (op.Collect key) e = tt
pass_from p past l _ e = own_from p past l e

pass_to : (p : Params) (past : List Line) (l : Line) (o : Op) → HasItsPass p past l o → pass_test p past l o ≡ true
pass_to p past l (op.Timer key) h = bare_end_to past h
pass_to p past l op.Sweep h = bare_end_to past h
pass_to p past l (op.Collect key) h = refl
pass_to p past l _ h = own_to p past l h

-- ---- a line, and all lines

pub fit_from : (p : Params) (past : List Line) (l : Line) → 0 < p.gc_interval → fit_test p past l ≡ true → Fits p past l
fit_from p past l some e =
    let halves = and_parts (time_test p past l) (number_test p past l) e in
    let a = and_parts (stamp_test past l) (timer_test p past l.at l.op && due_test p past l.at l.op) halves.0 in
    let b = and_parts (timer_test p past l.at l.op) (due_test p past l.at l.op) a.1 in
    let c = and_parts (sweep_test p past l l.op && seen_test p past l) (pass_test p past l l.op && same_number l.full (full_of p past l)) halves.1 in
    let s = and_parts (sweep_test p past l l.op) (seen_test p past l) c.0 in
    let d = and_parts (pass_test p past l l.op) (same_number l.full (full_of p past l)) c.1 in
    let stamp = stamp_from past l a.0 in
    record {
      moment = stamp.0;
      id = stamp.1;
      timer = timer_from p past l.at l.op b.0;
      due = due_from p past l.at l.op b.1;
      sweep = sweep_from p past l l.op some refl s.0;
      seen = seen_from p past l s.1;
      pass = pass_from p past l l.op d.0;
      full = same_from l.full (full_of p past l) d.1;
    }

pub fit_to : (p : Params) (past : List Line) (l : Line) → 0 < p.gc_interval → Fits p past l → fit_test p past l ≡ true
fit_to p past l some f =
    and_both (time_test p past l) (number_test p past l)
    (and_both (stamp_test past l) (timer_test p past l.at l.op && due_test p past l.at l.op) (stamp_to past l f.moment f.id)
    (and_both (timer_test p past l.at l.op) (due_test p past l.at l.op) (timer_to p past l.at l.op f.timer) (due_to p past l.at l.op f.due)))
    (and_both (sweep_test p past l l.op && seen_test p past l) (pass_test p past l l.op && same_number l.full (full_of p past l)) (and_both (sweep_test p past l l.op) (seen_test p past l) (sweep_to p past l l.op some f.sweep) (seen_to p past l f.seen))
    (and_both (pass_test p past l l.op) (same_number l.full (full_of p past l)) (pass_to p past l l.op f.pass) (same_to l.full (full_of p past l) f.full)))

all_from : (p : Params) (past lines : List Line) → 0 < p.gc_interval → all_fit p past lines ≡ true → each_line (Fits p) past lines
all_from p past [] some e = tt
all_from p past (l ∷ ls) some e = let parts = and_parts (fit_test p past l) (all_fit p (past ++ l ∷ []) ls) e in (fit_from p past l some parts.0, all_from p (past ++ l ∷ []) ls some parts.1)

all_to : (p : Params) (past lines : List Line) → 0 < p.gc_interval → each_line (Fits p) past lines → all_fit p past lines ≡ true
all_to p past [] some all = refl
all_to p past (l ∷ ls) some all = and_both (fit_test p past l) (all_fit p (past ++ l ∷ []) ls) (fit_to p past l some all.0) (all_to p (past ++ l ∷ []) ls some all.1)

-- ---- sweeps at their moments

sweep_first_from : (u : ℕ) (lines : List Line) → begins_with_sweep u lines ≡ true → (seen : ℕ) × (rest : List Line) × (lines ≡ sweep_line u seen ∷ rest)
sweep_first_from u [] e = cc
sweep_first_from u (l ∷ ls) e = (seen_of l, ls, ap (λ (x : Line). x ∷ ls) (by_op l.op refl e)) where
  by_op : (o : Op) → l.op ≡ o → is_sweep_at u l o ≡ true → l ≡ sweep_line u (seen_of l)
  by_op op.Sweep same h =
      let parts = and_parts (l.at == u) (is_bare l && is_some l.seen) h in
      let more = and_parts (is_bare l) (is_some l.seen) parts.1 in
      line_is l u op.Sweep (Some (seen_of l)) (eqb-true l.at u parts.0) more.0 same (seen_is l.seen more.1)
  by_op _ same h = cc

sweep_first_to : (u seen : ℕ) (rest : List Line) → begins_with_sweep u (sweep_line u seen ∷ rest) ≡ true
sweep_first_to u seen rest = and_both (u == u) true (eq-eqb u u refl) refl

-- where the lines before a sweep's moment are the first ones
stands_from : (u : ℕ) (lines rest : List Line) → lines ≡ before_sweep u lines ++ rest → sweep_stands u lines (length (before_sweep u lines)) ≡ true → HasSweep u lines
stands_from u lines rest front e =
    let before = before_sweep u lines in
    let behind : drop (length before) lines ≡ rest = ap (drop (length before)) front ∙ drop_at before rest (length before) refl in
    let begins = sweep_first_from u rest (sym (ap (begins_with_sweep u) behind) ∙ e) in
    (begins.0, begins.1, front ∙ ap (λ (xs : List Line). before ++ xs) begins.2)

stands_to : (u : ℕ) (lines : List Line) → HasSweep u lines → sweep_stands u lines (length (before_sweep u lines)) ≡ true
stands_to u lines h =
    ap (λ (xs : List Line). begins_with_sweep u (drop (length (before_sweep u lines)) xs)) h.2
    ∙ ap (begins_with_sweep u) (drop_at (before_sweep u lines) (sweep_line u h.0 ∷ h.1) (length (before_sweep u lines)) refl)
    ∙ sweep_first_to u h.0 h.1

-- ---- all tests

pub tests_lawful : (p : Params) (lines : List Line) (clock : ℕ) → InRange p → PassesTests p lines clock → IsLawful p lines clock
tests_lawful p lines clock r t =
    let some = r.gc_interval.0 in
    let all = all_from p [] lines (omega (arith, some)) t.fits in
    let ends = and_parts (ends_bare lines && nat_le (last_moment lines) clock) (none_before p lines (clock + 1)) t.ends in
    let more = and_parts (ends_bare lines) (nat_le (last_moment lines) clock) ends.0 in
    runs-lawful p lines clock r
    (record {
      within = le_from (last_moment lines) clock more.1;
      each = all;
      dues = none_before-dues p lines (clock + 1) ends.1;
      sweeps = λ u is lt. let front = before_sweep-front p lines u r (each-map (Fits p) (IsTimely p) lines (timely p) all) in stands_from u lines front.0 front.1 (t.sweeps u is (omega (arith, lt)));
    })
    (bare_end_from lines more.0)

pub lawful_tests : (p : Params) (lines : List Line) (clock : ℕ) → InRange p → IsLawful p lines clock → PassesTests p lines clock
lawful_tests p lines clock r lawful =
    let some = r.gc_interval.0 in
    let runs = lawful-runs p lines clock lawful in
    record {
      fits = all_to p [] lines (omega (arith, some)) runs.each;
      ends = and_both (ends_bare lines && nat_le (last_moment lines) clock) (none_before p lines (clock + 1))
          (and_both (ends_bare lines) (nat_le (last_moment lines) clock) (bare_end_to lines lawful.orderly.passes_only) (le_to (last_moment lines) clock lawful.within))
          (dues-none_before p lines (clock + 1) runs.dues);
      sweeps = λ u is le. stands_to u lines (runs.sweeps u is (omega (arith, le)));
    }
