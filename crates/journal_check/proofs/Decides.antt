-- The tests of a line decide whether it fits behind its past.
use Rattle.std.proofs.Common.{◌≡◌, ⊎_elim, ℕ, ◌+◌, ◌<◌, ◌≤◌, Bool, true, false, is_none, is_some, if◌then◌else◌, List, [], ◌∷◌, ◌++◌, take, drop, length, get_or, Option, Some, None, refl, sym, ap, subst, ◌∙◌}
use Rattle.std.specs.Prelude.{◌||◌, ◌&&◌, not, nat_le, IsTrue}
use Rattle.std.specs.List.{list_all}
use Rattle.std.proofs.lemmas.Bool.{and_parts, eqb-true, eq-eqb, false≢true, or_cases}
use Rattle.std.proofs.lemmas.List.{drop_more}
use Rattle.std.proofs.lemmas.List.Folds.{list_all_at}
use Rattle.nb_base.specs.declared.key.Key.{Key}
use Rattle.nb_base.specs.declared.params.Params.{Params}
use Rattle.nb_base.specs.declared.op.Op.{Op}
use Rattle.nb_base.specs.declared.op.Op.TheVariants as op
use Rattle.nb_base.specs.declared.time.OpId.{OpId}
use Rattle.nb_base.specs.declared.line.Line.{Line}
use Rattle.nud_machine.specs.State.{State}
use Rattle.nb_journal.specs.Keys.{is_key, is_own}
use Rattle.nb_journal.specs.Fold.{known_keys, rank_of}
use Rattle.nb_journal.specs.Lawful.{each_line, last_moment, due_of, IsNextDue, IsTimersTurn, PassesNoDue}
use Rattle.nb_journal.specs.Steps.{IsStep, IsAtDue, is_line_of_run}
use Rattle.nb_journal.specs.Keys.{has_key}
use Rattle.journal_check.specs.Evaluated.{is_at, same_number, is_from, none_before, yields, next_due, timer_test, due_test, stamp_test, time_test, number_test, fit_test, all_fit, at_due_test, step_test, all_steps}
use Rattle.nb_journal.proofs.Tests.{and_both, le_from, le_to}
use Rattle.nb_journal.proofs.Grows.{is_key-one}
use Rattle.nb_journal.proofs.Counts.{state_of-unknown}
use Rattle.nb_journal.proofs.Dues.{DuesFrom, nothing_due-from, dues_from-nothing_due, nothing_overdue-from, dues_from-nothing_overdue}
use Rattle.nb_journal.proofs.Takes.{taken}

-- ---- tests of numbers

at_from : (due : Option ℕ) (m : ℕ) → is_at due m ≡ true → due ≡ Some m
at_from None m e = cc
at_from (Some d) m e = ap (λ (n : ℕ). Some n) (eqb-true d m e)

at_to : (due : Option ℕ) (m : ℕ) → due ≡ Some m → is_at due m ≡ true
at_to due m e = rw e (eq-eqb m m refl)

pub same_from : (a b : Option ℕ) → same_number a b ≡ true → a ≡ b
same_from None None e = refl
same_from (Some a) (Some b) e = ap (λ (n : ℕ). Some n) (eqb-true a b e)
same_from None (Some b) e = cc
same_from (Some a) None e = cc

same_self : (a : Option ℕ) → same_number a a ≡ true
same_self None = refl
same_self (Some a) = eq-eqb a a refl

pub same_to : (a b : Option ℕ) → a ≡ b → same_number a b ≡ true
same_to a b e = subst (λ (x : Option ℕ). same_number a x ≡ true) e (same_self a)

-- ---- all known keys

all_known : (test : Key → Bool) (keys : List Key) (key : Key) → list_all test keys ≡ true → has_key keys key ≡ true → test key ≡ true
all_known test [] key all there = cc
all_known test (k ∷ ks) key all there =
    let parts = and_parts (test k) (list_all test ks) all in
    ⊎_elim (λ (here : is_key k key ≡ true). ap test (sym (is_key-one k key here)) ∙ parts.0) (λ (more : has_key ks key ≡ true). all_known test ks key parts.1 more) (or_cases (is_key k key) (has_key ks key) there)

all_keys : (test : Key → Bool) (keys : List Key) → ((key : Key) → test key ≡ true) → list_all test keys ≡ true
all_keys test [] h = refl
all_keys test (k ∷ ks) h = and_both (test k) (list_all test ks) (h k) (all_keys test ks h)

-- a key with a due is known
due_known : (p : Params) (lines : List Line) (key : Key) (d : ℕ) → due_of p lines key ≡ Some d → has_key (known_keys lines) key ≡ true
due_known p lines key d e = by_test (has_key (known_keys lines) key) refl where
  none : due_of p lines key ≡ None → has_key (known_keys lines) key ≡ true
  none n = let clash : None ≡ Some d = sym n ∙ e in cc

  by_test : (t : Bool) → has_key (known_keys lines) key ≡ t → has_key (known_keys lines) key ≡ true
  by_test true there = there
  by_test false off = none (ap (λ (s : State). s.entry.due) (state_of-unknown p lines key off))

pub none_before-dues : (p : Params) (lines : List Line) (m : ℕ) → none_before p lines m ≡ true → DuesFrom p lines m
none_before-dues p lines m e key d due =
    le_from m d (sym (ap (is_from m) due) ∙ all_known (λ k. is_from m (due_of p lines k)) (known_keys lines) key e (due_known p lines key d due))

pub dues-none_before : (p : Params) (lines : List Line) (m : ℕ) → DuesFrom p lines m → none_before p lines m ≡ true
dues-none_before p lines m dues = all_keys (λ k. is_from m (due_of p lines k)) (known_keys lines) (λ k. by_due k (due_of p lines k) refl) where
  by_due : (k : Key) (o : Option ℕ) → due_of p lines k ≡ o → is_from m o ≡ true
  by_due k None e = refl
  by_due k (Some d) e = le_to m d (dues k d e)

-- ---- timers

yields_from : (rank m other : ℕ) (due : Option ℕ) → due ≡ Some m → yields rank m due other ≡ true → rank ≤ other
yields_from rank m other due at e = le_from rank other (sym (ap (λ (b : Bool). not b || nat_le rank other) (at_to due m at)) ∙ e)

yields_to : (rank m other : ℕ) (due : Option ℕ) → (due ≡ Some m → rank ≤ other) → yields rank m due other ≡ true
yields_to rank m other due h = by_test (is_at due m) refl where
  by_test : (t : Bool) → is_at due m ≡ t → (not t || nat_le rank other) ≡ true
  by_test true e = le_to rank other (h (at_from due m e))
  by_test false e = refl

next_from : (p : Params) (lines : List Line) (key : Key) (m : ℕ) → next_due p lines key m ≡ true → IsNextDue p lines key m
next_from p lines key m e =
    let first_test : Key → Bool = λ other. yields (rank_of lines key) m (due_of p lines other) (rank_of lines other) in
    let parts = and_parts (is_at (due_of p lines key) m) (none_before p lines m && list_all first_test (known_keys lines)) e in
    let more = and_parts (none_before p lines m) (list_all first_test (known_keys lines)) parts.1 in
    record {
      due = at_from (due_of p lines key) m parts.0;
      least = nothing_overdue-from p lines m (none_before-dues p lines m more.0);
      first = λ other at. yields_from (rank_of lines key) m (rank_of lines other) (due_of p lines other) at (all_known first_test (known_keys lines) other more.1 (due_known p lines other m at));
    }

next_to : (p : Params) (lines : List Line) (key : Key) (m : ℕ) → IsNextDue p lines key m → next_due p lines key m ≡ true
next_to p lines key m next =
    let first_test : Key → Bool = λ other. yields (rank_of lines key) m (due_of p lines other) (rank_of lines other) in
    and_both (is_at (due_of p lines key) m) (none_before p lines m && list_all first_test (known_keys lines)) (at_to (due_of p lines key) m next.due)
    (and_both (none_before p lines m) (list_all first_test (known_keys lines)) (dues-none_before p lines m (dues_from-nothing_overdue p lines m next.least))
    (all_keys first_test (known_keys lines) (λ other. yields_to (rank_of lines key) m (rank_of lines other) (due_of p lines other) (next.first other))))

pub timer_from : (p : Params) (past : List Line) (at : ℕ) (o : Op) → timer_test p past at o ≡ true → IsTimersTurn p past at o
timer_from p past at (op.Timer key) e = next_from p past key at e
timer_from p past at _ e = tt

pub timer_to : (p : Params) (past : List Line) (at : ℕ) (o : Op) → IsTimersTurn p past at o → timer_test p past at o ≡ true
timer_to p past at (op.Timer key) t = next_to p past key at t
timer_to p past at _ t = refl

pub due_from : (p : Params) (past : List Line) (at : ℕ) (o : Op) → due_test p past at o ≡ true → PassesNoDue p past at o
due_from p past at (op.Timer key) e = tt
due_from p past at _ e = nothing_due-from p past at (none_before-dues p past (at + 1) e)

pub due_to : (p : Params) (past : List Line) (at : ℕ) (o : Op) → PassesNoDue p past at o → due_test p past at o ≡ true
due_to p past at (op.Timer key) n = refl
due_to p past at _ n = dues-none_before p past (at + 1) (dues_from-nothing_due p past at n)

-- ---- moments and ids

id_from : (own some : Bool) → (if own then some else not some) ≡ true → some ≡ own
id_from true some e = e
id_from false true e = cc
id_from false false e = refl

id_to : (own some : Bool) → some ≡ own → (if own then some else not some) ≡ true
id_to true some e = e
id_to false some e = rw e refl

none_not : (o : Option OpId) → is_none o ≡ not (is_some o)
none_not None = refl
none_not (Some x) = refl

pub stamp_from : (past : List Line) (l : Line) → stamp_test past l ≡ true → (last_moment past ≤ l.at) × (is_some l.id ≡ is_own l.op)
stamp_from past l e =
    let parts = and_parts (nat_le (last_moment past) l.at) (if is_own l.op then is_some l.id else is_none l.id) e in
    (le_from (last_moment past) l.at parts.0, id_from (is_own l.op) (is_some l.id) (sym (ap (λ (b : Bool). if is_own l.op then is_some l.id else b) (none_not l.id)) ∙ parts.1))

pub stamp_to : (past : List Line) (l : Line) → last_moment past ≤ l.at → is_some l.id ≡ is_own l.op → stamp_test past l ≡ true
stamp_to past l le id =
    and_both (nat_le (last_moment past) l.at) (if is_own l.op then is_some l.id else is_none l.id) (le_to (last_moment past) l.at le)
    (ap (λ (b : Bool). if is_own l.op then is_some l.id else b) (none_not l.id) ∙ id_to (is_own l.op) (is_some l.id) id)

-- a line of a run that passes its tests can be stepped over
at_due : (p : Params) (past : List Line) (at : ℕ) (o : Op) → IsTimersTurn p past at o → IsAtDue p past at o
at_due p past at (op.Timer key) t = t.due
at_due p past at _ t = tt

pub time_of : (p : Params) (past : List Line) (l : Line) → fit_test p past l ≡ true → IsTimersTurn p past l.at l.op
time_of p past l e =
    let time = (and_parts (time_test p past l) (number_test p past l) e).0 in
    let more = (and_parts (stamp_test past l) (timer_test p past l.at l.op && due_test p past l.at l.op) time).1 in
    timer_from p past l.at l.op (and_parts (timer_test p past l.at l.op) (due_test p past l.at l.op) more).0

one_of_all : (lines : List Line) (i : ℕ) (l : Line) → i < length lines → l ≡ get_or lines i l → list_all is_line_of_run lines ≡ true → is_line_of_run l ≡ true
one_of_all lines i l lt at all = by_test (is_line_of_run l) refl where
  by_test : (t : Bool) → is_line_of_run l ≡ t → is_line_of_run l ≡ true
  by_test true e = e
  by_test false e = absurd (false≢true (sym (list_all_at is_line_of_run lines i l lt (ap is_line_of_run (sym at) ∙ e)) ∙ all))

pub fit_steps : (p : Params) (lines : List Line) (i : ℕ) (l : Line) → i < length lines → l ≡ get_or lines i l → IsTrue (list_all is_line_of_run lines) → fit_test p (take i lines) l ≡ true → IsStep p (take i lines) l
fit_steps p lines i l lt at all e = (one_of_all lines i l lt at all, at_due p (take i lines) l.at l.op (time_of p (take i lines) l e))

pub all_fit-more : (p : Params) (lines : List Line) (i : ℕ) (l : Line) → i < length lines → l ≡ get_or lines i l → fit_test p (take i lines) l ≡ true → all_fit p (take (i + 1) lines) (drop (i + 1) lines) ≡ all_fit p (take i lines) (drop i lines)
all_fit-more p lines i l lt at e =
    sym (ap (all_fit p (take i lines)) (drop_more lines i l lt ∙ ap (λ (x : Line). x ∷ drop (i + 1) lines) (sym at))
    ∙ ap (λ (b : Bool). b && all_fit p (take i lines ++ l ∷ []) (drop (i + 1) lines)) e
    ∙ ap (λ (xs : List Line). all_fit p xs (drop (i + 1) lines)) (sym (taken lines i l lt at)))

-- ---- lines that the machine can step over

due_at_from : (p : Params) (past : List Line) (at : ℕ) (o : Op) → at_due_test p past at o ≡ true → IsAtDue p past at o
due_at_from p past at (op.Timer key) e = at_from (due_of p past key) at e
due_at_from p past at _ e = tt

due_at_to : (p : Params) (past : List Line) (at : ℕ) (o : Op) → IsAtDue p past at o → at_due_test p past at o ≡ true
due_at_to p past at (op.Timer key) h = at_to (due_of p past key) at h
due_at_to p past at _ h = refl

pub step_from : (p : Params) (past : List Line) (l : Line) → step_test p past l ≡ true → IsStep p past l
step_from p past l e = let parts = and_parts (is_line_of_run l) (at_due_test p past l.at l.op) e in (parts.0, due_at_from p past l.at l.op parts.1)

pub steps_from : (p : Params) (past lines : List Line) → all_steps p past lines ≡ true → each_line (IsStep p) past lines
steps_from p past [] e = tt
steps_from p past (l ∷ ls) e = let parts = and_parts (step_test p past l) (all_steps p (past ++ l ∷ []) ls) e in (step_from p past l parts.0, steps_from p (past ++ l ∷ []) ls parts.1)

pub steps_to : (p : Params) (past lines : List Line) → each_line (IsStep p) past lines → all_steps p past lines ≡ true
steps_to p past [] all = refl
steps_to p past (l ∷ ls) all =
    and_both (step_test p past l) (all_steps p (past ++ l ∷ []) ls) (and_both (is_line_of_run l) (at_due_test p past l.at l.op) all.0.0 (due_at_to p past l.at l.op all.0.1)) (steps_to p (past ++ l ∷ []) ls all.1)

pub all_steps-more : (p : Params) (lines : List Line) (i : ℕ) (l : Line) → i < length lines → l ≡ get_or lines i l → step_test p (take i lines) l ≡ true → all_steps p (take (i + 1) lines) (drop (i + 1) lines) ≡ all_steps p (take i lines) (drop i lines)
all_steps-more p lines i l lt at e =
    sym (ap (all_steps p (take i lines)) (drop_more lines i l lt ∙ ap (λ (x : Line). x ∷ drop (i + 1) lines) (sym at))
    ∙ ap (λ (b : Bool). b && all_steps p (take i lines ++ l ∷ []) (drop (i + 1) lines)) e
    ∙ ap (λ (xs : List Line). all_steps p xs (drop (i + 1) lines)) (sym (taken lines i l lt at)))
