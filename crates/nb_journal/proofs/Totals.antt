-- What one line does to the sum of the potentials.
use Rattle.std.proofs.Common.{◌≡◌, ℕ, ◌+◌, ◌≤◌, Bool, true, false, ◌||◌, ◌&&◌, if◌then◌else◌, List, [], ◌∷◌, ◌++◌, length, Option, Some, None, refl, sym, ◌∙◌, ap, subst, arith, append_assoc, append-nil}
use Rattle.std.specs.Prelude.{map}
use Rattle.std.proofs.lemmas.Bool.{false≢true}
use Rattle.nb_base.specs.declared.key.Key.{Key}
use Rattle.nb_base.specs.declared.params.Params.{Params}
use Rattle.nb_base.specs.declared.op.Op.{Op}
use Rattle.nb_base.specs.declared.op.Op.TheVariants as op
use Rattle.nb_base.specs.declared.line.Line.{Line}
use Rattle.nb_base.specs.Params.{InRange}
use Rattle.nud_machine.specs.declared.event.Event.TheVariants as event
use Rattle.nud_machine.specs.State.{State, Stepped, absent}
use Rattle.nud_machine.specs.Step.{step}
use Rattle.nb_journal.specs.Keys.{is_key, key_of, made_known}
use Rattle.nb_journal.specs.Fold.{effect, if_so, is_loose, is_swept, saw_enough, meet, state_of, with_key, known_keys, is_present}
use Rattle.nb_journal.specs.Lawful.{due_of, collect_line}
use Rattle.nb_journal.specs.Accounts.{potential}
use Rattle.nb_journal.proofs.Changes.{is_key-same, change-named, change-other}
use Rattle.nb_journal.proofs.Folds.{state_of-snoc, known_keys-snoc}
use Rattle.nb_journal.proofs.Dues.{change-either}
use Rattle.nb_journal.proofs.Grows.{is_key-one, has_key}
use Rattle.nb_journal.proofs.Potential.{potential-most, state_of-timed, due-timed, timer-lowers}
use Rattle.nb_journal.proofs.Counts.{AreDistinct, known_keys-distinct, state_of-unknown, known-unless, sum_over-append, sum_over-less, sum_over-one, sum_over-lower}
use Rattle.nb_journal.proofs.Sums.{sum_over, total_potential}

-- a key's potential behind a journal
abbrev pub number : Params → List Line → Key → ℕ
number p lines key = potential p (state_of p lines key).entry

pub total-is : (p : Params) (lines : List Line) → total_potential p lines ≡ sum_over (number p lines) (known_keys lines)
unfolding total_potential
total-is p lines = refl

with_key-sum : (f : Key → ℕ) (keys : List Key) (new : Option Key) → ((key : Key) → has_key keys key ≡ false → f key ≡ 0) → sum_over f (with_key keys new) ≡ sum_over f keys
with_key-sum f keys None h = refl
with_key-sum f keys (Some key) h = by_test (has_key keys key) refl where
  by_test : (t : Bool) → has_key keys key ≡ t → sum_over f (if t then keys else keys ++ key ∷ []) ≡ sum_over f keys
  by_test true e = refl
  by_test false e = let none = h key e in let sum = sum_over-append f keys (key ∷ []) in omega (arith, none, sum)

-- keys that become known had no potential before
old_total : (p : Params) (lines : List Line) (l : Line) → sum_over (number p lines) (known_keys (lines ++ l ∷ [])) ≡ total_potential p lines
old_total p lines l =
    ap (sum_over (number p lines)) (known_keys-snoc lines l)
    ∙ with_key-sum (number p lines) (known_keys lines) (made_known l.op) (λ key off. ap (λ (s : State). potential p s.entry) (state_of-unknown p lines key off))
    ∙ sym (total-is p lines)

others_stay : (p : Params) (lines : List Line) (l : Line) (key other : Key) → key_of l.op ≡ Some key → is_key key other ≡ false → number p (lines ++ l ∷ []) other ≤ number p lines other
others_stay p lines l key other e off =
    rw (state_of-snoc p lines l other, change-other p l key other (state_of p lines other) e off) (omega arith)

remove_less : (p : Params) (l : Line) (s : State) (b : Bool) → potential p (meet p l s (if_so b event.Remove)).state.entry ≤ potential p s.entry
remove_less p l s true = omega arith
remove_less p l s false = omega arith

free_meet : (p : Params) (l : Line) (s : State) (o : Op) → key_of o ≡ None → potential p (meet p l s (effect p l s o)).state.entry ≤ potential p s.entry
free_meet p l s op.Show e = omega arith
free_meet p l s op.Flush e = remove_less p l s (is_loose s)
free_meet p l s op.Sweep e = remove_less p l s (saw_enough p l.seen && is_swept p l.at s)
free_meet p l s _ e = cc

-- a line that names no key raises nothing
pub total-free : (p : Params) (lines : List Line) (l : Line) → key_of l.op ≡ None → total_potential p (lines ++ l ∷ []) ≤ total_potential p lines
total-free p lines l e =
    let less = sum_over-less (number p lines) (number p (lines ++ l ∷ [])) (known_keys (lines ++ l ∷ []))
    (λ key. rw (state_of-snoc p lines l key) (change-either (λ (t : State). potential p t.entry ≤ potential p (state_of p lines key).entry) p l key (state_of p lines key) (omega arith) (free_meet p l (state_of p lines key) l.op e))) in
    let old = old_total p lines l in
    let new = total-is p (lines ++ l ∷ []) in
    omega (arith, less, old, new)

-- a line that names a key raises the sum by a line's share
pub total-named : (p : Params) (lines : List Line) (l : Line) (key : Key) → key_of l.op ≡ Some key → total_potential p (lines ++ l ∷ []) ≤ total_potential p lines + (p.mcast_solicit + p.ucast_solicit + 5)
total-named p lines l key e =
    let most = potential-most p (state_of p (lines ++ l ∷ []) key).entry in
    let one = sum_over-one (number p lines) (number p (lines ++ l ∷ [])) (known_keys (lines ++ l ∷ [])) key (p.mcast_solicit + p.ucast_solicit + 5) (known_keys-distinct (lines ++ l ∷ []))
    (λ other off. others_stay p lines l key other e off) (omega (arith, most)) in
    let old = old_total p lines l in
    let new = total-is p (lines ++ l ∷ []) in
    omega (arith, one, old, new)

pub total-line : (p : Params) (lines : List Line) (l : Line) → total_potential p (lines ++ l ∷ []) ≤ total_potential p lines + (p.mcast_solicit + p.ucast_solicit + 5)
total-line p lines l = by_key (key_of l.op) refl where
  by_key : (o : Option Key) → key_of l.op ≡ o → total_potential p (lines ++ l ∷ []) ≤ total_potential p lines + (p.mcast_solicit + p.ucast_solicit + 5)
  by_key None e = let less = total-free p lines l e in omega (arith, less)
  by_key (Some key) e = total-named p lines l key e

total-lower : (p : Params) (lines : List Line) (l : Line) (key : Key) → key_of l.op ≡ Some key → made_known l.op ≡ None → has_key (known_keys lines) key ≡ true → number p (lines ++ l ∷ []) key + 1 ≤ number p lines key → total_potential p (lines ++ l ∷ []) + 1 ≤ total_potential p lines
total-lower p lines l key e none known here =
    let same : known_keys (lines ++ l ∷ []) ≡ known_keys lines = known_keys-snoc lines l ∙ ap (with_key (known_keys lines)) none in
    let lower = sum_over-lower (number p lines) (number p (lines ++ l ∷ [])) (known_keys (lines ++ l ∷ [])) key (known_keys-distinct (lines ++ l ∷ []))
    (ap (λ (ks : List Key). has_key ks key) same ∙ known) (λ other off. others_stay p lines l key other e off) here in
    let old = old_total p lines l in
    let new = total-is p (lines ++ l ∷ []) in
    omega (arith, lower, old, new)

timer_meets : (p : Params) (l : Line) (s : State) (key : Key) → s.entry.present ≡ true → meet p l s (effect p l s (op.Timer key)) ≡ step p l.at s event.Timer
timer_meets p l s key i = rw i refl

timer_state : (p : Params) (lines : List Line) (l : Line) (key : Key) → l.op ≡ op.Timer key → l.full ≡ None → is_present p lines key ≡ true → state_of p (lines ++ l ∷ []) key ≡ (step p l.at (state_of p lines key) event.Timer).state
timer_state p lines l key e full i =
    state_of-snoc p lines l key
    ∙ ap (λ (t : Stepped). t.state) (change-named p l key key (state_of p lines key) (ap key_of e) (is_key-same key) full
    ∙ ap (λ (o : Op). meet p l (state_of p lines key) (effect p l (state_of p lines key) o)) e
    ∙ timer_meets p l (state_of p lines key) key i)

-- a timer's line lowers the sum
pub total-timer : (p : Params) (lines : List Line) (l : Line) (key : Key) → InRange p → l.op ≡ op.Timer key → l.full ≡ None → due_of p lines key ≡ Some l.at → total_potential p (lines ++ l ∷ []) + 1 ≤ total_potential p lines
total-timer p lines l key r e full due =
    let present = (due-timed (state_of p lines key).entry l.at (state_of-timed p lines key) due).0 in
    total-lower p lines l key (ap key_of e) (ap made_known e) (known-unless p lines key (λ a. has_due (ap (λ (s : State). s.entry.due) (sym a) ∙ due)))
    (subst (λ (s : State). potential p s.entry + 1 ≤ number p lines key) (sym (timer_state p lines l key e full present)) (timer-lowers p l.at (state_of p lines key) r (state_of-timed p lines key) due)) where
      has_due : None ≡ Some l.at → ⊥
      has_due h = cc

present-some : (p : Params) (s : State) → s.entry.present ≡ true → 1 ≤ potential p s.entry
present-some p s i = rw i (omega arith)

collect-state : (p : Params) (lines : List Line) (at : ℕ) (key : Key) → is_present p lines key ≡ true → state_of p (lines ++ collect_line at key ∷ []) key ≡ absent
collect-state p lines at key i =
    state_of-snoc p lines (collect_line at key) key
    ∙ ap (λ (t : Stepped). t.state) (change-named p (collect_line at key) key key (state_of p lines key) refl (is_key-same key) refl)
    ∙ rw i refl

-- a collect of a present entry lowers the sum
pub total-collect : (p : Params) (lines : List Line) (at : ℕ) (key : Key) → is_present p lines key ≡ true → total_potential p (lines ++ collect_line at key ∷ []) + 1 ≤ total_potential p lines
total-collect p lines at key i =
    let some = present-some p (state_of p lines key) i in
    total-lower p lines (collect_line at key) key refl refl (known-unless p lines key (λ a. false≢true (ap (λ (s : State). s.entry.present) (sym a) ∙ i)))
    (rw (collect-state p lines at key i) (omega (arith, some)))

-- collects of different present entries
pub total-collects : (p : Params) (lines : List Line) (at : ℕ) (keys : List Key) → AreDistinct keys → ((key : Key) → has_key keys key ≡ true → is_present p lines key ≡ true) → total_potential p (lines ++ map (collect_line at) keys) + length keys ≤ total_potential p lines
total-collects p lines at [] d h = rw (append-nil lines) (omega arith)
total-collects p lines at (key ∷ keys) d h =
    let first = total-collect p lines at key (h key (ap (λ (b : Bool). b || has_key keys key) (is_key-same key))) in
    let rest = total-collects p (lines ++ collect_line at key ∷ []) at keys d.1 (λ other there. still other there) in
    let same = ap (total_potential p) (append_assoc lines (collect_line at key ∷ []) (map (collect_line at) keys)) in
    omega (arith, first, rest, same) where
      apart : (other : Key) → has_key keys other ≡ true → (t : Bool) → is_key key other ≡ t → is_key key other ≡ false
      apart other there false e = e
      apart other there true e = absurd (false≢true (sym d.0 ∙ ap (has_key keys) (is_key-one key other e) ∙ there))

      later : (other : Key) → has_key keys other ≡ true → (t : Bool) → (t || has_key keys other) ≡ true
      later other there true = refl
      later other there false = there

      still : (other : Key) → has_key keys other ≡ true → is_present p (lines ++ collect_line at key ∷ []) other ≡ true
      still other there =
          let off = apart other there (is_key key other) refl in
          ap (λ (s : State). s.entry.present) (state_of-snoc p lines (collect_line at key) other)
          ∙ ap (λ (t : Stepped). t.state.entry.present) (change-other p (collect_line at key) key other (state_of p lines other) refl off)
          ∙ h other (later other there (is_key key other))
