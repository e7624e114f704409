-- The timers of the known keys, as the journal goes on.
use Rattle.std.proofs.Common.{◌≡◌, ◌≢◌, ◌≤◌, ◌<◌, ◌⊎◌, inl, inr, ⊎_elim, ℕ, zero, suc, ◌+◌, ◌-◌, eqb, Bool, true, false, ◌||◌, if◌then◌else◌, List, [], ◌∷◌, ◌++◌, length, slice_get, Option, Some, None, refl, sym, ◌∙◌, ap, subst, arith, ne_eqb, eq-eqb}
use Rattle.std.specs.Prelude.{replicate, slice_set}
use Rattle.std.specs.List.{AllByRecursion, list_any}
use Rattle.std.proofs.lemmas.Bool.{false≢true, or_parts, cases_eq, cond_both}
use Rattle.std.proofs.lemmas.List.{get_or-set_same, get_or-set_other, length-set, length-append, length-replicate}
use Rattle.std.proofs.lemmas.List.Folds.{list_any-append}
use Rattle.nb_base.specs.declared.key.Key.{Key}
use Rattle.nb_base.specs.declared.params.Params.{Params}
use Rattle.nb_base.specs.declared.op.Op.{Op}
use Rattle.nb_base.specs.declared.op.Op.TheVariants as op
use Rattle.nb_base.specs.declared.line.Line.{Line}
use Rattle.nb_base.specs.Params.{InRange}
use Rattle.nud_machine.specs.State.{State, Stepped, stays}
use Rattle.nb_journal.specs.Keys.{is_key, key_of, made_known, place_among, has_key}
use Rattle.nb_journal.specs.Fold.{with_key, known_keys, state_of}
use Rattle.nb_journal.specs.Lawful.{due_of, NothingDue, NothingOverdue}
use Rattle.nb_journal.proofs.Changes.{is_key-same, change-other}
use Rattle.nb_journal.proofs.Counts.{known_keys-distinct}
use Rattle.nb_journal.proofs.Dues.{nothing_overdue-from, dues_from-nothing_overdue, dues_from-nothing_due, dues_from-less, dues_from-nil, dues_from-snoc}
use Rattle.nb_journal.proofs.Counts.{key_cases}
use Rattle.nb_journal.proofs.Folds.{state_of-snoc, known_keys-nil, known_keys-snoc}
use Rattle.nb_journal.proofs.Grows.{known_keys-grow}
use Rattle.journal_fold.specs.Present.{HoldsPresent}
use Rattle.journal_fold.specs.Removing.{removes}
use Rattle.journal_fold.proofs.Removed.{removed, removes_present, change_unnamed}
use Rattle.slot_links.specs.Lists.{has}
use Rattle.timer_wheel.specs.Map.{Timers}
use Rattle.timer_wheel.specs.Map as timers
use Rattle.nb_bucket.specs.Dues.{AreArmed, IsNextTimer, ArmsOne, ClearsOne, ClearsGone, left_of}
use Rattle.nb_bucket.specs.Making.{goes_to_each}
use Rattle.nb_bucket.proofs.Ranks.{unnamed_each, each_has, known_same}
use Rattle.nb_bucket.proofs.NextTimer.{within_length, key_at, has_at, place_of_at}

-- ---- lists

get_last : {A : Type 0} (xs : List A) (y z : A) (k : ℕ) → slice_get (xs ++ y ∷ []) k ≡ Some z → (slice_get xs k ≡ Some z) ⊎ (y ≡ z)
get_last [] y z zero e = let same : y ≡ z = cc in inr same
get_last [] y z (suc k) e = cc
get_last (x ∷ xs) y z zero e = inl e
get_last (x ∷ xs) y z (suc k) e = get_last xs y z k e

due_more : (dues : List (Option ℕ)) (k node : ℕ) → timers.due_of (dues ++ replicate k None) node ≡ timers.due_of dues node
due_more [] zero node = refl
due_more [] (suc k) zero = refl
due_more [] (suc k) (suc node) = due_more [] k node
due_more (d ∷ ds) k zero = refl
due_more (d ∷ ds) k (suc node) = due_more ds k node

-- ---- between lines

pub armed-nil : (p : Params) → AreArmed p [] (record { now = 0; dues = [] })
armed-nil p = record {
  nodes = rw known_keys-nil (omega arith);
  each = λ rank key e. absurd (no_key key rank (subst (λ (ks : List Key). slice_get ks rank ≡ Some key) known_keys-nil e));
  spare = λ node ge. refl;
  ahead = nothing_overdue-from p [] 0 (dues_from-nil p 0);
} where
  no_key : (key : Key) (rank : ℕ) → slice_get [] rank ≡ Some key → ⊥
  no_key key rank e = cc

-- more nodes are spare
pub armed-more : (p : Params) (lines : List Line) (t : Timers) (k : ℕ) → AreArmed p lines t → AreArmed p lines (record { now = t.now; dues = t.dues ++ replicate k None })
armed-more p lines t k a = record {
  nodes = let nodes = a.nodes in let more = length-append t.dues (replicate k None) in omega (arith, nodes, more);
  each = λ rank key e. due_more t.dues k rank ∙ a.each rank key e;
  spare = λ node ge. due_more t.dues k node ∙ a.spare node ge;
  ahead = a.ahead;
}

-- so they are where nodes were made up to a number
pub armed-reserved : (p : Params) (lines : List Line) (t new : Timers) (nodes : ℕ) → new ≡ record { now = t.now; dues = t.dues ++ replicate (nodes - length t.dues) None } → AreArmed p lines t → AreArmed p lines new
armed-reserved p lines t new nodes is a = rw is (armed-more p lines t (nodes - length t.dues) a)

-- time goes on to a moment that no due lies before
pub armed-passed : (p : Params) (lines : List Line) (t : Timers) (at : ℕ) → NothingOverdue p lines at → AreArmed p lines t → AreArmed p lines (record { now = at; dues = t.dues })
armed-passed p lines t at none a = record { nodes = a.nodes; each = a.each; spare = a.spare; ahead = none }

pub overdue-of_due : (p : Params) (lines : List Line) (at : ℕ) → NothingDue p lines at → NothingOverdue p lines at
overdue-of_due p lines at none = nothing_overdue-from p lines at (dues_from-less p lines at (at + 1) (omega arith) (dues_from-nothing_due p lines at none))

-- ---- one line more

-- a known key's rank is one of its keys'
pub rank-within : (lines : List Line) (key : Key) (rank : ℕ) → has_key (known_keys lines) key ≡ true → rank ≡ place_among (known_keys lines) key → rank < length (known_keys lines)
rank-within lines key rank there is = rw is (within_length (known_keys lines) (place_among (known_keys lines) key) key (key_at (known_keys lines) key there))

pub known_at : (lines : List Line) (key : Key) (rank : ℕ) → has_key (known_keys lines) key ≡ true → rank ≡ place_among (known_keys lines) key → slice_get (known_keys lines) rank ≡ Some key
known_at lines key rank there is = rw is (key_at (known_keys lines) key there)

-- one key's timer was set
pub arms-known : (p : Params) (lines : List Line) (key : Key) (rank : ℕ) (due : Option ℕ) (t : Timers) → has_key (known_keys lines) key ≡ true → rank ≡ place_among (known_keys lines) key → length (known_keys lines) ≤ length t.dues → due ≡ due_of p lines key
    → ArmsOne p lines key t (record { now = t.now; dues = slice_set t.dues rank due })
arms-known p lines key rank due t there is nodes e =
    let at : slice_get (known_keys lines) rank ≡ Some key = subst (λ (n : ℕ). slice_get (known_keys lines) n ≡ Some key) (sym is) (key_at (known_keys lines) key there) in
    let within = within_length (known_keys lines) rank key at in
    record {
      now = refl;
      nodes = length-set t.dues rank due;
      here = λ other h.
          let same : other ≡ rank = sym (place_of_at (known_keys lines) other key (known_keys-distinct lines) h) ∙ sym is in
          subst (λ (n : ℕ). timers.due_of (slice_set t.dues rank due) n ≡ due_of p lines key) (sym same) (get_or-set_same t.dues rank due None (omega (arith, within, nodes)) ∙ e);
      others = λ node off. get_or-set_other t.dues rank node due None (λ same. off (subst (λ (n : ℕ). slice_get (known_keys lines) n ≡ Some key) (sym same) at));
    }

-- a key that isn't known has no timer
pub arms-unknown : (p : Params) (lines : List Line) (key : Key) (t : Timers) → has_key (known_keys lines) key ≡ false → ArmsOne p lines key t t
arms-unknown p lines key t off = record {
  now = refl;
  nodes = refl;
  here = λ rank h. absurd (false≢true (sym off ∙ has_at (known_keys lines) rank key h));
  others = λ node h. refl;
}

pub clears-cancelled : (node : ℕ) (due : Option ℕ) (t : Timers) → node < length t.dues → due ≡ None → ClearsOne node due t (record { now = t.now; dues = slice_set t.dues node None })
clears-cancelled node due t within e = record {
  now = refl;
  nodes = length-set t.dues node None;
  here = rw e (get_or-set_same t.dues node None None within);
  others = λ other ne. get_or-set_other t.dues node other None None ne;
}

left-some : (was due : Option ℕ) (d : ℕ) → due ≡ Some d → left_of was due ≡ was
left-some was due d e = rw e refl

pub clears-kept : (node : ℕ) (due : Option ℕ) (t : Timers) (d : ℕ) → due ≡ Some d → ClearsOne node due t t
clears-kept node due t d e = record {
  now = refl;
  nodes = refl;
  here = sym (left-some (timers.due_of t.dues node) due d e);
  others = λ other ne. refl;
}

pub clears-none : (p : Params) (lines : List Line) (t : Timers) → ClearsGone p lines [] t t
clears-none p lines t = record {
  now = refl;
  nodes = refl;
  here = λ rank key there e. absurd (false≢true there);
  others = λ node off. refl;
}

left_twice : (was due : Option ℕ) → left_of (left_of was due) due ≡ left_of was due
left_twice was None = refl
left_twice was (Some d) = refl

pub clears-more : (p : Params) (lines : List Line) (front : List ℕ) (next : ℕ) (due : Option ℕ) (old mid new : Timers) → ((key : Key) → slice_get (known_keys lines) next ≡ Some key → due ≡ due_of p lines key) → ClearsGone p lines front old mid → ClearsOne next due mid new → ClearsGone p lines (front ++ next ∷ []) old new
clears-more p lines front next due old mid new is all one = record {
  now = one.now ∙ all.now;
  nodes = one.nodes ∙ all.nodes;
  here = λ rank key there e. ⊎_elim
      (λ (same : rank ≡ next).
      let at = subst (λ (n : ℕ). slice_get (known_keys lines) n ≡ Some key) same e in
      subst (λ (n : ℕ). timers.due_of new.dues n ≡ left_of (timers.due_of old.dues n) (due_of p lines key)) (sym same)
      (one.here ∙ before key at (has next front) refl ∙ ap (left_of (timers.due_of old.dues next)) (is key at)))
      (λ (ne : rank ≢ next). one.others rank ne ∙ all.here rank key (among rank ne there) e)
      (cases_eq rank next);
  others = λ node off.
      let parts = or_parts (has node front) (eqb node next || false) (sym (list_any-append (eqb node) front (next ∷ [])) ∙ off) in
      one.others node (λ same. false≢true (sym (or_parts (eqb node next) false parts.1).0 ∙ eq-eqb node next same)) ∙ all.others node parts.0;
} where
  among : (rank : ℕ) → rank ≢ next → has rank (front ++ next ∷ []) ≡ true → has rank front ≡ true
  among rank ne there = or_false (has rank front) (eqb rank next) (ne_eqb rank next ne) (sym (list_any-append (eqb rank) front (next ∷ [])) ∙ there) where
    or_false : (a b : Bool) → b ≡ false → (a || (b || false)) ≡ true → a ≡ true
    or_false true b e h = refl
    or_false false true e h = sym e
    or_false false false e h = h

  before : (key : Key) → slice_get (known_keys lines) next ≡ Some key → (t : Bool) → has next front ≡ t → left_of (timers.due_of mid.dues next) due ≡ left_of (timers.due_of old.dues next) due
  before key at false off = ap (λ (was : Option ℕ). left_of was due) (all.others next off)
  before key at true there = ap (λ (was : Option ℕ). left_of was due) (all.here next key there at ∙ ap (left_of (timers.due_of old.dues next)) (sym (is key at))) ∙ left_twice (timers.due_of old.dues next) due

made-named : (o : Op) (key : Key) → made_known o ≡ Some key → key_of o ≡ Some key
made-named (op.Send k len) key e = e
made-named (op.Arp k mac true solicited) key e = e
made-named (op.Ns k mac) key e = e
made-named (op.Add k (Some mac) nud) key e = e
made-named (op.Replace k (Some mac) nud) key e = e
made-named _ key e = cc

-- a key that stood before the line, or the one that the line names
known-behind : (lines : List Line) (l : Line) (rank : ℕ) (key : Key) → slice_get (known_keys (lines ++ l ∷ [])) rank ≡ Some key → (slice_get (known_keys lines) rank ≡ Some key) ⊎ (key_of l.op ≡ Some key)
known-behind lines l rank key e = by_made (made_known l.op) refl (subst (λ (ks : List Key). slice_get ks rank ≡ Some key) (known_keys-snoc lines l) e) where
  by_made : (made : Option Key) → made_known l.op ≡ made → slice_get (with_key (known_keys lines) made) rank ≡ Some key → (slice_get (known_keys lines) rank ≡ Some key) ⊎ (key_of l.op ≡ Some key)
  by_made None m h = inl h
  by_made (Some k) m h = by_test (list_any (λ (other : Key). is_key other k) (known_keys lines)) h where
    by_test : (t : Bool) → slice_get (if t then known_keys lines else known_keys lines ++ k ∷ []) rank ≡ Some key → (slice_get (known_keys lines) rank ≡ Some key) ⊎ (key_of l.op ≡ Some key)
    by_test true g = inl g
    by_test false g = ⊎_elim
        (λ (old : slice_get (known_keys lines) rank ≡ Some key). inl old)
        (λ (same : k ≡ key). inr (made-named l.op k m ∙ ap Some same))
        (get_last (known_keys lines) k key rank g)

-- no key is forgotten
pub known-grows : (lines : List Line) (l : Line) → length (known_keys lines) ≤ length (known_keys (lines ++ l ∷ []))
known-grows lines l =
    let grown = known_keys-grow lines (l ∷ []) in
    let size = ap (λ (ks : List Key). length ks) grown.1 ∙ length-append (known_keys lines) grown.0 in
    omega (arith, size)

-- the due of a key that the line doesn't name stays
due-other : (p : Params) (lines : List Line) (l : Line) (named key : Key) → key_of l.op ≡ Some named → is_key named key ≡ false → due_of p (lines ++ l ∷ []) key ≡ due_of p lines key
due-other p lines l named key e off = ap (λ (s : State). s.entry.due) (state_of-snoc p lines l key) ∙ ap (λ (t : Stepped). t.state.entry.due) (change-other p l named key (state_of p lines key) e off)

-- a line that names no key leaves a due, or takes it away
due-unnamed : (p : Params) (lines : List Line) (l : Line) (key : Key) → key_of l.op ≡ None → left_of (due_of p lines key) (due_of p (lines ++ l ∷ []) key) ≡ due_of p (lines ++ l ∷ []) key
due-unnamed p lines l key e =
    let s = state_of p lines key in
    subst (λ (t : State). left_of s.entry.due t.entry.due ≡ t.entry.due) (sym (state_of-snoc p lines l key ∙ ap (λ (t : Stepped). t.state) (change_unnamed p l key s e)))
    (cond_both (removes p l s) (removed s) (stays s) (λ (t : Stepped). left_of s.entry.due t.state.entry.due ≡ t.state.entry.due) (λ _. refl) (λ _. left_same s.entry.due)) where
      left_same : (o : Option ℕ) → left_of o o ≡ o
      left_same None = refl
      left_same (Some d) = refl

-- and leaves it where it removes nothing
due-kept : (p : Params) (lines : List Line) (l : Line) (key : Key) → key_of l.op ≡ None → (removes p l (state_of p lines key) ≡ true → ⊥) → due_of p (lines ++ l ∷ []) key ≡ due_of p lines key
due-kept p lines l key e kept =
    ap (λ (t : State). t.entry.due) (state_of-snoc p lines l key) ∙ ap (λ (t : Stepped). t.state.entry.due) (change_unnamed p l key s e) ∙ by_test (removes p l s) refl
  where
    s : State
    s = state_of p lines key

    by_test : (t : Bool) → removes p l s ≡ t → (if t then removed s else stays s).state.entry.due ≡ s.entry.due
    by_test true on = absurd (kept on)
    by_test false off = refl

-- what a line leaves ahead of the timers' moment
pub ahead-behind : (p : Params) (lines : List Line) (l : Line) (t : Timers) → InRange p → AreArmed p lines t → t.now ≤ l.at → NothingOverdue p (lines ++ l ∷ []) t.now
ahead-behind p lines l t r a le = nothing_overdue-from p (lines ++ l ∷ []) t.now (dues_from-snoc p lines l t.now r (omega (arith, le)) (dues_from-nothing_overdue p lines t.now a.ahead))

armed-named : (p : Params) (lines : List Line) (l : Line) (named : Key) (old new : Timers) → key_of l.op ≡ Some named → NothingOverdue p (lines ++ l ∷ []) old.now → length (known_keys (lines ++ l ∷ [])) ≤ length old.dues → AreArmed p lines old → ArmsOne p (lines ++ l ∷ []) named old new → AreArmed p (lines ++ l ∷ []) new
armed-named p lines l named old new e ahead nodes a one = record {
  nodes = let same = one.nodes in omega (arith, nodes, same);
  each = λ rank key h. ⊎_elim
      (λ (same : named ≡ key). subst (λ (k : Key). timers.due_of new.dues rank ≡ due_of p (lines ++ l ∷ []) k) same (one.here rank (subst (λ (k : Key). slice_get (known_keys (lines ++ l ∷ [])) rank ≡ Some k) (sym same) h)))
      (λ (off : is_key named key ≡ false).
      one.others rank (λ other. apart key off (sym other ∙ h))
      ∙ ⊎_elim
      (λ (was : slice_get (known_keys lines) rank ≡ Some key). a.each rank key was ∙ sym (due-other p lines l named key e off))
      (λ (new_one : key_of l.op ≡ Some key). absurd (apart key off (sym e ∙ new_one)))
      (known-behind lines l rank key h))
      (key_cases named key);
  spare = λ node ge.
      one.others node (λ there. let lt = within_length (known_keys (lines ++ l ∷ [])) node named there in omega (arith, lt, ge))
      ∙ a.spare node (let grows = known-grows lines l in omega (arith, grows, ge));
  ahead = subst (λ (n : ℕ). NothingOverdue p (lines ++ l ∷ []) n) (sym one.now) ahead;
} where
  apart : (key : Key) → is_key named key ≡ false → Some named ≡ Some key → ⊥
  apart key off same = let one : named ≡ key = cc in false≢true (sym off ∙ subst (λ (k : Key). is_key named k ≡ true) one (is_key-same named))

unnamed-made : (o : Op) → key_of o ≡ None → made_known o ≡ None
unnamed-made op.Show e = refl
unnamed-made op.Flush e = refl
unnamed-made op.Sweep e = refl
unnamed-made _ e = cc

-- a rank among them is a known key's
small_one : (lines : List Line) (ranks : List ℕ) (rank : ℕ) → AllByRecursion (λ (r : ℕ). r < length (known_keys lines)) ranks → length (known_keys lines) ≤ rank → has rank ranks ≡ false
small_one lines ranks rank known ge = by_test (has rank ranks) refl where
  by_test : (t : Bool) → has rank ranks ≡ t → has rank ranks ≡ false
  by_test false off = off
  by_test true there = let lt = each_has (λ (r : ℕ). r < length (known_keys lines)) ranks rank known there in absurd (omega (arith, lt, ge))

-- a line that names no key, and the timers of ranks that hold those of all present keys
pub armed-over : (p : Params) (lines : List Line) (l : Line) (ranks : List ℕ) (old new : Timers) → InRange p → key_of l.op ≡ None → HoldsPresent p lines ranks → old.now ≤ l.at → AreArmed p lines old → ClearsGone p (lines ++ l ∷ []) ranks old new → AreArmed p (lines ++ l ∷ []) new
armed-over p lines l ranks old new r e held le a all = record {
  nodes = let nodes = a.nodes in let same = all.nodes in let size = ap (λ (ks : List Key). length ks) known in omega (arith, nodes, same, size);
  each = λ rank key h. each rank key h (subst (λ (ks : List Key). slice_get ks rank ≡ Some key) known h) (has rank ranks) refl;
  spare = λ node ge.
      let size = ap (λ (ks : List Key). length ks) known in
      let behind : length (known_keys lines) ≤ node = omega (arith, size, ge) in
      all.others node (small_one lines ranks node held.known behind) ∙ a.spare node behind;
  ahead = subst (λ (n : ℕ). NothingOverdue p (lines ++ l ∷ []) n) (sym all.now) (ahead-behind p lines l old r a le);
} where
  known : known_keys (lines ++ l ∷ []) ≡ known_keys lines
  known = known_same lines l (unnamed-made l.op e)

  each : (rank : ℕ) (key : Key) → slice_get (known_keys (lines ++ l ∷ [])) rank ≡ Some key → slice_get (known_keys lines) rank ≡ Some key → (t : Bool) → has rank ranks ≡ t → timers.due_of new.dues rank ≡ due_of p (lines ++ l ∷ []) key
  each rank key after before true there =
      all.here rank key there after
      ∙ ap (λ (was : Option ℕ). left_of was (due_of p (lines ++ l ∷ []) key)) (a.each rank key before)
      ∙ due-unnamed p lines l key e
  each rank key after before false off =
      all.others rank off
      ∙ a.each rank key before
      ∙ sym (due-kept p lines l key e (λ on.
      let there = held.present key (removes_present p l (state_of p lines key) e on) in
      false≢true (sym off ∙ ap (λ (n : ℕ). has n ranks) (sym (place_of_at (known_keys lines) rank key (known_keys-distinct lines) before)) ∙ there)))

-- a line that names a key
pub armed-behind : (p : Params) (lines : List Line) (l : Line) (old new : Timers) → InRange p → goes_to_each l.op ≡ false → old.now ≤ l.at → length (known_keys (lines ++ l ∷ [])) ≤ length old.dues → AreArmed p lines old → ((key : Key) → key_of l.op ≡ Some key → ArmsOne p (lines ++ l ∷ []) key old new)
    → AreArmed p (lines ++ l ∷ []) new
armed-behind p lines l old new r one le nodes a named = by_key (key_of l.op) refl where
  by_key : (o : Option Key) → key_of l.op ≡ o → AreArmed p (lines ++ l ∷ []) new
  by_key None e = absurd (false≢true (sym one ∙ unnamed_each l.op e))
  by_key (Some key) e = armed-named p lines l key old new e (ahead-behind p lines l old r a le) nodes a (named key e)

-- ---- room for the nodes of a line

-- a line that makes no key known needs no node
pub bare-nodes : (p : Params) (lines : List Line) (l : Line) (t : Timers) → made_known l.op ≡ None → AreArmed p lines t → length (known_keys (lines ++ l ∷ [])) ≤ length t.dues
bare-nodes p lines l t e a = rw (known_same lines l e) a.nodes

-- the timers' moment isn't behind the next timer
pub next-ahead : (p : Params) (lines : List Line) (l : Line) (t : Timers) → AreArmed p lines t → IsNextTimer p lines l → t.now ≤ l.at
next-ahead p lines l t a next = dues_from-nothing_overdue p lines t.now a.ahead next.key l.at next.next.due

pub timer-one : (p : Params) (lines : List Line) (l : Line) → IsNextTimer p lines l → goes_to_each l.op ≡ false
timer-one p lines l next = ap (λ (x : Line). goes_to_each x.op) next.line_is

pub timer-made : (p : Params) (lines : List Line) (l : Line) → IsNextTimer p lines l → made_known l.op ≡ None
timer-made p lines l next = ap (λ (x : Line). made_known x.op) next.line_is
