-- What a bucket's fields are, as its journal goes on by time.
use Rattle.std.proofs.Common.{◌≡◌, ℕ, ◌+◌, ◌<◌, ◌≤◌, List, [], ◌∷◌, ◌++◌, length, refl, sym, ◌∙◌, subst, arith}
use Rattle.std.proofs.lemmas.List.{length-append}
use Rattle.nb_base.specs.declared.key.Key.{Key}
use Rattle.nb_base.specs.declared.params.Params.{Params}
use Rattle.nb_base.specs.declared.line.Line.{Line}
use Rattle.nb_base.specs.Params.{InRange}
use Rattle.nb_journal.proofs.Appends.{lawful-nil}
use Rattle.nb_journal.proofs.Folds.{last_pass-nil}
use Rattle.nud_machine.specs.Asked.{greatest}
use Rattle.nb_journal.specs.Fold.{present_count}
use Rattle.nb_journal.specs.Lawful.{last_moment, base_of, NothingDue, IsNextDue, sweep_line, IsLawful}
use Rattle.nb_journal.specs.Accounts.{timer_line}
use Rattle.nb_bucket.specs.Bucket.{most_lines, Journal, Stands, Lawful, BrokenOff, ComesNext, Timer, HasNoRoom, Sweep}
use Rattle.nb_bucket.specs.Keeps.{IsNextSweep, FollowsJournal}
use Rattle.nb_bucket.specs.Dues.{IsNextTimer}
use Rattle.nb_bucket.proofs.NextSweep.{next-nil, next-timer, timer-broken_off, next-sweep, sweep-lawful, lawful_at, next-later}
use Rattle.nb_bucket.proofs.Makes.{pass-same}

pub follows-nil : (p : Params) (limit : ℕ) → InRange p → limit ≤ most_lines → FollowsJournal p limit [] 0 p.gc_interval 0
follows-nil p limit r most = record {
  params = r;
  few = omega arith;
  most = most;
  in_run = omega arith;
  stands = Lawful (lawful-nil p r);
  next = next-nil p r;
  last = sym (last_pass-nil p);
  early = omega arith;
}

-- no collect line stands last
pub stands-bare : (p : Params) (lines : List Line) (clock : ℕ) → Stands p lines clock → base_of lines ≡ lines
stands-bare p lines clock (Lawful lawful) = lawful.orderly.passes_only
stands-bare p lines clock (BrokenOff broken) = broken.orderly.passes_only

-- ---- timers

pub follows-timer : (p : Params) (limit : ℕ) (lines : List Line) (clock next pass : ℕ) (key : Key) (at : ℕ) → FollowsJournal p limit lines clock next pass
    → IsNextDue p lines key at → at ≤ next → at ≤ greatest → length lines < limit → FollowsJournal p limit (lines ++ timer_line at key ∷ []) at next pass
follows-timer p limit lines clock next pass key at k due le now room = record {
  params = k.params;
  few = let more = length-append lines (timer_line at key ∷ []) in omega (arith, more, room);
  most = k.most;
  in_run = now;
  stands = BrokenOff (timer-broken_off p lines clock next key at k.params k.stands k.next due le);
  next = next-timer p lines clock next key at k.params k.stands k.next due le;
  last = k.last ∙ sym (pass-same p lines (timer_line at key) refl);
  early = k.early;
}

-- behind the next timer's line
pub follows-next_timer : (p : Params) (limit : ℕ) (lines : List Line) (clock next pass : ℕ) (line : Line) → FollowsJournal p limit lines clock next pass
    → IsNextTimer p lines line → line.at ≤ next → line.at ≤ greatest → length lines < limit → FollowsJournal p limit (lines ++ line ∷ []) line.at next pass
follows-next_timer p limit lines clock next pass line k t le now room =
    subst (λ (l : Line). FollowsJournal p limit (lines ++ l ∷ []) line.at next pass) (sym t.line_is) (follows-timer p limit lines clock next pass t.key line.at k t.next le now room)

pub next-next_timer : (p : Params) (lines : List Line) (clock next : ℕ) (line : Line) → InRange p → Stands p lines clock → IsNextSweep p lines clock next → IsNextTimer p lines line → line.at ≤ next → IsNextSweep p (lines ++ line ∷ []) line.at next
next-next_timer p lines clock next line r stands n t le = subst (λ (l : Line). IsNextSweep p (lines ++ l ∷ []) line.at next) (sym t.line_is) (next-timer p lines clock next t.key line.at r stands n t.next le)

-- a timer's line for which there is no room comes next
pub full-next_timer : (journal : Journal) (until next : ℕ) (line : Line) (has : ℕ) → InRange journal.params → Stands journal.params journal.lines journal.clock → IsNextSweep journal.params journal.lines journal.clock next
    → IsNextTimer journal.params journal.lines line → line.at ≤ until → until ≤ next → has ≡ length journal.lines → journal.limit < has + 1 → HasNoRoom journal (ComesNext journal.params journal.lines until) has 1
full-next_timer journal until next line has r stands n t due le is many = record {
  has_is = is;
  next = timer_line line.at t.key ∷ [];
  comes = Timer t.key line.at due t.next (timer-broken_off journal.params journal.lines journal.clock next t.key line.at r stands n t.next (omega (arith, due, le)));
  needs_is = refl;
  too_many = many;
}

-- ---- sweeps

pub follows-sweep : (p : Params) (limit : ℕ) (lines : List Line) (clock next : ℕ) (pass seen : ℕ) → FollowsJournal p limit lines clock next pass → NothingDue p lines next → present_count p lines ≤ seen
    → next ≤ greatest → length lines < limit → FollowsJournal p limit (lines ++ sweep_line next seen ∷ []) next (next + p.gc_interval) pass
follows-sweep p limit lines clock next pass seen k none enough now room = record {
  params = k.params;
  few = let more = length-append lines (sweep_line next seen ∷ []) in omega (arith, more, room);
  most = k.most;
  in_run = now;
  stands = Lawful (sweep-lawful p lines clock next seen k.params k.stands k.next none enough);
  next = next-sweep p lines clock next seen k.params k.stands k.next none enough;
  last = k.last ∙ sym (pass-same p lines (sweep_line next seen) refl);
  early = k.early;
}

-- a sweep's line for which there is no room comes next
pub full-sweep : (journal : Journal) (next has : ℕ) → InRange journal.params → Stands journal.params journal.lines journal.clock → IsNextSweep journal.params journal.lines journal.clock next → NothingDue journal.params journal.lines next
    → has ≡ length journal.lines → journal.limit < has + 1 → HasNoRoom journal (ComesNext journal.params journal.lines next) has 1
full-sweep journal next has r stands n none is many =
    let seen = present_count journal.params journal.lines in
    record {
      has_is = is;
      next = sweep_line next seen ∷ [];
      comes = Sweep next seen (omega arith) n.moment (sweep-lawful journal.params journal.lines journal.clock next seen r stands n none (omega arith));
      needs_is = refl;
      too_many = many;
    }

-- ---- at a moment up to which all that comes by time stands

pub last_within : (p : Params) (lines : List Line) (clock : ℕ) → Stands p lines clock → last_moment lines ≤ clock
last_within p lines clock (Lawful lawful) = lawful.within
last_within p lines clock (BrokenOff broken) = broken.within

pub reached-lawful : (p : Params) (limit : ℕ) (lines : List Line) (clock next : ℕ) (pass to : ℕ) → FollowsJournal p limit lines clock next pass → NothingDue p lines to → to < next → clock ≤ to → IsLawful p lines to
reached-lawful p limit lines clock next pass to k none lt le =
    let last = last_within p lines clock k.stands in lawful_at p lines clock next to k.params k.stands k.next lt (omega (arith, last, le)) none

pub follows-settled : (p : Params) (limit : ℕ) (lines : List Line) (clock next : ℕ) (pass to : ℕ) → FollowsJournal p limit lines clock next pass → IsLawful p lines to → clock ≤ to → to ≤ greatest → FollowsJournal p limit lines to next pass
follows-settled p limit lines clock next pass to k lawful le now = record {
  params = k.params;
  few = k.few;
  most = k.most;
  in_run = now;
  stands = Lawful lawful;
  next = next-later p lines clock to next le k.next;
  last = k.last;
  early = k.early;
}
