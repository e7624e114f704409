-- What a bucket's fields are, as an operation is entered.
use Rattle.std.proofs.Common.{◌≡◌, ℕ, ◌+◌, ◌<◌, ◌≤◌, Bool, true, false, ◌&&◌, is_some, if◌then◌else◌, List, [], ◌∷◌, ◌++◌, length, Option, Some, None, refl, sym, ◌∙◌, ap, subst, arith, append_assoc, append-nil}
use Rattle.std.specs.Prelude.{map, IfSome}
use Rattle.std.proofs.lemmas.List.{length-append, length-map}
use Rattle.nb_base.specs.declared.key.Key.{Key}
use Rattle.nb_base.specs.declared.time.OpId.{OpId}
use Rattle.nb_base.specs.declared.params.Params.{Params}
use Rattle.nb_base.specs.declared.op.Op.{Op}
use Rattle.nb_base.specs.declared.line.Line.{Line}
use Rattle.nb_base.specs.declared.line.Reply.{Reply}
use Rattle.nb_base.specs.Params.{InRange}
use Rattle.nud_machine.specs.Asked.{greatest}
use Rattle.nb_journal.specs.Keys.{is_own}
use Rattle.nb_journal.specs.Fold.{seen_of, present_count}
use Rattle.nb_journal.specs.Lawful.{before_sweep, base_of, making, HasSeen, is_pass_due, last_pass, collect_line, collects, has_pass, asked_of_pass, full_of, IsLawful}
use Rattle.nb_journal.proofs.Folds.{last_pass-snoc}
use Rattle.nb_journal.proofs.Fits.{before_early}
use Rattle.nb_journal.proofs.Passes.{goes_on}
use Rattle.nb_bucket.specs.Bucket.{Journal, operation_line, full_line, brought, IsReplyTo, Lawful, HasNoRoom, IsTotal, EntersNext, Operation}
use Rattle.nb_bucket.specs.Keeps.{IsNextSweep, FollowsJournal}
use Rattle.nb_bucket.specs.Counting.{CensusShown, IsCensusOf, LooksFor}
use Rattle.nb_bucket.specs.Entering.{IsEntered}
use Rattle.nb_bucket.specs.Planned.{planned_line, IsPlanned}
use Rattle.nb_bucket.specs.declared.passing.Planned.{Planned}
use Rattle.nb_bucket.proofs.NextSweep.{before_one_more, lawful-ahead}
use Rattle.nb_bucket.proofs.Collects.{pass-collects}
use Rattle.nb_bucket.proofs.Entered.{making-full, collects-full, full_of-full, has_seen, seen-full, base_of-behind}

-- ---- the lines

pub length-brought : (p : Params) (lines : List Line) (l : Line) → length (brought p lines l) ≡ length (asked_of_pass p lines l) + 1
length-brought p lines l =
    length-append (collects p lines l) (full_line p lines l ∷ [])
    ∙ ap (λ (n : ℕ). n + 1) (length-map (asked_of_pass p lines l) (collect_line l.at))

-- a lawful journal goes on by them
pub brought-lawful : (p : Params) (lines : List Line) (l : Line) → InRange p → IsLawful p lines l.at → is_own l.op ≡ true → is_some l.id ≡ true → HasSeen p lines l → IsLawful p (lines ++ brought p lines l) l.at
brought-lawful p lines l r lawful own id seen =
    let line = full_line p lines l in
    let same = collects-full p lines l line.full in
    let full : line.full ≡ full_of p (lines ++ collects p lines line) line =
    sym (full_of-full p (lines ++ collects p lines l) l line.full) ∙ ap (λ (xs : List Line). full_of p (lines ++ xs) line) (sym same) in
    subst (λ (xs : List Line). IsLawful p xs l.at) (append_assoc lines (collects p lines l) (line ∷ []))
    (subst (λ (xs : List Line). IsLawful p ((lines ++ xs) ++ line ∷ []) l.at) same (goes_on p lines line r lawful own id (seen-full p lines l line.full seen) full))

-- ---- what the line saw

looks-least : (n : ℕ) (s t : CensusShown) (seen : Option ℕ) → s.share ≡ n → LooksFor s t seen → IfSome seen (λ v. n ≤ v)
looks-least n s t None e l = tt
looks-least n s t (Some v) e l = subst (λ (m : ℕ). m ≤ v) e l.least

-- and the sum, where the others' number is told
pub looks-total : (p : Params) (lines : List Line) (s t : CensusShown) (seen : Option ℕ) → IsCensusOf p lines s → LooksFor s t seen → IsTotal p lines s.others seen
looks-total p lines s t None is l = none s.others where
  none : (others : Option ℕ) → IsTotal p lines others None
  none None = tt
  none (Some n) = tt
looks-total p lines s t (Some v) is l = subst (λ (share : ℕ). IfSome s.others (λ n. v ≡ share + n)) is.share l.told

-- a planned line sees at least what is present, exactly where it is to make an entry
pub planned-saw : (p : Params) (lines : List Line) (bare : Line) (plan : Planned) (victims : List Key) (s t : CensusShown) → is_own bare.op ≡ true → IsPlanned p lines bare plan victims → IsCensusOf p lines s → LooksFor s t plan.seen
    → HasSeen p lines (planned_line bare plan)
planned-saw p lines bare plan victims s t own planned is looks =
    has_seen p lines (planned_line bare plan) own (planned.there ∙ ap (λ (made : Option Key). is_some made) planned.made_is) (looks-least (present_count p lines) s t plan.seen is.share looks)

-- ---- the next sweep

collects-before : (next at : ℕ) (lines : List Line) (keys : List Key) → at < next → lines ≡ before_sweep next lines → lines ++ map (collect_line at) keys ≡ before_sweep next (lines ++ map (collect_line at) keys)
collects-before next at lines [] lt e = subst (λ (xs : List Line). xs ≡ before_sweep next xs) (sym (append-nil lines)) e
collects-before next at lines (k ∷ ks) lt e =
    subst (λ (xs : List Line). xs ≡ before_sweep next xs) (append_assoc lines (collect_line at k ∷ []) (map (collect_line at) ks))
    (collects-before next at (lines ++ collect_line at k ∷ []) ks lt (before_one_more next lines (collect_line at k) e (before_early next (collect_line at k) lt)))

brought-before : (p : Params) (lines : List Line) (l : Line) (next : ℕ) → l.at < next → lines ≡ before_sweep next lines → lines ++ brought p lines l ≡ before_sweep next (lines ++ brought p lines l)
brought-before p lines l next lt e =
    let line = full_line p lines l in
    subst (λ (xs : List Line). xs ≡ before_sweep next xs) (append_assoc lines (collects p lines l) (line ∷ []))
    (before_one_more next (lines ++ collects p lines l) line (collects-before next l.at lines (asked_of_pass p lines l) lt e) (before_early next line lt))

pub next-brought : (p : Params) (lines : List Line) (l : Line) (clock next : ℕ) → IsNextSweep p lines clock next → clock ≤ l.at → l.at < next → IsLawful p (lines ++ brought p lines l) l.at → IsNextSweep p (lines ++ brought p lines l) l.at next
next-brought p lines l clock next n le lt lawful = record {
  moment = n.moment;
  before = brought-before p lines l next lt n.before;
  swept = λ u is early. lawful.sweeps u is (let past = n.passed u is early in omega (arith, past, le));
  passed = λ u is early. let past = n.passed u is early in omega (arith, past, le);
}

-- ---- the last forced pass

pub pass-brought : (p : Params) (lines : List Line) (l : Line) → base_of lines ≡ lines → last_pass p (lines ++ brought p lines l) ≡ (if has_pass p lines l then l.at else last_pass p lines)
pass-brought p lines l bare =
    let line = full_line p lines l in
    let past = lines ++ collects p lines l in
    let before : last_pass p past ≡ last_pass p lines = pass-collects p lines l.at (asked_of_pass p lines l) in
    ap (last_pass p) (sym (append_assoc lines (collects p lines l) (line ∷ [])))
    ∙ last_pass-snoc p past line
    ∙ ap (λ (base : List Line). if is_some (making p base line) && is_pass_due p (seen_of l) (last_pass p past) l.at then l.at else last_pass p past) (base_of-behind p lines l bare)
    ∙ ap (λ (last : ℕ). if is_some (making p lines line) && is_pass_due p (seen_of l) last l.at then l.at else last) before
    ∙ ap (λ (made : Option Key). if is_some made && is_pass_due p (seen_of l) (last_pass p lines) l.at then l.at else last_pass p lines) (making-full p lines l line.full)

-- ---- what the bucket's fields are

pub follows-brought : (p : Params) (limit : ℕ) (lines : List Line) (clock next pass : ℕ) (l : Line) (last : ℕ) → FollowsJournal p limit lines clock next pass
    → clock ≤ l.at → l.at ≤ greatest → IsLawful p lines l.at → is_own l.op ≡ true → is_some l.id ≡ true → HasSeen p lines l
    → length lines + (length (asked_of_pass p lines l) + 1) ≤ limit → last ≡ (if has_pass p lines l then l.at else pass) → last ≤ greatest
    → FollowsJournal p limit (lines ++ brought p lines l) l.at next last
follows-brought p limit lines clock next pass l last k le now lawful own id seen room passed early =
    let more = brought-lawful p lines l k.params lawful own id seen in
    record {
      params = k.params;
      few = let size = length-append lines (brought p lines l) in let some = length-brought p lines l in omega (arith, size, some, room);
      most = k.most;
      in_run = now;
      stands = Lawful more;
      next = next-brought p lines l clock next k.next le (lawful-ahead p lines clock next l.at k.next lawful) more;
      last = passed ∙ ap (λ (m : ℕ). if has_pass p lines l then l.at else m) k.last ∙ sym (pass-brought p lines l lawful.orderly.passes_only);
      early = early;
    }

-- ---- the answers

-- an operation for whose lines there is no room comes next
pub full-entered : (journal : Journal) (at : ℕ) (id : OpId) (o : Op) (others seen : Option ℕ) (has many : ℕ) → IsTotal journal.params journal.lines others seen → InRange journal.params → IsLawful journal.params journal.lines at → is_own o ≡ true
    → HasSeen journal.params journal.lines (operation_line at id o seen) → has ≡ length journal.lines → many ≡ length (asked_of_pass journal.params journal.lines (operation_line at id o seen))
    → journal.limit < has + (many + 1) → HasNoRoom journal (EntersNext journal.params journal.lines at id o others) has (many + 1)
full-entered journal at id o others seen has many total r lawful own saw is count too =
    let line = operation_line at id o seen in
    record {
      has_is = is;
      next = brought journal.params journal.lines line;
      comes = Operation seen total lawful (brought-lawful journal.params journal.lines line r lawful own refl saw);
      needs_is = ap (λ (n : ℕ). n + 1) count ∙ sym (length-brought journal.params journal.lines line);
      too_many = too;
    }

pub is_entered : (old : Journal) (p : Params) (lines : List Line) (at : ℕ) (id : OpId) (o : Op) (seen : Option ℕ) (has count : ℕ) (reply : Reply) → InRange old.params → IsLawful old.params old.lines at → is_own o ≡ true
    → HasSeen old.params old.lines (operation_line at id o seen) → p ≡ old.params → lines ≡ old.lines ++ brought old.params old.lines (operation_line at id o seen) → has ≡ length old.lines
    → count ≡ length (asked_of_pass old.params old.lines (operation_line at id o seen)) → IsReplyTo old.params old.lines (operation_line at id o seen) reply
    → IsEntered old (record { params = p; limit = old.limit; lines = lines; clock = at }) at id o (has + count) reply
is_entered old p lines at id o seen has count reply r lawful own saw params grown is asked answer =
    let line = operation_line at id o seen in
    record {
      lawful_before = lawful;
      seen = seen;
      new_is = ap (λ (x : Params × List Line). (let made : Journal = record { params = x.0; limit = old.limit; lines = x.1; clock = at } in made)) (λ i. (params i, grown i));
      lawful = subst (λ (xs : List Line). IsLawful old.params xs at) (sym grown) (brought-lawful old.params old.lines line r lawful own refl saw);
      place_is =
          let size = ap (λ (xs : List Line). length xs) grown ∙ length-append old.lines (brought old.params old.lines line) in
          let some = length-brought old.params old.lines line in
          omega (arith, size, some, is, asked);
      reply_is = answer;
    }

pub later_of : (t : Bool) (at last : ℕ) → at ≤ greatest → last ≤ greatest → (if t then at else last) ≤ greatest
later_of true at last a b = a
later_of false at last a b = b
