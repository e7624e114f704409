-- How the census counts along with lines.
use Rattle.std.proofs.Common.{◌≡◌, ⊎_elim, ℕ, ◌+◌, ◌≤◌, true, false, List, [], ◌∷◌, ◌++◌, length, Option, Some, None, Result, Ok, Err, refl, sym, ◌∙◌, ap, subst, arith, append_assoc, append-nil}
use Rattle.std.specs.Prelude.{◌==◌, map, IfSome, OnErr}
use Rattle.std.specs.List.{AllByRecursion as Each, AllZip}
use Rattle.std.proofs.lemmas.Bool.Decides.{eqb_tells}
use Rattle.std.proofs.lemmas.List.{length-append, length-map, map-append}
use Rattle.nb_base.specs.declared.key.Key.{Key}
use Rattle.nb_base.specs.declared.params.Params.{Params}
use Rattle.nb_base.specs.declared.line.Line.{Line}
use Rattle.nb_journal.specs.Fold.{present_count}
use Rattle.nb_journal.specs.Keys.{is_own}
use Rattle.nb_journal.specs.Lawful.{each_line, base_of, is_collect, collect_line, asked_of_pass, collects}
use Rattle.nb_journal.specs.Laws.{Saw}
use Rattle.nb_journal.proofs.Lines.{base_of-other}
use Rattle.nb_journal.proofs.Appends.{own_other}
use Rattle.nb_journal.proofs.Passes.{base_of-collects}
use Rattle.change_order.specs.Ticks.{second, IsNext}
use Rattle.change_order.specs.Orders.{LookingLine, JournalCounts, AreAmong, IsLookOf, HasCounts}
use Rattle.change_order.specs.Growing.{part_of}
use Rattle.change_order.specs.Calls.{later_by, with_call}
use Rattle.change_order.proofs.Growing.{look_now, look_awaits, none_counts, next-length}
use Rattle.journal_counts.specs.Counts.{if_changed, behind_line, behind_lines, looked_at, looked_in, call_of}
use Rattle.journal_counts.proofs.Joins.{base_of-behind, behind_lines-append, looked_in-append, looked_at-later, looked-join}
use Rattle.nb_bucket.specs.Bucket.{full_line, brought}
use Rattle.nb_bucket.specs.Dues.{IsNextTimer}
use Rattle.nb_bucket.specs.Counting.{CensusShown, IsCensusOf, ChangesBy, LooksBy, CountsAlong, CountsRefused, CountsLine, LooksFor, CountsCollects, CountsBrought}
use Rattle.nb_bucket.proofs.Chosen.{each-first, each-next, among-append, among-itself, zip-append, Follow, none-follow, one-follows, both-follow, chosen-before}

-- ---- one line

if_changed-same : (was now : ℕ) → (was == now) ≡ true → if_changed was now ≡ []
if_changed-same was now e = rw e refl

if_changed-other : (was now : ℕ) → (was == now) ≡ false → if_changed was now ≡ now ∷ []
if_changed-other was now e = rw e refl

-- ---- changes

changes-none : (s t : CensusShown) → t.changes ≡ s.changes → ChangesBy [] s t
changes-none s t e = record { made = []; grown = e ∙ sym (append-nil s.changes); numbers_are = refl; behind = none-follow s.looks }

-- a line's
line-changes : (was now : ℕ) (s t : CensusShown) → CountsLine was now s t → ChangesBy (if_changed was now) s t
line-changes was now s t c = ⊎_elim
    (λ (e : ((was == now) ≡ true) × (was ≡ now)). subst (λ (ns : List ℕ). ChangesBy ns s t) (sym (if_changed-same was now e.0)) (changes-none s t (c.same e.1)))
    (λ (e : ((was == now) ≡ false) × (was ≡ now → ⊥)). subst (λ (ns : List ℕ). ChangesBy ns s t) (sym (if_changed-other was now e.0)) (next (c.other e.1)))
    (eqb_tells was now)
  where
    next : IsNext s.changes t.changes s.changes s.looks now → ChangesBy (now ∷ []) s t
    next n = record { made = (n.tick, now) ∷ []; grown = n.grown; numbers_are = refl; behind = one-follows n.tick now s.looks n.later.behind }

-- of two parts, where looks may come in the first
changes-join : (xs ys : List ℕ) (s t u : CensusShown) (looks : List (ℕ × ℕ)) → t.looks ≡ s.looks ++ looks → ChangesBy xs s t → ChangesBy ys t u → ChangesBy (xs ++ ys) s u
changes-join xs ys s t u looks e a b = record {
  made = a.made ++ b.made;
  grown = b.grown ∙ ap (λ (cs : List (ℕ × ℕ)). cs ++ b.made) a.grown ∙ append_assoc s.changes a.made b.made;
  numbers_are = map-append second a.made b.made ∙ ap (λ (ns : List ℕ). ns ++ map second b.made) a.numbers_are ∙ ap (λ (ns : List ℕ). xs ++ ns) b.numbers_are;
  behind = both-follow a.made b.made s.looks a.behind (each-first (Follow b.made) s.looks looks (subst (λ (ls : List (ℕ × ℕ)). Each (Follow b.made) ls) e b.behind));
}

-- where none do
changes-then : (xs ys : List ℕ) (s t u : CensusShown) → t.looks ≡ s.looks → ChangesBy xs s t → ChangesBy ys t u → ChangesBy (xs ++ ys) s u
changes-then xs ys s t u e a b = changes-join xs ys s t u [] (e ∙ sym (append-nil s.looks)) a b

-- ---- the share

line-few : (was now : ℕ) (s t : CensusShown) → CountsLine was now s t → length t.changes ≤ length s.changes + 1
line-few was now s t c = ⊎_elim
    (λ (e : ((was == now) ≡ true) × (was ≡ now)). let same = ap (λ (xs : List (ℕ × ℕ)). length xs) (c.same e.1) in omega (arith, same))
    (λ (e : ((was == now) ≡ false) × (was ≡ now → ⊥)). let more = next-length s.changes t.changes s.changes s.looks now (c.other e.1) in omega (arith, more))
    (eqb_tells was now)

census-line : (p : Params) (lines : List Line) (l : Line) (s t : CensusShown) → IsCensusOf p lines s → CountsLine (present_count p lines) (present_count p (lines ++ l ∷ [])) s t → IsCensusOf p (lines ++ l ∷ []) t
census-line p lines l s t is c = record {
  share = c.share;
  few = let one = line-few (present_count p lines) (present_count p (lines ++ l ∷ [])) s t c in let few = is.few in let more = length-append lines (l ∷ []) in omega (arith, one, few, more);
}

-- ---- collect lines

behind-snoc : (p : Params) (base lines : List Line) (l : Line) → behind_lines p base (lines ++ l ∷ []) ≡ behind_lines p base lines ++ behind_line p (base ++ lines) l
behind-snoc p base lines l = behind_lines-append p base lines (l ∷ []) ∙ ap (λ (ns : List ℕ). behind_lines p base lines ++ ns) (append-nil (behind_line p (base ++ lines) l))

pub collects-none : (p : Params) (base : List Line) (s : CensusShown) → IsCensusOf p base s → CountsCollects p base [] s s
collects-none p base s is = record {
  name = refl;
  others = refl;
  looks = refl;
  is = subst (λ (xs : List Line). IsCensusOf p xs s) (sym (append-nil base)) is;
  changes = changes-none s s refl;
}

pub collects-more : (p : Params) (base lines : List Line) (l : Line) (s t u : CensusShown) → CountsCollects p base lines s t
    → CountsLine (present_count p (base ++ lines)) (present_count p ((base ++ lines) ++ l ∷ [])) t u → CountsCollects p base (lines ++ l ∷ []) s u
collects-more p base lines l s t u first c =
    record {
      name = c.name ∙ first.name;
      others = c.others ∙ first.others;
      looks = c.looks ∙ first.looks;
      is = subst (λ (xs : List Line). IsCensusOf p xs u) (append_assoc base lines (l ∷ [])) (census-line p (base ++ lines) l t u first.is c);
      changes = subst (λ (ns : List ℕ). ChangesBy ns s u) (sym (behind-snoc p base lines l))
          (changes-then (behind_lines p base lines) (behind_line p (base ++ lines) l) s t u first.looks first.changes (line-changes (present_count p (base ++ lines)) (present_count p ((base ++ lines) ++ l ∷ [])) t u c));
    }

-- ---- looks

looks-name : (s t : CensusShown) (seen : Option ℕ) → LooksFor s t seen → t.name ≡ s.name
looks-name s t None e = ap (λ (c : CensusShown). c.name) e
looks-name s t (Some v) l = l.name

looks-others : (s t : CensusShown) (seen : Option ℕ) → LooksFor s t seen → t.others ≡ s.others
looks-others s t None e = ap (λ (c : CensusShown). c.others) e
looks-others s t (Some v) l = l.others

looks-changes : (s t : CensusShown) (seen : Option ℕ) → LooksFor s t seen → t.changes ≡ s.changes
looks-changes s t None e = ap (λ (c : CensusShown). c.changes) e
looks-changes s t (Some v) l = l.changes

census-looked : (p : Params) (lines : List Line) (s t : CensusShown) (seen : Option ℕ) → IsCensusOf p lines s → LooksFor s t seen → IsCensusOf p lines t
census-looked p lines s t None is e = subst (IsCensusOf p lines) (sym e) is
census-looked p lines s t (Some v) is l = record {
  share = l.share ∙ is.share;
  few = let same = ap (λ (xs : List (ℕ × ℕ)). length xs) l.changes in let few = is.few in omega (arith, same, few);
}

looks-none : (s t : CensusShown) → t.looks ≡ s.looks → LooksBy [] s t
looks-none s t e = record { made = []; grown = e ∙ sym (append-nil s.looks); each = tt }

-- a look of a line that stands behind all changes so far
looks-for : (s t : CensusShown) (seen : Option ℕ) → LooksFor s t seen → LooksBy (looked_at (length s.changes) seen) s t
looks-for s t None e = looks-none s t (ap (λ (c : CensusShown). c.looks) e)
looks-for s t (Some v) l =
    let line : LookingLine = record { before = length s.changes; seen = v } in
    record {
      made = (l.look.tick, v) ∷ [];
      grown = l.look.grown;
      each = (subst (λ (cs : List (ℕ × ℕ)). IsLookOf cs (l.look.tick, v) line) (sym l.changes) (look_now s.changes l.look.tick v l.look.later.above), tt);
    }

-- of two parts
looks-join : (xs ys : List LookingLine) (numbers : List ℕ) (s t u : CensusShown) → LooksBy xs s t → ChangesBy numbers t u → LooksBy ys t u → LooksBy (xs ++ ys) s u
looks-join xs ys numbers s t u a c b =
    let follow = each-next (Follow c.made) s.looks a.made (subst (λ (ls : List (ℕ × ℕ)). Each (Follow c.made) ls) a.grown c.behind) in
    record {
      made = a.made ++ b.made;
      grown = b.grown ∙ ap (λ (ls : List (ℕ × ℕ)). ls ++ b.made) a.grown ∙ append_assoc s.looks a.made b.made;
      each = zip-append (IsLookOf u.changes) a.made b.made xs ys
          (subst (λ (cs : List (ℕ × ℕ)). AllZip (IsLookOf cs) a.made xs) (sym c.grown) (chosen-before t.changes c.made a.made a.made xs follow (among-itself a.made) a.each)) b.each;
    }

-- ---- collect lines and the line behind them

looked-collects : (p : Params) (past front : List Line) (at : ℕ) (keys : List Key) → looked_in p past front (map (collect_line at) keys) ≡ []
looked-collects p past front at [] = refl
looked-collects p past front at (k ∷ ks) = looked-collects p past (front ++ collect_line at k ∷ []) at ks

-- the line that looks stands behind no other changing line of theirs
looked-brought : (p : Params) (base : List Line) (at : ℕ) (keys : List Key) (l : Line) → looked_in p base [] (map (collect_line at) keys ++ l ∷ []) ≡ looked_at 0 l.seen
looked-brought p base at keys l =
    let collected = map (collect_line at) keys in
    looked_in-append p base [] collected (l ∷ [])
    ∙ ap (λ (ls : List LookingLine). ls ++ looked_in p base collected (l ∷ [])) (looked-collects p base [] at keys)
    ∙ append-nil (looked_at (length (behind_lines p base (base_of collected))) l.seen)
    ∙ ap (λ (xs : List Line). looked_at (length (behind_lines p base xs)) l.seen) (base_of-collects [] at keys)

brought-changes : (p : Params) (base : List Line) (at : ℕ) (keys : List Key) (l : Line) (t u v : CensusShown) → CountsCollects p base (map (collect_line at) keys) t u
    → CountsLine (present_count p (base ++ map (collect_line at) keys)) (present_count p ((base ++ map (collect_line at) keys) ++ l ∷ [])) u v → ChangesBy (behind_lines p base (map (collect_line at) keys ++ l ∷ [])) t v
brought-changes p base at keys l t u v first c =
    let collected = map (collect_line at) keys in
    subst (λ (ns : List ℕ). ChangesBy ns t v) (sym (behind-snoc p base collected l))
    (changes-then (behind_lines p base collected) (behind_line p (base ++ collected) l) t u v first.looks first.changes (line-changes (present_count p (base ++ collected)) (present_count p ((base ++ collected) ++ l ∷ [])) u v c))

-- a look's line stands behind the changes that were there
brought-looked : (p : Params) (base : List Line) (at : ℕ) (keys : List Key) (l : Line) (n : ℕ) → looked_at n l.seen ++ [] ≡ map (later_by n) (looked_in p base [] (map (collect_line at) keys ++ l ∷ []))
brought-looked p base at keys l n =
    let same : n ≡ n + 0 = omega arith in
    append-nil (looked_at n l.seen) ∙ ap (λ (m : ℕ). looked_at m l.seen) same ∙ looked_at-later n 0 l.seen ∙ ap (λ (ls : List LookingLine). map (later_by n) ls) (sym (looked-brought p base at keys l))

saw-collects : (sees : List Line → ℕ) (past : List Line) (at : ℕ) (keys : List Key) (l : Line) → Saw sees (past ++ map (collect_line at) keys) l → each_line (Saw sees) past (map (collect_line at) keys ++ l ∷ [])
saw-collects sees past at [] l h = (subst (λ (xs : List Line). Saw sees xs l) (append-nil past) h, tt)
saw-collects sees past at (k ∷ ks) l h =
    (tt, saw-collects sees (past ++ collect_line at k ∷ []) at ks l (subst (λ (xs : List Line). Saw sees xs l) (sym (append_assoc past (collect_line at k ∷ []) (map (collect_line at) ks))) h))

saw_none : (p : Params) (base : List Line) (others : Option ℕ) → IfSome others (λ n. IfSome None (λ (v : ℕ). v ≡ present_count p base + n))
saw_none p base None = tt
saw_none p base (Some n) = tt

brought-told : (p : Params) (base : List Line) (at : ℕ) (keys : List Key) (l : Line) (s t : CensusShown) (seen : Option ℕ) → l.seen ≡ seen → base_of base ≡ base → IsCensusOf p base s → LooksFor s t seen
    → IfSome s.others (λ n. each_line (Saw (λ lines. present_count p lines + n)) base (map (collect_line at) keys ++ l ∷ []))
brought-told p base at keys l s t seen e bare is looks = by_others s.others (line_saw seen looks) where
  collected : List Line
  collected = map (collect_line at) keys

  bare_now : base_of (base ++ collected) ≡ base
  bare_now = base_of-collects base at keys ∙ bare

  line_saw : (o : Option ℕ) → LooksFor s t o → IfSome s.others (λ n. IfSome o (λ v. v ≡ present_count p base + n))
  line_saw None h = saw_none p base s.others
  line_saw (Some v) h = subst (λ (share : ℕ). IfSome s.others (λ n. v ≡ share + n)) is.share h.told

  by_others : (others : Option ℕ) → IfSome others (λ n. IfSome seen (λ v. v ≡ present_count p base + n)) → IfSome others (λ n. each_line (Saw (λ lines. present_count p lines + n)) base (collected ++ l ∷ []))
  by_others None h = tt
  by_others (Some n) h =
      saw-collects (λ (lines : List Line). present_count p lines + n) base at keys l
      (subst (λ (o : Option ℕ). IfSome o (λ v. v ≡ present_count p (base_of (base ++ collected)) + n)) (sym e)
      (subst (λ (xs : List Line). IfSome seen (λ v. v ≡ present_count p xs + n)) (sym bare_now) h))

-- a line, with a look where it has what it saw, and with collect lines before it
along-brought : (p : Params) (base : List Line) (at : ℕ) (keys : List Key) (l : Line) (s t u v : CensusShown) → base_of base ≡ base → is_collect l.op ≡ false → IsCensusOf p base s → LooksFor s t l.seen
    → CountsCollects p base (map (collect_line at) keys) t u
    → CountsLine (present_count p (base ++ map (collect_line at) keys)) (present_count p ((base ++ map (collect_line at) keys) ++ l ∷ [])) u v
    → CountsAlong p base (base ++ (map (collect_line at) keys ++ l ∷ [])) s v
along-brought p base at keys l s t u v bare off is looks collects c =
    let collected = map (collect_line at) keys in
    let look = looks-for s t l.seen looks in
    let changes = brought-changes p base at keys l t u v collects c in
    record {
      more = collected ++ l ∷ [];
      grown = refl;
      whole = base_of-other collected l off;
      name = c.name ∙ collects.name ∙ looks-name s t l.seen looks;
      others = c.others ∙ collects.others ∙ looks-others s t l.seen looks;
      is = subst (λ (xs : List Line). IsCensusOf p xs v) (append_assoc base collected (l ∷ [])) (census-line p (base ++ collected) l u v collects.is c);
      changes = changes-join [] (behind_lines p base (collected ++ l ∷ [])) s t v look.made look.grown (changes-none s t (looks-changes s t l.seen looks)) changes;
      looks = subst (λ (ls : List LookingLine). LooksBy ls s v) (brought-looked p base at keys l (length s.changes))
          (looks-join (looked_at (length s.changes) l.seen) [] (behind_lines p base (collected ++ l ∷ [])) s t v look changes (looks-none t v (c.looks ∙ collects.looks)));
      told = brought-told p base at keys l s t l.seen refl bare is looks;
    }

-- a line of the bucket's own, with a look where it has what it saw
pub along-line : (p : Params) (base : List Line) (l : Line) (s t u : CensusShown) → base_of base ≡ base → is_collect l.op ≡ false → IsCensusOf p base s → LooksFor s t l.seen
    → CountsLine (present_count p base) (present_count p (base ++ l ∷ [])) t u → CountsAlong p base (base ++ l ∷ []) s u
along-line p base l s t u bare off is looks c =
    along-brought p base 0 [] l s t t u bare off is looks (collects-none p base t (census-looked p base s t l.seen is looks))
    (subst (λ (xs : List Line). CountsLine (present_count p xs) (present_count p (xs ++ l ∷ [])) t u) (sym (append-nil base)) c)

-- the next timer's line
pub counts-timer : (p : Params) (lines : List Line) (line : Line) (s u : CensusShown) → base_of lines ≡ lines → IsNextTimer p lines line → IsCensusOf p lines s → CountsLine (present_count p lines) (present_count p (lines ++ line ∷ [])) s u
    → CountsAlong p lines (lines ++ line ∷ []) s u
counts-timer p lines line s u bare t is c =
    along-line p lines line s s u bare (ap (λ (l : Line). is_collect l.op) t.line_is) is (subst (LooksFor s s) (sym (ap (λ (l : Line). l.seen) t.line_is)) refl) c

-- an operation's lines
pub counts-entered : (p : Params) (lines after : List Line) (line : Line) (s t v : CensusShown) → base_of lines ≡ lines → is_own line.op ≡ true → IsCensusOf p lines s → LooksFor s t line.seen → after ≡ lines ++ brought p lines line
    → CountsBrought p lines (collects p lines line) after t v → CountsAlong p lines after s v
counts-entered p lines after line s t v bare own is looks grown b =
    let last = full_line p lines line in
    let whole : after ≡ (lines ++ collects p lines line) ++ last ∷ [] = grown ∙ sym (append_assoc lines (collects p lines line) (last ∷ [])) in
    subst (λ (xs : List Line). CountsAlong p lines xs s v) (sym grown)
    (along-brought p lines line.at (asked_of_pass p lines line) last s t b.between v bare (own_other line.op own).1 is looks b.collects
    (subst (λ (xs : List Line). CountsLine (present_count p (lines ++ collects p lines line)) (present_count p xs) b.between v) whole b.line))

-- ---- calls one after another

told_none : (p : Params) (lines : List Line) (others : Option ℕ) → IfSome others (λ n. each_line (Saw (λ xs. present_count p xs + n)) lines [])
told_none p lines None = tt
told_none p lines (Some n) = tt

pub counts-same : (p : Params) (lines : List Line) (s : CensusShown) → IsCensusOf p lines s → CountsAlong p lines lines s s
counts-same p lines s is = record {
  more = [];
  grown = sym (append-nil lines);
  whole = refl;
  name = refl;
  others = refl;
  is = is;
  changes = changes-none s s refl;
  looks = looks-none s s refl;
  told = told_none p lines s.others;
}

-- what holds of each line of two parts holds of each line
pub each-join : (P : List Line → Line → Type 0) (past first next : List Line) → each_line P past first → each_line P (past ++ first) next → each_line P past (first ++ next)
each-join P past [] next a b = subst (λ (xs : List Line). each_line P xs next) (append-nil past) b
each-join P past (x ∷ xs) next a b = (a.0, each-join P (past ++ x ∷ []) xs next a.1 (subst (λ (ys : List Line). each_line P ys next) (sym (append_assoc past (x ∷ []) xs)) b))

join-told : (p : Params) (past first next : List Line) (others : Option ℕ) → IfSome others (λ n. each_line (Saw (λ xs. present_count p xs + n)) past first)
    → IfSome others (λ n. each_line (Saw (λ xs. present_count p xs + n)) (past ++ first) next) → IfSome others (λ n. each_line (Saw (λ xs. present_count p xs + n)) past (first ++ next))
join-told p past first next None a b = tt
join-told p past first next (Some n) a b = each-join (Saw (λ (xs : List Line). present_count p xs + n)) past first next a b

changes-length : (numbers : List ℕ) (s t : CensusShown) → ChangesBy numbers s t → length t.changes ≡ length s.changes + length numbers
changes-length numbers s t c =
    ap (λ (cs : List (ℕ × ℕ)). length cs) c.grown
    ∙ length-append s.changes c.made
    ∙ ap (λ (n : ℕ). length s.changes + n) (sym (length-map c.made second) ∙ ap (λ (ns : List ℕ). length ns) c.numbers_are)

pub counts-join : (p : Params) (xs ys zs : List Line) (s t u : CensusShown) → CountsAlong p xs ys s t → CountsAlong p ys zs t u → CountsAlong p xs zs s u
counts-join p xs ys zs s t u a b = record {
  more = a.more ++ b.more;
  grown = b.grown ∙ ap (λ (ls : List Line). ls ++ b.more) a.grown ∙ append_assoc xs a.more b.more;
  whole = base_of-behind a.more b.more a.whole ∙ ap (λ (ls : List Line). a.more ++ ls) b.whole;
  name = b.name ∙ a.name;
  others = b.others ∙ a.others;
  is = b.is;
  changes = subst (λ (ns : List ℕ). ChangesBy ns s u) (sym (behind_lines-append p xs a.more b.more)) (changes-join (behind_lines p xs a.more) (behind_lines p (xs ++ a.more) b.more) s t u a.looks.made a.looks.grown a.changes
      (subst (λ (ls : List Line). ChangesBy (behind_lines p ls b.more) t u) a.grown b.changes));
  looks = subst (λ (ls : List LookingLine). LooksBy ls s u) (looked-join p xs a.more b.more (length s.changes) (length t.changes) a.whole (changes-length (behind_lines p xs a.more) s t a.changes))
      (looks-join (map (later_by (length s.changes)) (looked_in p xs [] a.more)) (map (later_by (length t.changes)) (looked_in p (xs ++ a.more) [] b.more)) (behind_lines p ys b.more) s t u a.looks b.changes
      (subst (λ (ls : List Line). LooksBy (map (later_by (length t.changes)) (looked_in p ls [] b.more)) t u) a.grown b.looks));
  told = join-told p xs a.more b.more s.others a.told
      (subst (λ (o : Option ℕ). IfSome o (λ n. each_line (Saw (λ ls. present_count p ls + n)) (xs ++ a.more) b.more)) a.others
      (subst (λ (ls : List Line). IfSome t.others (λ n. each_line (Saw (λ xs. present_count p xs + n)) ls b.more)) a.grown b.told));
}

-- ---- refused calls

pub on_refusal : {A E : Type 0} (result : Result A E) (P : Type 0) → P → OnErr result P
on_refusal (Ok x) P h = tt
on_refusal (Err e) P h = h

pub refused-along : (p : Params) (xs ys : List Line) (s t : CensusShown) → CountsAlong p xs ys s t → CountsRefused p xs ys s t
refused-along p xs ys s t a = record { between = t; counts = a; seen = None; looked = refl; is = a.is }

-- a look without a line
pub refused-looked : (p : Params) (lines : List Line) (s t : CensusShown) (seen : Option ℕ) → IsCensusOf p lines s → LooksFor s t seen → CountsRefused p lines lines s t
refused-looked p lines s t seen is l = record { between = s; counts = counts-same p lines s is; seen = seen; looked = l; is = census-looked p lines s t seen is l }

pub refused-join : (p : Params) (xs ys zs : List Line) (s t u : CensusShown) → CountsAlong p xs ys s t → CountsRefused p ys zs t u → CountsRefused p xs zs s u
refused-join p xs ys zs s t u a b = record { between = b.between; counts = counts-join p xs ys zs s t b.between a b.counts; seen = b.seen; looked = b.looked; is = b.is }

-- ---- what a journal says of counts

-- what had the counts of a journal before has those of the journal with the call's lines now
pub along-counts : (b : ℕ) (p : Params) (before after : List Line) (s t : CensusShown) (j : JournalCounts) (a : CountsAlong p before after s t) → HasCounts (part_of b s.changes s.looks) j
    → HasCounts (part_of b t.changes t.looks) (with_call (call_of b p before a.more) j)
along-counts b p before after s t j a h =
    let long : length s.changes ≡ length j.behind = sym (length-map s.changes second) ∙ ap (λ (ns : List ℕ). length ns) h.changes in
    record {
      changes = ap (λ (cs : List (ℕ × ℕ)). map second cs) a.changes.grown
          ∙ map-append second s.changes a.changes.made
          ∙ ap (λ (ns : List ℕ). ns ++ map second a.changes.made) h.changes
          ∙ ap (λ (ns : List ℕ). j.behind ++ ns) a.changes.numbers_are;
      chosen = h.chosen ++ a.looks.made;
      among = subst (λ (ls : List (ℕ × ℕ)). AreAmong (h.chosen ++ a.looks.made) ls) (sym a.looks.grown) (among-append h.chosen a.looks.made s.looks a.looks.made h.among (among-itself a.looks.made));
      lines = zip-append (IsLookOf t.changes) h.chosen a.looks.made j.looked (map (later_by (length j.behind)) (looked_in p before [] a.more))
          (subst (λ (cs : List (ℕ × ℕ)). AllZip (IsLookOf cs) h.chosen j.looked) (sym a.changes.grown) (chosen-before s.changes a.changes.made s.looks h.chosen j.looked a.changes.behind h.among h.lines))
          (subst (λ (n : ℕ). AllZip (IsLookOf t.changes) a.looks.made (map (later_by n) (looked_in p before [] a.more))) long a.looks.each);
    }

-- a look without a line leaves them
looked-counts : (b : ℕ) (s t : CensusShown) (seen : Option ℕ) (j : JournalCounts) → LooksFor s t seen → HasCounts (part_of b s.changes s.looks) j → HasCounts (part_of b t.changes t.looks) j
looked-counts b s t None j e h = subst (λ (c : CensusShown). HasCounts (part_of b c.changes c.looks) j) (sym e) h
looked-counts b s t (Some v) j l h = none_counts (part_of b t.changes t.looks) j (record { before = length s.changes; seen = v }) (look_awaits b j s.changes t.changes s.looks t.looks v l.look l.changes h)

pub refused-counts : (b : ℕ) (p : Params) (before after : List Line) (s t : CensusShown) (j : JournalCounts) (r : CountsRefused p before after s t) → HasCounts (part_of b s.changes s.looks) j
    → HasCounts (part_of b t.changes t.looks) (with_call (call_of b p before r.counts.more) j)
refused-counts b p before after s t j r h =
    looked-counts b r.between t r.seen (with_call (call_of b p before r.counts.more) j) r.looked (along-counts b p before after s r.between j r.counts h)
