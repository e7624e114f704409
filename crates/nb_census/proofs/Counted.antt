-- A change, a look and a new bucket keep what is said of all parts.
use Rattle.std.proofs.Common.{◌≡◌, ◌≢◌, ℕ, suc, ◌<◌, ◌≤◌, List, [], ◌∷◌, ◌++◌, length, set, refl, sym, ap, ◌∙◌, subst, arith}
use Rattle.std.specs.List.{AllByRecursion as Each}
use mathlib.Core.Option.{some}
use mathlib.Core.Logic.{dite}
use native.Mathlib.Decide.{ℕ_discrete}
use lib.ListN.{get_elem?}
use Rattle.change_order.specs.declared.part.Part.{Part}
use Rattle.change_order.specs.Ticks.{total_by, how_many, is_at, share_of, share_before}
use Rattle.change_order.specs.Growing.{blank, with_change}
use Rattle.nb_census.specs.Views.{with_look}
use Rattle.change_order.specs.Counted.{IsOrdered, IsPart, AreCounted, changes_in, changes_at, shares_before}
use Rattle.nb_census.specs.Kept.{shares_in}
use Rattle.change_order.proofs.Lists.{each_set, each_more, each_snoc, length-snoc}
use Rattle.nb_census.proofs.Lists.{each_snoc_place}
use Rattle.change_order.proofs.Totals.{total-set, total-set_same, total-snoc, total-same, total-none}
use Rattle.change_order.proofs.Ticks.{before-snoc, before-all, at-none, at-snoc_here, at-snoc_else, rise-snoc, never_fall-snoc}

-- more changes leave a part's order
ordered_more : (n m : ℕ) (p : Part) → n ≤ m → IsOrdered n p → IsOrdered m p
ordered_more n m p h o = record {
  rising = o.rising;
  below = each_more (λ (c : ℕ × ℕ). c.0 < n) (λ (c : ℕ × ℕ). c.0 < m) p.changes (λ c less. omega arith) o.below;
  standing = o.standing;
  within = each_more (λ (l : ℕ × ℕ). l.0 ≤ n) (λ (l : ℕ × ℕ). l.0 ≤ m) p.looks (λ l less. omega arith) o.within;
}

-- where the looks' sums and the number of changes are kept, a part is
part_kept : (before after : List Part) (b : ℕ) (p : Part) → changes_in before ≤ changes_in after → ((t : ℕ) → t ≤ changes_in before → shares_before t after ≡ shares_before t before) → IsPart before b p → IsPart after b p
part_kept before after b p more same h = record {
  number = h.number;
  order = ordered_more (changes_in before) (changes_in after) p more h.order;
  values = values p.looks h.order.within h.values;
}
  where
    values : (ls : List (ℕ × ℕ)) → Each (λ l. l.0 ≤ changes_in before) ls → Each (λ l. l.1 ≡ shares_before l.0 before) ls → Each (λ l. l.1 ≡ shares_before l.0 after) ls
    values [] w v = tt
    values (l ∷ ls) w v = (v.0 ∙ sym (same l.0 w.0), values ls w.1 v.1)

-- the numbers of changes, one more in this part
module _ (parts : List Part) (b : ℕ) (p : Part) (s : ℕ) (here : get_elem? parts b ≡ some p) where
  abbrev n : ℕ
  n = changes_in parts

  abbrev changed : List Part
  changed = set parts b (with_change n s p)

  pub changes-changed : changes_in changed ≡ suc n
  changes-changed =
      let t = total-set (λ (q : Part). length q.changes) parts b p (with_change n s p) here in
      let l = length-snoc p.changes (n, s) in
      omega (arith, t, l)

  before-changed : (t : ℕ) → t ≤ n → shares_before t changed ≡ shares_before t parts
  before-changed t h = total-set_same (λ (q : Part). share_before t q.changes) parts b p (with_change n s p) here (before-snoc t n s p.changes h)

  pub counted_change : AreCounted parts → AreCounted changed
  counted_change k =
      let mine = k.each b p here in
      let more : n ≤ changes_in changed = omega (arith, changes-changed) in
      record {
        once = λ t h. dite (ℕ_discrete n t) (λ e. once-here t e) (λ ne. once-else t ne (let l : t < n = omega (arith, changes-changed) in k.once t l));
        each = each_set (IsPart changed) parts b (with_change n s p)
            (λ j u _ there. part_kept parts changed j u more before-changed (k.each j u there))
            (let kept = part_kept parts changed b p more before-changed mine in
            record {
              number = kept.number;
              order = record {
                rising = rise-snoc 0 n s p.changes (omega arith) mine.order.rising mine.order.below;
                below = each_snoc (λ (c : ℕ × ℕ). c.0 < changes_in changed) p.changes (n, s) kept.order.below (omega (arith, changes-changed));
                standing = kept.order.standing;
                within = kept.order.within;
              };
              values = kept.values;
            });
      }
    where
      none : changes_at n parts ≡ 0
      none = total-none (λ (q : Part). how_many (is_at n) q.changes) parts (λ j u there. at-none n u.changes (k.each j u there).order.below)

      once-here : (t : ℕ) → n ≡ t → changes_at t changed ≡ 1
      once-here t e =
          let F : ℕ → Type 0 = λ m. changes_at m changed ≡ 1 in
          let a = total-set (λ (q : Part). how_many (is_at n) q.changes) parts b p (with_change n s p) here in
          let c = at-snoc_here n s p.changes in
          let one : changes_at n changed ≡ 1 = omega (arith, a, c, none) in
          subst F e one

      once-else : (t : ℕ) → n ≢ t → changes_at t parts ≡ 1 → changes_at t changed ≡ 1
      once-else t ne h = total-set_same (λ (q : Part). how_many (is_at t) q.changes) parts b p (with_change n s p) here (at-snoc_else t n s p.changes ne) ∙ h

-- one more look in this part
module _ (parts : List Part) (b : ℕ) (p : Part) (here : get_elem? parts b ≡ some p) where
  abbrev looked : List Part
  looked = set parts b (with_look (changes_in parts) (shares_in parts) p)

  same_total : (f : List (ℕ × ℕ) → ℕ) → total_by (λ (q : Part). f q.changes) looked ≡ total_by (λ (q : Part). f q.changes) parts
  same_total f = total-set_same (λ (q : Part). f q.changes) parts b p (with_look (changes_in parts) (shares_in parts) p) here refl

  pub changes-looked : changes_in looked ≡ changes_in parts
  changes-looked = same_total length

  pub shares-looked : shares_in looked ≡ shares_in parts
  shares-looked = same_total share_of

  pub counted_look : AreCounted parts → AreCounted looked
  counted_look k =
      let mine = k.each b p here in
      let more : changes_in parts ≤ changes_in looked = omega (arith, changes-looked) in
      let before : (t : ℕ) → t ≤ changes_in parts → shares_before t looked ≡ shares_before t parts = λ t _. same_total (share_before t) in
      record {
        once = λ t h. same_total (how_many (is_at t)) ∙ k.once t (omega (arith, changes-looked));
        each = each_set (IsPart looked) parts b (with_look (changes_in parts) (shares_in parts) p)
            (λ j u _ there. part_kept parts looked j u more before (k.each j u there))
            (let kept = part_kept parts looked b p more before mine in
            record {
              number = kept.number;
              order = record {
                rising = kept.order.rising;
                below = kept.order.below;
                standing = never_fall-snoc 0 (changes_in parts) (shares_in parts) p.looks (omega arith) mine.order.standing mine.order.within;
                within = each_snoc (λ (l : ℕ × ℕ). l.0 ≤ changes_in looked) p.looks (changes_in parts, shares_in parts) kept.order.within more;
              };
              values = each_snoc (λ (l : ℕ × ℕ). l.1 ≡ shares_before l.0 looked) p.looks (changes_in parts, shares_in parts) kept.values (all ∙ sym (same_total (share_before (changes_in parts))));
            });
      }
    where
      all : shares_in parts ≡ shares_before (changes_in parts) parts
      all = total-same (λ (q : Part). share_of q.changes) (λ (q : Part). share_before (changes_in parts) q.changes) parts (λ j u there. ap share_of (sym (before-all (changes_in parts) u.changes (k.each j u there).order.below)))

-- one more bucket
module _ (parts : List Part) where
  abbrev grown : List Part
  grown = parts ++ blank (length parts) ∷ []

  more_total : (f : List (ℕ × ℕ) → ℕ) → f [] ≡ 0 → total_by (λ (q : Part). f q.changes) grown ≡ total_by (λ (q : Part). f q.changes) parts
  more_total f e = let t = total-snoc (λ (q : Part). f q.changes) parts (blank (length parts)) in omega (arith, t, e)

  pub changes-grown : changes_in grown ≡ changes_in parts
  changes-grown = more_total length refl

  pub shares-grown : shares_in grown ≡ shares_in parts
  shares-grown = more_total share_of refl

  pub counted_grown : AreCounted parts → AreCounted grown
  counted_grown k =
      let more : changes_in parts ≤ changes_in grown = omega (arith, changes-grown) in
      let before : (t : ℕ) → t ≤ changes_in parts → shares_before t grown ≡ shares_before t parts = λ t _. more_total (share_before t) refl in
      record {
        once = λ t h. more_total (how_many (is_at t)) refl ∙ k.once t (omega (arith, changes-grown));
        each = each_snoc_place (IsPart grown) parts (blank (length parts))
            (λ j u there. part_kept parts grown j u more before (k.each j u there))
            (record { number = refl; order = record { rising = tt; below = tt; standing = tt; within = tt }; values = tt });
      }
