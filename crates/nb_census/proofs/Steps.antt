-- Each kind of step keeps the rule.
use Rattle.std.proofs.Common.{◌≡◌, ℕ, zero, suc, ◌+◌, ◌*◌, ◌/◌, ◌%◌, ◌^◌, ◌<◌, ◌≤◌, List, [], ◌∷◌, length, set, refl, sym, ap, ◌∙◌, subst, arith}
use Rattle.std.specs.Prelude.{slice_set, slice_index}
use Rattle.std.specs.List.{AllByRecursion as Each}
use Rattle.std.proofs.lemmas.Nat.{div-mul-add, mod-mul-add}
use Rattle.std.proofs.Math.Nat.{mod-eq_of_lt}
use mathlib.Core.Option.{some, some-injective, some-ne-none}
use lib.ListN.{get_elem?}
use Rattle.atomic_table.specs.Table.{Allows, State as Table, Me, keeps}
use Rattle.atomic_table.proofs.Lists.{set_here, set_else}
use Rattle.nb_census.specs.declared.view.View.{View}
use Rattle.change_order.specs.declared.part.Part.{Part}
use Rattle.change_order.specs.Ticks.{share_of, IsLater}
use Rattle.change_order.specs.Growing.{with_change}
use Rattle.nb_census.specs.Views.{with_look, first_part, share_after, changes_by, looks_at}
use Rattle.change_order.specs.Counted.{changes_in}
use Rattle.nb_census.specs.Kept.{Kept, Shows, IsPlaced, IsSmall, StepTells, CanChange, Stands, shares_in}
use Rattle.change_order.proofs.Lists.{each_set, each_more, within_at, length-set_at, length-snoc}
use Rattle.nb_census.proofs.Lists.{if_some_more}
use Rattle.change_order.proofs.Totals.{total-set, total-most, total-one}
use Rattle.change_order.proofs.Ticks.{share-snoc}
use Rattle.nb_census.proofs.Counted.{changes-changed, counted_change, changes-looked, shares-looked, counted_look}

-- the word that was found
found : (cells : List ℕ) (w : ℕ) → cells ≡ w ∷ [] → slice_index cells 0 ≡ w
found cells w e = ap (λ (cs : List ℕ). slice_index cs 0) e

shares_small : (cells : List ℕ) (views : List View) (k : Kept cells views) → shares_in k.parts ≤ 268435456
shares_small cells views k = let t = total-most (λ (q : Part). share_of q.changes) k.parts (λ j u there. (k.small j u there).share) in let few = k.few in omega (arith, t, few)

changes_small : (cells : List ℕ) (views : List View) (k : Kept cells views) → changes_in k.parts ≤ 268435456
changes_small cells views k = let t = total-most (λ (q : Part). length q.changes) k.parts (λ j u there. (k.small j u there).count) in let few = k.few in omega (arith, t, few)

pub ticks_found : (cells : List ℕ) (views : List View) (k : Kept cells views) → slice_index cells 0 / 2 ^ 32 ≡ changes_in k.parts
ticks_found cells views k =
    let small : shares_in k.parts < 4294967296 = (let s = shares_small cells views k in omega (arith, s)) in
    ap (λ (n : ℕ). n / 4294967296) (found cells (changes_in k.parts * 4294967296 + shares_in k.parts) k.word) ∙ div-mul-add (changes_in k.parts) 4294967296 (shares_in k.parts) small

pub shares_found : (cells : List ℕ) (views : List View) (k : Kept cells views) → slice_index cells 0 % 2 ^ 32 ≡ shares_in k.parts
shares_found cells views k =
    let small : shares_in k.parts < 4294967296 = (let s = shares_small cells views k in omega (arith, s)) in
    ap (λ (n : ℕ). n % 4294967296) (found cells (changes_in k.parts * 4294967296 + shares_in k.parts) k.word) ∙ mod-mul-add (changes_in k.parts) 4294967296 (shares_in k.parts) small

-- the seat's one part is that of its bucket
my_part : (cells : List ℕ) (views : List View) (k : Kept cells views) (at : ℕ) (v : View) (p : Part) → get_elem? views at ≡ some v → v.parts ≡ p ∷ [] → IsPlaced k.parts k.seat_of at p
my_part cells views k at v p here one =
    let F : List Part → Type 0 = λ ps. Each (IsPlaced k.parts k.seat_of at) ps in
    (subst F one (k.shown at v here).placed).0

-- a step tells
pub tells : (cells : List ℕ) (views : List View) (k : Kept cells views) (at : ℕ) (v : View) (p : Part) → get_elem? views at ≡ some v → v.parts ≡ p ∷ [] → StepTells (slice_index cells 0) p
tells cells views k at v p here one =
    let my = my_part cells views k at v p here one in
    let part = k.counted.each p.bucket p my.there in
    record {
      later = subst (λ (n : ℕ). IsLater n p.changes p.looks) (sym (ticks_found cells views k)) (record { above = part.order.below; behind = part.order.within });
      share = subst (λ (n : ℕ). share_of p.changes ≤ n) (sym (shares_found cells views k)) (total-one (λ (q : Part). share_of q.changes) k.parts p.bucket p my.there);
    }

-- the views, where the seat's one part changes
part_shown : (cells : List ℕ) (views : List View) (k : Kept cells views) (at : ℕ) (v : View) (p q : Part) → get_elem? views at ≡ some v → v.parts ≡ p ∷ [] → q.bucket ≡ p.bucket
    → (j : ℕ) (u : View) → get_elem? (set views at (record v { parts = q ∷ [] })) j ≡ some u → Shows (set k.parts p.bucket q) k.desk k.seat_of j u
part_shown cells views k at v p q here one same =
    let my = my_part cells views k at v p here one in
    let size = length-set_at k.parts p.bucket q in
    each_set (Shows (set k.parts p.bucket q) k.desk k.seat_of) views at (record v { parts = q ∷ [] })
    (λ j u other there.
    let theirs = k.shown j u there in
    record {
      making = if_some_more (λ n. (j ≡ k.desk) × (n ≡ length k.parts)) (λ n. (j ≡ k.desk) × (n ≡ length (set k.parts p.bucket q))) u.made (λ n _ h. (h.0, h.1 ∙ sym size)) theirs.making;
      placed = each_more (IsPlaced k.parts k.seat_of j) (IsPlaced (set k.parts p.bucket q) k.seat_of j) u.parts
          (λ r h. record { seat = h.seat; there = set_else k.parts p.bucket r.bucket q (λ e. other (sym h.seat ∙ ap k.seat_of e ∙ my.seat)) ∙ h.there }) theirs.placed;
    })
    (record {
      making = if_some_more (λ n. (at ≡ k.desk) × (n ≡ length k.parts)) (λ n. (at ≡ k.desk) × (n ≡ length (set k.parts p.bucket q))) v.made (λ n _ h. (h.0, h.1 ∙ sym size)) (k.shown at v here).making;
      placed = (
        record {
          seat = ap k.seat_of same ∙ my.seat;
          there = ap (λ (b : ℕ). get_elem? (set k.parts p.bucket q) b) same ∙ set_here k.parts p.bucket q (within_at k.parts p.bucket p my.there);
        },
        tt,
      );
    })

-- two views at one place are one
pub one_view : (views : List View) (i j : ℕ) (v w : View) → get_elem? views i ≡ some v → get_elem? views j ≡ some w → i ≡ j → v ≡ w
one_view views i j v w e f same = some-injective v w (sym e ∙ (ap (λ (n : ℕ). get_elem? views n) same ∙ f))

only_part : (p u : Part) (place : ℕ) → get_elem? (p ∷ []) place ≡ some u → p ≡ u
only_part p u zero e = some-injective p u e
only_part p u (suc place) e = absurd (some-ne-none u (sym e))

-- each part still stands in its view, where the seat's one part changes
part_stands : (cells : List ℕ) (views : List View) (k : Kept cells views) (at : ℕ) (v : View) (p q : Part) → get_elem? views at ≡ some v → v.parts ≡ p ∷ []
    → (b : ℕ) (u : Part) → get_elem? (set k.parts p.bucket q) b ≡ some u → Stands (set views at (record v { parts = q ∷ [] })) (k.seat_of b) u
part_stands cells views k at v p q here one =
    let my = my_part cells views k at v p here one in
    let next : View = record v { parts = q ∷ [] } in
    each_set (λ b u. Stands (set views at next) (k.seat_of b) u) k.parts p.bucket q
    (λ b u other there.
    let s = k.stands b u there in
    record {
      holder = s.holder;
      there = set_else views at (k.seat_of b) next (λ e.
          let same = one_view views (k.seat_of b) at s.holder v s.there here e in
          let only = only_part p u s.place (ap (λ (ps : List Part). get_elem? ps s.place) (sym (ap (λ (w : View). w.parts) same ∙ one)) ∙ s.held) in
          other (sym (k.counted.each b u there).number ∙ sym (ap (λ (r : Part). r.bucket) only))) ∙ s.there;
      place = s.place;
      held = s.held;
    })
    (record { holder = next; there = ap (λ (n : ℕ). get_elem? (set views at next) n) my.seat ∙ set_here views at next (within_at views at v here); place = 0; held = refl })

-- a change keeps the rule
change_kept : (cells : List ℕ) (views : List View) (at : ℕ) (v : View) (p : Part) (added : ℕ) → (k : Kept cells views) → get_elem? views at ≡ some v → v.parts ≡ p ∷ [] → CanChange added p.changes
    → Kept (slice_set cells 0 ((slice_index cells 0 + added) % 2 ^ 64)) (set views at (record v { parts = with_change (changes_in k.parts) (share_after added (share_of p.changes)) p ∷ [] }))
change_kept cells views at v p added k here one can =
    let my = my_part cells views k at v p here one in
    let n = changes_in k.parts in
    let s = share_after added (share_of p.changes) in
    let q : Part = with_change n s p in
    let after : List Part = set k.parts p.bucket q in
    let bucket = (k.counted.each p.bucket p my.there).number in
    record {
      parts = after;
      desk = k.desk;
      seat_of = k.seat_of;
      word = ap (λ (cs : List ℕ). slice_set cs 0 ((slice_index cs 0 + added) % 18446744073709551616)) k.word ∙ ap (λ (x : ℕ). x ∷ []) (sums my.there);
      counted = counted_change k.parts p.bucket p s my.there k.counted;
      few = (let few = k.few in let size = length-set_at k.parts p.bucket q in omega (arith, few, size));
      small = each_set (λ j u. IsSmall u) k.parts p.bucket q (λ j u _ there. k.small j u there)
          (record {
            share = (let most = can.share (k.small p.bucket p my.there).share in let e = share-snoc p.changes n s in omega (arith, e, most));
            count = (let less = can.count in let e = length-snoc p.changes (n, s) in omega (arith, e, less));
          });
      shown = part_shown cells views k at v p q here one refl;
      stands = part_stands cells views k at v p q here one;
    }
  where
    sums : get_elem? k.parts p.bucket ≡ some p → (changes_in k.parts * 4294967296 + shares_in k.parts + added) % 18446744073709551616
        ≡ changes_in (set k.parts p.bucket (with_change (changes_in k.parts) (share_after added (share_of p.changes)) p)) * 4294967296 + shares_in (set k.parts p.bucket (with_change (changes_in k.parts) (share_after added (share_of p.changes)) p))
    sums there =
        let q : Part = with_change (changes_in k.parts) (share_after added (share_of p.changes)) p in
        let a = changes-changed k.parts p.bucket p (share_after added (share_of p.changes)) there in
        let b = total-set (λ (r : Part). share_of r.changes) k.parts p.bucket p q there in
        let c = share-snoc p.changes (changes_in k.parts) (share_after added (share_of p.changes)) in
        let least = can.least in
        let most = can.most in
        let mine = total-one (λ (r : Part). share_of r.changes) k.parts p.bucket p there in
        let d = shares_small cells views k in
        let e = changes_small cells views k in
        let fits : changes_in k.parts * 4294967296 + shares_in k.parts + added < 18446744073709551616 = omega (arith, d, e, most) in
        mod-eq_of_lt fits ∙ omega (arith, a, b, c, least, mine)

pub changes_word : (slots id added : ℕ) (me : Me (Unit {0}) View) → me.0.parts ≡ first_part me.0.parts ∷ [] → CanChange added (first_part me.0.parts).changes
    → Allows (λ (s : Table (Unit {0}) View). Kept s.words s.views) slots id me 0 (λ n. (n + added) % 2 ^ 64) (λ n (w : Me (Unit {0}) View). (w ≡ (changes_by added n me.0, me.1)) × StepTells n (first_part me.0.parts))
changes_word slots id added me one can s k size at small =
    let p : Part = first_part me.0.parts in
    let F : ℕ → Type 0 = λ t. Kept (slice_set s.words 0 ((slice_index s.words 0 + added) % 18446744073709551616)) (set s.views id (record me.0 { parts = with_change t (share_after added (share_of p.changes)) p ∷ [] })) in
    (changes_by added (slice_index s.words 0) me.0, keeps, tt, subst F (sym (ticks_found s.words s.views k)) (change_kept s.words s.views id me.0 p added k at one can), (refl, tells s.words s.views k id me.0 p at one))

-- a load leaves the words
pub same_words : (cells : List ℕ) (w : ℕ) → cells ≡ w ∷ [] → slice_set cells 0 (slice_index cells 0) ≡ cells
same_words cells w e = ap (λ (cs : List ℕ). slice_set cs 0 (slice_index cs 0)) e ∙ sym e

-- a look keeps the rule
look_kept : (cells : List ℕ) (views : List View) (at : ℕ) (v : View) (p : Part) → (k : Kept cells views) → get_elem? views at ≡ some v → v.parts ≡ p ∷ []
    → Kept cells (set views at (record v { parts = with_look (changes_in k.parts) (shares_in k.parts) p ∷ [] }))
look_kept cells views at v p k here one =
    let my = my_part cells views k at v p here one in
    let q : Part = with_look (changes_in k.parts) (shares_in k.parts) p in
    let after : List Part = set k.parts p.bucket q in
    let a = changes-looked k.parts p.bucket p my.there in
    let b = shares-looked k.parts p.bucket p my.there in
    record {
      parts = after;
      desk = k.desk;
      seat_of = k.seat_of;
      word = k.word ∙ ap (λ (x : ℕ × ℕ). (x.0 * 4294967296 + x.1) ∷ []) (λ i. (sym a i, sym b i));
      counted = counted_look k.parts p.bucket p my.there k.counted;
      few = (let few = k.few in let size = length-set_at k.parts p.bucket q in omega (arith, few, size));
      small = each_set (λ j u. IsSmall u) k.parts p.bucket q (λ j u _ there. k.small j u there) (let h = k.small p.bucket p my.there in record { share = h.share; count = h.count });
      shown = part_shown cells views k at v p q here one refl;
      stands = part_stands cells views k at v p q here one;
    }

pub looks_word : (slots id : ℕ) (me : Me (Unit {0}) View) → me.0.parts ≡ first_part me.0.parts ∷ []
    → Allows (λ (s : Table (Unit {0}) View). Kept s.words s.views) slots id me 0 (λ n. n) (λ n (w : Me (Unit {0}) View). (w ≡ (looks_at n me.0, me.1)) × StepTells n (first_part me.0.parts))
looks_word slots id me one s k size at small =
    let p : Part = first_part me.0.parts in
    let F : ℕ × ℕ → Type 0 = λ t. Kept s.words (set s.views id (record me.0 { parts = with_look t.0 t.1 p ∷ [] })) in
    let G : List ℕ → Type 0 = λ cs. Kept cs (set s.views id (looks_at (slice_index s.words 0) me.0)) in
    let kept : Kept s.words (set s.views id (looks_at (slice_index s.words 0) me.0)) = subst F (λ i. (sym (ticks_found s.words s.views k) i, sym (shares_found s.words s.views k) i)) (look_kept s.words s.views id me.0 p k at one) in
    (looks_at (slice_index s.words 0) me.0, keeps, tt, subst G (sym (same_words s.words (changes_in k.parts * 4294967296 + shares_in k.parts) k.word)) kept, (refl, tells s.words s.views k id me.0 p at one))
