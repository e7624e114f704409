-- Calls one after another give an order of all changes.
use Rattle.std.proofs.Common.{◌≡◌, ◌≢◌, ℕ, zero, suc, ◌+◌, ◌<◌, ◌≤◌, Bool, cond, List, [], ◌∷◌, ◌++◌, length, map, take, set, replicate, refl, sym, ap, ◌∙◌, subst, ⊎_elim, arith, append_assoc, append-nil}
use Rattle.std.specs.List.{AllByRecursion as Each, AllZip}
use Rattle.std.proofs.lemmas.Bool.{eq-eqb, ne_eqb}
use Rattle.std.proofs.lemmas.List.{take-append-le, take_all, length-append}
use Rattle.std.proofs.Math.Seq.{take-append-add}
use mathlib.Core.Option.{some, some-injective, some-ne-none}
use lib.ListN.{get_elem?}
use Rattle.change_order.specs.Ticks.{last_or, total_by}
use Rattle.change_order.specs.Orders.{LookingLine, JournalCounts, how_often, present_behind, present_in, IsSeenAt, NeverLess}
use Rattle.change_order.specs.Growing.{no_counts}
use Rattle.change_order.specs.Calls.{Call, later_by, with_call, present_of, before_of, IsSeenAlone, IsCall, AreCalls, order_by, places_in, places_by, HasPlacesAt, IsOrderBy, CallsGiveOneOrder}
use Rattle.change_order.proofs.Lists.{at_set, set_here, set_else, each_set, each_append, each_more, within_at, length-set_at}
use Rattle.change_order.proofs.Totals.{total-set}

often-append : (b : ℕ) (xs ys : List ℕ) → how_often b (xs ++ ys) ≡ how_often b xs + how_often b ys
often-append b [] ys = omega arith
often-append b (x ∷ xs) ys = let h = often-append b xs ys in omega (arith, h)

often-here : (b n : ℕ) → how_often b (replicate n b) ≡ n
often-here b zero = refl
often-here b (suc n) = let h = often-here b n in let one = ap {B = ℕ} (λ (x : Bool). cond x 1 0) (eq-eqb b b refl) in omega (arith, h, one)

often-else : (b c n : ℕ) → c ≢ b → how_often b (replicate n c) ≡ 0
often-else b c zero ne = refl
often-else b c (suc n) ne = let h = often-else b c n ne in let one = ap {B = ℕ} (λ (x : Bool). cond x 1 0) (ne_eqb c b ne) in omega (arith, h, one)

often-take : (b n : ℕ) (xs : List ℕ) → how_often b (take n xs) ≤ how_often b xs
often-take b zero xs = omega arith
often-take b (suc n) [] = omega arith
often-take b (suc n) (x ∷ xs) = let h = often-take b n xs in omega (arith, h)

take-replicate : (k n b : ℕ) → k ≤ n → take k (replicate n b) ≡ replicate k b
take-replicate zero n b h = refl
take-replicate (suc k) zero b h = absurd (omega arith)
take-replicate (suc k) (suc n) b h = ap (λ (xs : List ℕ). b ∷ xs) (take-replicate k n b (omega arith))

length-replicate : (n b : ℕ) → length (replicate n b) ≡ n
length-replicate zero b = refl
length-replicate (suc n) b = ap suc (length-replicate n b)

each-replicate : (P : ℕ → Type 0) (n b : ℕ) → P b → Each P (replicate n b)
each-replicate P zero b p = tt
each-replicate P (suc n) b p = (p, each-replicate P n b p)

last-append : (s : ℕ) (xs ys : List ℕ) → last_or s (xs ++ ys) ≡ last_or (last_or s xs) ys
last-append s [] ys = refl
last-append s (x ∷ xs) ys = last-append x xs ys

less-append : (low m : ℕ) (xs ys : List ℕ) → low ≤ m → NeverLess low xs → Each (λ n. n ≤ m) xs → NeverLess m ys → NeverLess low (xs ++ ys)
less-append low m [] [] h a e b = tt
less-append low m [] (y ∷ ys) h a e b = ((let c = b.0 in omega arith), b.1)
less-append low m (x ∷ xs) ys h a e b = (a.0, less-append x m xs ys e.0 a.1 e.1 b)

less-shift : (from low : ℕ) (lines : List LookingLine) → NeverLess low (map before_of lines) → NeverLess (from + low) (map (λ (line : LookingLine). from + line.before) lines)
less-shift from low [] h = tt
less-shift from low (x ∷ lines) h = ((let a = h.0 in omega arith), less-shift from x.before lines h.1)

zip-each : {A : Type 0} (R : ℕ → A → Type 0) (m : ℕ) (xs : List ℕ) (ys : List A) → ((x : ℕ) (y : A) → R x y → x ≤ m) → AllZip R xs ys → Each (λ n. n ≤ m) xs
zip-each R m [] [] f h = tt
zip-each R m [] (y ∷ ys) f h = absurd h
zip-each R m (x ∷ xs) [] f h = absurd h
zip-each R m (x ∷ xs) (y ∷ ys) f h = (f x y h.0, zip-each R m xs ys f h.1)

zip-more : {A : Type 0} (R S : ℕ → A → Type 0) (xs : List ℕ) (ys : List A) → ((x : ℕ) (y : A) → R x y → S x y) → AllZip R xs ys → AllZip S xs ys
zip-more R S [] [] f h = h
zip-more R S [] (y ∷ ys) f h = h
zip-more R S (x ∷ xs) [] f h = h
zip-more R S (x ∷ xs) (y ∷ ys) f h = (f x y h.0, zip-more R S xs ys f h.1)

zip-append : {A : Type 0} (R : ℕ → A → Type 0) (xs vs : List ℕ) (ys ws : List A) → AllZip R xs ys → AllZip R vs ws → AllZip R (xs ++ vs) (ys ++ ws)
zip-append R [] vs [] ws h g = g
zip-append R [] vs (y ∷ ys) ws h g = absurd h
zip-append R (x ∷ xs) vs [] ws h g = absurd h
zip-append R (x ∷ xs) vs (y ∷ ys) ws h g = (h.0, zip-append R xs vs ys ws h.1 g)

-- sums over two lists side by side
present_same : (marks : List ℕ) (c : ℕ) (ts us : List JournalCounts) → length ts ≡ length us
    → ((j : ℕ) (t u : JournalCounts) → get_elem? ts j ≡ some t → get_elem? us j ≡ some u → present_behind (how_often (c + j) marks) t.behind ≡ present_behind (how_often (c + j) marks) u.behind)
    → present_in marks c ts ≡ present_in marks c us
present_same marks c [] [] e f = refl
present_same marks c [] (u ∷ us) e f = absurd (omega arith)
present_same marks c (t ∷ ts) [] e f = absurd (omega arith)
present_same marks c (t ∷ ts) (u ∷ us) e f =
    let z : c + 0 ≡ c = omega arith in
    let one : present_behind (how_often c marks) t.behind ≡ present_behind (how_often c marks) u.behind = subst (λ (n : ℕ). present_behind (how_often n marks) t.behind ≡ present_behind (how_often n marks) u.behind) z (f 0 t u refl refl) in
    let rest = present_same marks (suc c) ts us (omega arith) (λ j x y a b. (let s : c + suc j ≡ suc c + j = omega arith in subst (λ (n : ℕ). present_behind (how_often n marks) x.behind ≡ present_behind (how_often n marks) y.behind) s (f (suc j) x y a b))) in
    omega (arith, one, rest)

present_total : (marks : List ℕ) (c : ℕ) (ts us : List JournalCounts) → length ts ≡ length us
    → ((j : ℕ) (t u : JournalCounts) → get_elem? ts j ≡ some t → get_elem? us j ≡ some u → present_behind (how_often (c + j) marks) t.behind ≡ present_of u)
    → present_in marks c ts ≡ total_by present_of us
present_total marks c [] [] e f = refl
present_total marks c [] (u ∷ us) e f = absurd (omega arith)
present_total marks c (t ∷ ts) [] e f = absurd (omega arith)
present_total marks c (t ∷ ts) (u ∷ us) e f =
    let z : c + 0 ≡ c = omega arith in
    let one : present_behind (how_often c marks) t.behind ≡ present_of u = subst (λ (n : ℕ). present_behind (how_often n marks) t.behind ≡ present_of u) z (f 0 t u refl refl) in
    let rest = present_total marks (suc c) ts us (omega arith) (λ j x y a b. (let s : c + suc j ≡ suc c + j = omega arith in subst (λ (n : ℕ). present_behind (how_often n marks) x.behind ≡ present_of y) s (f (suc j) x y a b))) in
    omega (arith, one, rest)

same_there : (ts : List JournalCounts) (j : ℕ) (t u : JournalCounts) → get_elem? ts j ≡ some t → get_elem? ts j ≡ some u → t ≡ u
same_there ts j t u e f = some-injective t u (sym e ∙ f)

-- one call
module _ (all : List JournalCounts) (order : List ℕ) (places : ℕ → List ℕ) (k : IsOrderBy all order places) (c : Call) (is : IsCall all c) where
  abbrev journal : JournalCounts
  journal = is.journal

  abbrev next : JournalCounts
  next = with_call c journal

  abbrev after : List JournalCounts
  after = set all c.bucket next

  abbrev longer : List ℕ
  longer = order ++ replicate (length c.behind) c.bucket

  size : length after ≡ length all
  size = length-set_at all c.bucket next

  mine : how_often c.bucket order ≡ length journal.behind
  mine = (k.each c.bucket journal is.there).often

  -- what a line saw before the call
  sum_kept : (n : ℕ) → n ≤ length order → present_in (take n order) 0 all ≡ present_in (take n longer) 0 after
  sum_kept n h =
      let cut : take n longer ≡ take n order = take-append-le n order (replicate (length c.behind) c.bucket) h in
      present_same (take n order) 0 all after (sym size) (λ j t u a b.
      ⊎_elim
      (λ (s : (j ≡ c.bucket) × (next ≡ u)).
      let one : journal ≡ t = same_there all j journal t ((ap (λ (m : ℕ). get_elem? all m) s.0) ∙ is.there) a in
      let small : how_often (0 + j) (take n order) ≤ length journal.behind = (let most = often-take (0 + j) n order in let same : 0 + j ≡ c.bucket = (let q = s.0 in omega arith) in let eq = ap (λ (m : ℕ). how_often m order) same in omega (arith, most, eq, mine)) in
      ap (λ (x : JournalCounts). present_behind (how_often (0 + j) (take n order)) x.behind) (sym one)
      ∙ (ap (last_or 0) (sym (take-append-le (how_often (0 + j) (take n order)) journal.behind c.behind small)) ∙ ap (λ (x : JournalCounts). present_behind (how_often (0 + j) (take n order)) x.behind) s.1))
      (λ (s : (j ≢ c.bucket) × (get_elem? all j ≡ some u)). ap (λ (x : JournalCounts). present_behind (how_often (0 + j) (take n order)) x.behind) (same_there all j t u a s.1))
      (at_set all c.bucket j next u b))
      ∙ ap (λ (xs : List ℕ). present_in xs 0 after) (sym cut)

  seen_kept : (b n : ℕ) (line : LookingLine) → IsSeenAt all order b n line → IsSeenAt after longer b n line
  seen_kept b n line h =
      let cut : take n longer ≡ take n order = take-append-le n order (replicate (length c.behind) c.bucket) h.within in
      record {
        within = (let w = h.within in let l = length-append order (replicate (length c.behind) c.bucket) in omega (arith, w, l));
        mine = ap (λ (xs : List ℕ). how_often b xs) cut ∙ h.mine;
        sum = h.sum ∙ sum_kept n h.within;
      }

  -- what a line of the call saw
  seen_new : (line : LookingLine) → IsSeenAlone all journal c line → IsSeenAt after longer c.bucket (length order + line.before) (later_by (length journal.behind) line)
  seen_new line h =
      let m = line.before in
      let marks : List ℕ = order ++ replicate m c.bucket in
      let cut : take (length order + m) longer ≡ marks = take-append-add order (replicate (length c.behind) c.bucket) m ∙ ap (λ (xs : List ℕ). order ++ xs) (take-replicate m (length c.behind) c.bucket h.within) in
      let alone : JournalCounts = record journal { behind = journal.behind ++ take m c.behind } in
      let count : how_often c.bucket marks ≡ length journal.behind + m = (let a = often-append c.bucket order (replicate m c.bucket) in let b = often-here c.bucket m in omega (arith, a, b, mine)) in
      let sums : present_in marks 0 after ≡ total_by present_of (set all c.bucket alone) = present_total marks 0 after (set all c.bucket alone) (size ∙ sym (length-set_at all c.bucket alone)) (λ j t u a b.
      ⊎_elim
      (λ (s : (j ≡ c.bucket) × (next ≡ t)).
      let inside : c.bucket < length all = within_at all c.bucket journal is.there in
      let two : alone ≡ u = same_there (set all c.bucket alone) j alone u (ap (λ (x : ℕ). get_elem? (set all c.bucket alone) x) s.0 ∙ set_here all c.bucket alone inside) b in
      let place : 0 + j ≡ c.bucket = (let q = s.0 in omega arith) in
      ap (λ (x : JournalCounts). present_behind (how_often (0 + j) marks) x.behind) (sym s.1)
      ∙ (ap (λ (x : ℕ). present_behind x next.behind) (ap (λ (x : ℕ). how_often x marks) place ∙ count)
      ∙ (ap (last_or 0) (take-append-add journal.behind c.behind m) ∙ ap present_of two)))
      (λ (s : (j ≢ c.bucket) × (get_elem? all j ≡ some t)).
      let two : t ≡ u = same_there all j t u s.1 (sym (set_else all c.bucket j alone s.0) ∙ b) in
      let place : 0 + j ≡ j = omega arith in
      let none : how_often j marks ≡ length t.behind = (let e = often-append j order (replicate m c.bucket) in let f = often-else j c.bucket m (λ q. s.0 (sym q)) in let g = (k.each j t s.1).often in omega (arith, e, f, g)) in
      let short : length t.behind ≤ how_often (0 + j) marks = (let q = ap (λ (x : ℕ). how_often x marks) place in omega (arith, q, none)) in
      ap (last_or 0) (take_all (how_often (0 + j) marks) t.behind short) ∙ ap present_of two)
      (at_set all c.bucket j next t a)) in
      let total = total-set present_of all c.bucket journal alone is.there in
      let last : present_of alone ≡ last_or (present_of journal) (take m c.behind) = last-append 0 journal.behind (take m c.behind) in
      let given = h.sum in
      record {
        within = (let w = h.within in let l = length-append order (replicate (length c.behind) c.bucket) in let r = length-replicate (length c.behind) c.bucket in omega (arith, w, l, r));
        mine = ap (λ (xs : List ℕ). how_often c.bucket xs) cut ∙ count;
        sum = (let value : line.seen ≡ total_by present_of (set all c.bucket alone) = omega (arith, total, last, given) in value ∙ (sym sums ∙ ap (λ (xs : List ℕ). present_in xs 0 after) (sym cut)));
      }

  new_lines : (lines : List LookingLine) → Each (IsSeenAlone all journal c) lines → AllZip (IsSeenAt after longer c.bucket) (map (λ (line : LookingLine). length order + line.before) lines) (map (later_by (length journal.behind)) lines)
  new_lines [] h = tt
  new_lines (x ∷ lines) h = (seen_new x h.0, new_lines lines h.1)

  old_most : (b : ℕ) (t : JournalCounts) → get_elem? all b ≡ some t → Each (λ n. n ≤ length order) (places b)
  old_most b t here = zip-each (IsSeenAt all order b) (length order) (places b) t.looked (λ n line h. h.within) (k.each b t here).lines

  places_after : ℕ → List ℕ
  places_after b = places b ++ places_in b (length order) c

  one_call : IsOrderBy after longer (λ b. places b ++ places_in b (length order) c)
  one_call = record {
    buckets = each_append (λ b. b < length after) order (replicate (length c.behind) c.bucket)
        (each_more (λ b. b < length all) (λ b. b < length after) order (λ b h. omega (arith, size)) k.buckets)
        (each-replicate (λ b. b < length after) (length c.behind) c.bucket (let inside = within_at all c.bucket journal is.there in omega (arith, inside, size)));
    each = each_set (λ b t. HasPlacesAt after longer b t (places b ++ places_in b (length order) c)) all c.bucket next
        (λ j t ne here.
        let was = k.each j t here in
        let none : places_in j (length order) c ≡ [] = ap (λ (x : Bool). cond x (map (λ (line : LookingLine). length order + line.before) c.looked) []) (ne_eqb c.bucket j (λ e. ne (sym e))) in
        let same : places j ++ places_in j (length order) c ≡ places j = ap (λ (xs : List ℕ). places j ++ xs) none ∙ append-nil (places j) in
        subst (λ (xs : List ℕ). HasPlacesAt after longer j t xs) (sym same) (record {
          often = (let a = often-append j order (replicate (length c.behind) c.bucket) in let b = often-else j c.bucket (length c.behind) (λ e. ne (sym e)) in let d = was.often in omega (arith, a, b, d));
          rising = was.rising;
          lines = zip-more (IsSeenAt all order j) (IsSeenAt after longer j) (places j) t.looked (seen_kept j) was.lines;
        }))
        (let was = k.each c.bucket journal is.there in
        let new : List ℕ = map (λ (line : LookingLine). length order + line.before) c.looked in
        let yes : places_in c.bucket (length order) c ≡ new = ap (λ (x : Bool). cond x new []) (eq-eqb c.bucket c.bucket refl) in
        subst (λ (xs : List ℕ). HasPlacesAt after longer c.bucket next (places c.bucket ++ xs)) (sym yes) (record {
          often = (let a = often-append c.bucket order (replicate (length c.behind) c.bucket) in let b = often-here c.bucket (length c.behind) in let d = length-append journal.behind c.behind in omega (arith, a, b, d, mine));
          rising = less-append 0 (length order) (places c.bucket) new (omega arith) was.rising (old_most c.bucket journal is.there)
              (let z : length order + 0 ≡ length order = omega arith in subst (λ (n : ℕ). NeverLess n new) z (less-shift (length order) 0 c.looked is.rising));
          lines = zip-append (IsSeenAt after longer c.bucket) (places c.bucket) new journal.looked (map (later_by (length journal.behind)) c.looked)
              (zip-more (IsSeenAt all order c.bucket) (IsSeenAt after longer c.bucket) (places c.bucket) journal.looked (seen_kept c.bucket) was.lines)
              (new_lines c.looked is.lines);
        }));
  }

-- the same order and the same lengths
order_same : (all end : List JournalCounts) (xs ys : List ℕ) (f g : ℕ → List ℕ) → all ≡ end → xs ≡ ys → ((b : ℕ) → f b ≡ g b) → IsOrderBy all xs f → IsOrderBy end ys g
order_same all end xs ys f g same order places h =
    let moved : IsOrderBy end ys f = subst (λ (x : List JournalCounts × List ℕ). IsOrderBy x.0 x.1 f) (λ i. (same i, order i)) h in
    record {
      buckets = moved.buckets;
      each = λ b t here. subst (λ (ls : List ℕ). HasPlacesAt end ys b t ls) (places b) (moved.each b t here);
    }

more_calls : (cs : List Call) (all end : List JournalCounts) (order : List ℕ) (places : ℕ → List ℕ) → IsOrderBy all order places → AreCalls all cs end → IsOrderBy end (order ++ order_by cs) (λ b. places b ++ places_by b (length order) cs)
more_calls [] all end order places k calls = order_same all end order (order ++ []) places (λ b. places b ++ []) calls (sym (append-nil order)) (λ b. sym (append-nil (places b))) k
more_calls (c ∷ cs) all end order places k calls =
    let longer : List ℕ = order ++ replicate (length c.behind) c.bucket in
    let rest = more_calls cs (set all c.bucket (with_call c calls.0.journal)) end longer (λ b. places b ++ places_in b (length order) c) (one_call all order places k c calls.0) calls.1 in
    let long : length longer ≡ length order + length c.behind = (let a = length-append order (replicate (length c.behind) c.bucket) in let b = length-replicate (length c.behind) c.bucket in omega (arith, a, b)) in
    order_same end end (longer ++ order_by cs) (order ++ (replicate (length c.behind) c.bucket ++ order_by cs)) (λ b. (places b ++ places_in b (length order) c) ++ places_by b (length longer) cs) (λ b. places b ++ (places_in b (length order) c ++ places_by b (length order + length c.behind) cs))
    refl (append_assoc order (replicate (length c.behind) c.bucket) (order_by cs))
    (λ b. append_assoc (places b) (places_in b (length order) c) (places_by b (length longer) cs) ∙ ap (λ (n : ℕ). places b ++ (places_in b (length order) c ++ places_by b n cs)) long)
    rest

blank_there : (n b : ℕ) (t : JournalCounts) → get_elem? (replicate n no_counts) b ≡ some t → no_counts ≡ t
blank_there zero b t e = absurd (some-ne-none t (sym e))
blank_there (suc n) zero t e = some-injective no_counts t e
blank_there (suc n) (suc b) t e = blank_there n b t e

no_calls : (size : ℕ) → IsOrderBy (replicate size no_counts) [] (λ b. [])
no_calls size = record {
  buckets = tt;
  each = λ b t here. subst (λ (u : JournalCounts). HasPlacesAt (replicate size no_counts) [] b u []) (blank_there size b t here) (record { often = refl; rising = tt; lines = tt });
}

pub calls_give_order : CallsGiveOneOrder
calls_give_order = record {
  calls = λ size cs end calls. more_calls cs (replicate size no_counts) end [] (λ b. []) (no_calls size) calls;
  one = λ all order places k. record {
    order = order;
    buckets = k.buckets;
    each = λ b t here. (let h = k.each b t here in record { often = h.often; lengths = places b; rising = h.rising; lines = h.lines });
  };
}
