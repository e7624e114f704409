-- Counted parts and the journals that have their counts give one order.
use Rattle.std.proofs.Common.{◌≡◌, ℕ, zero, suc, ◌+◌, ◌<◌, ◌≤◌, Bool, cond, List, [], ◌∷◌, ◌++◌, length, map, take, drop, refl, sym, ap, ◌∙◌, subst, arith}
use Rattle.std.specs.List.{AllByRecursion as Each, AllZip, filter}
use Rattle.std.proofs.lemmas.Bool.{lt-ltb, le-ltb}
use Rattle.std.proofs.lemmas.List.{take-map, length-map}
use mathlib.Core.Option.{some, some-injective, some-ne-none}
use mathlib.Core.Logic.{dite}
use native.Mathlib.Decide.{dec_le}
use lib.ListN.{get_elem?}
use Rattle.change_order.specs.declared.part.Part.{Part}
use Rattle.change_order.specs.Ticks.{how_many, is_before, last_or, second, share_of, share_before, Rise, NeverFall}
use Rattle.change_order.specs.Counted.{AreCounted, changes_in, shares_before}
use Rattle.change_order.specs.Orders.{LookingLine, JournalCounts, AreAmong, IsLookOf, HasCounts, how_often, present_behind, present_in, IsSeenAt, NeverLess, HasPlaces, HaveOneOrder}
use Rattle.change_order.proofs.Owners.{order_of, length-order, take-order, often, order_within}

-- two lists side by side
zip_at : {A B : Type 0} (R : A → B → Type 0) (xs : List A) (ys : List B) (j : ℕ) (y : B) → AllZip R xs ys → get_elem? ys j ≡ some y → (x : A) × (get_elem? xs j ≡ some x) × R x y
zip_at R [] [] j y h e = absurd (some-ne-none y (sym e))
zip_at R [] (z ∷ ys) j y h e = absurd h
zip_at R (x ∷ xs) [] j y h e = absurd h
zip_at R (x ∷ xs) (z ∷ ys) zero y h e = (x, refl, subst (R x) (some-injective z y e) h.0)
zip_at R (x ∷ xs) (z ∷ ys) (suc j) y h e = zip_at R xs ys j y h.1 e

zip_length : {A B : Type 0} (R : A → B → Type 0) (xs : List A) (ys : List B) → AllZip R xs ys → length xs ≡ length ys
zip_length R [] [] h = refl
zip_length R [] (z ∷ ys) h = absurd h
zip_length R (x ∷ xs) [] h = absurd h
zip_length R (x ∷ xs) (z ∷ ys) h = ap suc (zip_length R xs ys h.1)

-- changes from a tick on
none_before : (low t : ℕ) (cs : List (ℕ × ℕ)) → t ≤ low → Rise low cs → how_many (is_before t) cs ≡ 0
none_before low t [] h r = refl
none_before low t (c ∷ cs) h r =
    let above = r.0 in
    let one = ap {B = ℕ} (λ (b : Bool). cond b 1 0) (le-ltb c.0 t (omega arith)) in
    let rest = none_before (c.0 + 1) t cs (omega arith) r.1 in
    omega (arith, one, rest)

none_kept : (low t : ℕ) (cs : List (ℕ × ℕ)) → t ≤ low → Rise low cs → filter (is_before t) cs ≡ []
none_kept low t [] h r = refl
none_kept low t (c ∷ cs) h r =
    let above = r.0 in
    ap (λ (b : Bool). cond b (c ∷ filter (is_before t) cs) (filter (is_before t) cs)) (le-ltb c.0 t (omega arith)) ∙ none_kept (c.0 + 1) t cs (omega arith) r.1

-- where ticks rise, the changes before one are the first ones
front : (low t : ℕ) (cs : List (ℕ × ℕ)) → Rise low cs → filter (is_before t) cs ≡ take (how_many (is_before t) cs) cs
front low t [] r = refl
front low t (c ∷ cs) r =
    let k = how_many (is_before t) cs in
    dite (dec_le t c.0)
    (λ le.
    let none : filter (is_before t) (c ∷ cs) ≡ [] = none_kept c.0 t (c ∷ cs) le (omega arith, r.1) in
    let zero_of : how_many (is_before t) (c ∷ cs) ≡ 0 = none_before c.0 t (c ∷ cs) le (omega arith, r.1) in
    none ∙ ap (λ (n : ℕ). take n (c ∷ cs)) (sym zero_of))
    (λ no.
    let less : c.0 < t = omega arith in
    let one = ap {B = ℕ} (λ (b : Bool). cond b 1 0) (lt-ltb c.0 t less) in
    let more : how_many (is_before t) (c ∷ cs) ≡ suc k = omega (arith, one) in
    ap (λ (b : Bool). cond b (c ∷ filter (is_before t) cs) (filter (is_before t) cs)) (lt-ltb c.0 t less)
    ∙ (ap (λ (zs : List (ℕ × ℕ)). c ∷ zs) (front (c.0 + 1) t cs r.1) ∙ ap (λ (n : ℕ). take n (c ∷ cs)) (sym more)))

-- the share before a tick is the number behind that many changing lines
share_counts : (t : ℕ) (cs : List (ℕ × ℕ)) (behind : List ℕ) → Rise 0 cs → map second cs ≡ behind → share_before t cs ≡ present_behind (how_many (is_before t) cs) behind
share_counts t cs behind r same =
    ap share_of (front 0 t cs r)
    ∙ (ap (last_or 0) (sym (take-map second (how_many (is_before t) cs) cs)) ∙ ap (λ (ns : List ℕ). last_or 0 (take (how_many (is_before t) cs) ns)) same)

sums_counts : (marks : List ℕ) (t c : ℕ) (ps : List Part) (ts : List JournalCounts) → AllZip HasCounts ps ts
    → ((j : ℕ) (p : Part) → get_elem? ps j ≡ some p → how_often (c + j) marks ≡ how_many (is_before t) p.changes)
    → ((j : ℕ) (p : Part) → get_elem? ps j ≡ some p → Rise 0 p.changes) → shares_before t ps ≡ present_in marks c ts
sums_counts marks t c [] [] h many rise = refl
sums_counts marks t c [] (x ∷ ts) h many rise = absurd h
sums_counts marks t c (p ∷ ps) [] h many rise = absurd h
sums_counts marks t c (p ∷ ps) (x ∷ ts) h many rise =
    let count : how_many (is_before t) p.changes ≡ how_often c marks = (let e : c + 0 ≡ c = omega arith in sym (many 0 p refl) ∙ ap (λ (n : ℕ). how_often n marks) e) in
    let one : share_before t p.changes ≡ present_behind (how_often c marks) x.behind = share_counts t p.changes x.behind (rise 0 p refl) h.0.changes ∙ ap (λ (n : ℕ). present_behind n x.behind) count in
    let rest = sums_counts marks t (suc c) ps ts h.1 (λ j q there. (let e : suc c + j ≡ c + suc j = omega arith in ap (λ (n : ℕ). how_often n marks) e) ∙ many (suc j) q there) (λ j q there. rise (suc j) q there) in
    omega (arith, one, rest)

-- a look stands behind as many changes as its line has before it
count_line : (t k : ℕ) (cs : List (ℕ × ℕ)) → k ≤ length cs → Each (λ c. c.0 < t) (take k cs) → Each (λ c. t ≤ c.0) (drop k cs) → how_many (is_before t) cs ≡ k
count_line t zero [] h a b = refl
count_line t zero (c ∷ cs) h a b =
    let one = ap {B = ℕ} (λ (x : Bool). cond x 1 0) (le-ltb c.0 t b.0) in
    let rest = count_line t zero cs (omega arith) tt b.1 in
    omega (arith, one, rest)
count_line t (suc k) [] h a b = absurd (omega arith)
count_line t (suc k) (c ∷ cs) h a b =
    let one = ap {B = ℕ} (λ (x : Bool). cond x 1 0) (lt-ltb c.0 t a.0) in
    let rest = count_line t k cs (omega arith) a.1 b in
    omega (arith, one, rest)

-- the chosen looks are looks, in order
each_behind : {A : Type 0} (P : A → Type 0) (xs ys : List A) → Each P (xs ++ ys) → Each P ys
each_behind P [] ys h = h
each_behind P (x ∷ xs) ys h = each_behind P xs ys h.1

among_each : {A : Type 0} (P : A → Type 0) (xs ys : List A) → AreAmong xs ys → Each P ys → Each P xs
among_each P [] ys m h = tt
among_each {A = A} P (x ∷ xs) ys m h =
    let F : List A → Type 0 = λ zs. Each P zs in
    let tail = each_behind P m.0 (x ∷ m.1) (subst F m.2 h) in
    (tail.0, among_each P xs m.1 m.3 tail.1)

fall_lower : (low high : ℕ) (ls : List (ℕ × ℕ)) → low ≤ high → NeverFall high ls → NeverFall low ls
fall_lower low high [] h f = tt
fall_lower low high (l ∷ ls) h f = (let a = f.0 in omega arith, f.1)

fall_behind : (low : ℕ) (xs ys : List (ℕ × ℕ)) → NeverFall low (xs ++ ys) → NeverFall low ys
fall_behind low [] ys f = f
fall_behind low (x ∷ xs) ys f = fall_lower low x.0 ys f.0 (fall_behind x.0 xs ys f.1)

among_fall : (low : ℕ) (xs ys : List (ℕ × ℕ)) → AreAmong xs ys → NeverFall low ys → NeverFall low xs
among_fall low [] ys m f = tt
among_fall low (x ∷ xs) ys m f =
    let F : List (ℕ × ℕ) → Type 0 = λ zs. NeverFall low zs in
    let tail = fall_behind low m.0 (x ∷ m.1) (subst F m.2 f) in
    (tail.0, among_fall x.0 xs m.1 m.3 tail.1)

abbrev first : ℕ × ℕ → ℕ
first l = l.0

never_less : (low : ℕ) (ls : List (ℕ × ℕ)) → NeverFall low ls → NeverLess low (map first ls)
never_less low [] f = tt
never_less low (l ∷ ls) f = (f.0, never_less l.0 ls f.1)

module _ (parts : List Part) (all : List JournalCounts) (k : AreCounted parts) (have : AllZip HasCounts parts all) where
  abbrev whole : List ℕ
  whole = order_of parts (changes_in parts)

  abbrev Fits : ℕ × ℕ → Type 0
  Fits l = (l.0 ≤ changes_in parts) × (l.1 ≡ shares_before l.0 parts)

  fits : (ls : List (ℕ × ℕ)) → Each (λ l. l.0 ≤ changes_in parts) ls → Each (λ l. l.1 ≡ shares_before l.0 parts) ls → Each Fits ls
  fits [] w v = tt
  fits (l ∷ ls) w v = ((w.0, v.0), fits ls w.1 v.1)

  -- one line
  seen_at : (b : ℕ) (p : Part) → get_elem? parts b ≡ some p → (l : ℕ × ℕ) (line : LookingLine) → Fits l → IsLookOf p.changes l line → IsSeenAt all whole b l.0 line
  seen_at b p there l line fit look =
      let cut : take l.0 whole ≡ order_of parts l.0 = take-order parts l.0 (changes_in parts) fit.0 in
      let F : List ℕ → Type 0 = λ xs. how_often b xs ≡ line.before in
      let G : List ℕ → Type 0 = λ xs. line.seen ≡ present_in xs 0 all in
      record {
        within = (let long = length-order parts (changes_in parts) in let le = fit.0 in omega (arith, long, le));
        mine = subst F (sym cut) (often parts k b p there l.0 fit.0 ∙ count_line l.0 line.before p.changes look.many look.behind look.ahead);
        sum = subst G (sym cut) (sym look.value ∙ (fit.1 ∙ sums_counts (order_of parts l.0) l.0 0 parts all have
            (λ j q here. (let e : 0 + j ≡ j = omega arith in ap (λ (n : ℕ). how_often n (order_of parts l.0)) e) ∙ often parts k j q here l.0 fit.0)
            (λ j q here. (k.each j q here).order.rising)));
      }

  all_seen : (b : ℕ) (p : Part) → get_elem? parts b ≡ some p → (ls : List (ℕ × ℕ)) (lines : List LookingLine) → Each Fits ls → AllZip (IsLookOf p.changes) ls lines → AllZip (IsSeenAt all whole b) (map first ls) lines
  all_seen b p there [] [] f h = h
  all_seen b p there [] (x ∷ lines) f h = absurd h
  all_seen b p there (l ∷ ls) [] f h = absurd h
  all_seen b p there (l ∷ ls) (x ∷ lines) f h = (seen_at b p there l x f.0 h.0, all_seen b p there ls lines f.1 h.1)

  every : (n : ℕ) (cs : List (ℕ × ℕ)) → Each (λ c. c.0 < n) cs → how_many (is_before n) cs ≡ length cs
  every n [] h = refl
  every n (c ∷ cs) h = let one = ap {B = ℕ} (λ (x : Bool). cond x 1 0) (lt-ltb c.0 n h.0) in let rest = every n cs h.1 in omega (arith, one, rest)

  places : (b : ℕ) (t : JournalCounts) → get_elem? all b ≡ some t → HasPlaces all whole b t
  places b t here =
      let found = zip_at HasCounts parts all b t have here in
      let p = found.0 in
      let there = found.1 in
      let tells = found.2 in
      let part = k.each b p there in
      record {
        often = often parts k b p there (changes_in parts) (omega arith) ∙ (every (changes_in parts) p.changes part.order.below ∙ (sym (length-map p.changes second) ∙ ap (λ (ns : List ℕ). length ns) tells.changes));
        lengths = map first tells.chosen;
        rising = never_less 0 tells.chosen (among_fall 0 tells.chosen p.looks tells.among part.order.standing);
        lines = all_seen b p there tells.chosen t.looked (among_each Fits tells.chosen p.looks tells.among (fits p.looks part.order.within part.values)) tells.lines;
      }

  pub one_order_of : HaveOneOrder all
  one_order_of = record {
    order = whole;
    buckets = order_within parts (length all) k (zip_length HasCounts parts all have) (changes_in parts) (omega arith);
    each = places;
  }
