-- A journal and its bucket's counts grow line by line.
use Rattle.std.proofs.Common.{◌≡◌, ℕ, zero, suc, ◌+◌, ◌-◌, ◌<◌, ◌≤◌, List, [], ◌∷◌, ◌++◌, length, drop, refl, sym, ap, ◌∙◌, subst, arith, append_assoc}
use Rattle.std.specs.List.{AllByRecursion as Each, AllZip}
use Rattle.std.proofs.lemmas.List.{map-append, take-append-le, take_all}
use Rattle.change_order.specs.declared.part.Part.{Part}
use Rattle.change_order.specs.Ticks.{IsLater, IsNext, second}
use Rattle.change_order.specs.Growing.{with_change}
use Rattle.change_order.specs.Orders.{LookingLine, JournalCounts, AreAmong, IsLookOf, HasCounts}
use Rattle.change_order.specs.Growing.{with_changing_line, with_looking_line, part_of, AwaitsLine, JournalsGrowLineByLine}
use Rattle.change_order.proofs.Lists.{length-snoc, each_snoc}

among_longer : {A : Type 0} (xs ys zs : List A) → AreAmong xs ys → AreAmong xs (ys ++ zs)
among_longer [] ys zs m = tt
among_longer {A = A} (x ∷ xs) ys zs m = (m.0, m.1 ++ zs, ap (λ (ws : List A). ws ++ zs) m.2 ∙ append_assoc m.0 (x ∷ m.1) zs, among_longer xs m.1 zs m.3)

among_one_more : {A : Type 0} (xs front : List A) (y : A) (rest : List A) → AreAmong xs front → AreAmong (xs ++ y ∷ []) (front ++ y ∷ rest)
among_one_more [] front y rest m = (front, rest, refl, tt)
among_one_more {A = A} (x ∷ xs) front y rest m = (m.0, m.1 ++ y ∷ rest, ap (λ (ws : List A). ws ++ y ∷ rest) m.2 ∙ append_assoc m.0 (x ∷ m.1) (y ∷ rest), among_one_more xs m.1 y rest m.3)

zip_more : {A B : Type 0} (R S : A → B → Type 0) (P : A → Type 0) (xs : List A) (ys : List B) → ((x : A) (y : B) → P x → R x y → S x y) → Each P xs → AllZip R xs ys → AllZip S xs ys
zip_more R S P [] [] f e h = h
zip_more R S P [] (y ∷ ys) f e h = h
zip_more R S P (x ∷ xs) [] f e h = h
zip_more R S P (x ∷ xs) (y ∷ ys) f e h = (f x y e.0 h.0, zip_more R S P xs ys f e.1 h.1)

zip_snoc : {A B : Type 0} (R : A → B → Type 0) (xs : List A) (ys : List B) (x : A) (y : B) → AllZip R xs ys → R x y → AllZip R (xs ++ x ∷ []) (ys ++ y ∷ [])
zip_snoc R [] [] x y h r = (r, h)
zip_snoc R [] (z ∷ ys) x y h r = absurd h
zip_snoc R (w ∷ xs) [] x y h r = absurd h
zip_snoc R (w ∷ xs) (z ∷ ys) x y h r = (h.0, zip_snoc R xs ys x y h.1 r)

each_behind : {A : Type 0} (P : A → Type 0) (xs ys : List A) → Each P (xs ++ ys) → Each P ys
each_behind P [] ys h = h
each_behind P (x ∷ xs) ys h = each_behind P xs ys h.1

among_each : {A : Type 0} (P : A → Type 0) (xs ys : List A) → AreAmong xs ys → Each P ys → Each P xs
among_each P [] ys m h = tt
among_each {A = A} P (x ∷ xs) ys m h =
    let F : List A → Type 0 = λ zs. Each P zs in
    let tail = each_behind P m.0 (x ∷ m.1) (subst F m.2 h) in
    (tail.0, among_each P xs m.1 m.3 tail.1)

drop-snoc : {A : Type 0} (k : ℕ) (xs : List A) (x : A) → k ≤ length xs → drop k (xs ++ x ∷ []) ≡ drop k xs ++ x ∷ []
drop-snoc zero xs x h = refl
drop-snoc (suc k) [] x h = absurd (omega arith)
drop-snoc (suc k) (y ∷ ys) x h = drop-snoc k ys x (omega arith)

drop-length : {A : Type 0} (xs : List A) → drop (length xs) xs ≡ []
drop-length [] = refl
drop-length (x ∷ xs) = drop-length xs

-- a look stands before each later change
pub look_later : (changes : List (ℕ × ℕ)) (look : ℕ × ℕ) (line : LookingLine) (tick share : ℕ) → look.0 ≤ tick → IsLookOf changes look line → IsLookOf (changes ++ (tick, share) ∷ []) look line
look_later changes look line tick share h l =
    let F : List (ℕ × ℕ) → Type 0 = λ cs. Each (λ c. c.0 < look.0) cs in
    let G : List (ℕ × ℕ) → Type 0 = λ cs. Each (λ c. look.0 ≤ c.0) cs in
    record {
      value = l.value;
      many = (let many = l.many in let long = length-snoc changes (tick, share) in omega (arith, long));
      behind = subst F (sym (take-append-le line.before changes ((tick, share) ∷ []) l.many)) l.behind;
      ahead = subst G (sym (drop-snoc line.before changes (tick, share) l.many)) (each_snoc (λ (c : ℕ × ℕ). look.0 ≤ c.0) (drop line.before changes) (tick, share) l.ahead h);
    }

-- a look stands behind all changes so far
pub look_now : (changes : List (ℕ × ℕ)) (tick value : ℕ) → Each (λ c. c.0 < tick) changes → IsLookOf changes (tick, value) (record { before = length changes; seen = value })
look_now changes tick value h =
    let F : List (ℕ × ℕ) → Type 0 = λ cs. Each (λ c. c.0 < tick) cs in
    let G : List (ℕ × ℕ) → Type 0 = λ cs. Each (λ c. tick ≤ c.0) cs in
    record { value = refl; many = omega arith; behind = subst F (sym (take_all (length changes) changes (omega arith))) h; ahead = subst G (sym (drop-length changes)) tt }

pub counts_change : (p : Part) (t : JournalCounts) (tick share : ℕ) → IsLater tick p.changes p.looks → HasCounts p t → HasCounts (with_change tick share p) (with_changing_line share t)
counts_change p t tick share later counts = record {
  changes = map-append second p.changes ((tick, share) ∷ []) ∙ ap (λ (ns : List ℕ). ns ++ share ∷ []) counts.changes;
  chosen = counts.chosen;
  among = counts.among;
  lines = zip_more (IsLookOf p.changes) (IsLookOf (p.changes ++ (tick, share) ∷ [])) (λ (l : ℕ × ℕ). l.0 ≤ tick) counts.chosen t.looked
      (λ l line h r. look_later p.changes l line tick share h r) (among_each (λ (l : ℕ × ℕ). l.0 ≤ tick) counts.chosen p.looks counts.among later.behind) counts.lines;
}

pub counts_line : (p : Part) (t : JournalCounts) (front rest : List (ℕ × ℕ)) (look : ℕ × ℕ) (line : LookingLine) → p.looks ≡ front ++ look ∷ rest → HasCounts (record p { looks = front }) t → IsLookOf p.changes look line → HasCounts p (with_looking_line line t)
counts_line p t front rest look line split counts is =
    let F : List (ℕ × ℕ) → Type 0 = λ ls. AreAmong (counts.chosen ++ look ∷ []) ls in
    record {
      changes = counts.changes;
      chosen = counts.chosen ++ look ∷ [];
      among = subst F (sym split) (among_one_more counts.chosen front look rest counts.among);
      lines = zip_snoc (IsLookOf p.changes) counts.chosen t.looked look line counts.lines is;
    }

each_front : {A : Type 0} (P : A → Type 0) (xs ys : List A) → Each P (xs ++ ys) → Each P xs
each_front P [] ys h = tt
each_front P (x ∷ xs) ys h = (h.0, each_front P xs ys h.1)

pub change_counts : (b : ℕ) (t : JournalCounts) (old new looks after : List (ℕ × ℕ)) (share : ℕ) → IsNext old new old looks share → after ≡ looks → HasCounts (part_of b old looks) t → HasCounts (part_of b new after) (with_changing_line share t)
change_counts b t old new looks after share next same counts =
    subst (λ (x : List (ℕ × ℕ) × List (ℕ × ℕ)). HasCounts (part_of b x.0 x.1) (with_changing_line share t)) (λ i. (sym next.grown i, sym same i)) (counts_change (part_of b old looks) t next.tick share next.later counts)

pub look_awaits : (b : ℕ) (t : JournalCounts) (changes after old new : List (ℕ × ℕ)) (value : ℕ) → IsNext old new changes old value → after ≡ changes → HasCounts (part_of b changes old) t → AwaitsLine (part_of b after new) t (record { before = length changes; seen = value })
look_awaits b t changes after old new value next same counts =
    let line : LookingLine = record { before = length changes; seen = value } in
    let now : AwaitsLine (part_of b changes (old ++ (next.tick, value) ∷ [])) t line = record {
      look = (next.tick, value);
      front = old;
      split = refl;
      counts = counts;
      is = look_now changes next.tick value next.later.above;
    } in
    subst (λ (x : List (ℕ × ℕ) × List (ℕ × ℕ)). AwaitsLine (part_of b x.0 x.1) t line) (λ i. (sym same i, sym next.grown i)) now

pub change_awaits : (b : ℕ) (t : JournalCounts) (old new looks after : List (ℕ × ℕ)) (share : ℕ) (line : LookingLine) → IsNext old new old looks share → after ≡ looks → AwaitsLine (part_of b old looks) t line → AwaitsLine (part_of b new after) (with_changing_line share t) line
change_awaits b t old new looks after share line next same waits =
    let F : List (ℕ × ℕ) → Type 0 = λ ls. Each (λ l. l.0 ≤ next.tick) ls in
    let all = subst F waits.split next.later.behind in
    let now : AwaitsLine (part_of b (old ++ (next.tick, share) ∷ []) looks) (with_changing_line share t) line = record {
      look = waits.look;
      front = waits.front;
      split = waits.split;
      counts = counts_change (part_of b old waits.front) t next.tick share (record { above = next.later.above; behind = each_front (λ (l : ℕ × ℕ). l.0 ≤ next.tick) waits.front (waits.look ∷ []) all }) waits.counts;
      is = look_later old waits.look line next.tick share (each_behind (λ (l : ℕ × ℕ). l.0 ≤ next.tick) waits.front (waits.look ∷ []) all).0 waits.is;
    } in
    subst (λ (x : List (ℕ × ℕ) × List (ℕ × ℕ)). AwaitsLine (part_of b x.0 x.1) (with_changing_line share t) line) (λ i. (sym next.grown i, sym same i)) now

pub line_counts : (p : Part) (t : JournalCounts) (line : LookingLine) → AwaitsLine p t line → HasCounts p (with_looking_line line t)
line_counts p t line waits = counts_line p t waits.front [] waits.look line waits.split waits.counts waits.is

pub none_counts : (p : Part) (t : JournalCounts) (line : LookingLine) → AwaitsLine p t line → HasCounts p t
none_counts p t line waits = record {
  changes = waits.counts.changes;
  chosen = waits.counts.chosen;
  among = (let F : List (ℕ × ℕ) → Type 0 = λ ls. AreAmong waits.counts.chosen ls in subst F (sym waits.split) (among_longer waits.counts.chosen waits.front (waits.look ∷ []) waits.counts.among));
  lines = waits.counts.lines;
}

pub line_by_line : JournalsGrowLineByLine
line_by_line = record {
  start = λ b. record { changes = refl; chosen = []; among = tt; lines = tt };
  change = change_counts;
  look = look_awaits;
  change_behind = change_awaits;
  line = line_counts;
  none = none_counts;
}

-- a list has one more
pub next-length : (old new changes looks : List (ℕ × ℕ)) (number : ℕ) → IsNext old new changes looks number → length new ≡ length old + 1
next-length old new changes looks number next = (let e = length-snoc old (next.tick, number) in ap (λ (xs : List (ℕ × ℕ)). length xs) next.grown ∙ omega (arith, e))
