-- In the midst of its calls a table has room for the next line: no bucket has gone beyond its moment, and none has more operations than there were lines.
use Rattle.std.proofs.Common.{◌≡◌, ℕ, zero, suc, ◌<◌, ◌≤◌, ◌+◌, Bool, true, false, ◌==◌, if◌then◌else◌, List, [], ◌∷◌, ◌++◌, length, map, take, get_or, refl, sym, ◌∙◌, ap, subst, arith, ⊎_elim}
use Rattle.std.specs.Prelude.{filter}
use Rattle.std.specs.List.{AllByRecursion}
use Rattle.std.proofs.lemmas.Bool.{cases_eq}
use Rattle.std.proofs.lemmas.Bool.Decides.{nat_tests}
use Rattle.std.proofs.lemmas.List.{length-append, length-map, length-take-le, get_or-set_same}
use Rattle.nb_base.specs.declared.line.Line.{Line}
use Rattle.nb_base.specs.declared.line.Reply.{Reply}
use Rattle.nb_base.specs.declared.params.Params.{Params}
use Rattle.nb_base.specs.Params.{InRange}
use Rattle.nb_journal.specs.Keys.{is_own}
use Rattle.nb_journal.specs.Accounts.{own_lines, line_bound, most_lines}
use Rattle.nb_bucket.specs.Bucket.{Journal}
use Rattle.neigh_run.specs.Merged.{Entered, goes_to}
use Rattle.neigh_run.specs.Seen.{called, buckets_from}
use Rattle.neigh_run.specs.Inline.{entered_line}
use Rattle.neigh_run.specs.Plan.{RisesFrom}
use Rattle.plain_table.specs.declared.answer.Answer.{Answer}
use Rattle.plain_table.specs.Calls.{Call, call_to, calls_for, calls_of, calls_on, buckets_called}
use Rattle.plain_table.specs.Table.{bucket_at, no_journal, params_of, IsNew}
use Rattle.plain_table.specs.Entering.{AreByMoment, LineIsUpTo, AreInBound}
use Rattle.plain_table.specs.Calling.{HaveRoom, EntersAmong, CallsOne, CallsEach}
use Rattle.plain_table.proofs.Entering.{enters_one}
use Rattle.plain_table.proofs.CallsOf.{calls_of-nil, calls_of-cons, entered-all, entered-many}
use Rattle.plain_table.proofs.EachCall.{long-each, other-one, new_at}

-- ---- a bucket behind some calls

-- a bucket with these parameters has at most so many operations, and hasn't gone beyond a moment
record IsUpTo (p : Params) (count at : ℕ) (j : Journal) : Type 0 where
  params : j.params ≡ p
  limit : j.limit ≡ most_lines
  clock : j.clock ≤ at
  few : length (own_lines j.lines) ≤ count

abbrev IsCallUpTo : ℕ → Call → Type 0
IsCallUpTo at call = call.entered.at ≤ at

upto_one : (p : Params) (count at n place : ℕ) (b : ℕ) (x : Entered) (r : Reply) (old new : Journal) → is_own x.op ≡ true → old.clock ≤ x.at → x.at ≤ at → EntersAmong n x old new place r → IsUpTo p count at old → IsUpTo p (1 + count) at new
upto_one p count at n place b x r old new own le upto e h =
    let one = enters_one p b x place r old new own h.params le e.entered in
    let grown = ap (λ (xs : List Entered). length xs) one.entered ∙ length-append (map entered_line (own_lines old.lines)) (x ∷ []) in
    let mapped = length-map (own_lines new.lines) entered_line in
    let mapped_old = length-map (own_lines old.lines) entered_line in
    let clock = one.at in
    let few = h.few in
    record {
      params = one.params ∙ h.params;
      limit = one.limit ∙ h.limit;
      clock = omega (arith, clock, upto);
      few = omega (arith, grown, mapped, mapped_old, few);
    }

-- a call of a bucket is one more of it, and none of another
one_more : (b c count : ℕ) → b ≡ c → 1 + count ≡ (if c == b then 1 else 0) + count
one_more b c count e = let same : (c == b) ≡ true = grind (arith, nat_tests, e) in ap (λ (t : Bool). (if t then 1 else 0) + count) (sym same)

no_more : (b c count : ℕ) → (b ≡ c → ⊥) → count ≡ (if c == b then 1 else 0) + count
no_more b c count apart =
    let none : count ≡ 0 + count = omega arith in
    let other : (c == b) ≡ false = grind (arith, nat_tests, apart) in
    none ∙ ap (λ (t : Bool). (if t then 1 else 0) + count) (sym other)

upto_next : (p : Params) (count at : ℕ) (x : Call) (old new : List Journal) (answers more : List Answer) (b : ℕ) → CallsOne x old new answers more → IsCallUpTo at x → IsUpTo p count at (bucket_at old b)
    → IsUpTo p ((if x.bucket == b then 1 else 0) + count) at (bucket_at new b)
upto_next p count at x old new answers more b h upto was = ⊎_elim
    (λ (same : b ≡ x.bucket).
    subst (λ (n : ℕ). IsUpTo p n at (bucket_at new b)) (one_more b x.bucket count same)
    (subst (IsUpTo p (1 + count) at) (sym (ap (λ (t : List Journal). bucket_at t b) h.new_is ∙ ap (bucket_at _) same ∙ get_or-set_same old x.bucket h.journal no_journal h.within))
    (upto_one p count at h.others h.place b x.entered h.reply (bucket_at old x.bucket) h.journal h.own h.later upto h.entered (subst (λ (c : ℕ). IsUpTo p count at (bucket_at old c)) same was))))
    (λ (apart : b ≡ x.bucket → ⊥).
    subst (λ (n : ℕ). IsUpTo p n at (bucket_at new b)) (no_more b x.bucket count apart)
    (subst (IsUpTo p count at) (sym (other-one x old new answers more b h apart)) was))
    (cases_eq b x.bucket)

upto_each : (p : Params) (count at : ℕ) (xs : List Call) (old new : List Journal) (answers more : List Answer) (b : ℕ) → CallsEach xs old new answers more → AllByRecursion (IsCallUpTo at) xs → IsUpTo p count at (bucket_at old b)
    → IsUpTo p (called b (buckets_called xs) + count) at (bucket_at new b)
upto_each p count at [] old new answers more b h upto was = let none : count ≡ 0 + count = omega arith in subst (λ (n : ℕ). IsUpTo p n at (bucket_at new b)) none (subst (λ (t : List Journal). IsUpTo p count at (bucket_at t b)) (sym h.0) was)
upto_each p count at (x ∷ xs) old new answers more b h upto was =
    let moved : called b (buckets_called xs) + ((if x.bucket == b then 1 else 0) + count) ≡ (if x.bucket == b then 1 else 0) + called b (buckets_called xs) + count = omega arith in
    subst (λ (n : ℕ). IsUpTo p n at (bucket_at new b)) moved
    (upto_each p ((if x.bucket == b then 1 else 0) + count) at xs h.between new h.so_far more b h.behind upto.1 (upto_next p count at x old h.between answers h.so_far b h.one upto.0 was))

-- ---- the calls of lines

few_pass : (p : Entered → Bool) (xs : List Entered) → length (filter p xs) ≤ length xs
few_pass p [] = omega arith
few_pass p (x ∷ xs) = by_test (p x) (few_pass p xs) where
  by_test : (t : Bool) → length (filter p xs) ≤ length xs → length (if t then x ∷ filter p xs else filter p xs) ≤ suc (length xs)
  by_test true rest = omega (arith, rest)
  by_test false rest = omega (arith, rest)

-- no bucket is called more often than there are lines
few_calls : (n b : ℕ) (lines : List Line) → b < n → called b (buckets_called (calls_on n lines)) ≤ length lines
few_calls n b lines lt =
    let xs : List Entered = map entered_line lines in
    let many = entered-many b (calls_of n xs) in
    let own = ap (λ (ys : List Entered). length ys) (entered-all n b xs lt) in
    let few = few_pass (λ (x : Entered). goes_to n b x.op) xs in
    let mapped = length-map lines entered_line in
    omega (arith, many, own, few, mapped)

each_join : {X : Type 0} (P : X → Type 0) (xs ys : List X) → AllByRecursion P xs → AllByRecursion P ys → AllByRecursion P (xs ++ ys)
each_join P [] ys h g = g
each_join P (x ∷ xs) ys h g = (h.0, each_join P xs ys h.1 g)

upto_calls : (at : ℕ) (x : Entered) (bs : List ℕ) → x.at ≤ at → AllByRecursion (IsCallUpTo at) (map (call_to x) bs)
upto_calls at x [] le = tt
upto_calls at x (b ∷ bs) le = (le, upto_calls at x bs le)

upto_lines : (n at : ℕ) (lines : List Line) → AllByRecursion (LineIsUpTo at) lines → AllByRecursion (IsCallUpTo at) (calls_on n lines)
upto_lines n at [] upto = subst (AllByRecursion (IsCallUpTo at)) (sym (calls_of-nil n)) tt
upto_lines n at (l ∷ ls) upto =
    let x = entered_line l in
    subst (AllByRecursion (IsCallUpTo at)) (sym (calls_of-cons n (entered_line l) (map entered_line ls)))
    (each_join (IsCallUpTo at) (calls_for n (entered_line l)) (calls_on n ls) (upto_calls at (entered_line l) (buckets_from n 0 n l.op) upto.0) (upto_lines n at ls upto.1))

-- ---- lines by moment

-- those before a line aren't later
rises_to : (lines : List Line) (m i : ℕ) (line : Line) → RisesFrom m (map (λ (l : Line). l.at) lines) → i < length lines → line ≡ get_or lines i line → m ≤ line.at
rises_to [] m i line h lt at = absurd (omega (arith, lt))
rises_to (x ∷ xs) m zero line h lt at = subst (λ (l : Line). m ≤ l.at) (sym at) h.0
rises_to (x ∷ xs) m (suc i) line h lt at = let rest = rises_to xs x.at i line h.1 (omega (arith, lt)) at in let here = h.0 in omega (arith, rest, here)

pub earlier_upto : (lines : List Line) (m i : ℕ) (line : Line) → RisesFrom m (map (λ (l : Line). l.at) lines) → i < length lines → line ≡ get_or lines i line → AllByRecursion (LineIsUpTo line.at) (take i lines)
earlier_upto [] m i line h lt at = absurd (omega (arith, lt))
earlier_upto (x ∷ xs) m zero line h lt at = tt
earlier_upto (x ∷ xs) m (suc i) line h lt at = (rises_to xs x.at i line h.1 (omega (arith, lt)) at, earlier_upto xs x.at i line h.1 (omega (arith, lt)) at)

upto_at : (m : ℕ) (lines : List Line) (i : ℕ) (line : Line) → AllByRecursion (LineIsUpTo m) lines → i < length lines → line ≡ get_or lines i line → line.at ≤ m
upto_at m [] i line h lt at = absurd (omega (arith, lt))
upto_at m (x ∷ xs) zero line h lt at = subst (LineIsUpTo m) (sym at) h.0
upto_at m (x ∷ xs) (suc i) line h lt at = upto_at m xs i line h.1 (omega (arith, lt)) at

-- ---- room

new_upto : (table : List Journal) (b at : ℕ) → IsNew table → b < length table → IsUpTo (params_of table) 0 at (bucket_at table b)
new_upto table b at new lt =
    subst (IsUpTo (params_of table) 0 at) (sym (new_at table b new lt)) (record { params = refl; limit = refl; clock = omega arith; few = omega arith })

pub have_room : (old new : List Journal) (lines : List Line) (i : ℕ) (line : Line) (answers more : List Answer) → InRange (params_of old) → IsNew old → AreByMoment lines → AreInBound (params_of old) lines
    → i < length lines → line ≡ get_or lines i line → CallsEach (calls_on (length old) (take i lines)) old new answers more → HaveRoom line new
have_room old new lines i line answers more r fresh by_moment bound lt at calls b within =
    let long = long-each (calls_on (length old) (take i lines)) old new answers more calls in
    let there : b < length old = omega (arith, within, long) in
    let early = earlier_upto lines 0 i line by_moment lt at in
    let it = upto_each (params_of old) 0 line.at (calls_on (length old) (take i lines)) old new answers more b calls (upto_lines (length old) line.at (take i lines) early) (new_upto old b line.at fresh there) in
    let few = few_calls (length old) b (take i lines) there in
    let front = length-take-le i lines (omega (arith, lt)) in
    let own = it.few in
    record {
      params = subst InRange (sym it.params) r;
      limit = it.limit;
      later = it.clock;
      operations = length lines;
      fewer = omega (arith, few, front, own, lt);
      moment = bound.moment;
      upto = upto_at bound.moment lines i line bound.upto lt at;
      bound = subst (λ (p : Params). line_bound p (length lines) bound.moment < most_lines) (sym it.params) bound.bound;
    }
