-- Operations' lines are counted by their participants, so a call that is refused saw fewer lines than the bound.
use Rattle.std.proofs.Common.{◌≡◌, ℕ, zero, suc, ◌+◌, ◌<◌, ◌≤◌, Bool, true, false, if◌then◌else◌, List, [], ◌∷◌, ◌++◌, length, refl, sym, ◌∙◌, ap, subst, arith, eq-eqb}
use Rattle.std.specs.List.{AllByRecursion}
use Rattle.std.specs.Prelude.{filter, ◌==◌, is_some, Option, Some, None, IfSome}
use Rattle.std.proofs.lemmas.Bool.{eqb-true, false≢true}
use Rattle.std.proofs.lemmas.List.{length-append}
use Rattle.std.proofs.lemmas.List.Elements.{filter-append}
use Rattle.std.proofs.Math.Nat.{max-le}
use Rattle.nb_base.specs.declared.time.OpId.{OpId}
use Rattle.nb_base.specs.declared.params.Params.{Params}
use Rattle.nb_base.specs.declared.line.Line.{Line}
use Rattle.nb_journal.specs.Keys.{is_own}
use Rattle.nb_journal.specs.Accounts.{own_lines}
use Rattle.nb_journal.specs.Lawful.{each_line, IsOrderly, Stands, Lawful, BrokenOff}
use Rattle.nb_journal.proofs.Bound.{lawful_in_bound, broken_off_in_bound}
use Rattle.bucket_stamps.specs.declared.view.Turn.{Turn}
use Rattle.nb_base.specs.Ids.{participant_of}
use Rattle.bucket_stamps.specs.Own.{pair_by, pairs_from, turns_of, IsLineOfOne}
use Rattle.run_evidence.specs.Tokens.{Shown, turn_by}
use Rattle.run_evidence.specs.Refused.{ShownGoOn, AreGivenUpWithin, together, NoJournalIsFull}
use Rattle.run_evidence.proofs.Lists.{all_map, all_append, all_begins}
use Rattle.run_evidence.proofs.Turns.{adds_turns, each_turn, greatest-within}
use Rattle.run_evidence.proofs.Histories.{call_turns}

-- ---- what a stamp shows goes on

-- turns that aren't later than the moment go on by such ones
early_more : (p moment : ℕ) (old new : Shown) (made : List Turn) → turns_of p new.turns ≡ turns_of p old.turns ++ made → AllByRecursion (λ (t : Turn). t.at ≤ moment) (turns_of p old.turns) → AllByRecursion (λ (t : Turn). t.at ≤ moment) made → AllByRecursion (λ (t : Turn). t.at ≤ moment) (turns_of p new.turns)
early_more p moment old new made is h g = subst (AllByRecursion (λ (t : Turn). t.at ≤ moment)) (sym is) (all_append (λ (t : Turn). t.at ≤ moment) (turns_of p old.turns) made h g)

pub shown_go_on : ShownGoOn
shown_go_on = record {
  first = λ p moment. record { few = omega arith; early = tt };
  call = λ p most moment params old call h is le. record {
    few = let e = ap length is.pairs in let l = length-append old.pairs ((call.place, call.entered.id) ∷ []) in let few = h.few in omega (arith, e, l, few);
    early = early_more p moment old call.after (turn_by p call ∷ []) (call_turns p params old call is) h.early (le, tt);
  };
  met = λ p most moment told old new made h is le. record {
    few = subst (λ (xs : List (ℕ × OpId)). length xs ≤ most) (sym is.pairs) h.few;
    early = early_more p moment old new made (adds_turns p old.turns new.turns made is.turns) h.early le;
  };
  refused = λ p most moment limit params old call h is le. record {
    few = subst (λ (xs : List (ℕ × OpId)). length xs ≤ most) (sym is.pairs) h.few;
    early = early_more p moment old call.after is.made (adds_turns p old.turns call.after.turns is.made is.turns) h.early (all_map (λ (t : Turn). t.at ≡ call.entered.at) (λ (t : Turn). t.at ≤ moment) is.made (λ t e. omega (arith, e, le)) is.at);
  };
}

-- ---- sums over participants

-- the sum of a number of each of n participants from p on
abbrev sum_from : (ℕ → ℕ) → ℕ → ℕ → ℕ
sum_from f p zero = 0
sum_from f p (suc n) = f p + sum_from f (p + 1) n

abbrev one_if : Bool → ℕ
one_if b = if b then 1 else 0

sum_same : (f g : ℕ → ℕ) (p n : ℕ) → ((q : ℕ) → f q ≡ g q) → sum_from f p n ≡ sum_from g p n
sum_same f g p zero h = refl
sum_same f g p (suc n) h = let first = h p in let rest = sum_same f g (p + 1) n h in omega (arith, first, rest)

sum_both : (f g : ℕ → ℕ) (p n : ℕ) → sum_from (λ q. f q + g q) p n ≡ sum_from f p n + sum_from g p n
sum_both f g p zero = refl
sum_both f g p (suc n) = let rest = sum_both f g (p + 1) n in omega (arith, rest)

-- one of them is this one
sum_one : (x p n : ℕ) → p ≤ x → x < p + n → 1 ≤ sum_from (λ q. one_if (x == q)) p n
sum_one x p zero le lt = absurd (omega (arith, le, lt))
sum_one x p (suc n) le lt = by_test (x == p) refl (λ more. sum_one x (p + 1) n more (omega (arith, lt))) where
  by_test : (t : Bool) → (x == p) ≡ t → (p + 1 ≤ x → 1 ≤ sum_from (λ q. one_if (x == q)) (p + 1) n) → 1 ≤ one_if (x == p) + sum_from (λ q. one_if (x == q)) (p + 1) n
  by_test true e rest = let one : one_if (x == p) ≡ 1 = ap one_if e in omega (arith, one)
  by_test false e rest =
      let other : x ≡ p → ⊥ = λ same. false≢true (sym e ∙ eq-eqb x p same) in
      let more = rest (omega (arith, le, other)) in
      omega (arith, more)

-- ---- lines by participants

-- the lines with an id
abbrev named : List Line → List Line
named lines = filter (λ (l : Line). is_some l.id) lines

abbrev pairs_count : ℕ → List Line → ℕ → ℕ
pairs_count k lines q = length (pairs_from q k lines)

-- each of them is of one of so many participants
named_counted : (n k : ℕ) (lines : List Line) → AllByRecursion (IsLineOfOne n) lines → length (named lines) ≤ sum_from (pairs_count k lines) 0 n
named_counted n k [] only = omega arith
named_counted n k (l ∷ ls) only = by_id l.id refl only.0 (named_counted n (k + 1) ls only.1) where
  split : (o : Option OpId) → sum_from (λ q. length (pair_by o q k ++ pairs_from q (k + 1) ls)) 0 n ≡ sum_from (λ q. length (pair_by o q k)) 0 n + sum_from (pairs_count (k + 1) ls) 0 n
  split o =
      sum_same (λ q. length (pair_by o q k ++ pairs_from q (k + 1) ls)) (λ q. length (pair_by o q k) + pairs_count (k + 1) ls q) 0 n (λ q. length-append (pair_by o q k) (pairs_from q (k + 1) ls))
      ∙ sum_both (λ q. length (pair_by o q k)) (pairs_count (k + 1) ls) 0 n

  pair_length : (id : OpId) (q : ℕ) → one_if (participant_of id == q) ≡ length (pair_by (Some id) q k)
  pair_length id q = by_test (participant_of id == q) where
    by_test : (t : Bool) → one_if t ≡ length {A = ℕ × OpId} (if t then (k, id) ∷ [] else [])
    by_test true = refl
    by_test false = refl

  by_id : (o : Option OpId) → l.id ≡ o → IfSome l.id (λ id. participant_of id < n) → length (named ls) ≤ sum_from (pairs_count (k + 1) ls) 0 n → length (named (l ∷ ls)) ≤ sum_from (λ q. length (pair_by l.id q k ++ pairs_from q (k + 1) ls)) 0 n
  by_id None e lt more =
      let none = ap (λ (x : Option OpId). length (if is_some x then l ∷ named ls else named ls)) e in
      let both = split l.id in
      omega (arith, none, both, more)
  by_id (Some id) e lt more =
      let some = ap (λ (x : Option OpId). length (if is_some x then l ∷ named ls else named ls)) e in
      let both = split l.id in
      let mine = ap (λ (x : Option OpId). sum_from (λ q. length (pair_by x q k)) 0 n) e in
      let same = sum_same (λ q. one_if (participant_of id == q)) (λ q. length (pair_by (Some id) q k)) 0 n (pair_length id) in
      let small : participant_of id < n = subst (λ (x : Option OpId). IfSome x (λ id. participant_of id < n)) e lt in
      let one = sum_one (participant_of id) 0 n (omega arith) (omega (arith, small)) in
      omega (arith, some, both, mine, same, one, more)

-- so there are at most as many as all participants show
shown_counted : (moment : ℕ) (journal : List Line) (turns : List Turn) (p : ℕ) (most : List ℕ) (shown : List Shown) → AreGivenUpWithin moment journal turns p most shown → sum_from (pairs_count 0 journal) p (length shown) ≤ together most
shown_counted moment journal turns p [] [] h = omega arith
shown_counted moment journal turns p [] (s ∷ ss) h = absurd h
shown_counted moment journal turns p (m ∷ ms) [] h = absurd h
shown_counted moment journal turns p (m ∷ ms) (s ∷ ss) h =
    let few = h.0.0.few in
    let own = ap length h.0.1.own_lines in
    let rest = shown_counted moment journal turns (p + 1) ms ss h.1 in
    omega (arith, few, own, rest)

-- no turn is later than the moment
turns_early : (moment : ℕ) (journal : List Line) (turns : List Turn) (p : ℕ) (most : List ℕ) (shown : List Shown) → AreGivenUpWithin moment journal turns p most shown → (q : ℕ) → p ≤ q → q < p + length shown → AllByRecursion (λ (t : Turn). t.at ≤ moment) (turns_of q turns)
turns_early moment journal turns p [] [] h q le lt = absurd (omega (arith, le, lt))
turns_early moment journal turns p [] (s ∷ ss) h q le lt = absurd h
turns_early moment journal turns p (m ∷ ms) [] h q le lt = absurd h
turns_early moment journal turns p (m ∷ ms) (s ∷ ss) h q le lt = by_test (q == p) refl (λ more. turns_early moment journal turns (p + 1) ms ss h.1 q more (omega (arith, lt))) where
  by_test : (t : Bool) → (q == p) ≡ t → (p + 1 ≤ q → AllByRecursion (λ (t : Turn). t.at ≤ moment) (turns_of q turns)) → AllByRecursion (λ (t : Turn). t.at ≤ moment) (turns_of q turns)
  by_test true e rest = subst (λ r. AllByRecursion (λ (t : Turn). t.at ≤ moment) (turns_of r turns)) (sym (eqb-true q p e)) (subst (AllByRecursion (λ (t : Turn). t.at ≤ moment)) (sym h.0.1.own_turns) h.0.0.early)
  by_test false e rest =
      let other : q ≡ p → ⊥ = λ same. false≢true (sym e ∙ eq-eqb q p same) in
      rest (omega (arith, le, other))

-- ---- operations' lines have ids

own_named : (before past more : List Line) → each_line (λ earlier line. is_some line.id ≡ is_own line.op) before (past ++ more) → length (own_lines past) ≤ length (named past)
own_named before [] more h = omega arith
own_named before (l ∷ ls) more h = by_test (is_own l.op) h.0 (own_named (before ++ l ∷ []) ls more h.1) where
  by_test : (t : Bool) → is_some l.id ≡ t → length (own_lines ls) ≤ length (named ls) → length (if t then l ∷ own_lines ls else own_lines ls) ≤ length (named (l ∷ ls))
  by_test true e r = let n = ap (λ (t : Bool). length (if t then l ∷ named ls else named ls)) e in omega (arith, n, r)
  by_test false e r = let n = ap (λ (t : Bool). length (if t then l ∷ named ls else named ls)) e in omega (arith, n, r)

orderly_of : (params : Params) (lines : List Line) (clock : ℕ) → Stands params lines clock → IsOrderly params lines
orderly_of params lines clock (Lawful lawful) = lawful.orderly
orderly_of params lines clock (BrokenOff broken) = broken.orderly

-- ---- the law

pub no_journal_is_full : NoJournalIsFull
no_journal_is_full params limit moment operations journal turns most shown p old call r given only_turns only_lines refused past seen le few bound = by_stands refused.stands where
  lines : List Line
  lines = call.after.past ++ call.lines

  early : call.clock ≤ moment
  early =
      let all = each_turn (λ (t : Turn). t.at ≤ moment) (length shown) turns only_turns (λ q lt. turns_early moment journal turns 0 most shown given q (omega arith) (omega (arith, lt))) in
      let greatest = greatest-within moment call.after.turns (all_begins (λ (t : Turn). t.at ≤ moment) call.after.turns turns seen all) in
      let clock = refused.clock in
      let most = max-le le greatest in
      omega (arith, clock, most)

  own : length (own_lines lines) ≤ operations
  own =
      let both = ap length (filter-append (λ (l : Line). is_own l.op) call.after.past call.lines) ∙ length-append (own_lines call.after.past) (own_lines call.lines) in
      let ids = own_named [] call.after.past call.lines (orderly_of params lines call.clock refused.stands).ids in
      let whole = ap (λ (ls : List Line). length (named ls)) past.1 ∙ ap length (filter-append (λ (l : Line). is_some l.id) call.after.past past.0) ∙ length-append (named call.after.past) (named past.0) in
      let counted = named_counted (length shown) 0 journal only_lines in
      let all = shown_counted moment journal turns 0 most shown given in
      let one = refused.own in
      omega (arith, both, ids, whole, counted, all, one, few)

  size : length lines ≡ length call.after.past + length call.lines
  size = length-append call.after.past call.lines

  by_stands : Stands params lines call.clock → ⊥
  by_stands (Lawful lawful) = let lt = lawful_in_bound params lines call.clock moment operations r lawful early own in let full = refused.full in omega (arith, lt, size, full, bound)
  by_stands (BrokenOff broken) = let lt = broken_off_in_bound params lines call.clock moment operations r broken early own in let full = refused.full in omega (arith, lt, size, full, bound)
