-- The calls of an inline run, one after another, are one order of all changes.
use Rattle.std.proofs.Common.{◌≡◌, ⊎_elim, ℕ, zero, suc, ◌+◌, ◌<◌, ◌≤◌, Bool, true, false, ◌==◌, if◌then◌else◌, List, [], ◌∷◌, ◌++◌, length, map, take, replicate, Option, Some, None, refl, sym, ◌∙◌, ap, subst, arith, append_assoc, append-nil}
use Rattle.std.specs.Prelude.{IfSome, slice_index_or, slice_set, filter}
use Rattle.std.specs.List.{AllByRecursion, flat_map}
use Rattle.std.proofs.lemmas.Bool.{cases_lt, eqb-true}
use Rattle.std.proofs.lemmas.List.{length-append, length-take-le}
use Rattle.std.proofs.lemmas.List.Sums.{sum_by-cons}
use mathlib.Core.Option.{some}
use lib.ListN.{get_elem?}
use Rattle.nb_base.specs.declared.key.Key.{Key}
use Rattle.nb_base.specs.declared.params.Params.{Params}
use Rattle.nb_base.specs.declared.op.Op.{Op}
use Rattle.nb_base.specs.declared.line.Line.{Line}
use Rattle.nb_base.specs.declared.plan.Plan.{Plan}
use Rattle.nb_journal.specs.Keys.{is_own}
use Rattle.nb_journal.specs.Fold.{is_present, present_count}
use Rattle.nb_journal.specs.Lawful.{each_line, EachLine, is_collect, base_of}
use Rattle.nb_journal.specs.Accounts.{own_lines}
use Rattle.nb_journal.specs.Laws.{Saw}
use Rattle.nb_journal.proofs.Lines.{by_last, each-front, each-behind, base_of-collect, base_of-other}
use Rattle.nb_journal.proofs.Folds.{known_keys-nil, present_count-is}
use Rattle.nb_journal.proofs.Unique.{own_kind}
use Rattle.change_order.specs.Ticks.{last_or, total_by}
use Rattle.change_order.specs.Orders.{LookingLine, JournalCounts, NeverLess}
use Rattle.change_order.specs.Growing.{no_counts}
use Rattle.change_order.specs.Calls.{with_call, present_of, before_of, IsSeenAlone, AreCalls, CallsGiveOneOrder, order_by, places_by}
use Rattle.journal_counts.specs.Counts.{behind_lines, looked_at, looked_in, call_of, counts_of}
use Rattle.journal_counts.proofs.Joins.{base_of-behind, behind_lines-append, counts_grow}
use Rattle.neigh_run.specs.Merged.{Entered, goes_to, merged, merged_for}
use Rattle.neigh_run.specs.Seen.{buckets_from, calls, called, calls_before, front_of, standing_from, table_count, sees}
use Rattle.neigh_run.specs.Inline.{ends_own, journal_at, IsInlineJournal, AreInlineJournals}
use Rattle.neigh_run.specs.Order.{call_lines, counts_by, counts_of_calls}
use Rattle.neigh_run.specs.Laws.{InlineRunsAreInOrder, InlineRunsHaveOneOrder}
use Rattle.neigh_run.proofs.Fronts.{entered_in, front-first, front-operations, front-ends, front-whole, some-own, own-append, ends-part}
use Rattle.neigh_run.proofs.FrontsLawful.{ends-last}
use Rattle.neigh_run.proofs.OneRun.{one_if, called-append, calls-are, entered-many, bucket_at, same_number}

-- ---- the lines of a call

front-next : (n : ℕ) (journal : List Line) → front_of (suc n) journal ≡ front_of n journal ++ call_lines n journal
front-next zero [] = refl
front-next zero (l ∷ ls) = by_test (is_own l.op) (front-next zero ls) where
  by_test : (own : Bool) → front_of 1 ls ≡ call_lines zero ls → l ∷ front_of (if own then zero else 1) ls ≡ l ∷ (if own then [] else call_lines zero ls)
  by_test true rest = refl
  by_test false rest = ap (λ (xs : List Line). l ∷ xs) rest
front-next (suc n) [] = refl
front-next (suc n) (l ∷ ls) = by_test (is_own l.op) (λ k. front-next k ls) where
  by_test : (own : Bool) → ((k : ℕ) → front_of (suc k) ls ≡ front_of k ls ++ call_lines k ls)
      → l ∷ front_of (if own then suc n else suc (suc n)) ls ≡ l ∷ (front_of (if own then n else suc n) ls ++ call_lines (if own then n else suc n) ls)
  by_test true rest = ap (λ (xs : List Line). l ∷ xs) (rest n)
  by_test false rest = ap (λ (xs : List Line). l ∷ xs) (rest (suc n))

-- lines that end with an operation end with no collect line
ends-base : (lines : List Line) → ends_own lines ≡ true → base_of lines ≡ lines
ends-base lines = by_last (λ (xs : List Line). ends_own xs ≡ true → base_of xs ≡ xs) (λ e. refl) (λ xs x rest e. base_of-other xs x (own_kind x.op (sym (ends-last xs x) ∙ e)).1) lines

base-first : (lines : List Line) → (rest : List Line) × (lines ≡ base_of lines ++ rest)
base-first lines = by_last (λ (xs : List Line). (rest : List Line) × (xs ≡ base_of xs ++ rest)) ([], refl) more lines where
  more : (xs : List Line) (x : Line) → ((rest : List Line) × (xs ≡ base_of xs ++ rest)) → (rest : List Line) × (xs ++ x ∷ [] ≡ base_of (xs ++ x ∷ []) ++ rest)
  more xs x h = by_test (is_collect x.op) refl where
    by_test : (t : Bool) → is_collect x.op ≡ t → (rest : List Line) × (xs ++ x ∷ [] ≡ base_of (xs ++ x ∷ []) ++ rest)
    by_test true e = (
      h.0 ++ x ∷ [],
      ap (λ (ys : List Line). ys ++ x ∷ []) h.1 ∙ append_assoc (base_of xs) h.0 (x ∷ []) ∙ ap (λ (ys : List Line). ys ++ (h.0 ++ x ∷ [])) (sym (base_of-collect xs x e)),
    )
    by_test false e = ([], sym (append-nil (xs ++ x ∷ [])) ∙ ap (λ (ys : List Line). ys ++ []) (sym (base_of-other xs x e)))

-- ---- changing lines

last-behind : (p : Params) (past lines : List Line) → last_or (present_count p past) (behind_lines p past lines) ≡ present_count p (past ++ lines)
last-behind p past [] = ap (present_count p) (sym (append-nil past))
last-behind p past (l ∷ ls) = by_test (present_count p past == present_count p (past ++ l ∷ [])) refl (last-behind p (past ++ l ∷ []) ls) where
  by_test : (t : Bool) → (present_count p past == present_count p (past ++ l ∷ [])) ≡ t → last_or (present_count p (past ++ l ∷ [])) (behind_lines p (past ++ l ∷ []) ls) ≡ present_count p ((past ++ l ∷ []) ++ ls)
      → last_or (present_count p past) ((if t then [] else present_count p (past ++ l ∷ []) ∷ []) ++ behind_lines p (past ++ l ∷ []) ls) ≡ present_count p (past ++ l ∷ ls)
  by_test true e rest =
      ap (λ (n : ℕ). last_or n (behind_lines p (past ++ l ∷ []) ls)) (eqb-true (present_count p past) (present_count p (past ++ l ∷ [])) e)
      ∙ rest ∙ ap (present_count p) (append_assoc past (l ∷ []) ls)
  by_test false e rest = rest ∙ ap (present_count p) (append_assoc past (l ∷ []) ls)

none-present : (p : Params) → present_count p [] ≡ 0
none-present p = present_count-is p [] ∙ ap (λ (keys : List Key). length (filter (is_present p []) keys)) known_keys-nil

present-of : (p : Params) (journal : List Line) → present_of (counts_of p journal) ≡ present_count p journal
present-of p journal = ap (λ (n : ℕ). last_or n (behind_lines p [] journal)) (sym (none-present p)) ∙ last-behind p [] journal

take-front : (xs ys : List ℕ) → take (length xs) (xs ++ ys) ≡ xs
take-front [] ys = refl
take-front (x ∷ xs) ys = ap (λ (zs : List ℕ). x ∷ zs) (take-front xs ys)

-- the changing lines of the first lines are the first ones
behind-first : (p : Params) (past lines rest : List Line) → take (length (behind_lines p past lines)) (behind_lines p past (lines ++ rest)) ≡ behind_lines p past lines
behind-first p past lines rest = ap (take (length (behind_lines p past lines))) (behind_lines-append p past lines rest) ∙ take-front (behind_lines p past lines) (behind_lines p (past ++ lines) rest)

behind-fewer : (p : Params) (past lines rest : List Line) → length (behind_lines p past lines) ≤ length (behind_lines p past (lines ++ rest))
behind-fewer p past lines rest =
    let both = ap (λ (ns : List ℕ). length ns) (behind_lines-append p past lines rest) ∙ length-append (behind_lines p past lines) (behind_lines p (past ++ lines) rest) in
    omega (arith, both)

-- ---- the looks of a call stand in order

base-fewer : (p : Params) (past front : List Line) (l : Line) → length (behind_lines p past (base_of front)) ≤ length (behind_lines p past (base_of (front ++ l ∷ [])))
base-fewer p past front l = by_test (is_collect l.op) refl where
  by_test : (t : Bool) → is_collect l.op ≡ t → length (behind_lines p past (base_of front)) ≤ length (behind_lines p past (base_of (front ++ l ∷ [])))
  by_test true e = let same = ap (λ (xs : List Line). length (behind_lines p past xs)) (base_of-collect front l e) in omega (arith, same)
  by_test false e =
      let first = base-first front in
      let more = behind-fewer p past (base_of front) (first.0 ++ l ∷ []) in
      let same = ap (λ (xs : List Line). length (behind_lines p past xs)) (sym (append_assoc (base_of front) first.0 (l ∷ [])) ∙ ap (λ (xs : List Line). xs ++ l ∷ []) (sym first.1) ∙ sym (base_of-other front l e)) in
      omega (arith, more, same)

rising : (p : Params) (past front lines : List Line) (low : ℕ) → low ≤ length (behind_lines p past (base_of front)) → NeverLess low (map before_of (looked_in p past front lines))
rising p past front [] low le = tt
rising p past front (l ∷ ls) low le = by_seen l.seen (λ k few. rising p past (front ++ l ∷ []) ls k (let more = base-fewer p past front l in omega (arith, few, more))) where
  by_seen : (seen : Option ℕ) → ((k : ℕ) → k ≤ length (behind_lines p past (base_of front)) → NeverLess k (map before_of (looked_in p past (front ++ l ∷ []) ls)))
      → NeverLess low (map before_of (looked_at (length (behind_lines p past (base_of front))) seen ++ looked_in p past (front ++ l ∷ []) ls))
  by_seen None rest = rest low le
  by_seen (Some seen) rest = (le, rest (length (behind_lines p past (base_of front))) (omega arith))

-- ---- the table behind calls

-- the journals of the buckets from c on, behind these calls
abbrev table_at : List ℕ → ℕ → List (List Line) → List (List Line)
table_at done c [] = []
table_at done c (j ∷ js) = front_of (called c done) j ∷ table_at done (c + 1) js

abbrev counts_at : Params → List ℕ → ℕ → List (List Line) → List JournalCounts
counts_at p done c js = map (counts_of p) (table_at done c js)

call-other : (d b m c : ℕ) (rest : List ℕ) → (d == b) ≡ false → calls_before (d ∷ rest) b m c ≡ one_if (d == c) + calls_before rest b m c
call-other d b zero c rest e = rw e refl
call-other d b (suc m) c rest e = rw e refl

call-own : (d b m c : ℕ) (rest : List ℕ) → (d == b) ≡ true → calls_before (d ∷ rest) b (suc m) c ≡ one_if (d == c) + calls_before rest b m c
call-own d b m c rest e = rw e refl

-- before a bucket's next call stand the calls so far
before-is : (done more : List ℕ) (b c : ℕ) → calls_before (done ++ b ∷ more) b (called b done) c ≡ called c done
before-is [] more b c = rw (same_number b) refl
before-is (d ∷ ds) more b c = by_test (d == b) refl (before-is ds more b c) where
  by_test : (t : Bool) → (d == b) ≡ t → calls_before (ds ++ b ∷ more) b (called b ds) c ≡ called c ds → calls_before (d ∷ (ds ++ b ∷ more)) b (one_if (d == b) + called b ds) c ≡ one_if (d == c) + called c ds
  by_test true e rest =
      let one : one_if (d == b) + called b ds ≡ suc (called b ds) = (let is = ap one_if e in omega (arith, is)) in
      ap (λ (m : ℕ). calls_before (d ∷ (ds ++ b ∷ more)) b m c) one ∙ call-own d b (called b ds) c (ds ++ b ∷ more) e ∙ ap (λ (m : ℕ). one_if (d == c) + m) rest
  by_test false e rest =
      let none : one_if (d == b) + called b ds ≡ called b ds = (let is = ap one_if e in omega (arith, is)) in
      ap (λ (m : ℕ). calls_before (d ∷ (ds ++ b ∷ more)) b m c) none ∙ call-other d b (called b ds) c (ds ++ b ∷ more) e ∙ ap (λ (m : ℕ). one_if (d == c) + m) rest

differs : (b c : ℕ) → (c ≡ b → ⊥) → (c == b) ≡ false
differs b c ne = by_test (c == b) refl where
  by_test : (t : Bool) → (c == b) ≡ t → (c == b) ≡ false
  by_test true e = absurd (ne (eqb-true c b e))
  by_test false e = e

-- the buckets behind bucket b are as they stand behind the calls so far
sums-else : (p : Params) (order done more : List ℕ) (b c : ℕ) (lines : List Line) (js : List (List Line)) → order ≡ done ++ b ∷ more → length (own_lines lines) ≡ called b done → b < c
    → table_count p (standing_from order b lines c js) ≡ total_by present_of (counts_at p done c js)
sums-else p order done more b c lines [] e own lt = refl
sums-else p order done more b c lines (j ∷ js) e own lt =
    let first : present_count p (if c == b then lines else front_of (calls_before order b (length (own_lines lines)) c) j) ≡ present_count p (front_of (called c done) j) =
    ap (λ (t : Bool). present_count p (if t then lines else front_of (calls_before order b (length (own_lines lines)) c) j)) (differs b c (λ same. omega (arith, same, lt)))
    ∙ ap (λ (n : ℕ). present_count p (front_of n j)) (ap (λ (m : ℕ). calls_before order b m c) own ∙ ap (λ (ds : List ℕ). calls_before ds b (called b done) c) e ∙ before-is done more b c) in
    let rest = sums-else p order done more b (c + 1) lines js e own (omega (arith, lt)) in
    let sum = sum_by-cons (present_count p) (if c == b then lines else front_of (calls_before order b (length (own_lines lines)) c) j) (standing_from order b lines (c + 1) js) in
    let here = present-of p (front_of (called c done) j) in
    omega (arith, first, rest, sum, here)

-- and so are all but bucket b, which has these lines
sums-here : (p : Params) (order done more : List ℕ) (b c k : ℕ) (lines : List Line) (js : List (List Line)) → order ≡ done ++ b ∷ more → length (own_lines lines) ≡ called b done → b ≡ c + k → k < length js
    → table_count p (standing_from order b lines c js) + present_count p (front_of (called b done) (slice_index_or js k [])) ≡ total_by present_of (counts_at p done c js) + present_count p lines
sums-here p order done more b c k lines [] e own at lt = absurd (omega (arith, lt))
sums-here p order done more b c zero lines (j ∷ js) e own at lt =
    let same : b ≡ c = omega (arith, at) in
    let first : present_count p (if c == b then lines else front_of (calls_before order b (length (own_lines lines)) c) j) ≡ present_count p lines =
    ap (λ (t : Bool). present_count p (if t then lines else front_of (calls_before order b (length (own_lines lines)) c) j)) (subst (λ (d : ℕ). (c == d) ≡ true) (sym same) (same_number c)) in
    let rest = sums-else p order done more b (c + 1) lines js e own (omega (arith, at)) in
    let sum = sum_by-cons (present_count p) (if c == b then lines else front_of (calls_before order b (length (own_lines lines)) c) j) (standing_from order b lines (c + 1) js) in
    let here = present-of p (front_of (called c done) j) in
    let front = ap (λ (d : ℕ). present_count p (front_of (called d done) j)) same in
    omega (arith, first, rest, sum, here, front)
sums-here p order done more b c (suc k) lines (j ∷ js) e own at lt =
    let first : present_count p (if c == b then lines else front_of (calls_before order b (length (own_lines lines)) c) j) ≡ present_count p (front_of (called c done) j) =
    ap (λ (t : Bool). present_count p (if t then lines else front_of (calls_before order b (length (own_lines lines)) c) j)) (differs b c (λ same. omega (arith, same, at)))
    ∙ ap (λ (n : ℕ). present_count p (front_of n j)) (ap (λ (m : ℕ). calls_before order b m c) own ∙ ap (λ (ds : List ℕ). calls_before ds b (called b done) c) e ∙ before-is done more b c) in
    let rest = sums-here p order done more b (c + 1) k lines js e own (omega (arith, at)) (omega (arith, lt)) in
    let sum = sum_by-cons (present_count p) (if c == b then lines else front_of (calls_before order b (length (own_lines lines)) c) j) (standing_from order b lines (c + 1) js) in
    let here = present-of p (front_of (called c done) j) in
    omega (arith, first, rest, sum, here)

-- ---- a call's looks

-- what is known of the call of bucket b that comes next
record IsNextCall (plan : Plan) (js : List (List Line)) (done more : List ℕ) (b : ℕ) : Type 0 where
  order : calls plan ≡ done ++ b ∷ more
  within : b < length js
  journal : IsInlineJournal plan js b (journal_at js b)
  many : suc (called b done) ≤ length (own_lines (journal_at js b))

front-many : (n : ℕ) (journal : List Line) → n ≤ length (own_lines journal) → length (own_lines (front_of n journal)) ≡ n
front-many n journal le =
    entered-many (front_of n journal) (take n (entered_in journal)) (front-operations n journal)
    ∙ length-take-le n (entered_in journal) (let same = entered-many journal (entered_in journal) refl in omega (arith, le, same))

-- a line that looked saw the others as they stand, and its own bucket before it and its collect lines
saw-alone : (plan : Plan) (js : List (List Line)) (done more : List ℕ) (b : ℕ) (front rest : List Line) (l : Line) (seen : ℕ) → IsNextCall plan js done more b
    → call_lines (called b done) (journal_at js b) ≡ front ++ l ∷ rest
    → seen ≡ sees plan js b (base_of (front_of (called b done) (journal_at js b) ++ front))
    → IsSeenAlone (counts_at plan.params done 0 js) (counts_of plan.params (front_of (called b done) (journal_at js b))) (call_of b plan.params (front_of (called b done) (journal_at js b)) (call_lines (called b done) (journal_at js b)))
    (record { before = length (behind_lines plan.params (front_of (called b done) (journal_at js b)) (base_of front)); seen = seen })
unfolding sees
saw-alone plan js done more b front rest l seen h split saw =
    record {
      within = subst (λ (xs : List Line). length (behind_lines p past (base_of front)) ≤ length (behind_lines p past xs)) (sym whole) (behind-fewer p past (base_of front) behind);
      sum = (let all = sums-here p (calls plan) done more b 0 b (past ++ base_of front) js h.order own (let first : b ≡ 0 + b = omega arith in first) h.within in
          let mine = present-of p past in
          let last : last_or (present_of (counts_of p past)) (take (length (behind_lines p past (base_of front))) (behind_lines p past (call_lines (called b done) (journal_at js b)))) ≡ present_count p (past ++ base_of front) =
          ap (λ (n : ℕ). last_or n (take (length (behind_lines p past (base_of front))) (behind_lines p past (call_lines (called b done) (journal_at js b))))) mine
          ∙ ap (last_or (present_count p past)) (ap (λ (xs : List Line). take (length (behind_lines p past (base_of front))) (behind_lines p past xs)) whole ∙ behind-first p past (base_of front) behind)
          ∙ last-behind p past (base_of front) in
          let value : seen ≡ table_count p (standing_from (calls plan) b (past ++ base_of front) 0 js) = saw ∙ ap (λ (xs : List Line). table_count p (standing_from (calls plan) b xs 0 js)) (base_of-behind past front bare) in
          omega (arith, all, mine, last, value));
    } where
      p : Params
      p = plan.params

      past : List Line
      past = front_of (called b done) (journal_at js b)

      bare : base_of past ≡ past
      bare = ends-base past (front-ends (called b done) (journal_at js b) h.journal.ends)

      behind : List Line
      behind = (base-first front).0 ++ l ∷ rest

      whole : call_lines (called b done) (journal_at js b) ≡ base_of front ++ behind
      whole = split ∙ ap (λ (xs : List Line). xs ++ l ∷ rest) (base-first front).1 ∙ append_assoc (base_of front) (base-first front).0 (l ∷ rest)

      next : front_of (suc (called b done)) (journal_at js b) ≡ (past ++ front) ++ l ∷ rest
      next = front-next (called b done) (journal_at js b) ∙ ap (λ (xs : List Line). past ++ xs) split ∙ sym (append_assoc past front (l ∷ rest))

      own : length (own_lines (past ++ base_of front)) ≡ called b done
      own =
          let most = h.many in
          let here = front-many (called b done) (journal_at js b) (omega (arith, most)) in
          let more = front-many (suc (called b done)) (journal_at js b) most in
          let cut = ap (λ (xs : List Line). length (own_lines xs)) next ∙ own-append (past ++ front) (l ∷ rest) in
          let some = some-own l rest (ends-part (past ++ front) l rest (sym (ap ends_own next) ∙ front-ends (suc (called b done)) (journal_at js b) h.journal.ends)) in
          let both = own-append past front in
          let first = ap (λ (xs : List Line). length (own_lines xs)) (base-first front).1 ∙ own-append (base_of front) (base-first front).0 in
          let joined = own-append past (base_of front) in
          omega (arith, here, more, cut, some, both, first, joined)

-- so do all that looked
saw-all : (plan : Plan) (js : List (List Line)) (done more : List ℕ) (b : ℕ) (front lines : List Line) → IsNextCall plan js done more b
    → call_lines (called b done) (journal_at js b) ≡ front ++ lines
    → each_line (Saw (sees plan js b)) (front_of (called b done) (journal_at js b) ++ front) lines
    → AllByRecursion (IsSeenAlone (counts_at plan.params done 0 js) (counts_of plan.params (front_of (called b done) (journal_at js b))) (call_of b plan.params (front_of (called b done) (journal_at js b)) (call_lines (called b done) (journal_at js b))))
    (looked_in plan.params (front_of (called b done) (journal_at js b)) front lines)
saw-all plan js done more b front [] h split saw = tt
saw-all plan js done more b front (l ∷ ls) h split saw =
    by_seen l.seen saw.0
    (saw-all plan js done more b (front ++ l ∷ []) ls h (split ∙ sym (append_assoc front (l ∷ []) ls)) (subst (λ (xs : List Line). each_line (Saw (sees plan js b)) xs ls) (append_assoc (front_of (called b done) (journal_at js b)) front (l ∷ [])) saw.1)) where
      P : LookingLine → Type 0
      P = IsSeenAlone (counts_at plan.params done 0 js) (counts_of plan.params (front_of (called b done) (journal_at js b))) (call_of b plan.params (front_of (called b done) (journal_at js b)) (call_lines (called b done) (journal_at js b)))

      by_seen : (seen : Option ℕ) → IfSome seen (λ s. s ≡ sees plan js b (base_of (front_of (called b done) (journal_at js b) ++ front)))
          → AllByRecursion P (looked_in plan.params (front_of (called b done) (journal_at js b)) (front ++ l ∷ []) ls)
          → AllByRecursion P (looked_at (length (behind_lines plan.params (front_of (called b done) (journal_at js b)) (base_of front))) seen ++ looked_in plan.params (front_of (called b done) (journal_at js b)) (front ++ l ∷ []) ls)
      by_seen None saw rest = rest
      by_seen (Some seen) saw rest = (saw-alone plan js done more b front ls l seen h split saw, rest)

-- ---- call by call

there-at : (p : Params) (done : List ℕ) (c k : ℕ) (js : List (List Line)) → k < length js → get_elem? (counts_at p done c js) k ≡ some (counts_of p (front_of (called (c + k) done) (slice_index_or js k [])))
there-at p done c k [] lt = absurd (omega (arith, lt))
there-at p done c zero (j ∷ js) lt = let same : c ≡ c + 0 = omega arith in ap (λ (d : ℕ). some (counts_of p (front_of (called d done) j))) same
there-at p done c (suc k) (j ∷ js) lt =
    let same : c + 1 + k ≡ c + suc k = omega arith in
    there-at p done (c + 1) k js (omega (arith, lt)) ∙ ap (λ (d : ℕ). some (counts_of p (front_of (called d done) (slice_index_or js k [])))) same

once-more : (done : List ℕ) (b : ℕ) → called b (done ++ b ∷ []) ≡ suc (called b done)
once-more done b = let both = called-append b done (b ∷ []) in let one = ap one_if (same_number b) in omega (arith, both, one)

not-more : (done : List ℕ) (b c : ℕ) → (c ≡ b → ⊥) → called c (done ++ b ∷ []) ≡ called c done
not-more done b c ne = let both = called-append c done (b ∷ []) in let none = ap one_if (differs c b (λ e. ne (sym e))) in omega (arith, both, none)

else-at : (p : Params) (done : List ℕ) (b c : ℕ) (js : List (List Line)) → b < c → counts_at p done c js ≡ counts_at p (done ++ b ∷ []) c js
else-at p done b c [] lt = refl
else-at p done b c (j ∷ js) lt =
    let first = ap (λ (n : ℕ). counts_of p (front_of n j)) (sym (not-more done b c (λ e. omega (arith, e, lt)))) in
    let rest = else-at p done b (c + 1) js (omega (arith, lt)) in
    λ i. first i ∷ rest i

set-at : (p : Params) (done : List ℕ) (b c k : ℕ) (js : List (List Line)) → b ≡ c + k → k < length js
    → slice_set (counts_at p done c js) k (counts_of p (front_of (suc (called b done)) (slice_index_or js k []))) ≡ counts_at p (done ++ b ∷ []) c js
set-at p done b c k [] at lt = absurd (omega (arith, lt))
set-at p done b c zero (j ∷ js) at lt =
    let same : b ≡ c = omega (arith, at) in
    let first = ap (λ (n : ℕ). counts_of p (front_of n j)) (sym (once-more done b) ∙ ap (λ (d : ℕ). called d (done ++ b ∷ [])) same) in
    let rest = else-at p done b (c + 1) js (omega (arith, at)) in
    λ i. first i ∷ rest i
set-at p done b c (suc k) (j ∷ js) at lt =
    let first = ap (λ (n : ℕ). counts_of p (front_of n j)) (sym (not-more done b c (λ e. omega (arith, e, at)))) in
    let rest = set-at p done b (c + 1) k js (omega (arith, at)) (omega (arith, lt)) in
    λ i. first i ∷ rest i

-- the journals behind no call, and behind all
none-at : (p : Params) (c : ℕ) (js : List (List Line)) → replicate (length js) no_counts ≡ counts_at p [] c js
none-at p c [] = refl
none-at p c (j ∷ js) = ap (λ (xs : List JournalCounts). no_counts ∷ xs) (none-at p (c + 1) js)

all-at : (plan : Plan) (all : List (List Line)) (c : ℕ) (js : List (List Line)) → c + length js ≤ plan.buckets → AreInlineJournals plan all c js → counts_at plan.params (calls plan) c js ≡ map (counts_of plan.params) js
all-at plan all c [] le h = refl
all-at plan all c (j ∷ js) le h =
    let many = calls-are plan c (omega (arith, le)) in
    let own = entered-many j (merged_for plan c) h.0.entered in
    let first = ap (counts_of plan.params) (front-whole (called c (calls plan)) j h.0.ends (omega (arith, many, own))) in
    let rest = all-at plan all (c + 1) js (omega (arith, le)) h.1 in
    λ i. first i ∷ rest i

-- only buckets of the table are called
of_none : (buckets b n c : ℕ) (o : Op) → b + n ≤ c → called c (buckets_from buckets b n o) ≡ 0
of_none buckets b zero c o le = refl
of_none buckets b (suc n) c o le = by_test (goes_to buckets b o) (of_none buckets (b + 1) n c o (omega (arith, le))) where
  by_test : (t : Bool) → called c (buckets_from buckets (b + 1) n o) ≡ 0 → called c ((if t then b ∷ [] else []) ++ buckets_from buckets (b + 1) n o) ≡ 0
  by_test true rest = let none = ap one_if (differs c b (λ e. omega (arith, e, le))) in omega (arith, none, rest)
  by_test false rest = rest

none-called : (buckets c : ℕ) (xs : List Entered) → buckets ≤ c → called c (flat_map (λ (x : Entered). buckets_from buckets 0 buckets x.op) xs) ≡ 0
none-called buckets c [] le = refl
none-called buckets c (x ∷ xs) le =
    let both = called-append c (buckets_from buckets 0 buckets x.op) (flat_map (λ (y : Entered). buckets_from buckets 0 buckets y.op) xs) in
    let one = of_none buckets 0 buckets c x.op (omega (arith, le)) in
    let rest = none-called buckets c xs le in
    omega (arith, both, one, rest)

no-call : (plan : Plan) (c : ℕ) → plan.buckets ≤ c → called c (calls plan) ≡ 0
unfolding calls
no-call plan c le = none-called plan.buckets c (merged plan) le

next-call : (plan : Plan) (js : List (List Line)) (done more : List ℕ) (b : ℕ) → length js ≡ plan.buckets → AreInlineJournals plan js 0 js → calls plan ≡ done ++ b ∷ more → IsNextCall plan js done more b
next-call plan js done more b long h order = ⊎_elim there (λ (le : plan.buckets ≤ b). absurd (let none = no-call plan b le in let some = count in omega (arith, none, some))) (cases_lt b plan.buckets) where
  count : called b (calls plan) ≡ called b done + (1 + called b more)
  count = ap (called b) order ∙ called-append b done (b ∷ more) ∙ ap (λ (t : Bool). called b done + (one_if t + called b more)) (same_number b)

  there : b < plan.buckets → IsNextCall plan js done more b
  there lt =
      let within : b < length js = omega (arith, lt, long) in
      let journal = bucket_at plan js js b within h in
      let many = calls-are plan b lt in
      let own = entered-many (journal_at js b) (merged_for plan b) journal.entered in
      let all = count in
      record { order = order; within = within; journal = journal; many = omega (arith, all, many, own) }

are-calls : (plan : Plan) (js : List (List Line)) (done more : List ℕ) → length js ≡ plan.buckets → AreInlineJournals plan js 0 js → calls plan ≡ done ++ more
    → AreCalls (counts_at plan.params done 0 js) (counts_by plan.params js done more) (map (counts_of plan.params) js)
are-calls plan js done [] long h order =
    ap (λ (ds : List ℕ). counts_at plan.params ds 0 js) (sym (append-nil done) ∙ sym order) ∙ all-at plan js 0 js (omega (arith, long)) h
are-calls plan js done (b ∷ more) long h order = (
  record {
    journal = counts_of p past;
    there = there-at p done 0 b js next.within ∙ (let first : 0 + b ≡ b = omega arith in ap (λ (d : ℕ). some (counts_of p (front_of (called d done) (journal_at js b)))) first);
    rising = rising p past [] lines 0 (omega arith);
    lines = saw-all plan js done more b [] lines next refl saw;
  },
  subst (λ (all : List JournalCounts). AreCalls all (counts_by p js (done ++ b ∷ []) more) (map (counts_of p) js)) (sym grown) (are-calls plan js (done ++ b ∷ []) more long h (order ∙ sym (append_assoc done (b ∷ []) more))),
) where
  p : Params
  p = plan.params

  next : IsNextCall plan js done more b
  next = next-call plan js done more b long h order

  past : List Line
  past = front_of (called b done) (journal_at js b)

  lines : List Line
  lines = call_lines (called b done) (journal_at js b)

  saw : each_line (Saw (sees plan js b)) (past ++ []) lines
  saw =
      let first = front-first (suc (called b done)) (journal_at js b) in
      let front = each-front (Saw (sees plan js b)) (front_of (suc (called b done)) (journal_at js b)) first.0 (subst (EachLine (Saw (sees plan js b))) first.1 next.journal.seen) in
      subst (λ (xs : List Line). each_line (Saw (sees plan js b)) xs lines) (sym (append-nil past))
      (each-behind (Saw (sees plan js b)) past lines (subst (EachLine (Saw (sees plan js b))) (front-next (called b done) (journal_at js b)) front))

  grown : slice_set (counts_at p done 0 js) b (with_call (call_of b p past lines) (counts_of p past)) ≡ counts_at p (done ++ b ∷ []) 0 js
  grown =
      ap (slice_set (counts_at p done 0 js) b)
      (sym (counts_grow b p past lines (ends-base past (front-ends (called b done) (journal_at js b) next.journal.ends))) ∙ ap (counts_of p) (sym (front-next (called b done) (journal_at js b))))
      ∙ set-at p done b 0 b js (let first : b ≡ 0 + b = omega arith in first) next.within

pub in_order : CallsGiveOneOrder → InlineRunsAreInOrder
in_order law plan run h =
    law.calls (length run.journals) (counts_of_calls plan run.journals) (map (counts_of plan.params) run.journals)
    (subst (λ (all : List JournalCounts). AreCalls all (counts_of_calls plan run.journals) (map (counts_of plan.params) run.journals)) (sym (none-at plan.params 0 run.journals)) (are-calls plan run.journals [] (calls plan) h.buckets h.journals refl))

pub have_order : CallsGiveOneOrder → InlineRunsHaveOneOrder
have_order law plan run h =
    law.one (map (counts_of plan.params) run.journals) (order_by (counts_of_calls plan run.journals)) (λ b. places_by b 0 (counts_of_calls plan run.journals)) (in_order law plan run h)
