-- A plan has at most one inline run: call by call, the fronts of its journals are forced.
use Rattle.std.proofs.Common.{◌≡◌, ℕ, zero, suc, ◌+◌, ◌<◌, ◌≤◌, Bool, true, false, ◌==◌, is_some, if◌then◌else◌, List, [], ◌∷◌, ◌++◌, length, map, Option, Some, None, refl, sym, ◌∙◌, ap, subst, arith, append_assoc, append-nil, ⊎_elim}
use Rattle.std.specs.Prelude.{take, IfSome, slice_index_or, filter, unwrap_or}
use Rattle.std.specs.List.{flat_map}
use Rattle.std.proofs.lemmas.Bool.{cases_lt, false≢true}
use Rattle.std.proofs.lemmas.Bool.Decides.{nat_tests}
use Rattle.nb_base.specs.declared.time.OpId.{OpId}
use Rattle.nb_base.specs.declared.params.Params.{Params}
use Rattle.nb_base.specs.declared.op.Op.{Op}
use Rattle.nb_base.specs.declared.line.Line.{Line}
use Rattle.nb_base.specs.declared.plan.Plan.{Plan}
use Rattle.nb_base.specs.Params.{InRange}
use Rattle.nb_journal.specs.Keys.{is_own}
use Rattle.nb_journal.specs.Lawful.{each_line, EachLine, last_moment, base_of, IsLawful}
use Rattle.nb_journal.specs.Accounts.{Operation, operation_of, operations, own_lines}
use Rattle.nb_journal.specs.Laws.{Saw}
use Rattle.nb_journal.proofs.Lines.{each-at, each-front, each-of}
use Rattle.nb_journal.proofs.Unique.{lawful_are_one}
use Rattle.neigh_run.specs.Merged.{Entered, goes_to, merged, merged_for}
use Rattle.neigh_run.specs.Control.{host_start}
use Rattle.neigh_run.specs.Seen.{called, buckets_from, calls, calls_before, front_of, standing_from, table_count, sees}
use Rattle.neigh_run.specs.Inline.{entered_line, ends_own, journal_at, IsInlineJournal, AreInlineJournals, logs_of, host_lines_of}
use Rattle.neigh_run.specs.Laws.{InlineRunsAreOne}
use Rattle.neigh_run.proofs.Fronts.{entered_in, front-first, front-operations, front-ends, front-less, front-whole, front-before, base-few}
use Rattle.neigh_run.proofs.FrontsLawful.{front-lawful}
use Rattle.neigh_run.proofs.PacketFates.{inline_at}

-- ---- what was entered tells the last moment and the operations

-- the moment of the last operation, or this one
abbrev last_from : ℕ → List Entered → ℕ
last_from moment [] = moment
last_from moment (x ∷ xs) = last_from x.at xs

-- a journal that ends with an operation has its last moment
ends_at : (moment : ℕ) (line : Line) (lines : List Line) → ends_own (line ∷ lines) ≡ true → last_moment (line ∷ lines) ≡ last_from moment (entered_in (line ∷ lines))
ends_at moment line [] e = rw e refl
ends_at moment line (next ∷ lines) e = by_test (is_own line.op) (λ from. ends_at from next lines e) where
  by_test : (own : Bool) → ((from : ℕ) → last_moment (next ∷ lines) ≡ last_from from (entered_in (next ∷ lines))) → last_moment (next ∷ lines) ≡ last_from moment (map entered_line (if own then line ∷ own_lines (next ∷ lines) else own_lines (next ∷ lines)))
  by_test true rest = rest line.at
  by_test false rest = rest moment

last-is : (journal : List Line) → ends_own journal ≡ true → last_moment journal ≡ last_from 0 (entered_in journal)
last-is [] e = refl
last-is (line ∷ lines) e = ends_at 0 line lines e

-- what an operation asks, by what was entered
abbrev asked : Entered → Operation
asked x = record { at = x.at; id = Some x.id; op = x.op }

given : (id : Option OpId) → is_some id ≡ true → id ≡ Some (unwrap_or id (record { 0 = 0 }))
given None e = absurd (false≢true e)
given (Some id) e = refl

asked-is : (l : Line) → is_some l.id ≡ true → operation_of l ≡ asked (entered_line l)
asked-is l e = ap (λ (id : Option OpId). (let one : Operation = record { at = l.at; id = id; op = l.op } in one)) (given l.id e)

operations-from : (past lines : List Line) → each_line (λ past line. is_some line.id ≡ is_own line.op) past lines → operations lines ≡ map asked (entered_in lines)
operations-from past [] ids = refl
operations-from past (l ∷ ls) ids = by_test (is_own l.op) refl (operations-from (past ++ l ∷ []) ls ids.1) where
  by_test : (own : Bool) → is_own l.op ≡ own → operations ls ≡ map asked (entered_in ls) → map operation_of (if own then l ∷ own_lines ls else own_lines ls) ≡ map asked (map entered_line (if own then l ∷ own_lines ls else own_lines ls))
  by_test true e rest = ap (λ (o : Operation). o ∷ operations ls) (asked-is l (ids.0 ∙ e)) ∙ ap (λ (os : List Operation). asked (entered_line l) ∷ os) rest
  by_test false e rest = rest

operations-are : (p : Params) (journal : List Line) (clock : ℕ) → IsLawful p journal clock → operations journal ≡ map asked (entered_in journal)
operations-are p journal clock lawful = operations-from [] journal lawful.orderly.ids

-- ---- calls

abbrev pub one_if : Bool → ℕ
one_if t = if t then 1 else 0

pub called-append : (c : ℕ) (ds es : List ℕ) → called c (ds ++ es) ≡ called c ds + called c es
called-append c [] es = omega arith
called-append c (d ∷ ds) es = let rest = called-append c ds es in omega (arith, rest)

pub same_number : (b : ℕ) → (b == b) ≡ true
same_number b = grind (arith, nat_tests)

-- before a bucket's call stand no more calls of any bucket than before a later call of it
before-few : (done more : List ℕ) (b m c : ℕ) → m ≤ called b done → calls_before (done ++ b ∷ more) b m c ≤ called c done
before-few [] more b zero c le = rw (same_number b) (omega arith)
before-few [] more b (suc m) c le = absurd (omega (arith, le))
before-few (d ∷ ds) more b zero c le = by_test (d == b) (before-few ds more b zero c (omega arith)) where
  by_test : (t : Bool) → calls_before (ds ++ b ∷ more) b zero c ≤ called c ds → (if t then 0 else (if d == c then 1 else 0) + calls_before (ds ++ b ∷ more) b zero c) ≤ (if d == c then 1 else 0) + called c ds
  by_test true rest = omega arith
  by_test false rest = omega (arith, rest)
before-few (d ∷ ds) more b (suc m) c le = by_test (d == b) le (λ k few. before-few ds more b k c few) where
  by_test : (t : Bool) → suc m ≤ (if t then 1 else 0) + called b ds → ((k : ℕ) → k ≤ called b ds → calls_before (ds ++ b ∷ more) b k c ≤ called c ds)
      → (if d == c then 1 else 0) + calls_before (ds ++ b ∷ more) b (if t then m else suc m) c ≤ (if d == c then 1 else 0) + called c ds
  by_test true few rest = let le = rest m (omega (arith, few)) in omega (arith, le)
  by_test false few rest = let le = rest (suc m) (omega (arith, few)) in omega (arith, le)

-- ---- the table at a line, by its fronts

table-same : (b m : ℕ) (order : List ℕ) (lines : List Line) (c : ℕ) (js ks : List (List Line)) → length (own_lines lines) ≡ m → length js ≡ length ks
    → ((k : ℕ) → front_of (calls_before order b m (c + k)) (slice_index_or js k []) ≡ front_of (calls_before order b m (c + k)) (slice_index_or ks k []))
    → standing_from order b lines c js ≡ standing_from order b lines c ks
table-same b m order lines c [] [] own long fronts = refl
table-same b m order lines c [] (k ∷ ks) own long fronts = absurd (omega (arith, long))
table-same b m order lines c (j ∷ js) [] own long fronts = absurd (omega (arith, long))
table-same b m order lines c (j ∷ js) (k ∷ ks) own long fronts =
    let first : front_of (calls_before order b (length (own_lines lines)) c) j ≡ front_of (calls_before order b (length (own_lines lines)) c) k =
    (let here : c + 0 ≡ c = omega arith in subst (λ (n : ℕ). front_of (calls_before order b n c) j ≡ front_of (calls_before order b n c) k) (sym own) (subst (λ (d : ℕ). front_of (calls_before order b m d) j ≡ front_of (calls_before order b m d) k) here (fronts 0))) in
    let rest = table-same b m order lines (c + 1) js ks own (omega (arith, long))
    (λ n. let next : c + suc n ≡ c + 1 + n = omega arith in subst (λ (d : ℕ). front_of (calls_before order b m d) (slice_index_or js n []) ≡ front_of (calls_before order b m d) (slice_index_or ks n [])) next (fronts (suc n))) in
    ap (λ (xs : List Line). (if c == b then lines else xs) ∷ standing_from order b lines (c + 1) js) first
    ∙ ap (λ (xs : List (List Line)). (if c == b then lines else front_of (calls_before order b (length (own_lines lines)) c) k) ∷ xs) rest

-- the fronts of two tables agree behind these calls
abbrev Agree : List ℕ → List (List Line) → List (List Line) → Type 0
Agree done js ks = (c : ℕ) → front_of (called c done) (journal_at js c) ≡ front_of (called c done) (journal_at ks c)

lesser : (k n : ℕ) (j o : List Line) → k ≤ n → front_of n j ≡ front_of n o → front_of k j ≡ front_of k o
lesser k n j o le e = front-less k n j le ∙ ap (front_of k) e ∙ sym (front-less k n o le)

sees-same : (plan : Plan) (js ks : List (List Line)) (done more : List ℕ) (b : ℕ) (lines : List Line) → calls plan ≡ done ++ b ∷ more → Agree done js ks → length js ≡ length ks → length (own_lines lines) ≤ called b done → sees plan ks b lines ≡ sees plan js b lines
unfolding sees
sees-same plan js ks done more b lines order agree long few =
    ap (λ (table : List (List Line)). table_count plan.params table)
    (table-same b (length (own_lines lines)) (calls plan) lines 0 ks js refl (sym long)
    (λ k. let first : 0 + k ≡ k = omega arith in
    let le : calls_before (calls plan) b (length (own_lines lines)) k ≤ called k done = subst (λ (ds : List ℕ). calls_before ds b (length (own_lines lines)) k ≤ called k done) (sym order) (before-few done more b (length (own_lines lines)) k few) in
    subst (λ (d : ℕ). front_of (calls_before (calls plan) b (length (own_lines lines)) d) (slice_index_or ks k []) ≡ front_of (calls_before (calls plan) b (length (own_lines lines)) d) (slice_index_or js k [])) (sym first)
    (lesser (calls_before (calls plan) b (length (own_lines lines)) k) (called k done) (journal_at ks k) (journal_at js k) le (sym (agree k)))))

saw_by : (seen : Option ℕ) (m n : ℕ) → m ≡ n → IfSome seen (λ s. s ≡ m) → IfSome seen (λ s. s ≡ n)
saw_by None m n e h = h
saw_by (Some s) m n e h = h ∙ e

-- ---- one call more

front-lawful-of : (p : Params) (journal : List Line) (n : ℕ) → InRange p → ends_own journal ≡ true → IsLawful p journal (last_moment journal) → IsLawful p (front_of n journal) (last_moment (front_of n journal))
front-lawful-of p journal n r ends lawful =
    let first = front-first n journal in
    front-lawful p (front_of n journal) first.0 (last_moment journal) r (front-ends n journal ends) (subst (λ (xs : List Line). IsLawful p xs (last_moment journal)) first.1 lawful)

front-one : (plan : Plan) (js ks : List (List Line)) (done more : List ℕ) (b : ℕ) (j o : List Line) → InRange plan.params → calls plan ≡ done ++ b ∷ more → Agree done js ks → length js ≡ length ks
    → IsInlineJournal plan js b j → IsInlineJournal plan ks b o → front_of (suc (called b done)) j ≡ front_of (suc (called b done)) o
front-one plan js ks done more b j o r order agree long h g =
    lawful_are_one p (sees plan js b) (front_of n j) (front_of n o) (last_moment (front_of n j)) r lawful (subst (IsLawful p (front_of n o)) last lawful_o) saw saw_o
    (operations-are p (front_of n j) (last_moment (front_of n j)) lawful ∙ ap (map asked) same ∙ sym (operations-are p (front_of n o) (last_moment (front_of n o)) lawful_o)) where
      p : Params
      p = plan.params

      n : ℕ
      n = suc (called b done)

      lawful : IsLawful p (front_of n j) (last_moment (front_of n j))
      lawful = front-lawful-of p j n r h.ends h.lawful

      lawful_o : IsLawful p (front_of n o) (last_moment (front_of n o))
      lawful_o = front-lawful-of p o n r g.ends g.lawful

      same : entered_in (front_of n j) ≡ entered_in (front_of n o)
      same = front-operations n j ∙ ap (take n) (h.entered ∙ sym g.entered) ∙ sym (front-operations n o)

      last : last_moment (front_of n o) ≡ last_moment (front_of n j)
      last = last-is (front_of n o) (front-ends n o g.ends) ∙ ap (last_from 0) (sym same) ∙ sym (last-is (front_of n j) (front-ends n j h.ends))

      saw : EachLine (Saw (sees plan js b)) (front_of n j)
      saw = let first = front-first n j in each-front (Saw (sees plan js b)) (front_of n j) first.0 (subst (EachLine (Saw (sees plan js b))) first.1 h.seen)

      saw_ks : EachLine (Saw (sees plan ks b)) (front_of n o)
      saw_ks = let first = front-first n o in each-front (Saw (sees plan ks b)) (front_of n o) first.0 (subst (EachLine (Saw (sees plan ks b))) first.1 g.seen)

      at_line : (past rest : List Line) (l : Line) → front_of n o ≡ past ++ l ∷ rest → Saw (sees plan js b) past l
      at_line past rest l e =
          let before = front-before (called b done) o past rest l g.ends e in
          let base = base-few past in
          saw_by l.seen (sees plan ks b (base_of past)) (sees plan js b (base_of past)) (sees-same plan js ks done more b (base_of past) order agree long (omega (arith, before, base)))
          (each-at (Saw (sees plan ks b)) past rest l (subst (EachLine (Saw (sees plan ks b))) e saw_ks))

      saw_o : EachLine (Saw (sees plan js b)) (front_of n o)
      saw_o = each-of (Saw (sees plan js b)) (front_of n o) at_line

no_front : (n : ℕ) → front_of n [] ≡ []
no_front zero = refl
no_front (suc n) = refl

no_journal : (js : List (List Line)) (k : ℕ) → length js ≤ k → journal_at js k ≡ []
no_journal [] k le = refl
no_journal (j ∷ js) zero le = absurd (omega (arith, le))
no_journal (j ∷ js) (suc k) le = no_journal js k (omega (arith, le))

pub bucket_at : (plan : Plan) (all js : List (List Line)) (b : ℕ) → b < length js → AreInlineJournals plan all 0 js → IsInlineJournal plan all b (journal_at js b)
bucket_at plan all js b lt h = let first : 0 + b ≡ b = omega arith in subst (λ (n : ℕ). IsInlineJournal plan all n (journal_at js b)) first (inline_at plan all 0 js b lt h)

agree-more : (plan : Plan) (js ks : List (List Line)) (done more : List ℕ) (b : ℕ) → InRange plan.params → calls plan ≡ done ++ b ∷ more → length js ≡ length ks
    → AreInlineJournals plan js 0 js → AreInlineJournals plan ks 0 ks → Agree done js ks → Agree (done ++ b ∷ []) js ks
agree-more plan js ks done more b r order long h g agree c = by_test (b == c) refl where
  count : called c (done ++ b ∷ []) ≡ called c done + ((if b == c then 1 else 0) + 0)
  count = called-append c done (b ∷ [])

  at_bucket : front_of (suc (called b done)) (journal_at js b) ≡ front_of (suc (called b done)) (journal_at ks b)
  at_bucket = ⊎_elim
      (λ (lt : b < length js). front-one plan js ks done more b (journal_at js b) (journal_at ks b) r order agree long (bucket_at plan js js b lt h) (bucket_at plan ks ks b (omega (arith, lt, long)) g))
      (λ (le : length js ≤ b). ap (front_of (suc (called b done))) (no_journal js b le ∙ sym (no_journal ks b (omega (arith, le, long)))))
      (cases_lt b (length js))

  by_test : (t : Bool) → (b == c) ≡ t → front_of (called c (done ++ b ∷ [])) (journal_at js c) ≡ front_of (called c (done ++ b ∷ [])) (journal_at ks c)
  by_test true e =
      let same : b ≡ c = grind (arith, nat_tests, e) in
      let one = ap one_if e in
      let more : called c (done ++ b ∷ []) ≡ suc (called c done) = omega (arith, count, one) in
      rw more (subst (λ (d : ℕ). front_of (suc (called d done)) (journal_at js d) ≡ front_of (suc (called d done)) (journal_at ks d)) same at_bucket)
  by_test false e =
      let none = ap one_if e in
      let same : called c (done ++ b ∷ []) ≡ called c done = omega (arith, count, none) in
      rw same (agree c)

agree-all : (plan : Plan) (js ks : List (List Line)) (done more : List ℕ) → InRange plan.params → calls plan ≡ done ++ more → length js ≡ length ks → AreInlineJournals plan js 0 js → AreInlineJournals plan ks 0 ks → Agree done js ks → Agree (calls plan) js ks
agree-all plan js ks done [] r order long h g agree = subst (λ (ds : List ℕ). Agree ds js ks) (sym (append-nil done) ∙ sym order) agree
agree-all plan js ks done (b ∷ more) r order long h g agree =
    agree-all plan js ks (done ++ b ∷ []) more r (order ∙ sym (append_assoc done (b ∷ []) more)) long h g (agree-more plan js ks done more b r order long h g agree)

-- ---- all calls of a bucket are its operations

of_one : (buckets b n c : ℕ) (o : Op) → c < b → called c (buckets_from buckets b n o) ≡ 0
of_one buckets b zero c o lt = refl
of_one buckets b (suc n) c o lt = by_test (goes_to buckets b o) (of_one buckets (b + 1) n c o (omega (arith, lt))) where
  by_test : (t : Bool) → called c (buckets_from buckets (b + 1) n o) ≡ 0 → called c ((if t then b ∷ [] else []) ++ buckets_from buckets (b + 1) n o) ≡ 0
  by_test true rest = let other : (b == c) ≡ false = grind (arith, nat_tests, lt) in let none = ap one_if other in omega (arith, none, rest)
  by_test false rest = rest

of_bucket : (buckets b n c : ℕ) (o : Op) → b ≤ c → c < b + n → called c (buckets_from buckets b n o) ≡ one_if (goes_to buckets c o)
of_bucket buckets b zero c o le lt = absurd (omega (arith, le, lt))
of_bucket buckets b (suc n) c o le lt = by_test (b == c) refl (λ ahead. of_bucket buckets (b + 1) n c o ahead (omega (arith, lt))) where
  here : called c ((if goes_to buckets b o then b ∷ [] else []) ++ buckets_from buckets (b + 1) n o) ≡ called c (if goes_to buckets b o then b ∷ [] else []) + called c (buckets_from buckets (b + 1) n o)
  here = called-append c (if goes_to buckets b o then b ∷ [] else []) (buckets_from buckets (b + 1) n o)

  own : (t : Bool) → (b == c) ≡ true → called c (if t then b ∷ [] else []) ≡ one_if t
  own true e = let one = ap one_if e in omega (arith, one)
  own false e = refl

  other : (t : Bool) → (b == c) ≡ false → called c (if t then b ∷ [] else []) ≡ 0
  other true e = let none = ap one_if e in omega (arith, none)
  other false e = refl

  by_test : (t : Bool) → (b == c) ≡ t → (b + 1 ≤ c → called c (buckets_from buckets (b + 1) n o) ≡ one_if (goes_to buckets c o)) → called c (buckets_from buckets b (suc n) o) ≡ one_if (goes_to buckets c o)
  by_test true e rest =
      let same : b ≡ c = grind (arith, nat_tests, e) in
      let none = of_one buckets (b + 1) n c o (omega (arith, same)) in
      let one = own (goes_to buckets b o) e in
      let there = ap (λ (d : ℕ). one_if (goes_to buckets d o)) same in
      omega (arith, here, none, one, there)
  by_test false e rest =
      let ahead : b + 1 ≤ c = grind (arith, nat_tests, e, le) in
      let later = rest ahead in
      let none = other (goes_to buckets b o) e in
      omega (arith, here, later, none)

calls-of : (buckets c : ℕ) (xs : List Entered) → c < buckets → called c (flat_map (λ (x : Entered). buckets_from buckets 0 buckets x.op) xs) ≡ length (filter (λ (x : Entered). goes_to buckets c x.op) xs)
calls-of buckets c [] lt = refl
calls-of buckets c (x ∷ xs) lt =
    let both = called-append c (buckets_from buckets 0 buckets x.op) (flat_map (λ (y : Entered). buckets_from buckets 0 buckets y.op) xs) in
    let one = of_bucket buckets 0 buckets c x.op (omega arith) (omega (arith, lt)) in
    let rest = calls-of buckets c xs lt in
    by_test (goes_to buckets c x.op) refl (omega (arith, both, one, rest)) where
      by_test : (t : Bool) → goes_to buckets c x.op ≡ t → called c (flat_map (λ (y : Entered). buckets_from buckets 0 buckets y.op) (x ∷ xs)) ≡ one_if (goes_to buckets c x.op) + length (filter (λ (y : Entered). goes_to buckets c y.op) xs)
          → called c (flat_map (λ (y : Entered). buckets_from buckets 0 buckets y.op) (x ∷ xs)) ≡ length (filter (λ (y : Entered). goes_to buckets c y.op) (x ∷ xs))
      by_test true e count = let one = ap one_if e in let more : length (filter (λ (y : Entered). goes_to buckets c y.op) (x ∷ xs)) ≡ 1 + length (filter (λ (y : Entered). goes_to buckets c y.op) xs) = rw e (omega arith) in omega (arith, count, one, more)
      by_test false e count = let none = ap one_if e in let same : length (filter (λ (y : Entered). goes_to buckets c y.op) (x ∷ xs)) ≡ length (filter (λ (y : Entered). goes_to buckets c y.op) xs) = rw e refl in omega (arith, count, none, same)

pub calls-are : (plan : Plan) (c : ℕ) → c < plan.buckets → called c (calls plan) ≡ length (merged_for plan c)
unfolding calls
calls-are plan c lt = calls-of plan.buckets c (merged plan) lt

pub entered-many : (journal : List Line) (xs : List Entered) → entered_in journal ≡ xs → length (own_lines journal) ≡ length xs
entered-many journal xs e = sym (length-map (own_lines journal)) ∙ ap (λ (ys : List Entered). length ys) e where
  length-map : (ls : List Line) → length (map entered_line ls) ≡ length ls
  length-map [] = refl
  length-map (l ∷ ls) = ap suc (length-map ls)

-- ---- all journals

journal-one : (plan : Plan) (js ks : List (List Line)) (b : ℕ) → b < plan.buckets → length js ≡ plan.buckets → length ks ≡ plan.buckets → AreInlineJournals plan js 0 js → AreInlineJournals plan ks 0 ks → Agree (calls plan) js ks → journal_at js b ≡ journal_at ks b
journal-one plan js ks b lt long_j long_k h g agree =
    let first = bucket_at plan js js b (omega (arith, lt, long_j)) h in
    let other = bucket_at plan ks ks b (omega (arith, lt, long_k)) g in
    let many = calls-are plan b lt in
    let own = entered-many (journal_at js b) (merged_for plan b) first.entered in
    let own_k = entered-many (journal_at ks b) (merged_for plan b) other.entered in
    sym (front-whole (called b (calls plan)) (journal_at js b) first.ends (omega (arith, many, own)))
    ∙ agree b
    ∙ front-whole (called b (calls plan)) (journal_at ks b) other.ends (omega (arith, many, own_k))

all-same : (js ks : List (List Line)) → length js ≡ length ks → ((k : ℕ) → k < length js → journal_at js k ≡ journal_at ks k) → js ≡ ks
all-same [] [] long each = refl
all-same [] (k ∷ ks) long each = absurd (omega (arith, long))
all-same (j ∷ js) [] long each = absurd (omega (arith, long))
all-same (j ∷ js) (k ∷ ks) long each =
    let first = each 0 (omega arith) in
    let rest = all-same js ks (omega (arith, long)) (λ n lt. each (suc n) (omega (arith, lt))) in
    λ i. first i ∷ rest i

journals-one : (plan : Plan) (js ks : List (List Line)) → InRange plan.params → length js ≡ plan.buckets → length ks ≡ plan.buckets → AreInlineJournals plan js 0 js → AreInlineJournals plan ks 0 ks → js ≡ ks
journals-one plan js ks r long_j long_k h g =
    let agree = agree-all plan js ks [] (calls plan) r refl (long_j ∙ sym long_k) h g (λ c. refl) in
    all-same js ks (long_j ∙ sym long_k) (λ b lt. journal-one plan js ks b (omega (arith, lt, long_j)) long_j long_k h g agree)

pub runs_are_one : InlineRunsAreOne
runs_are_one plan run other r h g =
    let journals = journals-one plan run.journals other.journals r h.buckets g.buckets h.journals g.journals in
    let mode = h.mode ∙ sym g.mode in
    let whole = h.plan ∙ sym g.plan in
    let logs = h.logs ∙ ap (λ (js : List (List Line)). logs_of plan js 1 plan.senders) journals ∙ sym g.logs in
    let host_lines = h.host_lines ∙ ap (λ (js : List (List Line)). host_lines_of plan js host_start 1 plan.control) journals ∙ sym g.host_lines in
    let marks = h.marks ∙ sym g.marks in
    λ i. record { mode = mode i; plan = whole i; journals = journals i; host_lines = host_lines i; logs = logs i; marks = marks i }
