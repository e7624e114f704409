-- One call more of a table's buckets.
use Rattle.std.proofs.Common.{◌≡◌, ℕ, zero, suc, ◌<◌, ◌≤◌, ◌+◌, ◌⊎◌, Bool, true, false, ◌==◌, if◌then◌else◌, List, [], ◌∷◌, ◌++◌, length, map, set, Option, Some, None, refl, sym, ◌∙◌, ap, subst, arith, append_assoc, append-nil, inl, inr, ⊎_elim}
use Rattle.std.specs.Prelude.{IfSome}
use Rattle.std.proofs.lemmas.Bool.Decides.{nat_tests}
use Rattle.std.proofs.lemmas.Bool.{cases_eq, cases_lt}
use Rattle.std.proofs.lemmas.List.{length-map, map-append, map-set, length-set, length-append, get_or-set_same, get_or-set_other}
use Rattle.std.proofs.lemmas.List.Sums.{sum_by-cons, sum_by-set}
use Rattle.std.proofs.lemmas.List.Elements.{filter-append}
use Rattle.nb_base.specs.declared.time.OpId.{OpId}
use Rattle.nb_base.specs.declared.op.Op.{Op}
use Rattle.nb_base.specs.declared.op.Op.TheVariants as op
use Rattle.nb_base.specs.declared.line.Line.{Line}
use Rattle.nb_base.specs.declared.line.Reply.{Reply}
use Rattle.nb_base.specs.declared.params.Params.{Params}
use Rattle.nb_journal.specs.Keys.{is_own}
use Rattle.nb_journal.specs.Fold.{present_count}
use Rattle.nb_journal.specs.Lawful.{each_line, EachLine, base_of, is_collect}
use Rattle.nb_journal.specs.Accounts.{own_lines}
use Rattle.nb_journal.specs.Laws.{Saw}
use Rattle.nb_journal.proofs.Lines.{by_last, base_of-collect, base_of-other, each-at, each-of}
use Rattle.nb_bucket.specs.Bucket.{Journal}
use Rattle.neigh_run.specs.Merged.{Entered}
use Rattle.neigh_run.specs.Seen.{called, calls_before, front_of, standing, table_count}
use Rattle.neigh_run.specs.Inline.{entered_line, ends_own, journal_at}
use Rattle.neigh_run.proofs.Fronts.{front-whole, own-append as own-count, some-own, ends-part}
use Rattle.plain_table.specs.declared.answer.Answer.{Answer}
use Rattle.plain_table.specs.Calls.{Call, buckets_called, entered_at}
use Rattle.plain_table.specs.Table.{journals_of, present_in, present_in_all, no_journal, bucket_at, answers_at, IsCalled, AreCalled}
use Rattle.plain_table.specs.Calling.{answer_from, EntersAmong, CallsOne}
use Rattle.plain_table.proofs.CallsBefore.{same_number, before-within, before-at, standing-same, standing-set}
use Rattle.plain_table.proofs.CallsOf.{entered-many, entered-more}
use Rattle.plain_table.proofs.Entering.{EntersOne, enters_one}

-- ---- lists

-- a place of two lists joined is one of the first, or one of the second
split_at : (first bs past rest : List Line) (l : Line) → first ++ bs ≡ past ++ l ∷ rest → ((r : List Line) × (first ≡ past ++ l ∷ r)) ⊎ ((xs : List Line) × (past ≡ first ++ xs) × (bs ≡ xs ++ l ∷ rest))
split_at [] bs past rest l e = inr (past, refl, e)
split_at (a ∷ more) bs [] rest l e = let same : a ≡ l = cc in inl (more, ap (λ (x : Line). x ∷ more) same)
split_at (a ∷ more) bs (y ∷ ys) rest l e =
    let same : a ≡ y = cc in
    let behind : more ++ bs ≡ ys ++ l ∷ rest = cc in
    ⊎_elim
    (λ (h : (r : List Line) × (more ≡ ys ++ l ∷ r)). inl (h.0, λ i. same i ∷ h.1 i))
    (λ (h : (xs : List Line) × (ys ≡ more ++ xs) × (bs ≡ xs ++ l ∷ rest)). inr (h.0, (λ i. sym same i ∷ h.1 i), h.2))
    (split_at more bs ys rest l behind)

-- a front of so many operations is that of the first lines, where these have so many
front-grows : (n : ℕ) (xs ys : List Line) → ends_own xs ≡ true → n ≤ length (own_lines xs) → front_of n (xs ++ ys) ≡ front_of n xs
front-grows zero xs ys ends le = refl
front-grows (suc n) [] ys ends le = absurd (omega (arith, le))
front-grows (suc n) (l ∷ ls) ys ends le = ap (λ (zs : List Line). l ∷ zs) (by_test (is_own l.op) le (λ k few. front-grows k ls ys (ends_rest l ls ends) few)) where
  ends_rest : (x : Line) (zs : List Line) → ends_own (x ∷ zs) ≡ true → ends_own zs ≡ true
  ends_rest x [] h = refl
  ends_rest x (z ∷ zs) h = h

  by_test : (t : Bool) → suc n ≤ length (if t then l ∷ own_lines ls else own_lines ls) → ((k : ℕ) → k ≤ length (own_lines ls) → front_of k (ls ++ ys) ≡ front_of k ls)
      → front_of (if t then n else suc n) (ls ++ ys) ≡ front_of (if t then n else suc n) ls
  by_test true few rest = rest n (omega (arith, few))
  by_test false few rest = rest (suc n) few

collect-bare : (l : Line) → is_collect l.op ≡ true → length (own_lines (l ∷ [])) ≡ 0
collect-bare l e = by_op l.op e where
  by_op : (o : Op) → is_collect o ≡ true → length (if is_own o then l ∷ [] else []) ≡ 0
  by_op (op.Collect key) h = refl
  by_op _ h = cc

-- the lines without the collects at their end have as many operations
base-own : (lines : List Line) → length (own_lines (base_of lines)) ≡ length (own_lines lines)
base-own lines = by_last (λ (xs : List Line). length (own_lines (base_of xs)) ≡ length (own_lines xs)) refl more lines where
  more : (xs : List Line) (x : Line) → length (own_lines (base_of xs)) ≡ length (own_lines xs) → length (own_lines (base_of (xs ++ x ∷ []))) ≡ length (own_lines (xs ++ x ∷ []))
  more xs x rest = by_test (is_collect x.op) refl where
    by_test : (t : Bool) → is_collect x.op ≡ t → length (own_lines (base_of (xs ++ x ∷ []))) ≡ length (own_lines (xs ++ x ∷ []))
    by_test true e =
        let parts = own-count xs (x ∷ []) in
        let none = collect-bare x e in
        let same = ap (λ (ys : List Line). length (own_lines ys)) (base_of-collect xs x e) in
        omega (arith, rest, parts, none, same)
    by_test false e = ap (λ (ys : List Line). length (own_lines ys)) (base_of-other xs x e)

-- ---- answers

answers-more : (b c : ℕ) (answers : List Answer) (x : Entered) (place : ℕ) (r : Reply) → answers_at c (answers ++ answer_from b x place r ∷ []) ≡ answers_at c answers ++ (if b == c then answer_from b x place r ∷ [] else [])
answers-more b c answers x place r = filter-append (λ (a : Answer). a.placed.bucket == c) answers (answer_from b x place r ∷ [])

-- ---- what the lines saw

saw_by : (seen : Option ℕ) (m n : ℕ) → m ≡ n → IfSome seen (λ s. s ≡ m) → IfSome seen (λ s. s ≡ n)
saw_by None m n e h = h
saw_by (Some s) m n e h = h ∙ e

journal-of : (table : List Journal) (k : ℕ) → journal_at (journals_of table) k ≡ (bucket_at table k).lines
journal-of [] k = refl
journal-of (j ∷ js) zero = refl
journal-of (j ∷ js) (suc k) = journal-of js k

-- all buckets have these parameters, so the present entries are those of their journals
present-all : (p : Params) (table : List Journal) → ((k : ℕ) → k < length table → (bucket_at table k).params ≡ p) → present_in_all table ≡ table_count p (journals_of table)
present-all p [] each = refl
present-all p (j ∷ js) each =
    let here = ap (λ (q : Params). present_count q j.lines) (each 0 (omega arith)) in
    let rest = present-all p js (λ k lt. each (suc k) (omega (arith, lt))) in
    let all = sum_by-cons present_in j js in
    let counted = sum_by-cons (present_count p) j.lines (journals_of js) in
    omega (arith, here, rest, all, counted)

-- ---- one call more

called_at : (p : Params) (order more : List ℕ) (done : List Call) (answers : List Answer) (table : List Journal) (next : Call) (place : ℕ) (r : Reply) (new : Journal) (n : ℕ)
    → next.bucket < length table → order ≡ buckets_called done ++ next.bucket ∷ more → is_own next.entered.op ≡ true → (bucket_at table next.bucket).clock ≤ next.entered.at
    → EntersAmong n next.entered (bucket_at table next.bucket) new place r → present_in (bucket_at table next.bucket) + n ≡ present_in_all table
    → AreCalled p order done answers table
    → AreCalled p order (done ++ next ∷ []) (answers ++ answer_from next.bucket next.entered place r ∷ []) (set table next.bucket new)
called_at p order more done answers table next place r new n lt order_is own le e sum h = record {
  each = λ c within. by_cases c (subst (λ (m : ℕ). c < m) (length-set table b new) within);
  aligned = map-append (λ (a : Answer). a.placed.bucket) answers (answer_from b x place r ∷ []) ∙ ap (λ (bs : List ℕ). bs ++ b ∷ []) h.aligned ∙ sym (map-append (λ (call : Call). call.bucket) done (next ∷ []));
  ids = map-append (λ (a : Answer). a.id) answers (answer_from b x place r ∷ []) ∙ ap (λ (is : List OpId). is ++ x.id ∷ []) h.ids ∙ sym (map-append (λ (call : Call). call.entered.id) done (next ∷ []));
} where
  b : ℕ
  b = next.bucket

  x : Entered
  x = next.entered

  old : Journal
  old = bucket_at table b

  was : IsCalled p order done answers (journals_of table) b old
  was = h.each b lt

  one : EntersOne p b x place r old new
  one = enters_one p b x place r old new own was.params le e.entered

  all : List (List Line)
  all = journals_of table

  all' : List (List Line)
  all' = journals_of (set table b new)

  long : length all' ≡ length all
  long = ap (λ (js : List (List Line)). length js) (map-set (λ (j : Journal). j.lines) table b new) ∙ length-set all b new.lines

  -- the journals of the other buckets stay
  stays : (k : ℕ) → (k ≡ b → ⊥) → journal_at all' k ≡ journal_at all k
  stays k other = journal-of (set table b new) k ∙ ap (λ (j : Journal). j.lines) (get_or-set_other table b k new no_journal other) ∙ sym (journal-of table k)

  here : journal_at all' b ≡ new.lines
  here = journal-of (set table b new) b ∙ ap (λ (j : Journal). j.lines) (get_or-set_same table b new no_journal lt)

  -- a bucket has entered as many operations as it was called
  many : (c : ℕ) → c < length table → length (own_lines (bucket_at table c).lines) ≡ called c (buckets_called done)
  many c within =
      let same = ap (λ (xs : List Entered). length xs) (h.each c within).entered in
      let mapped = length-map (own_lines (bucket_at table c).lines) entered_line in
      let calls = entered-many c done in
      omega (arith, same, mapped, calls)

  -- a line of a journal stands behind fewer operations than the journal has
  before_last : (journal past rest : List Line) (l : Line) → ends_own journal ≡ true → journal ≡ past ++ l ∷ rest → length (own_lines past) < length (own_lines journal)
  before_last journal past rest l ends at =
      let parts = ap (λ (xs : List Line). length (own_lines xs)) at ∙ own-count past (l ∷ rest) in
      let some = some-own l rest (ends-part past l rest (sym (ap ends_own at) ∙ ends)) in
      omega (arith, parts, some)

  -- the table as it stood at a line of a call that was done
  stood : (c : ℕ) → c < length table → (past rest : List Line) (l : Line) → (bucket_at table c).lines ≡ past ++ l ∷ rest → standing order all' c (base_of past) ≡ standing order all c (base_of past)
  stood c within past rest l at = standing-same order c (base_of past) 0 all' all long fronts where
    few : length (own_lines (base_of past)) < called c (buckets_called done)
    few =
        let last = before_last (bucket_at table c).lines past rest l (h.each c within).ends at in
        let base = base-own past in
        let calls = many c within in
        omega (arith, last, base, calls)

    before : (k : ℕ) → calls_before order c (length (own_lines (base_of past))) k ≤ called k (buckets_called done)
    before k = subst (λ (bs : List ℕ). calls_before bs c (length (own_lines (base_of past))) k ≤ called k (buckets_called done)) (sym order_is) (before-within (buckets_called done) (b ∷ more) c (length (own_lines (base_of past))) k few)

    front : (k : ℕ) → front_of (calls_before order c (length (own_lines (base_of past))) k) (journal_at all' k) ≡ front_of (calls_before order c (length (own_lines (base_of past))) k) (journal_at all k)
    front k = ⊎_elim
        (λ (same : k ≡ b). subst (λ (d : ℕ). front_of (calls_before order c (length (own_lines (base_of past))) d) (journal_at all' d) ≡ front_of (calls_before order c (length (own_lines (base_of past))) d) (journal_at all d)) (sym same) grown)
        (λ (other : k ≡ b → ⊥). ap (front_of (calls_before order c (length (own_lines (base_of past))) k)) (stays k other))
        (cases_eq k b) where
          grown : front_of (calls_before order c (length (own_lines (base_of past))) b) (journal_at all' b) ≡ front_of (calls_before order c (length (own_lines (base_of past))) b) (journal_at all b)
          grown =
              let m : ℕ = calls_before order c (length (own_lines (base_of past))) b in
              let enough = before b in
              let calls = many b lt in
              ap (front_of m) (here ∙ e.grown) ∙ front-grows m old.lines e.more was.ends (omega (arith, enough, calls)) ∙ ap (front_of m) (sym (journal-of table b))

    fronts : (k : ℕ) → (0 + k == c) ≡ false → front_of (calls_before order c (length (own_lines (base_of past))) (0 + k)) (journal_at all' k) ≡ front_of (calls_before order c (length (own_lines (base_of past))) (0 + k)) (journal_at all k)
    fronts k apart = let same : k ≡ 0 + k = omega arith in subst (λ (d : ℕ). front_of (calls_before order c (length (own_lines (base_of past))) d) (journal_at all' k) ≡ front_of (calls_before order c (length (own_lines (base_of past))) d) (journal_at all k)) same (front k)

  kept_saw : (c : ℕ) → c < length table → (past rest : List Line) (l : Line) → (bucket_at table c).lines ≡ past ++ l ∷ rest → Saw (λ lines. table_count p (standing order all' c lines)) past l
  kept_saw c within past rest l at =
      saw_by l.seen (table_count p (standing order all c (base_of past))) (table_count p (standing order all' c (base_of past))) (ap (table_count p) (sym (stood c within past rest l at)))
      (each-at (Saw (λ lines. table_count p (standing order all c lines))) past rest l (subst (EachLine (Saw (λ lines. table_count p (standing order all c lines)))) at (h.each c within).saw))

  -- the table as it stands at a line of this call
  stands : (lines : List Line) → length (own_lines lines) ≡ called b (buckets_called done) → standing order all' b lines ≡ set all b lines
  stands lines own_many =
      standing-same order b lines 0 all' all long (λ k apart. ap (front_of (calls_before order b (length (own_lines lines)) (0 + k))) (stays k (λ same. let yes : (0 + k == b) ≡ true = grind (arith, nat_tests, same) in absurd cc)))
      ∙ standing-set order b lines 0 b all (omega arith) (subst (λ (m : ℕ). b < m) (sym (length-map table (λ (j : Journal). j.lines))) lt) (λ k apart. let same : k ≡ 0 + k = omega arith in subst (λ (d : ℕ). front_of (calls_before order b (length (own_lines lines)) d) (journal_at all k) ≡ journal_at all k) same (whole k)) where
        at_call : (k : ℕ) → calls_before order b (length (own_lines lines)) k ≡ called k (buckets_called done)
        at_call k = ap (λ (m : ℕ). calls_before order b m k) own_many ∙ ap (λ (bs : List ℕ). calls_before bs b (called b (buckets_called done)) k) order_is ∙ before-at (buckets_called done) more b k

        no_front : (m : ℕ) → front_of m [] ≡ []
        no_front zero = refl
        no_front (suc m) = refl

        past_end : (js : List (List Line)) (k : ℕ) → length js ≤ k → journal_at js k ≡ []
        past_end [] k h = refl
        past_end (j ∷ js) zero h = absurd (omega (arith, h))
        past_end (j ∷ js) (suc k) h = past_end js k (omega (arith, h))

        whole : (k : ℕ) → front_of (calls_before order b (length (own_lines lines)) k) (journal_at all k) ≡ journal_at all k
        whole k = ⊎_elim
            (λ (within : k < length table).
            let calls = at_call k in
            let own = many k within in
            let enough : length (own_lines (bucket_at table k).lines) ≤ calls_before order b (length (own_lines lines)) k = omega (arith, calls, own) in
            ap (front_of (calls_before order b (length (own_lines lines)) k)) (journal-of table k) ∙ front-whole (calls_before order b (length (own_lines lines)) k) (bucket_at table k).lines (h.each k within).ends enough ∙ sym (journal-of table k))
            (λ (behind : length table ≤ k).
            let none = past_end all k (subst (λ (m : ℕ). m ≤ k) (sym (length-map table (λ (j : Journal). j.lines))) behind) in
            ap (front_of (calls_before order b (length (own_lines lines)) k)) none ∙ no_front (calls_before order b (length (own_lines lines)) k) ∙ sym none)
            (cases_lt k (length table))

  sees : (lines : List Line) → length (own_lines lines) ≡ called b (buckets_called done) → present_count p lines + n ≡ table_count p (standing order all' b lines)
  sees lines own_many =
      let table_is = ap (table_count p) (stands lines own_many) in
      let whole = sum_by-set (present_count p) all b lines [] (subst (λ (m : ℕ). b < m) (sym (length-map table (λ (j : Journal). j.lines))) lt) in
      let own = ap (present_count p) (journal-of table b) in
      let here_count = ap (λ (q : Params). present_count q old.lines) was.params in
      let all_count = present-all p table (λ k within. (h.each k within).params) in
      omega (arith, table_is, whole, own, here_count, all_count, sum)

  new_saw : (past rest : List Line) (l : Line) → new.lines ≡ past ++ l ∷ rest → Saw (λ lines. table_count p (standing order all' b lines)) past l
  new_saw past rest l at = ⊎_elim
      (λ (earlier : (r : List Line) × (old.lines ≡ past ++ l ∷ r)). kept_saw b lt past earlier.0 l earlier.1)
      (λ (later : (xs : List Line) × (past ≡ old.lines ++ xs) × (e.more ≡ xs ++ l ∷ rest)).
      saw_by l.seen (present_count p (base_of past) + n) (table_count p (standing order all' b (base_of past))) (sees (base_of past) (counted_own later.0 later.1))
      (told later.0 later.1 later.2))
      (split_at old.lines e.more past rest l (sym e.grown ∙ at)) where
        counted_own : (xs : List Line) → past ≡ old.lines ++ xs → length (own_lines (base_of past)) ≡ called b (buckets_called done)
        counted_own xs is =
            let last = before_last new.lines past rest l one.ends at in
            let base = base-own past in
            let parts = ap (λ (zs : List Line). length (own_lines zs)) is ∙ own-count old.lines xs in
            let grown = ap (λ (xs : List Entered). length xs) one.entered ∙ length-append (map entered_line (own_lines old.lines)) (x ∷ []) in
            let mapped = length-map (own_lines new.lines) entered_line in
            let mapped_old = length-map (own_lines old.lines) entered_line in
            let calls = many b lt in
            omega (arith, last, base, parts, grown, mapped, mapped_old, calls)

        told : (xs : List Line) → past ≡ old.lines ++ xs → e.more ≡ xs ++ l ∷ rest → IfSome l.seen (λ s. s ≡ present_count p (base_of past) + n)
        told xs is more_is =
            subst (λ (zs : List Line). IfSome l.seen (λ s. s ≡ present_count p (base_of zs) + n)) (sym is)
            (each_in (λ past line. IfSome line.seen (λ s. s ≡ present_count p (base_of past) + n)) old.lines xs rest l
            (subst (λ (zs : List Line). each_line (Saw (λ lines. present_count p lines + n)) old.lines zs) more_is
            (subst (λ (q : Params). each_line (Saw (λ lines. present_count q lines + n)) old.lines e.more) was.params e.saw))) where
              each_in : (P : List Line → Line → Type 0) (first before behind : List Line) (y : Line) → each_line P first (before ++ y ∷ behind) → P (first ++ before) y
              each_in P first [] behind y every = subst (λ (zs : List Line). P zs y) (sym (append-nil first)) every.0
              each_in P first (z ∷ zs) behind y every = subst (λ (ws : List Line). P ws y) (append_assoc first (z ∷ []) zs) (each_in P (first ++ z ∷ []) zs behind y every.1)

  called_here : IsCalled p order (done ++ next ∷ []) (answers ++ answer_from b x place r ∷ []) all' b new
  called_here = record {
    params = one.params ∙ was.params;
    limit = one.limit ∙ was.limit;
    clock = one.clock;
    lawful = one.lawful;
    ends = one.ends;
    entered = one.entered ∙ ap (λ (xs : List Entered). xs ++ x ∷ []) was.entered ∙ sym (entered-more b done next ∙ ap (λ (t : Bool). entered_at b done ++ (if t then x ∷ [] else [])) (same_number b));
    saw = each-of (Saw (λ lines. table_count p (standing order all' b lines))) new.lines new_saw;
    answered =
        answers-more b b answers x place r ∙ ap (λ (t : Bool). answers_at b answers ++ (if t then answer_from b x place r ∷ [] else [])) (same_number b)
        ∙ ap (λ (zs : List Answer). zs ++ answer_from b x place r ∷ []) was.answered ∙ sym one.answered;
  }

  called_other : (c : ℕ) → c < length table → (c ≡ b → ⊥) → IsCalled p order (done ++ next ∷ []) (answers ++ answer_from b x place r ∷ []) all' c (bucket_at table c)
  called_other c within apart =
      let it = h.each c within in
      let no : (b == c) ≡ false = grind (arith, nat_tests, apart) in
      record {
        params = it.params;
        limit = it.limit;
        clock = it.clock;
        lawful = it.lawful;
        ends = it.ends;
        entered = it.entered ∙ sym (entered-more c done next ∙ ap (λ (t : Bool). entered_at c done ++ (if t then x ∷ [] else [])) no ∙ append-nil (entered_at c done));
        saw = each-of (Saw (λ lines. table_count p (standing order all' c lines))) (bucket_at table c).lines (kept_saw c within);
        answered = answers-more b c answers x place r ∙ ap (λ (t : Bool). answers_at c answers ++ (if t then answer_from b x place r ∷ [] else [])) no ∙ append-nil (answers_at c answers) ∙ it.answered;
      }

  by_cases : (c : ℕ) → c < length table → IsCalled p order (done ++ next ∷ []) (answers ++ answer_from b x place r ∷ []) all' c (bucket_at (set table b new) c)
  by_cases c within = ⊎_elim
      (λ (same : c ≡ b). subst (λ (d : ℕ). IsCalled p order (done ++ next ∷ []) (answers ++ answer_from b x place r ∷ []) all' d (bucket_at (set table b new) d)) (sym same)
      (subst (IsCalled p order (done ++ next ∷ []) (answers ++ answer_from b x place r ∷ []) all' b) (sym (get_or-set_same table b new no_journal lt)) called_here))
      (λ (apart : c ≡ b → ⊥). subst (IsCalled p order (done ++ next ∷ []) (answers ++ answer_from b x place r ∷ []) all' c) (sym (get_or-set_other table b c new no_journal apart)) (called_other c within apart))
      (cases_eq c b)

pub one_call : (p : Params) (order more : List ℕ) (done : List Call) (answers after : List Answer) (old new : List Journal) (next : Call) → order ≡ buckets_called done ++ next.bucket ∷ more
    → CallsOne next old new answers after → AreCalled p order done answers old → AreCalled p order (done ++ next ∷ []) after new
one_call p order more done answers after old new next order_is c h =
    subst (λ (told : List Answer). AreCalled p order (done ++ next ∷ []) told new) (sym c.answered)
    (subst (AreCalled p order (done ++ next ∷ []) (answers ++ answer_from next.bucket next.entered c.place c.reply ∷ [])) (sym c.new_is)
    (called_at p order more done answers old next c.place c.reply c.journal c.others c.within order_is c.own c.later c.entered c.sum h))
