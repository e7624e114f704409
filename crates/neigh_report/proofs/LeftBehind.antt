-- Journals, line by line from their front.
use Rattle.std.proofs.Common.{◌≡◌, ℕ, zero, suc, Bool, true, false, ◌+◌, ◌*◌, ◌^◌, ◌<◌, ◌≤◌, get_or, take, subst, List, [], ◌∷◌, ◌++◌, length, refl, sym, ap, ◌∙◌, append_assoc, append-nil, arith}
use Rattle.nb_base.specs.declared.line.Line.{Line}
use Rattle.nb_base.specs.declared.params.Params.{Params}
use Rattle.nud_machine.specs.declared.act.Act.{Act}
use Rattle.nb_journal.specs.Accounts.{acts_at, waiting_behind}
use Rattle.std.specs.Prelude.{map, filter, Result, Ok, Err, OnOk, is_ok, if◌then◌else◌, codes, decimal}
use Rattle.std.specs.List.{flat_map, AllByRecursion}
use Rattle.std.proofs.lemmas.List.{length-map, length-append, flat_map_more}
use Rattle.std.proofs.Math.Nat.{mul-le-mul_right}
use Rattle.nb_journal.proofs.Folds.{known_keys-within}
use Rattle.nb_journal.proofs.Takes.{taken}
use Rattle.std.proofs.lemmas.Grind.{flat_map-append}
use Rattle.nb_base.specs.declared.key.Key.{Key}
use Rattle.nb_base.specs.declared.time.OpId.{OpId}
use Rattle.nb_base.specs.declared.host.Host.{Host}
use Rattle.nb_base.specs.declared.plan.Plan.{Plan}
use Rattle.nud_machine.specs.State.{State}
use Rattle.nud_machine.specs.Laws.{ids_of}
use Rattle.nb_journal.specs.Steps.{state_in, IsStep}
use Rattle.nb_journal.specs.Fold.{state_of, known_keys, present_count}
use Rattle.text_codes.specs.Lines.{Words, line_text, text_of}
use Rattle.neigh_run.specs.Report.{all_below, line_words, journal_lines, bucket_lines, journal_acts, waiting_after, counted}
use Rattle.neigh_run.specs.Entries.{entry_if_present, entries_after, entry_words}
use Rattle.journal_fold.specs.Taken.{Taken}
use Rattle.nb_journal.specs.declared.kept.Kept.{Kept}
use Rattle.neigh_report.specs.Left.{entries, waiting_for, waits, waits_behind, IsShortFold, bucket_of_journal}

pub acts_more : (plan : Plan) (past xs : List Line) (x : Line) → journal_acts plan past (xs ++ x ∷ []) ≡ journal_acts plan past xs ++ acts_at plan.params (past ++ xs) x
acts_more plan past [] x = append-nil (acts_at plan.params past x) ∙ ap (λ (l : List Line). acts_at plan.params l x) (sym (append-nil past))
acts_more plan past (y ∷ xs) x =
    ap (λ (more : List Act). acts_at plan.params past y ++ more) (acts_more plan (past ++ y ∷ []) xs x)
    ∙ sym (append_assoc (acts_at plan.params past y) (journal_acts plan (past ++ y ∷ []) xs) (acts_at plan.params ((past ++ y ∷ []) ++ xs) x))
    ∙ ap (λ (l : List Line). (acts_at plan.params past y ++ journal_acts plan (past ++ y ∷ []) xs) ++ acts_at plan.params l x) (append_assoc past (y ∷ []) xs)

pub on_ok : {X E : Type 0} (r : Result X E) (P : Type 0) → P → OnOk r P
on_ok (Ok x) P h = h
on_ok (Err e) P h = tt {0}

pub lines_more : (plan : Plan) (past xs : List Line) (x : Line) → journal_lines plan past (xs ++ x ∷ []) ≡ journal_lines plan past xs ++ (line_words plan (past ++ xs) x ∷ all_below plan (past ++ xs) x)
lines_more plan past [] x = append-nil (line_words plan past x ∷ all_below plan past x) ∙ ap (λ (l : List Line). line_words plan l x ∷ all_below plan l x) (sym (append-nil past))
lines_more plan past (y ∷ xs) x =
    let own = line_words plan past y ∷ all_below plan past y in
    ap (λ (more : List Words). own ++ more) (lines_more plan (past ++ y ∷ []) xs x)
    ∙ sym (append_assoc own (journal_lines plan (past ++ y ∷ []) xs) (line_words plan ((past ++ y ∷ []) ++ xs) x ∷ all_below plan ((past ++ y ∷ []) ++ xs) x))
    ∙ ap (λ (l : List Line). (own ++ journal_lines plan (past ++ y ∷ []) xs) ++ (line_words plan l x ∷ all_below plan l x)) (append_assoc past (y ∷ []) xs)

-- what was written so far, and one line more
pub written_more : (plan : Plan) (xs : List Line) (x : Line) (report written more : List ℕ) → written ≡ report ++ text_of (journal_lines plan [] xs) → more ≡ written ++ text_of (line_words plan xs x ∷ all_below plan xs x)
    → more ≡ report ++ text_of (journal_lines plan [] (xs ++ x ∷ []))
written_more plan xs x report written more e one =
    one ∙ ap (λ (bytes : List ℕ). bytes ++ text_of (line_words plan xs x ∷ all_below plan xs x)) e
    ∙ append_assoc report (text_of (journal_lines plan [] xs)) (text_of (line_words plan xs x ∷ all_below plan xs x))
    ∙ ap (λ (bytes : List ℕ). report ++ bytes) (sym (flat_map-append line_text (journal_lines plan [] xs) (line_words plan xs x ∷ all_below plan xs x)) ∙ ap text_of (sym (lines_more plan [] xs x)))

pub on_ok_if : {X E A : Type 0} (r : Result X E) (new joined before : A) (Q : Type 0) → new ≡ (if is_ok r then joined else before) → (new ≡ joined → Q) → OnOk r Q
on_ok_if (Ok x) new joined before Q h f = f h
on_ok_if (Err e) new joined before Q h f = tt {0}

-- one bucket more
pub bucket_more : (plan : Plan) (b : ℕ) (journals : List (List Line)) (journal : List Line) → bucket_lines plan b (journals ++ journal ∷ []) ≡ bucket_lines plan b journals ++ bucket_of_journal plan (b + length journals) journal
bucket_more plan b [] journal = append-nil (bucket_of_journal plan b journal) ∙ ap (λ (n : ℕ). bucket_of_journal plan n journal) (omega arith)
bucket_more plan b (other ∷ journals) journal =
    let at : (b + 1) + length journals ≡ b + length (other ∷ journals) = omega arith in
    ap (λ (rows : List Words). bucket_of_journal plan b other ++ rows) (bucket_more plan (b + 1) journals journal)
    ∙ sym (append_assoc (bucket_of_journal plan b other) (bucket_lines plan (b + 1) journals) (bucket_of_journal plan ((b + 1) + length journals) journal))
    ∙ ap (λ (n : ℕ). (bucket_of_journal plan b other ++ bucket_lines plan (b + 1) journals) ++ bucket_of_journal plan n journal) at

pub buckets_more : (plan : Plan) (xs : List (List Line)) (x : List Line) (n : ℕ) (report written more : List ℕ) → n ≡ length xs → written ≡ report ++ text_of (bucket_lines plan 0 xs) → more ≡ written ++ text_of (bucket_of_journal plan n x)
    → more ≡ report ++ text_of (bucket_lines plan 0 (xs ++ x ∷ []))
buckets_more plan xs x n report written more is e one =
    one ∙ ap (λ (bytes : List ℕ). bytes ++ text_of (bucket_of_journal plan n x)) e
    ∙ ap (λ (k : ℕ). (report ++ text_of (bucket_lines plan 0 xs)) ++ text_of (bucket_of_journal plan k x)) is
    ∙ append_assoc report (text_of (bucket_lines plan 0 xs)) (text_of (bucket_of_journal plan (length xs) x))
    ∙ ap (λ (bytes : List ℕ). report ++ bytes) (sym (flat_map-append line_text (bucket_lines plan 0 xs) (bucket_of_journal plan (length xs) x)) ∙ ap (λ (k : ℕ). text_of (bucket_lines plan 0 xs ++ bucket_of_journal plan k x)) from_none ∙ ap text_of (sym (bucket_more plan 0 xs x))) where
      from_none : length xs ≡ 0 + length xs
      from_none = omega arith

-- one element more of a map to lists
pub flat_more : {X A : Type 0} (f : X → List A) (xs : List X) (x : X) (so_far more : List A) → so_far ≡ flat_map f xs → more ≡ so_far ++ f x → more ≡ flat_map f (xs ++ x ∷ [])
flat_more f xs x so_far more e one = rw (one, e) (flat_map_more f [] xs x)

-- what stands behind a journal, told of the fold over it
pub entries_put : (host : Host) (p : Params) (lines : List Line) (fold : Taken) (old new : List Taken) → fold.params ≡ p → fold.lines ≡ lines → entries host new ≡ entries host old ++ entries_after host fold.params fold.lines
    → entries host new ≡ entries host old ++ entries_after host p lines
entries_put host p lines fold old new e is put = put ∙ ap (λ (x : Params × List Line). entries host old ++ entries_after host x.0 x.1) (λ i. (e i, is i))

pub waits_put : (plan : Plan) (lines : List Line) (fold : Taken) (old new : List Taken) → fold.params ≡ plan.params → fold.lines ≡ lines → waits new ≡ waits old ++ waits_behind fold → waits new ≡ waits old ++ waiting_after plan lines
waits_put plan lines fold old new e is put = put ∙ ap (λ (x : Params × List Line). waits old ++ waiting_behind x.0 x.1) (λ i. (e i, is i))

-- as many entries are present as rows are listed
present_rows : (host : Host) (f : Key → State) (keys : List Key) → length (filter (λ (key : Key). (f key).entry.present) keys) ≡ length (flat_map (λ (key : Key). entry_if_present host key (f key).entry) keys)
present_rows host f [] = refl
present_rows host f (key ∷ keys) = by_test (f key).entry.present (present_rows host f keys) where
  by_test : (t : Bool) → length (filter (λ (k : Key). (f k).entry.present) keys) ≡ length (flat_map (λ (k : Key). entry_if_present host k (f k).entry) keys)
      → length (if t then key ∷ filter (λ (k : Key). (f k).entry.present) keys else filter (λ (k : Key). (f k).entry.present) keys)
      ≡ length ((if t then entry_words host key (f key).entry ∷ [] else []) ++ flat_map (λ (k : Key). entry_if_present host k (f k).entry) keys)
  by_test true more = ap suc more
  by_test false more = more

pub present_are : (host : Host) (p : Params) (lines : List Line) → present_count p lines ≡ length (entries_after host p lines)
unfolding present_count
present_are host p lines = present_rows host (state_of p lines) (known_keys lines)

-- the packets that wait for the entries of known keys
pub waits_are : (f : Key → State) (keys : List Key) (kept : List Kept) → map state_in kept ≡ map f keys → waiting_for kept ≡ flat_map (λ (key : Key). ids_of (f key).waiting) keys
waits_are f [] [] h = refl
waits_are f [] (one ∷ kept) h = cc
waits_are f (key ∷ keys) [] h = cc
waits_are f (key ∷ keys) (one ∷ kept) h =
    let head : state_in one ≡ f key = cc in
    let tail : map state_in kept ≡ map f keys = cc in
    ap (λ (s : State). ids_of s.waiting ++ waiting_for kept) head ∙ ap (λ (ids : List OpId). ids_of (f key).waiting ++ ids) (waits_are f keys kept tail)

pub on_ok_then : {X E : Type 0} (r : Result X E) (P Q : Type 0) → OnOk r P → (P → Q) → OnOk r Q
on_ok_then (Ok x) P Q h f = f h
on_ok_then (Err e) P Q h f = tt {0}

pub table_is : (host : Host) (folds : List Taken) (old headed new : List ℕ) (n : ℕ) → n ≡ length (entries host folds) → headed ≡ old ++ line_text (codes "table" ∷ decimal n ∷ []) → new ≡ headed ++ text_of (entries host folds)
    → new ≡ old ++ text_of (counted (codes "table" ∷ []) (entries host folds))
table_is host folds old headed new n count e rows =
    rows ∙ ap (λ (bytes : List ℕ). bytes ++ text_of (entries host folds)) e
    ∙ ap (λ (k : ℕ). (old ++ line_text (codes "table" ∷ decimal k ∷ [])) ++ text_of (entries host folds)) count
    ∙ append_assoc old (line_text (codes "table" ∷ decimal (length (entries host folds)) ∷ [])) (text_of (entries host folds))

-- ---- counts over folds

counted_more : {X Y : Type 0} (f : X → List Y) (xs : List X) (i : ℕ) (x : X) (count one : ℕ) → i < length xs → x ≡ get_or xs i x → count ≡ length (flat_map f (take i xs)) → one ≡ length (f x)
    → count + one ≡ length (flat_map f (take (i + 1) xs))
counted_more {X = X} {Y = Y} f xs i x count one lt is so_far here =
    let size = length-append (flat_map f (take i xs)) (f x) in
    let joined : flat_map f (take (i + 1) xs) ≡ flat_map f (take i xs) ++ f x =
    ap (flat_map f) (taken xs i x lt is) ∙ flat_map-append f (take i xs) (x ∷ []) ∙ ap (λ (ys : List Y). flat_map f (take i xs) ++ ys) (append-nil (f x)) in
    let whole = ap (λ (ys : List Y). length ys) joined in
    omega (arith, size, whole, so_far, here)

pub present_more : (host : Host) (folds : List Taken) (i : ℕ) (fold : Taken) (count present : ℕ) → i < length folds → fold ≡ get_or folds i fold → count ≡ length (entries host (take i folds)) → present ≡ present_count fold.params fold.lines
    → count + present ≡ length (entries host (take (i + 1) folds))
present_more host folds i fold count present lt is so_far here =
    counted_more (λ (x : Taken). entries_after host x.params x.lines) folds i fold count present lt is so_far (here ∙ present_are host fold.params fold.lines)

pub waits_more : (folds : List Taken) (i : ℕ) (fold : Taken) (kept : List Kept) (count one : ℕ) → i < length folds → fold ≡ get_or folds i fold
    → map state_in kept ≡ map (state_of fold.params fold.lines) (known_keys fold.lines) → count ≡ length (waits (take i folds)) → one ≡ length (waiting_for kept)
    → count + one ≡ length (waits (take (i + 1) folds))
waits_more folds i fold kept count one lt is states so_far here =
    counted_more waits_behind folds i fold count one lt is so_far (here ∙ ap (λ (ids : List OpId). length ids) (waits_are (state_of fold.params fold.lines) (known_keys fold.lines) kept states))

pub short_at : (folds : List Taken) (i : ℕ) (fold : Taken) → i < length folds → fold ≡ get_or folds i fold → AllByRecursion IsShortFold folds → IsShortFold fold
short_at [] i fold lt is h = absurd (omega (arith, lt))
short_at (x ∷ xs) zero fold lt is h = subst IsShortFold (sym is) h.0
short_at (x ∷ xs) (suc i) fold lt is h = short_at xs i fold (omega (arith, lt)) is h.1

-- a fold's waiting packets fit
pub waits_fit : (fold : Taken) (kept : List Kept) (one : ℕ) → IsShortFold fold → map state_in kept ≡ map (state_of fold.params fold.lines) (known_keys fold.lines) → one ≤ length kept * 2 ^ 32 → one ≤ 2 ^ 64
waits_fit fold kept one few states small =
    let size = sym (length-map kept state_in) ∙ ap (λ (ss : List State). length ss) states ∙ length-map (known_keys fold.lines) (state_of fold.params fold.lines) in
    let known = known_keys-within fold.lines in
    let least : length kept ≤ 2 ^ 32 = omega (arith, size, known, few) in
    omega (arith, mul-le-mul_right (2 ^ 32) least, small)

-- the machine can step over a line behind lines that were taken
pub step_there : (p here : Params) (past lines : List Line) (line : Line) → here ≡ p → lines ≡ past → IsStep p past line → IsStep here lines line
step_there p here past lines line e is step = subst (λ (x : Params × List Line). IsStep x.0 x.1 line) (λ i. (sym e i, sym is i)) step
