-- A journal of a bucket with few operations, each at a moment of a run and one that may be asked for, can be written: it is short, the machine can step over it, and few entries are present.
use Rattle.std.proofs.Common.{◌≡◌, ℕ, suc, ◌+◌, ◌*◌, ◌^◌, ◌<◌, ◌≤◌, Bool, true, false, if◌then◌else◌, List, [], ◌∷◌, ◌++◌, length, map, take, refl, sym, ap, subst, arith, append_assoc}
use Rattle.std.specs.Prelude.{◌==◌, Option, Some, None, IfSome, IsTrue, fold}
use Rattle.std.specs.List.{AllByRecursion, AllZip, list_any}
use Rattle.std.proofs.Math.Nat.{div-le_self, mul-le-mul_left}
use Rattle.std.proofs.lemmas.Bool.Decides.{nat_tests}
use Rattle.std.proofs.lemmas.List.{length-append, length-map}
use Rattle.nb_base.specs.declared.key.Key.{Key}
use Rattle.nb_base.specs.declared.params.Params.{Params}
use Rattle.nb_base.specs.declared.op.Op.{Op}
use Rattle.nb_base.specs.declared.op.Op.TheVariants as op
use Rattle.nb_base.specs.declared.line.Line.{Line}
use Rattle.nb_base.specs.declared.plan.Plan.{Plan}
use Rattle.nb_base.specs.Params.{InRange}
use Rattle.nb_base.specs.Buckets.{is_bucket_count}
use Rattle.nud_machine.specs.Asked.{greatest}
use Rattle.nb_journal.specs.Keys.{is_key, is_own, made_known, may_be_asked}
use Rattle.nb_journal.specs.Fold.{with_key, known_keys, is_present, present_count}
use Rattle.nb_journal.specs.Lawful.{IsLawful, base_of}
use Rattle.nb_journal.specs.Steps.{IsShort, IsStepped}
use Rattle.nb_journal.specs.Accounts.{own_lines, line_bound}
use Rattle.nb_journal.proofs.Bound.{lawful_in_bound}
use Rattle.nb_journal.proofs.Stepped.{orderly_stepped}
use Rattle.text_codes.proofs.Lacking.{Each-weaker}
use Rattle.change_order.specs.Ticks.{last_or}
use Rattle.change_order.specs.Orders.{LookingLine, JournalCounts, how_often, present_in, IsSeenAt, HaveOneOrder}
use Rattle.journal_counts.specs.Counts.{behind_line, behind_lines, looked_at, looked_in, counts_of}
use Rattle.neigh_run.specs.declared.run.Run.{Run}
use Rattle.neigh_run.specs.Inline.{entered_line}
use Rattle.neigh_run.proofs.Fronts.{own-append}
use Rattle.run_texts.specs.Laws.{SawFew, IsWritable, IsPlayable}
use Rattle.run_texts.proofs.Lists.{all_pass, all-append, all-take, at-each, filter-few}
use Rattle.run_texts.proofs.Played.{IsPlayed, most}

-- ---- operations' lines

-- a line is of such an operation
abbrev pub IsPlayedLine : Line → Type 0
IsPlayedLine l = IsPlayed (entered_line l)

pub played-moments : (lines : List Line) → AllByRecursion IsPlayedLine lines → AllByRecursion (λ (l : Line). l.at ≤ greatest) lines
played-moments [] h = tt
played-moments (l ∷ ls) h = (h.0.at, played-moments ls h.1)

played-asked : (lines : List Line) → AllByRecursion IsPlayedLine lines → AllByRecursion (λ (l : Line). may_be_asked l.op ≡ true) lines
played-asked [] h = tt
played-asked (l ∷ ls) h = (h.0.asked, played-asked ls h.1)

-- ---- how many lines

bound-small : (p : Params) (n : ℕ) → InRange p → n ≤ most → line_bound p n greatest ≤ 2 ^ 32
bound-small p n r le =
    let m = r.mcast_solicit.1 in
    let u = r.ucast_solicit.1 in
    let s = div-le_self greatest p.gc_interval in
    let each = mul-le-mul_left {m = p.mcast_solicit + p.ucast_solicit + 10} {n = 30} n (omega (arith, m, u)) in
    omega (arith, s, each, le)

-- ---- how many entries

-- no more keys are known than there are operations
known-from : (keys : List Key) (lines : List Line) → length (fold (λ (keys : List Key) (line : Line). with_key keys (made_known line.op)) keys lines) ≤ length keys + length (own_lines lines)
known-from keys [] = omega arith
known-from keys (l ∷ ls) =
    let rest = known-from (with_key keys (made_known l.op)) ls in
    by_op l.op rest where
      by_key : (o : Option Key) (ks : List Key) → length (with_key ks o) ≤ length ks + 1
      by_key None ks = omega arith
      by_key (Some key) ks = by_test (list_any (λ other. is_key other key) ks) where
        by_test : (t : Bool) → length (if t then ks else ks ++ key ∷ []) ≤ length ks + 1
        by_test true = omega arith
        by_test false = let parts = length-append ks (key ∷ []) in omega (arith, parts)

      own : (o : Op) → is_own o ≡ true → length (fold (λ (keys : List Key) (line : Line). with_key keys (made_known line.op)) (with_key keys (made_known o)) ls) ≤ length (with_key keys (made_known o)) + length (own_lines ls)
          → length (fold (λ (keys : List Key) (line : Line). with_key keys (made_known line.op)) (with_key keys (made_known o)) ls) ≤ length keys + length (if is_own o then l ∷ own_lines ls else own_lines ls)
      own o e rest = let one = by_key (made_known o) keys in let more = ap (λ (t : Bool). length (if t then l ∷ own_lines ls else own_lines ls)) e in omega (arith, rest, one, more)

      by_op : (o : Op) → length (fold (λ (keys : List Key) (line : Line). with_key keys (made_known line.op)) (with_key keys (made_known o)) ls) ≤ length (with_key keys (made_known o)) + length (own_lines ls)
          → length (fold (λ (keys : List Key) (line : Line). with_key keys (made_known line.op)) (with_key keys (made_known o)) ls) ≤ length keys + length (if is_own o then l ∷ own_lines ls else own_lines ls)
      by_op (op.Timer key) rest = rest
      by_op op.Sweep rest = rest
      by_op (op.Collect key) rest = rest
      by_op o rest = own o refl rest

present-few : (p : Params) (lines : List Line) → present_count p lines ≤ length (own_lines lines)
unfolding known_keys present_count
present-few p lines =
    let known = known-from [] lines in
    let present = filter-few (is_present p lines) (known_keys lines) in
    omega (arith, known, present)

-- a table has no more than 64 buckets
bucket_count-few : (n : ℕ) → IsTrue (is_bucket_count n) → n ≤ 64
bucket_count-few n h = grind (arith, nat_tests, h)

-- ---- how many entries lines saw

-- behind none of a journal's changing lines more entries are present than it has operations
behind-few : (p : Params) (past lines : List Line) → length (own_lines (past ++ lines)) ≤ most → AllByRecursion (λ n. n ≤ most) (behind_lines p past lines)
behind-few p past [] few = tt
behind-few p past (l ∷ ls) few =
    all-append (λ n. n ≤ most) (behind_line p past l) (behind_lines p (past ++ l ∷ []) ls) (by_test (present_count p past == present_count p (past ++ l ∷ [])))
    (behind-few p (past ++ l ∷ []) ls (subst (λ (js : List Line). length (own_lines js) ≤ most) (sym (append_assoc past (l ∷ []) ls)) few))
  where
    now : present_count p (past ++ l ∷ []) ≤ most
    now =
        let present = present-few p (past ++ l ∷ []) in
        let parts = own-append (past ++ l ∷ []) ls in
        let whole = ap (λ (js : List Line). length (own_lines js)) (append_assoc past (l ∷ []) ls) in
        omega (arith, present, parts, whole, few)

    by_test : (t : Bool) → AllByRecursion (λ n. n ≤ most) (if t then [] else present_count p (past ++ l ∷ []) ∷ [])
    by_test true = tt
    by_test false = (now, tt)

abbrev HasFewBehind : JournalCounts → Type 0
HasFewBehind j = AllByRecursion (λ n. n ≤ most) j.behind

counts-few : (p : Params) (js : List (List Line)) → AllByRecursion (λ (j : List Line). length (own_lines j) ≤ most) js → AllByRecursion HasFewBehind (map (counts_of p) js)
counts-few p [] few = tt
counts-few p (j ∷ js) few = (behind-few p [] j few.0, counts-few p js few.1)

last-few : (s : ℕ) (ns : List ℕ) → s ≤ most → AllByRecursion (λ n. n ≤ most) ns → last_or s ns ≤ most
last-few s [] le all = le
last-few s (n ∷ ns) le all = last-few n ns all.0 all.1

-- so at no place in the order the buckets have more together than this
sum-few : (front : List ℕ) (b : ℕ) (all : List JournalCounts) → AllByRecursion HasFewBehind all → present_in front b all ≤ most * length all
sum-few front b [] few = omega arith
sum-few front b (j ∷ js) few =
    let here = last-few 0 (take (how_often b front) j.behind) (omega arith) (all-take (λ n. n ≤ most) (how_often b front) j.behind few.0) in
    let rest = sum-few front (suc b) js few.1 in
    omega (arith, here, rest)

abbrev LookedAtFew : LookingLine → Type 0
LookedAtFew line = line.seen < 2 ^ 32

looked-few : (all : List JournalCounts) (order : List ℕ) (b : ℕ) (lengths : List ℕ) (lines : List LookingLine) → length all ≤ 64 → AllByRecursion HasFewBehind all → AllZip (IsSeenAt all order b) lengths lines → AllByRecursion LookedAtFew lines
looked-few all order b [] [] long few h = tt
looked-few all order b [] (line ∷ lines) long few h = absurd h
looked-few all order b (n ∷ ns) [] long few h = absurd h
looked-few all order b (n ∷ ns) (line ∷ lines) long few h =
    let is = h.0.sum in
    let sum = sum-few (take n order) 0 all few in
    (omega (arith, is, sum, long), looked-few all order b ns lines long few h.1)

lines-few : (p : Params) (front lines : List Line) → AllByRecursion LookedAtFew (looked_in p [] front lines) → AllByRecursion SawFew lines
lines-few p front [] h = tt
lines-few p front (l ∷ ls) h = by_seen l.seen h (lines-few p (front ++ l ∷ []) ls) where
  by_seen : (o : Option ℕ) → AllByRecursion LookedAtFew (looked_at (length (behind_lines p [] (base_of front))) o ++ looked_in p [] (front ++ l ∷ []) ls)
      → (AllByRecursion LookedAtFew (looked_in p [] (front ++ l ∷ []) ls) → AllByRecursion SawFew ls) → IfSome o (λ seen. seen < 2 ^ 32) × AllByRecursion SawFew ls
  by_seen None h rest = (tt, rest h)
  by_seen (Some seen) h rest = (h.0, rest h.1)

each-few : (p : Params) (js : List (List Line)) → AllByRecursion (λ (j : JournalCounts). AllByRecursion LookedAtFew j.looked) (map (counts_of p) js) → AllByRecursion (AllByRecursion SawFew) js
each-few p [] h = tt
each-few p (j ∷ js) h = (lines-few p [] j h.0, each-few p js h.1)

-- in one order of all changes of at most 64 buckets a line saw fewer than 2^32 entries
order-few : (p : Params) (js : List (List Line)) → length js ≤ 64 → AllByRecursion (λ (j : List Line). length (own_lines j) ≤ most) js → HaveOneOrder (map (counts_of p) js) → AllByRecursion (AllByRecursion SawFew) js
order-few p js long few h =
    let same = length-map js (counts_of p) in
    each-few p js
    (at-each (λ (j : JournalCounts). AllByRecursion LookedAtFew j.looked) (map (counts_of p) js)
    (λ b j e. let places = h.each b j e in looked-few (map (counts_of p) js) h.order b places.lengths j.looked (omega (arith, same, long)) (counts-few p js few) places.lines))

-- ---- journals and runs

-- a lawful journal of few operations of a plan that can be played
pub record IsPlayedJournal (p : Params) (journal : List Line) : Type 0 where
  pub clock : ℕ
  pub lawful : IsLawful p journal clock
  pub early : clock ≤ greatest
  pub few : length (own_lines journal) ≤ most
  pub played : AllByRecursion IsPlayedLine (own_lines journal)

played-short : (p : Params) (journal : List Line) → InRange p → IsPlayedJournal p journal → IsShort journal
played-short p journal range h =
    let bound = lawful_in_bound p journal h.clock greatest (length (own_lines journal)) range h.lawful h.early (omega arith) in
    let small = bound-small p (length (own_lines journal)) range h.few in
    omega (arith, bound, small)

played-stepped : (p : Params) (journal : List Line) → IsPlayedJournal p journal → IsStepped p journal
played-stepped p journal h =
    let within = h.lawful.within in
    let early = h.early in
    orderly_stepped p journal h.lawful.orderly (omega (arith, within, early)) (all_pass (λ (l : Line). may_be_asked l.op) (own_lines journal) (played-asked (own_lines journal) h.played))

-- a run of such journals, whose lines saw what one order of all changes says
pub played-writable : (plan : Plan) (run : Run) → IsPlayable plan → run.plan ≡ plan → length run.journals ≡ plan.buckets → AllByRecursion (IsPlayedJournal plan.params) run.journals → HaveOneOrder (map (counts_of plan.params) run.journals) → IsWritable run
played-writable plan run play is many each order =
    let buckets = bucket_count-few plan.buckets play.buckets in
    record {
      few = Each-weaker (IsPlayedJournal plan.params) IsShort (λ j h. played-short plan.params j play.params h) run.journals each;
      steps = subst (λ (p : Plan). AllByRecursion (IsStepped p.params) run.journals) (sym is) (Each-weaker (IsPlayedJournal plan.params) (IsStepped plan.params) (played-stepped plan.params) run.journals each);
      seen = order-few plan.params run.journals (omega (arith, many, buckets)) (Each-weaker (IsPlayedJournal plan.params) (λ (j : List Line). length (own_lines j) ≤ most) (λ j h. h.few) run.journals each) order;
    }
