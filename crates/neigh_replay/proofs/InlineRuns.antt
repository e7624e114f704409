-- The run that is made of a table's journals and of its buckets' answers is the plan's inline run.
use Rattle.std.proofs.Common.{◌≡◌, ℕ, zero, suc, ◌+◌, ◌<◌, Bool, true, false, if◌then◌else◌, List, [], ◌∷◌, ◌++◌, length, map, take, drop, Option, Some, None, refl, sym, ◌∙◌, ap, subst, arith}
use Rattle.std.specs.Prelude.{filter, ◌==◌}
use Rattle.std.specs.Option.{option_map_or}
use Rattle.std.proofs.Math.Seq.{take-append_seam, drop-append_seam}
use Rattle.std.proofs.lemmas.List.{length-map, map-append}
use Rattle.std.proofs.lemmas.List.Elements.{filter-append}
use Rattle.nb_base.specs.declared.key.Key.{Key}
use Rattle.nb_base.specs.declared.op.Op.{Op}
use Rattle.nb_base.specs.declared.line.Line.{Line}
use Rattle.nb_base.specs.declared.outcome.Why.TheVariants as why
use Rattle.nb_base.specs.declared.outcome.Outcome.{Outcome}
use Rattle.nb_base.specs.declared.outcome.Outcome.TheVariants as outcome
use Rattle.nb_base.specs.Buckets.{bucket_of}
use Rattle.nb_base.proofs.BucketCounts.{bucket_count_some}
use Rattle.nb_base.specs.declared.plan.Plan.{Plan}
use Rattle.nb_base.specs.declared.plan.SendItem.{SendItem}
use Rattle.nb_base.specs.declared.plan.ControlItem.{ControlItem}
use Rattle.nb_base.specs.declared.host_line.Placed.{Placed}
use Rattle.nb_base.specs.declared.host_line.HostLine.{HostLine}
use Rattle.nb_journal.specs.Keys.{key_of}
use Rattle.nb_bucket.specs.Bucket.{Journal}
use Rattle.neigh_run.specs.Control.{HostState, host_start, control_at, turn}
use Rattle.neigh_run.specs.Merged.{Entered, id_for, packet_op, control_ops, sender_ops, goes_to, merged}
use Rattle.neigh_run.specs.Seen.{buckets_from}
use Rattle.neigh_run.specs.Inline.{placed_at, placed_from, places_of, outcome_of, log_of, logs_of, host_lines_of, IsInlineRun}
use Rattle.neigh_run.specs.declared.run.Run.{Run}
use Rattle.neigh_run.proofs.Numbers.{own_op, is_by, Owns}
use Rattle.neigh_plan.specs.Inline.{IsEnterable}
use Rattle.neigh_plan.proofs.Owners.{IsInOrder, in_order}
use Rattle.plain_table.specs.declared.answer.Answer.{Answer}
use Rattle.plain_table.specs.Calls.{Call, call_to, calls_for, calls_of}
use Rattle.plain_table.specs.Table.{journals_of}
use Rattle.plain_table.proofs.CallsOf.{calls_of-nil, calls_of-cons, calls-key}
use Rattle.plain_table.specs.Laws.{AreDone}
use Rattle.plain_table.proofs.Whole.{inline_journals}
use Rattle.neigh_replay.specs.Hosting.{places, bucket_count_of, places_by, rest_by, lines_by}
use Rattle.neigh_replay.specs.Answered.{is_to, log_by, logs_by, own_answers, run_by}
use Rattle.neigh_replay.proofs.CallAnswers.{answer_of, answers_of, answers_are}

-- ---- the answers to operations

abbrev answers_for : Plan → List (List Line) → List Entered → List Answer
answers_for plan journals xs = answers_of plan journals (calls_of plan.buckets xs)

for-nil : (plan : Plan) (journals : List (List Line)) → answers_for plan journals [] ≡ []
for-nil plan journals = ap (answers_of plan journals) (calls_of-nil plan.buckets)

for-cons : (plan : Plan) (journals : List (List Line)) (x : Entered) (xs : List Entered) → answers_for plan journals (x ∷ xs) ≡ answers_of plan journals (calls_for plan.buckets x) ++ answers_for plan journals xs
for-cons plan journals x xs = ap (answers_of plan journals) (calls_of-cons plan.buckets x xs) ∙ map-append (answer_of plan journals) (calls_for plan.buckets x) (calls_of plan.buckets xs)

-- an operation's answers are all to its participant
own_for : (plan : Plan) (journals : List (List Line)) (p : ℕ) (x : Entered) (bs : List ℕ) → own_answers p (answers_of plan journals (map (call_to x) bs)) ≡ (if is_by p x then answers_of plan journals (map (call_to x) bs) else [])
own_for plan journals p x [] = by_test (is_by p x) where
  by_test : (t : Bool) → ◌≡◌ {A = List Answer} [] (if t then [] else [])
  by_test true = refl
  by_test false = refl
own_for plan journals p x (b ∷ bs) = by_test (is_by p x) (own_for plan journals p x bs) where
  first : Answer
  first = answer_of plan journals (call_to x b)

  rest : List Answer
  rest = answers_of plan journals (map (call_to x) bs)

  by_test : (t : Bool) → own_answers p rest ≡ (if t then rest else []) → (if t then first ∷ own_answers p rest else own_answers p rest) ≡ (if t then first ∷ rest else [])
  by_test true same = ap (λ (zs : List Answer). first ∷ zs) same
  by_test false same = same

-- the answers to a participant are those to its operations, in their order
own_of : (plan : Plan) (journals : List (List Line)) (p : ℕ) (xs : List Entered) → own_answers p (answers_for plan journals xs) ≡ answers_for plan journals (filter (is_by p) xs)
own_of plan journals p [] = ap (own_answers p) (for-nil plan journals) ∙ sym (for-nil plan journals)
own_of plan journals p (x ∷ xs) =
    ap (own_answers p) (for-cons plan journals x xs)
    ∙ filter-append (is_to p) here (answers_for plan journals xs)
    ∙ ap (λ (zs : List Answer). zs ++ own_answers p (answers_for plan journals xs)) (own_for plan journals p x (buckets_from plan.buckets 0 plan.buckets x.op))
    ∙ ap (λ (zs : List Answer). (if is_by p x then here else []) ++ zs) (own_of plan journals p xs)
    ∙ by_test (is_by p x) where
      here : List Answer
      here = answers_of plan journals (calls_for plan.buckets x)

      by_test : (t : Bool) → (if t then here else []) ++ answers_for plan journals (filter (is_by p) xs) ≡ answers_for plan journals (if t then x ∷ filter (is_by p) xs else filter (is_by p) xs)
      by_test true = sym (for-cons plan journals x (filter (is_by p) xs))
      by_test false = refl

-- ---- the buckets of an operation

-- where it names no key it goes to each bucket
all_buckets : (n c k : ℕ) (o : Op) → key_of o ≡ None → length (buckets_from n c k o) ≡ k
all_buckets n c zero o e = refl
all_buckets n c (suc k) o e =
    let goes : goes_to n c o ≡ true = ap (λ (q : Option Key). option_map_or (λ (key : Key). bucket_of n key == c) q true) e in
    let rest = all_buckets n (c + 1) k o e in
    rw goes (omega (arith, rest))

count_is : (n : ℕ) (x : Entered) → 0 < n → length (calls_for n x) ≡ bucket_count_of n x.op
count_is n x some = by_key (key_of x.op) refl where
  by_key : (k : Option Key) → key_of x.op ≡ k → length (calls_for n x) ≡ option_map_or (λ (key : Key). 1) k n
  by_key None e = length-map (buckets_from n 0 n x.op) (call_to x) ∙ all_buckets n 0 n x.op e
  by_key (Some key) e = ap (λ (cs : List Call). length cs) (calls-key n x key e some)

-- ---- the logs

abbrev outcome_in : Answer → Outcome
outcome_in a = outcome.Slow why.Inline a.placed.place a.placed.reply

logged : (p : ℕ) (answers : List Answer) → log_by p answers ≡ map outcome_in (own_answers p answers)
logged p [] = refl
logged p (a ∷ zs) = by_test (is_to p a) (logged p zs) where
  by_test : (t : Bool) → log_by p zs ≡ map outcome_in (own_answers p zs) → (if t then outcome_in a ∷ [] else []) ++ log_by p zs ≡ map outcome_in (if t then a ∷ own_answers p zs else own_answers p zs)
  by_test true same = ap (λ (os : List Outcome). outcome_in a ∷ os) same
  by_test false same = same

log_is : (plan : Plan) (journals : List (List Line)) (p n : ℕ) (items : List SendItem) → 0 < plan.buckets → map outcome_in (answers_for plan journals (sender_ops p n items)) ≡ log_of plan journals p n items
log_is plan journals p n [] some = ap (map outcome_in) (for-nil plan journals)
log_is plan journals p n (x ∷ xs) some =
    let rest = answers_for plan journals (sender_ops p (n + 1) xs) in
    ap (map outcome_in) (for-cons plan journals (packet_op p n x) (sender_ops p (n + 1) xs))
    ∙ ap (λ (cs : List Call). map outcome_in (answers_of plan journals cs ++ rest)) (calls-key plan.buckets (packet_op p n x) x.key refl some)
    ∙ ap (λ (os : List Outcome). outcome_of plan journals p n x ∷ os) (log_is plan journals p (n + 1) xs some)

logs_are : (plan : Plan) (journals : List (List Line)) (p : ℕ) (senders : List (List SendItem)) → 0 < plan.buckets → Owns (merged plan) p senders
    → logs_by p (length senders) (answers_for plan journals (merged plan)) ≡ logs_of plan journals p senders
logs_are plan journals p [] some owns = refl
logs_are plan journals p (items ∷ rest) some owns =
    ap (λ (log : List Outcome). log ∷ logs_by (p + 1) (length rest) (answers_for plan journals (merged plan))) (
    logged p (answers_for plan journals (merged plan))
    ∙ ap (map outcome_in) (own_of plan journals p (merged plan) ∙ ap (answers_for plan journals) owns.0)
    ∙ log_is plan journals p 1 items some
    )
    ∙ ap (λ (logs : List (List Outcome)). log_of plan journals p 1 items ∷ logs) (logs_are plan journals (p + 1) rest some owns.1)

-- ---- the host's lines

-- an operation's answers stand where it stands
places_are : (plan : Plan) (journals : List (List Line)) (x : Entered) (c k : ℕ) → places (answers_of plan journals (map (call_to x) (buckets_from plan.buckets c k x.op))) ≡ placed_from c k plan journals x.id x.op
places_are plan journals x c zero = refl
places_are plan journals x c (suc k) = by_test (goes_to plan.buckets c x.op) (places_are plan journals x (c + 1) k) where
  by_test : (t : Bool) → places (answers_of plan journals (map (call_to x) (buckets_from plan.buckets (c + 1) k x.op))) ≡ placed_from (c + 1) k plan journals x.id x.op
      → places (answers_of plan journals (map (call_to x) ((if t then c ∷ [] else []) ++ buckets_from plan.buckets (c + 1) k x.op))) ≡ (if t then placed_at plan journals x.id c ∷ [] else []) ++ placed_from (c + 1) k plan journals x.id x.op
  by_test true same = ap (λ (ps : List Placed). placed_at plan journals x.id c ∷ ps) same
  by_test false same = same

-- and they are as many as the buckets that it goes to
long_for : (plan : Plan) (journals : List (List Line)) (x : Entered) → 0 < plan.buckets → length (answers_of plan journals (calls_for plan.buckets x)) ≡ bucket_count_of plan.buckets x.op
long_for plan journals x some =
    length-map (calls_for plan.buckets x) (answer_of plan journals) ∙ count_is plan.buckets x some

-- over these answers the host does what the definition says
hosts_are : (plan : Plan) (journals : List (List Line)) (s : HostState) (n : ℕ) (items : List ControlItem) → 0 < plan.buckets
    → lines_by plan s n items (answers_for plan journals (control_ops plan s n items)) ≡ host_lines_of plan journals s n items
hosts_are plan journals s n [] some = refl
hosts_are plan journals s n (x ∷ xs) some = by_op (turn plan s n x).operation (hosts_are plan journals (turn plan s n x).behind (n + 1) xs some) where
  behind : HostState
  behind = (turn plan s n x).behind

  lines : List Placed → List HostLine
  lines = (turn plan s n x).lines

  ops : List Entered
  ops = control_ops plan behind (n + 1) xs

  by_op : (o : Option Op) → lines_by plan behind (n + 1) xs (answers_for plan journals ops) ≡ host_lines_of plan journals behind (n + 1) xs
      → lines (places_by plan.buckets o (answers_for plan journals (own_op x n o ++ ops))) ++ lines_by plan behind (n + 1) xs (rest_by plan.buckets o (answers_for plan journals (own_op x n o ++ ops)))
      ≡ lines (places_of plan journals n o) ++ host_lines_of plan journals behind (n + 1) xs
  by_op None rest = ap (λ (ls : List HostLine). lines [] ++ ls) rest
  by_op (Some o) rest =
      ap (λ (zs : List Answer). lines (places (take count zs)) ++ lines_by plan behind (n + 1) xs (drop count zs)) (for-cons plan journals own ops)
      ∙ ap (λ (m : ℕ). lines (places (take m (front ++ back))) ++ lines_by plan behind (n + 1) xs (drop m (front ++ back))) (sym (long_for plan journals own some))
      ∙ ap (λ (zs : List Answer). lines (places zs) ++ lines_by plan behind (n + 1) xs (drop (length front) (front ++ back))) (take-append_seam front back)
      ∙ ap (λ (zs : List Answer). lines (places front) ++ lines_by plan behind (n + 1) xs zs) (drop-append_seam front back)
      ∙ ap (λ (ps : List Placed). lines ps ++ lines_by plan behind (n + 1) xs back) (places_are plan journals own 0 plan.buckets)
      ∙ ap (λ (ls : List HostLine). lines (places_of plan journals n (Some o)) ++ ls) rest where
        own : Entered
        own = record { at = control_at x; id = id_for 0 n; op = o }

        count : ℕ
        count = bucket_count_of plan.buckets o

        front : List Answer
        front = answers_of plan journals (calls_for plan.buckets own)

        back : List Answer
        back = answers_for plan journals ops

-- ---- the whole run

pub made_inline : (plan : Plan) (answers : List Answer) (table : List Journal) (run : Run) → IsEnterable plan → AreDone plan answers table → run ≡ run_by plan (journals_of table) answers → IsInlineRun plan run
made_inline plan answers table run e done is = subst (IsInlineRun plan) (sym is) (record {
  mode = refl;
  plan = refl;
  buckets = length-map table _ ∙ done.buckets;
  journals = inline_journals plan answers table done;
  logs = ap (logs_by 1 (length plan.senders)) all ∙ logs_are plan (journals_of table) 1 plan.senders some order.owns;
  host_lines =
      ap (λ (zs : List Answer). lines_by plan host_start 1 plan.control (own_answers 0 zs)) all
      ∙ ap (lines_by plan host_start 1 plan.control) (own_of plan (journals_of table) 0 (merged plan) ∙ ap (answers_for plan (journals_of table)) order.control)
      ∙ hosts_are plan (journals_of table) host_start 1 plan.control some;
  marks = refl;
}) where
  some : 0 < plan.buckets
  some = bucket_count_some plan.buckets e.buckets

  order : IsInOrder plan
  order = in_order plan e.within

  all : answers ≡ answers_for plan (journals_of table) (merged plan)
  all = answers_are plan answers table order done
