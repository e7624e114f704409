-- The answers to all calls of a plan, one by one: each is what the journal of its bucket says of its operation.
use Rattle.std.proofs.Common.{◌≡◌, ℕ, zero, suc, ◌+◌, ◌<◌, ◌≤◌, Bool, true, false, if◌then◌else◌, List, [], ◌∷◌, ◌++◌, length, map, refl, sym, ◌∙◌, ap, subst, arith, append_assoc}
use Rattle.std.specs.Prelude.{filter, ◌==◌}
use Rattle.std.specs.List.{AllByRecursion}
use Rattle.std.proofs.lemmas.Bool.{eqb-true, eq-eqb}
use Rattle.std.proofs.lemmas.List.{map-append}
use Rattle.nb_base.specs.declared.op.Op.{Op}
use Rattle.nb_base.specs.declared.line.Line.{Line}
use Rattle.nb_base.specs.declared.params.Params.{Params}
use Rattle.nb_base.specs.declared.plan.Plan.{Plan}
use Rattle.nb_base.specs.declared.host_line.Placed.{Placed}
use Rattle.nb_journal.specs.Keys.{is_own}
use Rattle.nb_journal.specs.Fold.{id_of}
use Rattle.nb_journal.specs.Accounts.{own_lines}
use Rattle.nb_bucket.specs.Bucket.{Journal}
use Rattle.neigh_run.specs.Merged.{Entered, goes_to, merged}
use Rattle.neigh_run.specs.Seen.{buckets_from, calls}
use Rattle.neigh_run.specs.Inline.{entered_line, journal_at, placed_at}
use Rattle.neigh_run.proofs.Numbers.{has_id}
use Rattle.neigh_plan.specs.Merging.{lines_of}
use Rattle.neigh_plan.proofs.Orders.{count, entered_again}
use Rattle.neigh_plan.proofs.Owners.{IsInOrder}
use Rattle.plain_table.specs.declared.answer.Answer.{Answer}
use Rattle.plain_table.specs.Calls.{Call, call_to, calls_for, calls_of, calls_on, buckets_called, entered_at}
use Rattle.plain_table.specs.Table.{journals_of, bucket_at, params_of, answer_to, answers_behind, answers_at, AreCalled}
use Rattle.plain_table.proofs.CallsOf.{calls_of-nil, calls_of-cons, called-for, entered-all}
use Rattle.plain_table.specs.Laws.{AreDone}
use Rattle.plain_table.proofs.Whole.{calls-are}
use Rattle.neigh_replay.proofs.Placed.{operations, IsNamedOnce, placed_is}

-- ---- the answers to calls

-- the answer to a call, by where its operation stands
abbrev pub answer_of : Plan → List (List Line) → Call → Answer
answer_of plan journals call = record { id = call.entered.id; at = call.entered.at; placed = placed_at plan journals call.entered.id call.bucket }

abbrev pub answers_of : Plan → List (List Line) → List Call → List Answer
answers_of plan journals calls = map (answer_of plan journals) calls

-- a bucket's calls
abbrev calls_at : ℕ → List Entered → List Call
calls_at b xs = map (λ (x : Entered). call_to x b) xs

-- those of a bucket are the answers to its operations
of_bucket : (plan : Plan) (journals : List (List Line)) (b : ℕ) (calls : List Call) → answers_at b (answers_of plan journals calls) ≡ answers_of plan journals (calls_at b (entered_at b calls))
of_bucket plan journals b [] = refl
of_bucket plan journals b (c ∷ cs) = by_test (c.bucket == b) refl (of_bucket plan journals b cs) where
  rest : List Answer
  rest = answers_at b (answers_of plan journals cs)

  here : (c.bucket == b) ≡ true → answer_of plan journals c ≡ answer_of plan journals (call_to c.entered b)
  here e = ap (λ (n : ℕ). answer_of plan journals (call_to c.entered n)) (eqb-true c.bucket b e)

  by_test : (t : Bool) → (c.bucket == b) ≡ t → rest ≡ answers_of plan journals (calls_at b (entered_at b cs))
      → (if t then answer_of plan journals c ∷ rest else rest) ≡ answers_of plan journals (calls_at b (map (λ (d : Call). d.entered) (if t then c ∷ filter (λ (d : Call). d.bucket == b) cs else filter (λ (d : Call). d.bucket == b) cs)))
  by_test true e same = ap (λ (a : Answer). a ∷ rest) (here e) ∙ ap (λ (zs : List Answer). answer_of plan journals (call_to c.entered b) ∷ zs) same
  by_test false e same = same

-- what a bucket answered behind the past
behind_are : (plan : Plan) (journals : List (List Line)) (b : ℕ) (past xs : List Line) → IsNamedOnce (journal_at journals b) → journal_at journals b ≡ past ++ xs
    → answers_behind plan.params b past xs ≡ answers_of plan journals (calls_at b (operations xs))
behind_are plan journals b past [] named e = refl
behind_are plan journals b past (x ∷ xs) named e = by_test (is_own x.op) refl (behind_are plan journals b (past ++ x ∷ []) xs named (e ∙ sym (append_assoc past (x ∷ []) xs))) where
  rest : List Answer
  rest = answers_behind plan.params b (past ++ x ∷ []) xs

  here : is_own x.op ≡ true → answer_to plan.params b past x ≡ answer_of plan journals (call_to (entered_line x) b)
  here own = ap (λ (at : Placed). (let made : Answer = record { id = id_of x; at = x.at; placed = at } in made)) (sym (placed_is plan journals b past xs x own named e))

  by_test : (own : Bool) → is_own x.op ≡ own → rest ≡ answers_of plan journals (calls_at b (operations xs))
      → (if own then answer_to plan.params b past x ∷ [] else []) ++ rest ≡ answers_of plan journals (calls_at b (map entered_line (if own then x ∷ own_lines xs else own_lines xs)))
  by_test true own same = ap (λ (a : Answer). a ∷ rest) (here own) ∙ ap (λ (zs : List Answer). answer_of plan journals (call_to (entered_line x) b) ∷ zs) same
  by_test false own same = same

-- ---- answers of the same buckets, and of each bucket the same

abbrev bucket_in : Answer → ℕ
bucket_in a = a.placed.bucket

abbrev AreBelow : ℕ → List ℕ → Type 0
AreBelow n bs = AllByRecursion (λ (b : ℕ). b < n) bs

first_of : (x y : ℕ) (xs ys : List ℕ) → x ∷ xs ≡ y ∷ ys → x ≡ y
first_of x y xs ys e = cc

others_of : (x y : ℕ) (xs ys : List ℕ) → x ∷ xs ≡ y ∷ ys → xs ≡ ys
others_of x y xs ys e = cc

first_answer : (x y : Answer) (xs ys : List Answer) → x ∷ xs ≡ y ∷ ys → x ≡ y
first_answer x y xs ys e = cc

other_answers : (x y : Answer) (xs ys : List Answer) → x ∷ xs ≡ y ∷ ys → xs ≡ ys
other_answers x y xs ys e = cc

one_list : (n : ℕ) (xs ys : List Answer) → map bucket_in xs ≡ map bucket_in ys → AreBelow n (map bucket_in ys) → ((b : ℕ) → b < n → answers_at b xs ≡ answers_at b ys) → xs ≡ ys
one_list n [] [] same below each = refl
one_list n [] (y ∷ ys) same below each = absurd cc
one_list n (x ∷ xs) [] same below each = absurd cc
one_list n (x ∷ xs) (y ∷ ys) same below each =
    ap (λ (a : Answer). a ∷ xs) (first_answer x y (answers_at b xs) (answers_at b ys) heads)
    ∙ ap (λ (zs : List Answer). y ∷ zs) (one_list n xs ys (others_of (bucket_in x) b (map bucket_in xs) (map bucket_in ys) same) below.1 others) where
      b : ℕ
      b = bucket_in y

      at : bucket_in x ≡ b
      at = first_of (bucket_in x) b (map bucket_in xs) (map bucket_in ys) same

      heads : x ∷ answers_at b xs ≡ y ∷ answers_at b ys
      heads =
          sym (ap (λ (t : Bool). if t then x ∷ answers_at b xs else answers_at b xs) (eq-eqb (bucket_in x) b at))
          ∙ each b below.0
          ∙ ap (λ (t : Bool). if t then y ∷ answers_at b ys else answers_at b ys) (eq-eqb b b refl)

      others : (c : ℕ) → c < n → answers_at c xs ≡ answers_at c ys
      others c lt =
          by_test (b == c) (sym (ap (λ (d : ℕ). if d == c then x ∷ answers_at c xs else answers_at c xs) at) ∙ each c lt) where
            by_test : (t : Bool) → (if t then x ∷ answers_at c xs else answers_at c xs) ≡ (if t then y ∷ answers_at c ys else answers_at c ys) → answers_at c xs ≡ answers_at c ys
            by_test true e = other_answers x y (answers_at c xs) (answers_at c ys) e
            by_test false e = e

-- ---- the buckets of calls

below_from : (n c k : ℕ) (o : Op) → c + k ≤ n → AreBelow n (buckets_from n c k o)
below_from n c zero o le = tt
below_from n c (suc k) o le = by_test (goes_to n c o) (below_from n (c + 1) k o (omega (arith, le))) where
  by_test : (t : Bool) → AreBelow n (buckets_from n (c + 1) k o) → AreBelow n ((if t then c ∷ [] else []) ++ buckets_from n (c + 1) k o)
  by_test true rest = (omega (arith, le), rest)
  by_test false rest = rest

below_append : (n : ℕ) (xs ys : List ℕ) → AreBelow n xs → AreBelow n ys → AreBelow n (xs ++ ys)
below_append n [] ys h g = g
below_append n (x ∷ xs) ys h g = (h.0, below_append n xs ys h.1 g)

below_all : (n : ℕ) (xs : List Entered) → AreBelow n (buckets_called (calls_of n xs))
below_all n [] = subst (λ (cs : List Call). AreBelow n (buckets_called cs)) (sym (calls_of-nil n)) tt
below_all n (x ∷ xs) =
    subst (AreBelow n)
    (sym (
    ap buckets_called (calls_of-cons n x xs)
    ∙ map-append (λ (c : Call). c.bucket) (calls_for n x) (calls_of n xs)
    ∙ ap (λ (bs : List ℕ). bs ++ buckets_called (calls_of n xs)) (called-for n x)
    ))
    (below_append n (buckets_from n 0 n x.op) (buckets_called (calls_of n xs)) (below_from n 0 n x.op (omega arith)) (below_all n xs))

buckets_are : (plan : Plan) (journals : List (List Line)) (calls : List Call) → map bucket_in (answers_of plan journals calls) ≡ buckets_called calls
buckets_are plan journals [] = refl
buckets_are plan journals (c ∷ cs) = ap (λ (bs : List ℕ). c.bucket ∷ bs) (buckets_are plan journals cs)

-- ---- all calls of a plan

journal_is : (table : List Journal) (b : ℕ) → journal_at (journals_of table) b ≡ (bucket_at table b).lines
journal_is [] zero = refl
journal_is [] (suc b) = refl
journal_is (j ∷ js) zero = refl
journal_is (j ∷ js) (suc b) = journal_is js b

count_filter : (test other : Entered → Bool) (xs : List Entered) → count test (filter other xs) ≤ count test xs
count_filter test other [] = omega arith
count_filter test other (x ∷ xs) = by_tests (other x) (test x) refl (count_filter test other xs) where
  by_tests : (t s : Bool) → test x ≡ s → count test (filter other xs) ≤ count test xs → count test (if t then x ∷ filter other xs else filter other xs) ≤ length (if s then x ∷ filter test xs else filter test xs)
  by_tests true true e le = rw e (omega (arith, le))
  by_tests true false e le = rw e le
  by_tests false true e le = omega (arith, le)
  by_tests false false e le = le

-- each operation stands once in a bucket's journal
named_once : (plan : Plan) (answers : List Answer) (table : List Journal) (b : ℕ) → b < length table → IsInOrder plan → AreDone plan answers table → IsNamedOnce (bucket_at table b).lines
named_once plan answers table b lt order done = record {
  stamped = (done.called.each b lt).lawful.orderly.ids;
  once = λ id. (
      let few = count_filter (has_id id) (λ (x : Entered). goes_to plan.buckets b x.op) (merged plan) in
      let once = order.once id in
      subst (λ (xs : List Entered). count (has_id id) xs ≤ 1) (sym ((done.called.each b lt).entered ∙ entered-all plan.buckets b (merged plan) (subst (λ (n : ℕ). b < n) done.buckets lt))) (omega (arith, few, once))
      );
}

-- behind all calls the answers are those by where the operations stand, call by call
pub answers_are : (plan : Plan) (answers : List Answer) (table : List Journal) → IsInOrder plan → AreDone plan answers table → answers ≡ answers_of plan (journals_of table) (calls_of plan.buckets (merged plan))
answers_are plan answers table order done =
    one_list plan.buckets answers (answers_of plan (journals_of table) all) (done.called.aligned ∙ sym (buckets_are plan (journals_of table) all))
    (subst (AreBelow plan.buckets) (sym (buckets_are plan (journals_of table) all)) (below_all plan.buckets (merged plan))) each where
      all : List Call
      all = calls_of plan.buckets (merged plan)

      each : (b : ℕ) → b < plan.buckets → answers_at b answers ≡ answers_at b (answers_of plan (journals_of table) all)
      each b small =
          let lt = subst (λ (n : ℕ). b < n) (sym done.buckets) small in
          let it = done.called.each b lt in
          let is = journal_is table b in
          it.answered
          ∙ behind_are plan (journals_of table) b [] (bucket_at table b).lines (subst IsNamedOnce (sym is) (named_once plan answers table b lt order done)) is
          ∙ ap (λ (xs : List Entered). answers_of plan (journals_of table) (calls_at b xs)) it.entered
          ∙ sym (of_bucket plan (journals_of table) b all)

-- behind all lines of the merged operations, all calls of the plan are done
pub are_done : (plan : Plan) (answers : List Answer) (old new : List Journal) (lines : List Line) → length old ≡ plan.buckets → params_of old ≡ plan.params → lines ≡ lines_of (merged plan) → length new ≡ length old
    → AreCalled (params_of old) (buckets_called (calls_on (length old) lines)) (calls_on (length old) lines) answers new → AreDone plan answers new
are_done plan answers old new lines buckets params e same called = record {
  buckets = same ∙ buckets;
  called =
      subst (λ (p : Params). AreCalled p (calls plan) all answers new) params
      (subst (λ (bs : List ℕ). AreCalled (params_of old) bs all answers new) (sym (calls-are plan))
      (subst (λ (cs : List Call). AreCalled (params_of old) (buckets_called cs) cs answers new) done called));
} where
  all : List Call
  all = calls_of plan.buckets (merged plan)

  done : calls_on (length old) lines ≡ all
  done = ap (λ (n : ℕ). calls_on n lines) buckets ∙ ap (calls_on plan.buckets) e ∙ ap (calls_of plan.buckets) (entered_again (merged plan))
