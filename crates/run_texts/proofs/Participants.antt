-- The lines of a run with a thread for each participant are those of its plan's operations: what holds of each operation holds of the one from which a line is, and there are no more lines than operations.
use Rattle.std.proofs.Common.{◌≡◌, ℕ, zero, suc, ◌+◌, ◌<◌, ◌≤◌, Bool, true, false, ◌||◌, is_some, if◌then◌else◌, List, [], ◌∷◌, ◌++◌, length, refl, sym, ◌∙◌, ap, subst, arith, length-append, eq-eqb}
use Rattle.std.specs.Prelude.{◌==◌, Option, Some, None, IfSome, filter}
use Rattle.std.specs.Option.{option_map_or}
use Rattle.std.specs.List.{AllByRecursion, AllZip}
use Rattle.std.proofs.lemmas.Bool.{eqb-true, false≢true}
use Rattle.std.proofs.lemmas.Slice.Zip.{AllZip-long}
use Rattle.nb_base.specs.declared.time.OpId.{OpId}
use Rattle.nb_base.specs.declared.line.Line.{Line}
use Rattle.nb_base.specs.declared.outcome.Outcome.{Outcome}
use Rattle.nb_base.specs.declared.outcome.Outcome.TheVariants as outcome
use Rattle.nb_base.specs.declared.host_line.Mark.{Mark}
use Rattle.nb_base.specs.declared.plan.Plan.{Plan}
use Rattle.nb_base.specs.declared.plan.SendItem.{SendItem}
use Rattle.nb_base.specs.Ids.{participant_of}
use Rattle.nb_journal.specs.Keys.{is_own}
use Rattle.nb_journal.specs.Lawful.{each_line, EachLine}
use Rattle.nb_journal.specs.Accounts.{own_lines}
use Rattle.neigh_run.specs.declared.run.Run.{Run}
use Rattle.neigh_run.specs.Control.{host_start}
use Rattle.neigh_run.specs.Merged.{Entered, goes_to, control_ops, sender_ops, senders_ops}
use Rattle.neigh_run.specs.Threaded.{EachSender, is_line_of, Standing, lines_of, IsLineFor, HasLinesFor, slow_ops, HasItsLines}
use Rattle.neigh_run.proofs.Counting.{Each}
use Rattle.run_texts.specs.Told.{plan_ops}
use Rattle.run_texts.proofs.Lists.{filter-few}
use Rattle.run_texts.proofs.Inline.{each-filter}
use Rattle.run_texts.proofs.Named.{AreNumbered}

-- ---- parts of the plan's operations

each-front : (P : Entered → Type 0) (xs ys : List Entered) → Each P (xs ++ ys) → Each P xs
each-front P [] ys h = tt
each-front P (x ∷ xs) ys h = (h.0, each-front P xs ys h.1)

each-back : (P : Entered → Type 0) (xs ys : List Entered) → Each P (xs ++ ys) → Each P ys
each-back P [] ys h = h
each-back P (x ∷ xs) ys h = each-back P xs ys h.1

each-slow : (P : Entered → Type 0) (p n : ℕ) (items : List SendItem) (log : List Outcome) → Each P (sender_ops p n items) → Each P (slow_ops p n items log)
each-slow P p n [] log h = tt
each-slow P p n (item ∷ items) [] h = tt
each-slow P p n (item ∷ items) (outcome.Fast number header ∷ log) h = each-slow P p (n + 1) items log h.1
each-slow P p n (item ∷ items) (outcome.Slow why place reply ∷ log) h = (h.0, each-slow P p (n + 1) items log h.1)

slow-few : (p n : ℕ) (items : List SendItem) (log : List Outcome) → length (slow_ops p n items log) ≤ length (sender_ops p n items)
slow-few p n [] log = omega arith
slow-few p n (item ∷ items) [] = omega arith
slow-few p n (item ∷ items) (outcome.Fast number header ∷ log) = let rest = slow-few p (n + 1) items log in omega (arith, rest)
slow-few p n (item ∷ items) (outcome.Slow why place reply ∷ log) = let rest = slow-few p (n + 1) items log in omega (arith, rest)

-- ---- what holds of the operation of a line

-- a line is that of an operation of which this holds
abbrev pub IsFrom : Plan → List Mark → ℕ → (Entered → Type 0) → Standing → Type 0
IsFrom plan marks b P s = (x : Entered) × (IsLineFor plan marks b s x) × P x

-- a line that has an id is
abbrev pub HasSource : Plan → List Mark → ℕ → (Entered → Type 0) → List Line → Line → Type 0
HasSource plan marks b P past line = IfSome line.id (λ id. IsFrom plan marks b P (record { past = past; line = line }))

zip-from : (P : Entered → Type 0) (plan : Plan) (marks : List Mark) (b : ℕ) (ss : List Standing) (xs : List Entered) → AllZip (IsLineFor plan marks b) ss xs → Each P xs → AllByRecursion (IsFrom plan marks b P) ss
zip-from P plan marks b [] [] h g = tt
zip-from P plan marks b [] (x ∷ xs) h g = absurd h
zip-from P plan marks b (s ∷ ss) [] h g = absurd h
zip-from P plan marks b (s ∷ ss) (x ∷ xs) h g = ((x, h.0, g.0), zip-from P plan marks b ss xs h.1 g.1)

-- participant p's lines are
abbrev AreFrom : Plan → List Mark → ℕ → (Entered → Type 0) → List Line → ℕ → Type 0
AreFrom plan marks b P journal p = AllByRecursion (IsFrom plan marks b P) (lines_of p [] journal)

has-from : (P : Entered → Type 0) (plan : Plan) (marks : List Mark) (p : ℕ) (ops : List Entered) (b : ℕ) (journal : List Line) → HasLinesFor plan marks p ops b journal → Each P ops → AreFrom plan marks b P journal p
has-from P plan marks p ops b journal h g =
    zip-from P plan marks b (lines_of p [] journal) (filter (λ entered. goes_to plan.buckets b entered.op) ops) h (each-filter P (λ entered. goes_to plan.buckets b entered.op) ops g)

above : (p q : ℕ) → (p == q) ≡ false → q ≤ p → q + 1 ≤ p
above p q e le = strict (λ same. false≢true (sym e ∙ eq-eqb p q same)) where
  strict : (p ≡ q → ⊥) → q + 1 ≤ p
  strict d = omega (arith, le, d)

senders-from : (P : Entered → Type 0) (plan : Plan) (marks : List Mark) (b : ℕ) (journal : List Line) (q : ℕ) (senders : List (List SendItem)) (logs : List (List Outcome))
    → EachSender (λ p items log. HasLinesFor plan marks p (slow_ops p 1 items log) b journal) q senders logs → Each P (senders_ops q senders)
    → (p : ℕ) → q ≤ p → p < q + length senders → AreFrom plan marks b P journal p
senders-from P plan marks b journal q [] logs h g p le lt = absurd (omega (arith, le, lt))
senders-from P plan marks b journal q (items ∷ senders) [] h g p le lt = absurd h
senders-from P plan marks b journal q (items ∷ senders) (log ∷ logs) h g p le lt = by_test (p == q) refl (senders-from P plan marks b journal (q + 1) senders logs h.1 (each-back P (sender_ops q 1 items) (senders_ops (q + 1) senders) g) p) where
  by_test : (t : Bool) → (p == q) ≡ t → (q + 1 ≤ p → p < q + 1 + length senders → AreFrom plan marks b P journal p) → AreFrom plan marks b P journal p
  by_test true e rest = subst (AreFrom plan marks b P journal) (sym (eqb-true p q e)) (has-from P plan marks q (slow_ops q 1 items log) b journal h.0 (each-slow P q 1 items log (each-front P (sender_ops q 1 items) (senders_ops (q + 1) senders) g)))
  by_test false e rest = rest (above p q e le) (omega (arith, lt))

each-participant : (P : Entered → Type 0) (plan : Plan) (run : Run) (b : ℕ) (journal : List Line) → Each P (plan_ops plan) → HasItsLines plan run b journal → (p : ℕ) → p ≤ length plan.senders → AreFrom plan run.marks b P journal p
each-participant P plan run b journal all h p le = by_test (p == 0) refl where
  zero_le : 0 ≤ p
  zero_le = omega arith

  by_test : (t : Bool) → (p == 0) ≡ t → AreFrom plan run.marks b P journal p
  by_test true e = subst (AreFrom plan run.marks b P journal) (sym (eqb-true p 0 e)) (has-from P plan run.marks 0 (control_ops plan host_start 1 plan.control) b journal h.control (each-front P (control_ops plan host_start 1 plan.control) (senders_ops 1 plan.senders) all))
  by_test false e = let more = above p 0 e zero_le in senders-from P plan run.marks b journal 1 plan.senders run.logs h.senders (each-back P (control_ops plan host_start 1 plan.control) (senders_ops 1 plan.senders) all) p (omega (arith, more)) (omega (arith, le))

all-back : {A : Type 0} (P : A → Type 0) (xs ys : List A) → AllByRecursion P (xs ++ ys) → AllByRecursion P ys
all-back P [] ys h = h
all-back P (x ∷ xs) ys h = all-back P xs ys h.1

-- a line is of the participant that its id names
is-of : (l : Line) (id : OpId) → l.id ≡ Some id → is_line_of (participant_of id) l ≡ true
is-of l id e = ap (λ (o : Option OpId). option_map_or (λ (i : OpId). participant_of i == participant_of id) o false) e ∙ eq-eqb (participant_of id) (participant_of id) refl

-- every line is a participant's, or has no id
lines-from : (P : Entered → Type 0) (plan : Plan) (marks : List Mark) (b k : ℕ) (past lines : List Line) → AllByRecursion (λ (line : Line). IfSome line.id (λ id. participant_of id ≤ k)) lines
    → ((p : ℕ) → p ≤ k → AllByRecursion (IsFrom plan marks b P) (lines_of p past lines)) → each_line (HasSource plan marks b P) past lines
lines-from P plan marks b k past [] only h = tt
lines-from P plan marks b k past (l ∷ ls) only h = (
  here l.id refl only.0,
  lines-from P plan marks b k (past ++ l ∷ []) ls only.1 (λ p le. all-back (IsFrom plan marks b P) (if is_line_of p l then record { past = past; line = l } ∷ [] else []) (lines_of p (past ++ l ∷ []) ls) (h p le)),
) where
  mine : (p : ℕ) → is_line_of p l ≡ true → AllByRecursion (IsFrom plan marks b P) (lines_of p past (l ∷ ls)) → IsFrom plan marks b P (record { past = past; line = l })
  mine p e all = (subst (λ (t : Bool). AllByRecursion (IsFrom plan marks b P) ((if t then record { past = past; line = l } ∷ [] else []) ++ lines_of p (past ++ l ∷ []) ls)) e all).0

  here : (o : Option OpId) → l.id ≡ o → IfSome o (λ id. participant_of id ≤ k) → IfSome o (λ id. IsFrom plan marks b P (record { past = past; line = l }))
  here None e le = tt
  here (Some id) e le = mine (participant_of id) (is-of l id e) (h (participant_of id) le)

-- what holds of each of a plan's operations holds of the operation of each line
pub each-source : (P : Entered → Type 0) (plan : Plan) (run : Run) (b : ℕ) (journal : List Line) → Each P (plan_ops plan) → HasItsLines plan run b journal → EachLine (HasSource plan run.marks b P) journal
each-source P plan run b journal all h = lines-from P plan run.marks b (length plan.senders) [] journal h.only (each-participant P plan run b journal all h)

-- ---- how many operations' lines there are

-- a line of one of the first n participants
abbrev is_line_below : ℕ → Line → Bool
is_line_below zero l = false
is_line_below (suc n) l = is_line_of n l || is_line_below n l

none-below : (lines : List Line) → length (filter (is_line_below 0) lines) ≤ 0
none-below [] = omega arith
none-below (l ∷ ls) = none-below ls

-- one participant more has its lines more
one-suc : (n : ℕ) (past lines : List Line) → length (filter (is_line_below (suc n)) lines) ≤ length (filter (is_line_below n) lines) + length (lines_of n past lines)
one-suc n past [] = omega arith
one-suc n past (l ∷ ls) = by_tests (is_line_of n l) (is_line_below n l) (one-suc n (past ++ l ∷ []) ls) where
  by_tests : (mine below : Bool) → length (filter (is_line_below (suc n)) ls) ≤ length (filter (is_line_below n) ls) + length (lines_of n (past ++ l ∷ []) ls)
      → length (if mine || below then l ∷ filter (is_line_below (suc n)) ls else filter (is_line_below (suc n)) ls)
      ≤ length (if below then l ∷ filter (is_line_below n) ls else filter (is_line_below n) ls) + length ((if mine then record { past = past; line = l } ∷ [] else []) ++ lines_of n (past ++ l ∷ []) ls)
  by_tests true true rest = omega (arith, rest)
  by_tests true false rest = omega (arith, rest)
  by_tests false true rest = omega (arith, rest)
  by_tests false false rest = omega (arith, rest)

one-more : (n m : ℕ) (lines : List Line) → m ≡ suc n → length (filter (is_line_below m) lines) ≤ length (filter (is_line_below n) lines) + length (lines_of n [] lines)
one-more n m lines e = subst (λ k. length (filter (is_line_below k) lines) ≤ length (filter (is_line_below n) lines) + length (lines_of n [] lines)) (sym e) (one-suc n [] lines)

-- a participant has no more lines in a bucket than operations
has-few : (plan : Plan) (marks : List Mark) (p : ℕ) (ops : List Entered) (b : ℕ) (journal : List Line) → HasLinesFor plan marks p ops b journal → length (lines_of p [] journal) ≤ length ops
has-few plan marks p ops b journal h =
    let long = AllZip-long (IsLineFor plan marks b) (lines_of p [] journal) (filter (λ entered. goes_to plan.buckets b entered.op) ops) h in
    let cut = filter-few (λ (entered : Entered). goes_to plan.buckets b entered.op) ops in
    omega (arith, long, cut)

senders-few : (plan : Plan) (marks : List Mark) (b : ℕ) (journal : List Line) (q n : ℕ) (senders : List (List SendItem)) (logs : List (List Outcome))
    → EachSender (λ p items log. HasLinesFor plan marks p (slow_ops p 1 items log) b journal) q senders logs → n ≡ q + length senders
    → length (filter (is_line_below n) journal) ≤ length (filter (is_line_below q) journal) + length (senders_ops q senders)
senders-few plan marks b journal q n [] logs h e = let same : n ≡ q = omega (arith, e) in subst (λ m. length (filter (is_line_below n) journal) ≤ length (filter (is_line_below m) journal) + 0) same (omega arith)
senders-few plan marks b journal q n (items ∷ senders) [] h e = absurd h
senders-few plan marks b journal q n (items ∷ senders) (log ∷ logs) h e =
    let rest = senders-few plan marks b journal (q + 1) n senders logs h.1 (omega (arith, e)) in
    let one = one-more q (q + 1) journal (omega arith) in
    let mine = has-few plan marks q (slow_ops q 1 items log) b journal h.0 in
    let slow = slow-few q 1 items log in
    let parts = length-append (sender_ops q 1 items) (senders_ops (q + 1) senders) in
    omega (arith, rest, one, mine, slow, parts)

below-few : (plan : Plan) (run : Run) (b : ℕ) (journal : List Line) → HasItsLines plan run b journal → length (filter (is_line_below (length plan.senders + 1)) journal) ≤ length (plan_ops plan)
below-few plan run b journal h =
    let none = none-below journal in
    let one = one-more 0 1 journal (omega arith) in
    let control = has-few plan run.marks 0 (control_ops plan host_start 1 plan.control) b journal h.control in
    let others = senders-few plan run.marks b journal 1 (length plan.senders + 1) plan.senders run.logs h.senders (omega arith) in
    let parts = length-append (control_ops plan host_start 1 plan.control) (senders_ops 1 plan.senders) in
    omega (arith, none, one, control, others, parts)

or_right : (x y : Bool) → y ≡ true → (x || y) ≡ true
or_right true y e = refl
or_right false y e = e

or_left : (x y : Bool) → x ≡ true → (x || y) ≡ true
or_left x y e = ap (λ (t : Bool). t || y) e

is-below : (n p : ℕ) (l : Line) → p < n → is_line_of p l ≡ true → is_line_below n l ≡ true
is-below zero p l lt e = absurd (omega (arith, lt))
is-below (suc n) p l lt e = by_test (n == p) refl (λ less. is-below n p l less e) where
  by_test : (t : Bool) → (n == p) ≡ t → (p < n → is_line_below n l ≡ true) → is_line_below (suc n) l ≡ true
  by_test true same rest = or_left (is_line_of n l) (is_line_below n l) (subst (λ q. is_line_of q l ≡ true) (sym (eqb-true n p same)) e)
  by_test false other rest = let more = above n p other (omega (arith, lt)) in or_right (is_line_of n l) (is_line_below n l) (rest (omega (arith, more)))

-- an operation's line is one of a participant
own-below : (n k : ℕ) (lines : List Line) → k < n → AreNumbered lines → AllByRecursion (λ (line : Line). IfSome line.id (λ id. participant_of id ≤ k)) lines → length (own_lines lines) ≤ length (filter (is_line_below n) lines)
own-below n k [] lt ids only = omega arith
own-below n k (l ∷ ls) lt ids only = by_test (is_own l.op) refl (is_line_below n l) refl (own-below n k ls lt ids.1 only.1) where
  below : (o : Option OpId) → l.id ≡ o → is_some o ≡ true → IfSome o (λ id. participant_of id ≤ k) → is_line_below n l ≡ true
  below None e numbered le = absurd (false≢true numbered)
  below (Some id) e numbered le = is-below n (participant_of id) l (omega (arith, le, lt)) (is-of l id e)

  by_test : (own : Bool) → is_own l.op ≡ own → (t : Bool) → is_line_below n l ≡ t → length (own_lines ls) ≤ length (filter (is_line_below n) ls)
      → length (if own then l ∷ own_lines ls else own_lines ls) ≤ length (if t then l ∷ filter (is_line_below n) ls else filter (is_line_below n) ls)
  by_test true e true is rest = omega (arith, rest)
  by_test true e false is rest = absurd (false≢true (sym is ∙ below l.id refl (ids.0 ∙ e) only.0))
  by_test false e true is rest = omega (arith, rest)
  by_test false e false is rest = rest

-- a bucket has no more operations' lines than the plan has operations
pub own-few : (plan : Plan) (run : Run) (b : ℕ) (journal : List Line) → AreNumbered journal → HasItsLines plan run b journal → length (own_lines journal) ≤ length (plan_ops plan)
own-few plan run b journal ids h =
    let own = own-below (length plan.senders + 1) (length plan.senders) journal (omega arith) ids h.only in
    let few = below-few plan run b journal h in
    omega (arith, own, few)
