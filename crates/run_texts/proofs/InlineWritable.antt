-- An inline run of a plan that can be played can be written.
use Rattle.std.proofs.Common.{◌≡◌, ℕ, suc, ◌+◌, ◌≤◌, Bool, true, false, nat_le, if◌then◌else◌, List, [], ◌∷◌, length, map, refl, sym, ap, subst, arith}
use Rattle.std.specs.List.{AllByRecursion}
use Rattle.std.proofs.lemmas.List.{length-map}
use Rattle.nb_base.specs.declared.line.Line.{Line}
use Rattle.nb_base.specs.declared.plan.Plan.{Plan}
use Rattle.nud_machine.specs.Asked.{greatest}
use Rattle.nb_journal.specs.Keys.{is_own}
use Rattle.nb_journal.specs.Lawful.{last_moment}
use Rattle.nb_journal.specs.Accounts.{own_lines}
use Rattle.neigh_run.specs.Merged.{Entered, goes_to, insert, merged, merged_for}
use Rattle.neigh_run.specs.Inline.{entered_line, ends_own, IsInlineJournal, AreInlineJournals}
use Rattle.neigh_run.specs.Plan.{IsWithinLimits}
use Rattle.neigh_run.specs.Laws.{InlineRunsHaveOneOrder}
use Rattle.neigh_run.proofs.Counting.{Each, insert_all}
use Rattle.run_texts.specs.Told.{plan_ops}
use Rattle.run_texts.specs.Laws.{IsPlayable, InlineRunsAreWritable}
use Rattle.run_texts.proofs.Lists.{filter-few}
use Rattle.run_texts.proofs.Inline.{each-merged}
use Rattle.run_texts.proofs.Played.{IsPlayed, ops-played, most, ops-few}
use Rattle.run_texts.proofs.Writable.{IsPlayedLine, played-moments, IsPlayedJournal, played-writable}

-- ---- operations' lines

of-entered : (P : Entered → Type 0) (lines : List Line) → Each P (map entered_line lines) → AllByRecursion (λ (l : Line). P (entered_line l)) lines
of-entered P [] h = tt
of-entered P (l ∷ ls) h = (h.0, of-entered P ls h.1)

-- the operations' lines of a bucket
lines-played : (plan : Plan) (all : List (List Line)) (b : ℕ) (journal : List Line) → IsPlayable plan → IsInlineJournal plan all b journal → AllByRecursion IsPlayedLine (own_lines journal)
lines-played plan all b journal play h = of-entered IsPlayed (own_lines journal) (subst (Each IsPlayed) (sym h.entered) (each-merged IsPlayed plan b (ops-played plan play)))

-- as many are merged as there are
insert-long : (x : Entered) (ys : List Entered) → length (insert x ys) ≡ suc (length ys)
insert-long x [] = refl
insert-long x (y ∷ ys) = by_test (nat_le y.at x.at) (insert-long x ys) where
  by_test : (t : Bool) → length (insert x ys) ≡ suc (length ys) → length (if t then y ∷ insert x ys else x ∷ y ∷ ys) ≡ suc (length (y ∷ ys))
  by_test true rest = ap suc rest
  by_test false rest = refl

sorted-long : (sorted xs : List Entered) → length (insert_all sorted xs) ≡ length sorted + length xs
sorted-long sorted [] = omega arith
sorted-long sorted (x ∷ xs) = let rest = sorted-long (insert x sorted) xs in let one = insert-long x sorted in omega (arith, rest, one)

merged-few : (plan : Plan) (b : ℕ) → IsWithinLimits plan → length (merged_for plan b) ≤ most
merged-few plan b limits =
    let cut = filter-few (λ (x : Entered). goes_to plan.buckets b x.op) (merged plan) in
    let sorted = sorted-long [] (plan_ops plan) in
    let few = ops-few plan limits in
    omega (arith, cut, sorted, few)

own-few : (plan : Plan) (all : List (List Line)) (b : ℕ) (journal : List Line) → IsWithinLimits plan → IsInlineJournal plan all b journal → length (own_lines journal) ≤ most
own-few plan all b journal limits h =
    let same = length-map (own_lines journal) entered_line in
    let long = ap length h.entered in
    let few = merged-few plan b limits in
    omega (arith, same, long, few)

-- a journal that ends with an operation ends at its moment
ends-within : (lines : List Line) → ends_own lines ≡ true → AllByRecursion (λ (l : Line). l.at ≤ greatest) (own_lines lines) → last_moment lines ≤ greatest
ends-within [] e h = omega arith
ends-within (l ∷ []) e h = (subst (λ (t : Bool). AllByRecursion (λ (l : Line). l.at ≤ greatest) (if t then l ∷ [] else [])) e h).0
ends-within (l ∷ next ∷ lines) e h = ends-within (next ∷ lines) e (behind (is_own l.op) h) where
  behind : (own : Bool) → AllByRecursion (λ (l : Line). l.at ≤ greatest) (if own then l ∷ own_lines (next ∷ lines) else own_lines (next ∷ lines)) → AllByRecursion (λ (l : Line). l.at ≤ greatest) (own_lines (next ∷ lines))
  behind true h = h.1
  behind false h = h

-- ---- the run

-- an inline journal is lawful at its last moment, which is that of its last operation
journal-played : (plan : Plan) (all : List (List Line)) (b : ℕ) (journal : List Line) → IsPlayable plan → IsInlineJournal plan all b journal → IsPlayedJournal plan.params journal
journal-played plan all b journal play h =
    let played = lines-played plan all b journal play h in
    record {
      clock = last_moment journal;
      lawful = h.lawful;
      early = ends-within journal h.ends (played-moments (own_lines journal) played);
      few = own-few plan all b journal play.limits h;
      played = played;
    }

each-played : (plan : Plan) (all : List (List Line)) (b : ℕ) (js : List (List Line)) → IsPlayable plan → AreInlineJournals plan all b js → AllByRecursion (IsPlayedJournal plan.params) js
each-played plan all b [] play h = tt
each-played plan all b (j ∷ js) play h = (journal-played plan all b j play h.0, each-played plan all (b + 1) js play h.1)

pub inline_writable : InlineRunsHaveOneOrder → InlineRunsAreWritable
inline_writable have_order plan run play h = played-writable plan run play h.plan h.buckets (each-played plan run.journals 0 run.journals play h.journals) (have_order plan run h)
