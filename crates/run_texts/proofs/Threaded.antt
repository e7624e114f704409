-- A run with a thread for each participant is told by its text.
use Rattle.std.proofs.Common.{◌≡◌, ℕ, zero, suc, ◌+◌, ◌*◌, ◌^◌, ◌<◌, ◌≤◌, Bool, true, false, if◌then◌else◌, List, [], ◌∷◌, ◌++◌, length, map, take, refl, sym, ◌∙◌, ap, subst, arith, length-append}
use Rattle.std.specs.Prelude.{Option, Some, None, IfSome, unwrap_or, slice_index_or}
use Rattle.std.specs.List.{AllByRecursion}
use Rattle.std.proofs.lemmas.List.{length-take}
use Rattle.std.proofs.lemmas.List.Folds.{fold-map}
use Rattle.std.proofs.lemmas.Option.{slice_get_within}
use Rattle.hh_core.specs.Safe.{both_numbers}
use Rattle.nb_base.specs.declared.key.Key.{Key}
use Rattle.nb_base.specs.declared.host.Host.{Host}
use Rattle.nb_base.specs.declared.params.Params.{Params}
use Rattle.nb_base.specs.declared.record.Record.{Record}
use Rattle.nb_base.specs.declared.time.OpId.{OpId}
use Rattle.nb_base.specs.declared.line.Line.{Line}
use Rattle.nb_base.specs.declared.outcome.Why.TheVariants as why
use Rattle.nb_base.specs.declared.outcome.Outcome.{Outcome}
use Rattle.nb_base.specs.declared.outcome.Outcome.TheVariants as outcome
use Rattle.nb_base.specs.declared.host_line.Mark.{Mark}
use Rattle.nb_base.specs.declared.plan.Plan.{Plan}
use Rattle.nb_base.specs.declared.plan.SendItem.{SendItem}
use Rattle.nb_base.specs.Buckets.{bucket_of}
use Rattle.nud_machine.specs.Record.{record_of}
use Rattle.nb_journal.specs.Fold.{state_of}
use Rattle.nb_journal.specs.Steps.{IsShort}
use Rattle.nb_journal.specs.Accounts.{ends_with, with_record, published}
use Rattle.nb_journal.proofs.Lines.{by_last}
use Rattle.nb_journal.proofs.Publishes.{published-nil, published-snoc}
use Rattle.change_order.specs.Orders.{HaveOneOrder}
use Rattle.journal_counts.specs.Counts.{counts_of}
use Rattle.neigh_run.specs.declared.run.Run.{Run}
use Rattle.neigh_run.specs.Inline.{journal_at}
use Rattle.neigh_run.specs.Plan.{RisesFrom, IsWithinLimits}
use Rattle.neigh_run.specs.Windows.{length_at, last_lengths, last_start, mark_starts, own_length, next_length}
use Rattle.neigh_run.specs.Bounds.{Handled, number_at, known_number, IsInBounds, IsBounded}
use Rattle.neigh_run.specs.Threaded.{EachJournal, EachSender, IsLawfulAtMarks, HasItsLines, handled, each_packet, HasItsPlace, HasReadInBounds}
use Rattle.run_texts.specs.Told.{Small, ops_numbered, IsNamedLine, IsToldJournal, IsToldOutcome, EachOutcome, AreToldLogs, last_of}
use Rattle.run_texts.specs.Laws.{ThreadedRunsAreTold}
use Rattle.run_texts.proofs.Named.{IsNamed, ops-named}
use Rattle.run_texts.proofs.Lists.{each_line-all}
use Rattle.run_texts.proofs.Participants.{IsFrom, HasSource, each-source}
use Rattle.run_texts.proofs.Alone.{order_alone}

-- ---- lines that keep to the plan

by_id : (plan : Plan) (line : Line) (id : OpId) → line.id ≡ Some id → (ops_numbered plan id ≡ line.op ∷ []) × Small id.0 → IsNamedLine plan line
by_id plan line id e h = subst (λ (o : Option OpId). IfSome o (λ id. (ops_numbered plan id ≡ line.op ∷ []) × Small id.0)) (sym e) h

-- a line of a named operation is named
source-named : (plan : Plan) (marks : List Mark) (b : ℕ) (past : List Line) (line : Line) → HasSource plan marks b (IsNamed plan) past line → IsNamedLine plan line
source-named plan marks b past line h = by_number line.id refl h where
  by_number : (o : Option OpId) → line.id ≡ o → IfSome o (λ id. IsFrom plan marks b (IsNamed plan) (record { past = past; line = line })) → IfSome o (λ id. (ops_numbered plan id ≡ line.op ∷ []) × Small id.0)
  by_number None e h = tt
  by_number (Some id) e h =
      subst (λ (o : Option OpId). IfSome o (λ id. (ops_numbered plan id ≡ line.op ∷ []) × Small id.0)) e
      (by_id plan line h.0.id h.1.id (h.2.named ∙ ap (λ o. o ∷ []) (sym h.1.op), h.2.small))

lines-named : (plan : Plan) (run : Run) (b : ℕ) (journal : List Line) → IsWithinLimits plan → HasItsLines plan run b journal → AllByRecursion (IsNamedLine plan) journal
lines-named plan run b journal limits h =
    each_line-all (HasSource plan run.marks b (IsNamed plan)) (IsNamedLine plan) [] journal (source-named plan run.marks b) (each-source (IsNamed plan) plan run b journal (ops-named plan limits) h)

-- ---- journals

pub last-is : (marks : List Mark) (os : List (Option ℕ)) → map (λ (mark : Mark). mark.start) marks ≡ os → last_start marks ≡ last_of os
last-is marks os e = sym (fold-map (λ (at : ℕ) (start : Option ℕ). unwrap_or start at) (λ (mark : Mark). mark.start) 0 marks) ∙ ap last_of e

journals-told : (plan : Plan) (run : Run) (all : List (List Line)) (start b : ℕ) (js : List (List Line)) → IsWithinLimits plan → length all ≡ plan.buckets → b + length js ≡ length all
    → ((j : List Line) → plan.buckets ≤ 1 → js ≡ j ∷ [] → b ≡ 0 → HaveOneOrder (map (counts_of plan.params) (j ∷ []))) → last_start run.marks ≡ start → EachJournal (IsLawfulAtMarks plan.params run.marks) b js → EachJournal (HasItsLines plan run) b js
    → AllByRecursion (IsToldJournal plan start) js
journals-told plan run all start b [] limits whole long order at lawful lines = tt
journals-told plan run all start b (j ∷ js) limits whole long order at lawful lines = (
  subst (λ s. IsToldJournal plan s j) at record {
    lawful = lawful.0.whole;
    named = lines-named plan run b j limits lines.0;
    alone = λ one. order_alone plan.params j (only js one (omega (arith, one, whole, long)) order);
  },
  journals-told plan run all start (b + 1) js limits whole (omega (arith, long)) (λ k one e first. absurd (omega (arith, first))) at lawful.1 lines.1,
) where
  only : (js : List (List Line)) → plan.buckets ≤ 1 → b + 1 + length js ≤ 1 → ((k : List Line) → plan.buckets ≤ 1 → j ∷ js ≡ k ∷ [] → b ≡ 0 → HaveOneOrder (map (counts_of plan.params) (k ∷ []))) → HaveOneOrder (map (counts_of plan.params) (j ∷ []))
  only [] one le order = order j one refl (omega (arith, le))
  only (k ∷ ks) one le order = absurd (omega (arith, le))

-- ---- numbers of records

published-few : (p : Params) (host : Host) (key : Key) (journal : List Line) → length (published p host journal key) ≤ length journal + 1
published-few p host key = by_last (λ (journal : List Line). length (published p host journal key) ≤ length journal + 1)
    (let e = ap length (published-nil p host key) in omega (arith, e))
    (λ lines l h. more lines l h) where
      longer : (records : List Record) (r : Record) → length (with_record records r) ≤ length records + 1
      longer records r = by_test (ends_with records r) where
        by_test : (t : Bool) → length (if t then records else records ++ r ∷ []) ≤ length records + 1
        by_test true = omega arith
        by_test false = let e = length-append records (r ∷ []) in omega (arith, e)

      more : (lines : List Line) (l : Line) → length (published p host lines key) ≤ length lines + 1 → length (published p host (lines ++ l ∷ []) key) ≤ length (lines ++ l ∷ []) + 1
      more lines l h =
          let e = ap length (published-snoc p host lines l key) in
          let one = longer (published p host lines key) (record_of (state_of p (lines ++ l ∷ []) key).entry host key) in
          let parts = length-append lines (l ∷ []) in
          omega (arith, h, e, one, parts)

number-few : (p : Params) (host : Host) (journal : List Line) (key : Key) (n : ℕ) → number_at p host journal key n ≤ length journal
number-few p host journal key n =
    let few = published-few p host key (take n journal) in
    let cut = length-take n journal in
    omega (arith, few, cut)

-- every journal is short
there : (js : List (List Line)) (b : ℕ) → AllByRecursion IsShort js → IsShort (slice_index_or js b [])
there [] b h = omega arith
there (j ∷ js) zero h = h.0
there (j ∷ js) (suc b) h = there js b h.1

-- ---- outcomes

tries-small : (low seen high : ℕ) (tries : List (ℕ × ℕ)) → high < 2 ^ 32 → AllByRecursion (λ (n : ℕ). IsInBounds (2 * low) (2 * seen) (2 * high) n) (both_numbers tries) → AllByRecursion (λ (read : ℕ × ℕ). Small read.0 × Small read.1) tries
tries-small low seen high [] few h = tt
tries-small low seen high (t ∷ ts) few h = let first = h.0.next in let second = h.1.0.next in ((omega (arith, few, first), omega (arith, few, second)), tries-small low seen high ts few h.1.1)

outcome-told : (plan : Plan) (run : Run) (p n : ℕ) (item : SendItem) (low seen next : ℕ) (o : Outcome) → IsShort (journal_at run.journals (bucket_of plan.buckets item.key))
    → HasItsPlace plan run.journals p (record { n = n; at = item.at; key = item.key; outcome = o }) o
    → IsBounded (published plan.params plan.host (journal_at run.journals (bucket_of plan.buckets item.key)) item.key) low seen (number_at plan.params plan.host (journal_at run.journals (bucket_of plan.buckets item.key)) item.key next) o
    → IsToldOutcome plan run.journals p n item o
outcome-told plan run p n item low seen next (outcome.Fast number header) short place h =
    let journal = journal_at run.journals (bucket_of plan.buckets item.key) in
    let within = slice_get_within (published plan.params plan.host journal item.key) number h.1.0 h.1.1 in
    let few = published-few plan.params plan.host item.key journal in
    (omega (arith, within, few, short), h.1.1 ∙ ap (λ (r : Record). Some r) h.1.2)
outcome-told plan run p n item low seen next (outcome.Slow (why.Suspect number) place reply) short placed h =
    let high = h.0.next in
    let few = number-few plan.params plan.host (journal_at run.journals (bucket_of plan.buckets item.key)) item.key next in
    (omega (arith, high, few, short), placed)
outcome-told plan run p n item low seen next (outcome.Slow (why.Again tries) place reply) short placed h =
    let few = number-few plan.params plan.host (journal_at run.journals (bucket_of plan.buckets item.key)) item.key next in
    (tries-small low seen (number_at plan.params plan.host (journal_at run.journals (bucket_of plan.buckets item.key)) item.key next) tries (omega (arith, few, short)) h.within, placed)
outcome-told plan run p n item low seen next (outcome.Slow why.First place reply) short placed h = (tt, placed)
outcome-told plan run p n item low seen next (outcome.Slow why.Inline place reply) short placed h = (tt, placed)

outcomes-told : (plan : Plan) (run : Run) (p n : ℕ) (items : List SendItem) (log : List Outcome) (earlier before : List Handled) → AllByRecursion IsShort run.journals → length log ≡ length items
    → each_packet (λ earlier packet. HasItsPlace plan run.journals p packet packet.outcome) earlier (handled n items log)
    → each_packet (λ earlier packet. HasReadInBounds plan run earlier packet) before (handled n items log)
    → EachOutcome (IsToldOutcome plan run.journals p) n items log
outcomes-told plan run p n [] [] earlier before short e h g = tt
outcomes-told plan run p n [] (o ∷ log) earlier before short e h g = absurd (omega (arith, e))
outcomes-told plan run p n (item ∷ items) [] earlier before short e h g = absurd (omega (arith, e))
outcomes-told plan run p n (item ∷ items) (o ∷ log) earlier before short e h g =
    let b = bucket_of plan.buckets item.key in
    let journal = journal_at run.journals b in
    let packet : Handled = record { n = n; at = item.at; key = item.key; outcome = o } in (
      outcome-told plan run p n item (number_at plan.params plan.host journal item.key (own_length plan run.marks b item.at)) (known_number plan.params plan.host journal item.key before) (next_length plan run.marks b item.at) o (there run.journals b short) h.0 g.0,
      outcomes-told plan run p (n + 1) items log (earlier ++ packet ∷ []) (before ++ packet ∷ []) short (omega (arith, e)) h.1 g.1,
    )

senders-told : (plan : Plan) (run : Run) (p : ℕ) (senders : List (List SendItem)) (logs : List (List Outcome)) → AllByRecursion IsShort run.journals
    → EachSender (λ p items log. length log ≡ length items) p senders logs
    → EachSender (λ p items log. each_packet (λ earlier packet. HasItsPlace plan run.journals p packet packet.outcome) [] (handled 1 items log)) p senders logs
    → EachSender (λ p items log. each_packet (λ earlier packet. HasReadInBounds plan run earlier packet) [] (handled 1 items log)) p senders logs
    → AreToldLogs plan run.journals p senders logs
senders-told plan run p [] [] short e h g = tt
senders-told plan run p [] (log ∷ logs) short e h g = absurd h
senders-told plan run p (items ∷ senders) [] short e h g = absurd h
senders-told plan run p (items ∷ senders) (log ∷ logs) short e h g = (outcomes-told plan run p 1 items log [] [] short e.0 h.0 g.0, senders-told plan run (p + 1) senders logs short e.1 h.1 g.1)

-- ---- marks

-- lengths never fall, so none is above the last
below-last : (b n m : ℕ) (marks : List Mark) → RisesFrom m (map (length_at b) marks) → slice_index_or (last_lengths marks) b 0 ≤ n → AllByRecursion (λ (mark : Mark). length_at b mark ≤ n) marks
below-last b n m [] rises last = tt
below-last b n m (mark ∷ []) rises last = (last, tt)
below-last b n m (mark ∷ next ∷ marks) rises last =
    let rest = below-last b n (length_at b mark) (next ∷ marks) rises.1 last in
    let first = rest.0 in
    let le = rises.1.0 in
    (omega (arith, first, le), rest)

journal-length : (js : List (List Line)) (b : ℕ) → AllByRecursion IsShort js → slice_index_or (map length js) b 0 ≤ 2 ^ 32
journal-length [] b h = omega arith
journal-length (j ∷ js) zero h = let lt = h.0 in omega (arith, lt)
journal-length (j ∷ js) (suc b) h = journal-length js b h.1

each-small : (n : ℕ) (xs : List ℕ) → n ≤ 2 ^ 32 → ((b : ℕ) → slice_index_or xs b 0 ≤ n) → AllByRecursion Small xs
each-small n [] few h = tt
each-small n (x ∷ xs) few h = let le = h 0 in (omega (arith, few, le), each-small n xs few (λ b. h (suc b)))

all-map : {A : Type 0} (P Q : A → Type 0) (xs : List A) → ((x : A) → P x → Q x) → AllByRecursion P xs → AllByRecursion Q xs
all-map P Q [] h all = tt
all-map P Q (x ∷ xs) h all = (h x all.0, all-map P Q xs h all.1)

all-each : {A : Type 0} (P : ℕ → A → Type 0) (xs : List A) → ((b : ℕ) → AllByRecursion (P b) xs) → AllByRecursion (λ x. (b : ℕ) → P b x) xs
all-each P [] h = tt
all-each P (x ∷ xs) h = ((λ b. (h b).0), all-each P xs (λ b. (h b).1))

lengths-small : (js : List (List Line)) (marks : List Mark) → AllByRecursion IsShort js → ((b : ℕ) → RisesFrom 0 (map (length_at b) marks)) → last_lengths marks ≡ map length js → AllByRecursion (λ (mark : Mark). AllByRecursion Small mark.lengths) marks
lengths-small js marks short rises last =
    all-map (λ (mark : Mark). (b : ℕ) → length_at b mark ≤ 2 ^ 32) (λ (mark : Mark). AllByRecursion Small mark.lengths) marks (λ mark h. each-small (2 ^ 32) mark.lengths (omega arith) h)
    (all-each (λ (b : ℕ) (mark : Mark). length_at b mark ≤ 2 ^ 32) marks (λ b. below-last b (2 ^ 32) 0 marks (rises b) (subst (λ xs. slice_index_or xs b 0 ≤ 2 ^ 32) (sym last) (journal-length js b short))))

-- ---- the run

pub threaded_told : ThreadedRunsAreTold
threaded_told plan run limits h = record {
  mode_is = h.mode;
  plan = h.plan;
  buckets = h.buckets;
  journals = journals-told plan run run.journals (last_of (mark_starts plan)) 0 run.journals limits h.buckets (omega arith) (λ j one e first. subst (λ js. HaveOneOrder (map (counts_of plan.params) js)) e h.order) (last-is run.marks (mark_starts plan) h.marks.starts_are) h.lawful h.lines;
  logs = λ few. senders-told plan run 1 plan.senders run.logs few h.logs h.places h.bounds;
  host_lines = h.host_lines;
  marks = h.marks.starts_are;
  lengths = λ few. lengths-small run.journals run.marks few h.marks.rises h.marks.last;
}
