-- Each packet of an inline run has one fate: the journal of its bucket sends it once.
use Rattle.std.proofs.Common.{◌≡◌, ℕ, zero, suc, ◌+◌, ◌<◌, ◌≤◌, Bool, true, false, ◌&&◌, ◌==◌, if◌then◌else◌, List, [], ◌∷◌, ◌++◌, length, map, refl, sym, ◌∙◌, ap, subst, arith, append_assoc}
use Rattle.std.specs.Prelude.{filter, slice_index_or}
use Rattle.std.specs.List.{flat_map, AllByRecursion}
use Rattle.std.proofs.lemmas.Bool.{false≢true, eqb-true, eq-eqb}
use Rattle.std.proofs.lemmas.List.Elements.{filter-append}
use Rattle.nb_base.specs.declared.key.Key.{Key}
use Rattle.nb_base.specs.declared.key.Key.TheVariants.{V4, V6}
use Rattle.nb_base.specs.declared.time.OpId.{OpId}
use Rattle.nb_base.specs.declared.op.Op.{Op}
use Rattle.nb_base.specs.declared.op.Op.TheVariants as op
use Rattle.nb_base.specs.declared.line.Line.{Line}
use Rattle.nb_base.specs.declared.outcome.Outcome.{Outcome}
use Rattle.nb_base.specs.declared.outcome.Outcome.TheVariants as outcome
use Rattle.nb_base.specs.declared.plan.Plan.{Plan}
use Rattle.nb_base.specs.declared.plan.SendItem.{SendItem}
use Rattle.nb_base.specs.Buckets.{bucket_of}
use Rattle.nb_journal.specs.Keys.{is_own, is_send}
use Rattle.nb_journal.specs.Fold.{id_of}
use Rattle.nb_journal.specs.Lawful.{last_moment}
use Rattle.nb_journal.specs.Accounts.{Fate, is_id, sends_packet, times_sent, fates_of, own_lines}
use Rattle.nb_journal.proofs.Fates.{one_fate_each}
use Rattle.neigh_run.specs.declared.run.Run.{Run}
use Rattle.neigh_run.specs.Control.{host_start}
use Rattle.neigh_run.specs.Merged.{Entered, control_ops, sender_ops, senders_ops, merged, merged_for, goes_to}
use Rattle.neigh_run.specs.Inline.{entered_line, IsInlineJournal, AreInlineJournals, IsInlineRun, journal_at}
use Rattle.neigh_run.specs.Report.{is_fast}
use Rattle.neigh_run.specs.Fates.{PacketFate, By, bucket_for, journal_fates, fates_with, packet_fates, HasOneFateEach}
use Rattle.neigh_run.proofs.Counting.{Each, each_append, count, count_append, count_all}
use Rattle.neigh_run.proofs.Numbers.{has_id, each_id_once}
use Rattle.neigh_run.proofs.InlineFates.{logs-slow}

-- ---- a journal

-- an operation sends the packet of this id
abbrev pub sends_by : OpId → OpId → Op → Bool
sends_by id own (op.Send key len) = is_id id own
sends_by id own _ = false

abbrev pub sends_it : OpId → Entered → Bool
sends_it id x = sends_by id x.id x.op

line_sends : (id : OpId) (l : Line) (o : Op) → sends_packet id l o ≡ sends_by id (id_of l) o
line_sends id l (op.Send key len) = refl
line_sends id l _ = refl

sends_own : (id own : OpId) (o : Op) → sends_by id own o ≡ true → is_own o ≡ true
sends_own id own (op.Send key len) e = refl
sends_own id own _ e = cc

times_entered : (id : OpId) (journal : List Line) → times_sent journal id ≡ count (sends_it id) (map entered_line (own_lines journal))
times_entered id [] = refl
times_entered id (l ∷ ls) = by_test (sends_packet id l l.op) (is_own l.op) (line_sends id l l.op) (sends_own id (id_of l) l.op) (times_entered id ls) where
  by_test : (s o : Bool) → s ≡ sends_it id (entered_line l) → (sends_it id (entered_line l) ≡ true → o ≡ true) → times_sent ls id ≡ count (sends_it id) (map entered_line (own_lines ls))
      → length (if s then l ∷ filter (λ line. sends_packet id line line.op) ls else filter (λ line. sends_packet id line line.op) ls) ≡ count (sends_it id) (map entered_line (if o then l ∷ own_lines ls else own_lines ls))
  by_test true true e own rest = rw (← e) (ap suc rest)
  by_test true false e own rest = absurd (false≢true (own (sym e)))
  by_test false true e own rest = rw (← e) rest
  by_test false false e own rest = rest

-- ---- its operations

count_both : (g t : Entered → Bool) (xs : List Entered) → count t (filter g xs) ≡ count (λ x. g x && t x) xs
count_both g t [] = refl
count_both g t (x ∷ xs) = by_test (g x) (count_both g t xs) where
  by_test : (b : Bool) → count t (filter g xs) ≡ count (λ y. g y && t y) xs → count t (if b then x ∷ filter g xs else filter g xs) ≡ length (if b && t x then x ∷ filter (λ y. g y && t y) xs else filter (λ y. g y && t y) xs)
  by_test true rest = by_sent (t x) where
    by_sent : (b : Bool) → length (if b then x ∷ filter t (filter g xs) else filter t (filter g xs)) ≡ length (if b then x ∷ filter (λ y. g y && t y) xs else filter (λ y. g y && t y) xs)
    by_sent true = ap suc rest
    by_sent false = rest
  by_test false rest = rest

count_less : (t s : Entered → Bool) (xs : List Entered) → ((x : Entered) → t x ≡ true → s x ≡ true) → count t xs ≤ count s xs
count_less t s [] h = omega arith
count_less t s (x ∷ xs) h = by_test (t x) (s x) (h x) (count_less t s xs h) where
  by_test : (b c : Bool) → (b ≡ true → c ≡ true) → count t xs ≤ count s xs → length (if b then x ∷ filter t xs else filter t xs) ≤ length (if c then x ∷ filter s xs else filter s xs)
  by_test true true h rest = omega (arith, rest)
  by_test true false h rest = absurd (false≢true (h refl))
  by_test false true h rest = omega (arith, rest)
  by_test false false h rest = rest

count_here : (t : Entered → Bool) (x : Entered) (xs : List Entered) → t x ≡ true → 1 ≤ count t (x ∷ xs)
count_here t x xs e = rw e (omega arith)

both_true : (b c : Bool) → (b && c) ≡ true → c ≡ true
both_true true c e = e
both_true false c e = cc

same_id : (id own : OpId) (o : Op) → sends_by id own o ≡ true → (own.0 == id.0) ≡ true
same_id id own (op.Send key len) e = eq-eqb own.0 id.0 (sym (eqb-true id.0 own.0 e))
same_id id own _ e = cc

-- the packet is one of the plan's
abbrev IsPacket : Plan → Entered → Type 0
IsPacket plan x = (before behind : List Entered) × (senders_ops 1 plan.senders ≡ before ++ x ∷ behind)

-- of the operations in merged order at most one has an id
at_most_once : (plan : Plan) (id : OpId) → length plan.senders ≤ 16 → count (has_id id) (merged plan) ≤ 1
at_most_once plan id few =
    let all = count_all (has_id id) [] (control_ops plan host_start 1 plan.control ++ senders_ops 1 plan.senders) in
    let once = each_id_once plan host_start plan.control plan.senders id few in
    omega (arith, all, once)

-- those of a bucket that send a packet, which goes to this bucket
bucket_once : (plan : Plan) (x : Entered) (b : ℕ) → length plan.senders ≤ 16 → IsPacket plan x → sends_it x.id x ≡ true → goes_to plan.buckets b x.op ≡ true → count (sends_it x.id) (merged_for plan b) ≡ 1
bucket_once plan x b few is sends goes =
    let whole = senders_ops 1 plan.senders in
    let test : Entered → Bool = λ y. goes_to plan.buckets b y.op && sends_it x.id y in
    let both : count (sends_it x.id) (merged_for plan b) ≡ count test (merged plan) = count_both (λ y. goes_to plan.buckets b y.op) (sends_it x.id) (merged plan) in
    let all : count test (merged plan) ≡ 0 + count test (control_ops plan host_start 1 plan.control ++ whole) = count_all test [] (control_ops plan host_start 1 plan.control ++ whole) in
    let parts = count_append test (control_ops plan host_start 1 plan.control) whole in
    let cut : count test whole ≡ count test is.0 + count test (x ∷ is.1) = ap (count test) is.2 ∙ count_append test is.0 (x ∷ is.1) in
    let here : 1 ≤ count test (x ∷ is.1) = count_here test x is.1 (rw (goes, sends) refl) in
    let less : count test (merged plan) ≤ count (has_id x.id) (merged plan) = count_less test (has_id x.id) (merged plan) (λ y e. same_id x.id y.id y.op (both_true (goes_to plan.buckets b y.op) (sends_it x.id y) e)) in
    let once = at_most_once plan x.id few in
    omega (arith, both, all, parts, cut, here, less, once)

-- ---- the journals of a run

pub inline_at : (plan : Plan) (all : List (List Line)) (b : ℕ) (journals : List (List Line)) (k : ℕ) → k < length journals → AreInlineJournals plan all b journals → IsInlineJournal plan all (b + k) (slice_index_or journals k [])
inline_at plan all b [] k lt h = absurd (omega (arith, lt))
inline_at plan all b (j ∷ js) zero lt h = let same : b ≡ b + 0 = omega arith in subst (λ (n : ℕ). IsInlineJournal plan all n j) same h.0
inline_at plan all b (j ∷ js) (suc k) lt h =
    let same : b + 1 + k ≡ b + suc k = omega arith in
    subst (λ (n : ℕ). IsInlineJournal plan all n (slice_index_or js k [])) same (inline_at plan all (b + 1) js k (omega (arith, lt)) h.1)

small_bucket : (buckets : ℕ) (key : Key) → 0 < buckets → bucket_of buckets key < buckets
small_bucket buckets (V4 address) some = omega arith
small_bucket buckets (V6 address) some = omega arith

is_id_same : (id : OpId) → is_id id id ≡ true
is_id_same id = eq-eqb id.0 id.0 refl

-- an operation that sends goes to its key's bucket, which is one of the buckets
pub packet_goes : (plan : Plan) (id : OpId) (o : Op) → 0 < plan.buckets → is_send o ≡ true
    → (sends_by id id o ≡ true) × (goes_to plan.buckets (bucket_for plan.buckets o) o ≡ true) × (bucket_for plan.buckets o < plan.buckets)
packet_goes plan id (op.Send key len) some e = (is_id_same id, eq-eqb (bucket_of plan.buckets key) (bucket_of plan.buckets key) refl, small_bucket plan.buckets key some)
packet_goes plan id _ some e = absurd cc

-- ---- one fate

one_in_journal : (plan : Plan) (run : Run) (x : Entered) → 0 < plan.buckets → length plan.senders ≤ 16 → IsInlineRun plan run → IsPacket plan x → is_send x.op ≡ true
    → (fate : Fate) × (fates_of plan.params (journal_at run.journals (bucket_for plan.buckets x.op)) x.id ≡ fate ∷ [])
one_in_journal plan run x some few h is send =
    let b = bucket_for plan.buckets x.op in
    let goes = packet_goes plan x.id x.op some send in
    let long = h.buckets in
    let lt : b < length run.journals = (let small = goes.2 in omega (arith, small, long)) in
    let journal : IsInlineJournal plan run.journals b (journal_at run.journals b) = (let first : 0 + b ≡ b = omega arith in subst (λ (n : ℕ). IsInlineJournal plan run.journals n (journal_at run.journals b)) first (inline_at plan run.journals 0 run.journals b lt h.journals)) in
    let times : times_sent (journal_at run.journals b) x.id ≡ 1 =
    times_entered x.id (journal_at run.journals b) ∙ (ap (count (sends_it x.id)) journal.entered ∙ bucket_once plan x b few is goes.0 goes.1) in
    one_fate_each plan.params (journal_at run.journals b) (last_moment (journal_at run.journals b)) x.id journal.lawful times

-- what the run says of a packet
abbrev IsOne : List PacketFate → Type 0
IsOne fates = (fate : PacketFate) × (fates ≡ fate ∷ [])

one_fate : (plan : Plan) (run : Run) (x : Entered) → 0 < plan.buckets → length plan.senders ≤ 16 → IsInlineRun plan run → IsPacket plan x → is_send x.op ≡ true → IsOne (journal_fates run x)
one_fate plan run x some few h is send =
    let one = one_in_journal plan run x some few h is send in
    (By one.0, ap (λ (whole : Plan). map By (fates_of whole.params (journal_at run.journals (bucket_for whole.buckets x.op)) x.id)) h.plan ∙ ap (map By) one.1)

each_one : (plan : Plan) (run : Run) (before xs : List Entered) → 0 < plan.buckets → length plan.senders ≤ 16 → IsInlineRun plan run → senders_ops 1 plan.senders ≡ before ++ xs → Each (λ x. is_send x.op ≡ true) xs
    → AllByRecursion IsOne (map (journal_fates run) xs)
each_one plan run before [] some few h cut sends = tt
each_one plan run before (x ∷ xs) some few h cut sends = (
  one_fate plan run x some few h (before, xs, cut) sends.0,
  each_one plan run (before ++ x ∷ []) xs some few h (cut ∙ sym (append_assoc before (x ∷ []) xs)) sends.1,
)

-- ---- all packets

sender_sends : (p n : ℕ) (items : List SendItem) → Each (λ x. is_send x.op ≡ true) (sender_ops p n items)
sender_sends p n [] = tt
sender_sends p n (item ∷ items) = (refl, sender_sends p (n + 1) items)

pub senders_send : (p : ℕ) (senders : List (List SendItem)) → Each (λ x. is_send x.op ≡ true) (senders_ops p senders)
senders_send p [] = tt
senders_send p (items ∷ senders) = each_append (λ x. is_send x.op ≡ true) (sender_ops p 1 items) (senders_ops (p + 1) senders) (sender_sends p 1 items) (senders_send (p + 1) senders)

filter_joined : (test : Outcome → Bool) (logs : List (List Outcome)) → filter test (flat_map (λ log. log) logs) ≡ flat_map (filter test) logs
filter_joined test [] = refl
filter_joined test (log ∷ logs) = filter-append test log (flat_map (λ other. other) logs) ∙ ap (λ (more : List Outcome). filter test log ++ more) (filter_joined test logs)

-- no outcome of an inline run is fast
pub none_fast : (plan : Plan) (run : Run) → IsInlineRun plan run → filter is_fast (flat_map (λ log. log) run.logs) ≡ []
none_fast plan run h = filter_joined is_fast run.logs ∙ (ap (flat_map (filter is_fast)) h.logs ∙ logs-slow plan run.journals 1 plan.senders)

slow_fates : (run : Run) (xs : List Entered) (outcomes : List Outcome) → filter is_fast outcomes ≡ [] → fates_with run xs outcomes ≡ map (journal_fates run) xs
slow_fates run [] outcomes e = refl
slow_fates run (x ∷ xs) [] e = ap (λ (more : List (List PacketFate)). journal_fates run x ∷ more) (slow_fates run xs [] refl)
slow_fates run (x ∷ xs) (outcome.Slow why place r ∷ outcomes) e = ap (λ (more : List (List PacketFate)). journal_fates run x ∷ more) (slow_fates run xs outcomes e)
slow_fates run (x ∷ xs) (outcome.Fast number header ∷ outcomes) e = absurd cc

-- all that an inline run says of its packets is what its journals say
pub inline_packet_fates : (plan : Plan) (run : Run) → IsInlineRun plan run → packet_fates run ≡ map (journal_fates run) (senders_ops 1 plan.senders)
unfolding packet_fates
inline_packet_fates plan run h =
    slow_fates run (senders_ops 1 run.plan.senders) (flat_map (λ log. log) run.logs) (none_fast plan run h)
    ∙ ap (λ (whole : Plan). map (journal_fates run) (senders_ops 1 whole.senders)) h.plan

pub one_fate_for_each : (plan : Plan) (run : Run) → 0 < plan.buckets → length plan.senders ≤ 16 → IsInlineRun plan run → HasOneFateEach run
one_fate_for_each plan run some few h = subst (AllByRecursion IsOne) (sym (inline_packet_fates plan run h)) (each_one plan run [] (senders_ops 1 plan.senders) some few h refl (senders_send 1 plan.senders))
