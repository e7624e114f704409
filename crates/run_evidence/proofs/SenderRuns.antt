-- What each sender did, one by one; and the places of their packets.
use Rattle.std.proofs.Common.{◌≡◌, ℕ, ◌+◌, ◌*◌, ◌<◌, ◌≤◌, Bool, true, false, if◌then◌else◌, List, [], ◌∷◌, ◌++◌, length, refl, sym, ◌∙◌, ap, subst, append_assoc, append-nil, arith, eq-eqb}
use Rattle.std.specs.List.{AllByRecursion}
use Rattle.std.specs.Prelude.{map, flat_map, ◌==◌}
use Rattle.std.proofs.lemmas.List.{length-map}
use Rattle.std.proofs.lemmas.Grind.{flat_map-append}
use Rattle.nb_base.specs.declared.key.Key.{Key}
use Rattle.nb_base.specs.declared.key.Key.TheVariants.{V4, V6}
use Rattle.nb_base.specs.declared.time.OpId.{OpId}
use Rattle.nb_base.specs.declared.outcome.Outcome.{Outcome}
use Rattle.nb_base.specs.declared.outcome.Outcome.TheVariants as outcome
use Rattle.nb_base.specs.declared.plan.Plan.{Plan}
use Rattle.nb_base.specs.declared.plan.SendItem.{SendItem}
use Rattle.nb_base.specs.Buckets.{bucket_of}
use Rattle.neigh_run.specs.Merged.{Entered, id_for}
use Rattle.neigh_run.specs.Inline.{placed_at}
use Rattle.neigh_run.specs.Bounds.{Handled}
use Rattle.neigh_run.specs.Threaded.{EachSender, handled, each_packet, HasItsPlace}
use Rattle.run_evidence.specs.Tokens.{Call, IsGivenUp}
use Rattle.run_evidence.specs.Stamps.{StampHistory, IsStampHistory, marks_in, AreStampHistories}
use Rattle.run_evidence.specs.Evidence.{ParticipantRun, PacketDone, sender_calls, all_done_items, in_bucket, shown_at, history_at, Evidence, bucket_at, column, run_of, IsPacketDone, ArePacketsDone, IsSenderRun, AreSenderRuns, IsEvidence}
use Rattle.run_evidence.specs.Laws.{ShowsPlaces, ShowsLogs}
use Rattle.run_evidence.proofs.Lists.{all_map, all_append}
use Rattle.run_evidence.proofs.Projected.{in_bucket-append, calls_at}
use Rattle.run_evidence.proofs.Places.{call_found, placed_there}

-- ---- a sender's own histories

pub record OwnHistories (p : ℕ) (plan : Plan) (e : Evidence) (run : ParticipantRun PacketDone) : Type 0 where
  pub is : (b : ℕ) → b < plan.buckets → IsStampHistory p plan (history_at sender_calls b run)
  pub given : (b : ℕ) → b < plan.buckets → IsGivenUp p (bucket_at b e).journal (bucket_at b e).turns (shown_at b run.after)
  pub marks : (b : ℕ) → b < plan.buckets → marks_in plan (history_at sender_calls b run) ≡ column b e.marks

abbrev pub outcomes : ParticipantRun PacketDone → List Outcome
outcomes run = map (λ (done_item : PacketDone). done_item.outcome) (all_done_items run.windows)

runs_from : (Q : ℕ → List SendItem → List Outcome → Type 0) (plan : Plan) (e : Evidence) (p : ℕ) (lists : List (List SendItem)) (runs : List (ParticipantRun PacketDone))
    → ((b : ℕ) → b < plan.buckets → AreStampHistories plan (bucket_at b e).journal (bucket_at b e).turns p (map (history_at sender_calls b) runs))
    → ((b : ℕ) → b < plan.buckets → AllByRecursion (λ (history : StampHistory). marks_in plan history ≡ column b e.marks) (map (history_at sender_calls b) runs))
    → AreSenderRuns plan e.journals p lists runs
    → ((p : ℕ) (items : List SendItem) (run : ParticipantRun PacketDone) → OwnHistories p plan e run → IsSenderRun plan e.journals p items run → Q p items (outcomes run))
    → EachSender Q p lists (map outcomes runs)
runs_from Q plan e p [] [] histories marks is each = tt
runs_from Q plan e p [] (run ∷ runs) histories marks is each = absurd is
runs_from Q plan e p (items ∷ lists) [] histories marks is each = absurd is
runs_from Q plan e p (items ∷ lists) (run ∷ runs) histories marks is each = (
  each p items run (record { is = λ b lt. (histories b lt).0.0; given = λ b lt. (histories b lt).0.1; marks = λ b lt. (marks b lt).0 }) is.0,
  runs_from Q plan e (p + 1) lists runs (λ b lt. (histories b lt).1) (λ b lt. (marks b lt).1) is.1 each,
)

-- what each sender's run shows
pub each_run : (Q : ℕ → List SendItem → List Outcome → Type 0) (plan : Plan) (e : Evidence) → IsEvidence plan e
    → ((p : ℕ) (items : List SendItem) (run : ParticipantRun PacketDone) → OwnHistories p plan e run → IsSenderRun plan e.journals p items run → Q p items (outcomes run))
    → EachSender Q 1 plan.senders (run_of plan e).logs
each_run Q plan e h each = runs_from Q plan e 1 plan.senders e.senders (λ b lt. (h.each_bucket b lt).histories.1) (λ b lt. (h.each_bucket b lt).marks.1) h.senders each

pub same_length : (run : ParticipantRun PacketDone) (items : List SendItem) → map (λ (done_item : PacketDone). done_item.item) (all_done_items run.windows) ≡ items → length (outcomes run) ≡ length items
same_length run items e = length-map (all_done_items run.windows) (λ (done_item : PacketDone). done_item.outcome) ∙ sym (length-map (all_done_items run.windows) (λ (done_item : PacketDone). done_item.item)) ∙ ap length e

pub bucket_there : (n : ℕ) (key : Key) → 0 < n → bucket_of n key < n
bucket_there n (V4 a) some = omega arith
bucket_there n (V6 a) some = omega arith

-- ---- numbers of earlier calls

abbrev pub AreBelow : ℕ → List Call → Type 0
AreBelow bound calls = AllByRecursion (λ (call : Call). call.entered.id.0 < bound) calls

pub below_less : (m n : ℕ) (calls : List Call) → m ≤ n → AreBelow m calls → AreBelow n calls
below_less m n calls le h = all_map (λ (call : Call). call.entered.id.0 < m) (λ (call : Call). call.entered.id.0 < n) calls (λ call lt. omega (arith, le, lt)) h

pub all_in : (P : Call → Type 0) (b : ℕ) (calls : List Call) → AllByRecursion P calls → AllByRecursion P (in_bucket b calls)
all_in P b [] h = tt
all_in P b (call ∷ calls) h = by_test (call.bucket == b) (all_in P b calls h.1) where
  by_test : (t : Bool) → AllByRecursion P (in_bucket b calls) → AllByRecursion P (if t then call ∷ in_bucket b calls else in_bucket b calls)
  by_test true rest = (h.0, rest)
  by_test false rest = rest

-- calls with lesser numbers aren't this one
pub differ : (b n : ℕ) (calls : List Call) → AreBelow n calls → AllByRecursion (λ (other : Call). other.entered.id.0 ≡ n → ⊥) (in_bucket b calls)
differ b n calls h = all_in (λ (other : Call). other.entered.id.0 ≡ n → ⊥) b calls (all_map (λ (call : Call). call.entered.id.0 < n) (λ (other : Call). other.entered.id.0 ≡ n → ⊥) calls (λ call lt same. omega (arith, lt, same)) h)

pub one_here : (b : ℕ) (call : Call) (calls : List Call) → call.bucket ≡ b → in_bucket b (call ∷ calls) ≡ call ∷ in_bucket b calls
one_here b call calls e = ap (λ (t : Bool). if t then call ∷ in_bucket b calls else in_bucket b calls) (eq-eqb call.bucket b e)

-- ---- 4. a sender's packets

pub run_places : (plan : Plan) (e : Evidence) (p : ℕ) (items : List SendItem) (run : ParticipantRun PacketDone) → 0 < plan.buckets → IsEvidence plan e → OwnHistories p plan e run → IsSenderRun plan e.journals p items run
    → each_packet (λ earlier done. HasItsPlace plan e.journals p done done.outcome) [] (handled 1 items (outcomes run))
run_places plan e p items run some h own is =
    subst (λ (xs : List SendItem). each_packet (λ earlier done. HasItsPlace plan e.journals p done done.outcome) [] (handled 1 xs (outcomes run))) is.items
    (go 1 [] [] (all_done_items run.windows) refl is.done tt) where
      placed : (b n : ℕ) (before after : List PacketDone) (done_item : PacketDone) (call : Call) → b < plan.buckets → all_done_items run.windows ≡ before ++ done_item ∷ after → done_item.calls ≡ call ∷ [] → call.bucket ≡ b → call.entered.id ≡ id_for p n → AreBelow (32 * n + p) (flat_map sender_calls before)
          → placed_at plan e.journals (id_for p n) b ≡ record { bucket = b; place = call.place; reply = call.reply }
      placed b n before after done_item call lt split calls bucket id below =
          let at = calls_at sender_calls b run.windows
          ∙ ap (λ ds. in_bucket b (flat_map sender_calls ds)) split
          ∙ ap (in_bucket b) (flat_map-append sender_calls before (done_item ∷ after))
          ∙ in_bucket-append b (flat_map sender_calls before) (done_item.calls ++ flat_map sender_calls after)
          ∙ ap (λ cs. in_bucket b (flat_map sender_calls before) ++ in_bucket b (cs ++ flat_map sender_calls after)) calls
          ∙ ap (λ cs. in_bucket b (flat_map sender_calls before) ++ cs) (one_here b call (flat_map sender_calls after) bucket) in
          let number = ap (λ (i : OpId). i.0) id in
          let other = subst (λ m. AllByRecursion (λ (other : Call). other.entered.id.0 ≡ m → ⊥) (in_bucket b (flat_map sender_calls before))) (sym number) (differ b (32 * n + p) (flat_map sender_calls before) below) in
          let found = call_found p plan (column b e.marks) (bucket_at b e) (history_at sender_calls b run) call (in_bucket b (flat_map sender_calls before)) (in_bucket b (flat_map sender_calls after)) (h.each_bucket b lt) (own.is b lt) (own.given b lt) at other in
          ap (λ i. placed_at plan e.journals i b) (sym id) ∙ placed_there plan e.journals b call.place call.reply call.entered.id found

      behind : (n : ℕ) (done_item : PacketDone) (o : Outcome) → IsPacketDone plan p n done_item o → AreBelow (32 * (n + 1) + p) done_item.calls
      behind n done_item (outcome.Fast number header) h = subst (AreBelow (32 * (n + 1) + p)) (sym h) tt
      behind n done_item (outcome.Slow why place reply) h = subst (AreBelow (32 * (n + 1) + p)) (sym h.one) (let id = ap (λ (x : Entered). x.id.0) h.entered in omega (arith, id), tt)

      one : (n : ℕ) (before after : List PacketDone) (done_item : PacketDone) (o : Outcome) → all_done_items run.windows ≡ before ++ done_item ∷ after → IsPacketDone plan p n done_item o → AreBelow (32 * n + p) (flat_map sender_calls before)
          → HasItsPlace plan e.journals p (record { n = n; at = done_item.item.at; key = done_item.item.key; outcome = done_item.outcome }) o
      one n before after done_item (outcome.Fast number header) split d below = tt
      one n before after done_item (outcome.Slow why place reply) split d below =
          placed (bucket_of plan.buckets done_item.item.key) n before after done_item d.call (bucket_there plan.buckets done_item.item.key some) split d.one d.bucket (ap (λ (x : Entered). x.id) d.entered) below
          ∙ (λ i. record { bucket = bucket_of plan.buckets done_item.item.key; place = d.place_is i; reply = d.reply_is i })

      go : (n : ℕ) (earlier : List Handled) (before after : List PacketDone) → all_done_items run.windows ≡ before ++ after → ArePacketsDone plan p n after → AreBelow (32 * n + p) (flat_map sender_calls before)
          → each_packet (λ earlier done. HasItsPlace plan e.journals p done done.outcome) earlier (handled n (map (λ (done_item : PacketDone). done_item.item) after) (map (λ (done_item : PacketDone). done_item.outcome) after))
      go n earlier before [] split done below = tt
      go n earlier before (done_item ∷ after) split done below = (
        one n before after done_item done_item.outcome split done.0 below,
        go (n + 1) (earlier ++ record { n = n; at = done_item.item.at; key = done_item.item.key; outcome = done_item.outcome } ∷ []) (before ++ done_item ∷ []) after (split ∙ sym (append_assoc before (done_item ∷ []) after)) done.1
            (subst (AreBelow (32 * (n + 1) + p)) (sym (flat_map-append sender_calls before (done_item ∷ [])))
            (all_append (λ (call : Call). call.entered.id.0 < 32 * (n + 1) + p) (flat_map sender_calls before) (done_item.calls ++ [])
            (below_less (32 * n + p) (32 * (n + 1) + p) (flat_map sender_calls before) (omega arith) below) (subst (AreBelow (32 * (n + 1) + p)) (sym (append-nil done_item.calls)) (behind n done_item done_item.outcome done.0)))),
      )

pub shows_places : ShowsPlaces
shows_places plan e window some h = each_run (λ p items log. each_packet (λ earlier packet. HasItsPlace plan e.journals p packet packet.outcome) [] (handled 1 items log)) plan e h
    (λ p items run own is. run_places plan e p items run some h own is)

pub shows_logs : ShowsLogs
shows_logs plan e window some h = each_run (λ p items log. length log ≡ length items) plan e h (λ p items run own is. same_length run items is.items)
