-- What was gathered is evidence.
use Rattle.std.proofs.Common.{◌≡◌, ℕ, suc, ◌+◌, ◌*◌, ◌<◌, List, [], ◌∷◌, ◌++◌, map, length, refl, ◌∙◌, ap, arith, append-nil, subst, sym}
use Rattle.std.specs.List.{AllByRecursion}
use Rattle.std.specs.Prelude.{Option, Some, None, slice_index_or}
use Rattle.std.proofs.lemmas.Grind.{flat_map-append}
use Rattle.nb_base.specs.declared.host_line.Mark.{Mark}
use Rattle.nb_base.specs.declared.plan.Plan.{Plan}
use Rattle.nb_base.specs.declared.plan.SendItem.{SendItem}
use Rattle.run_evidence.specs.Tokens.{Shown, Call}
use Rattle.run_evidence.specs.Stamps.{StampHistory, IsStampHistory, IsOpening, marks_in, AreStampHistories, IsBucketEvidence}
use Rattle.neigh_run.specs.Control.{HostState, host_start, turn, state_behind}
use Rattle.run_evidence.specs.Evidence.{Window, ParticipantRun, ControlDone, PacketDone, control_calls, sender_calls, stamp_window_at, history_at, Evidence, bucket_at, column, AreSenderRuns, IsEvidence, all_done_items, AreControlDone}
use Rattle.run_evidence.specs.Laws.{ShowsRun}
use Rattle.run_evidence.specs.Closing.{lengths_opened, OneMoreControlWindow, MarksGoOnOf, MarksGoOn, IsLedThrough, lengths_told, lengths_marked, HasMarks, IsOpened, AreSendersLed, IsGathered, GatheredIsARun}
use Rattle.run_evidence.proofs.Lists.{all_append}
use Rattle.run_evidence.proofs.Gathered.{histories_of}

-- ---- the loops

items_then : (plan : Plan) (s : HostState) (n : ℕ) (xs ys : List ControlDone) → AreControlDone plan s n xs → AreControlDone plan (state_behind plan s n (map (λ (done_item : ControlDone). done_item.item) xs)) (n + length xs) ys → AreControlDone plan s n (xs ++ ys)
items_then plan s n [] ys h g = subst (λ m. AreControlDone plan s m ys) (plus n) g where
  plus : (n : ℕ) → n + 0 ≡ n
  plus n = omega arith
items_then plan s n (x ∷ xs) ys h g =
    (h.0, items_then plan (turn plan s n x.item).behind (n + 1) xs ys h.1 (subst (λ m. AreControlDone plan (state_behind plan (turn plan s n x.item).behind (n + 1) (map (λ (done_item : ControlDone). done_item.item) xs)) m ys) (plus n (length xs)) g)) where
      plus : (n k : ℕ) → n + suc k ≡ n + 1 + k
      plus n k = omega arith

pub one_more_control_window : OneMoreControlWindow
one_more_control_window plan windows window now h opened items = record {
  done = subst (AreControlDone plan host_start 1) (sym all) (items_then plan host_start 1 (all_done_items windows) window.done_items h.done items.done);
  opened = all_append (IsOpened plan) windows (window ∷ []) h.opened (opened, tt);
} where
  all : all_done_items (windows ++ window ∷ []) ≡ all_done_items windows ++ window.done_items
  all = flat_map-append (λ (w : Window ControlDone). w.done_items) windows (window ∷ []) ∙ ap (λ (ds : List ControlDone). all_done_items windows ++ ds) (append-nil window.done_items)

lengths_more : {D : Type 0} (plan : Plan) (windows : List (Window D)) (window : Window D) → lengths_opened plan (windows ++ window ∷ []) ≡ lengths_opened plan windows ++ (Some (window.number * plan.window), window.marked) ∷ []
lengths_more plan [] window = refl
lengths_more plan (w ∷ ws) window = ap (λ (ms : List (Option ℕ × List ℕ)). (Some (w.number * plan.window), w.marked) ∷ ms) (lengths_more plan ws window)

marked_more : (marks : List Mark) (mark : Mark) → lengths_marked (marks ++ mark ∷ []) ≡ lengths_marked marks ++ (mark.start, mark.lengths) ∷ []
marked_more [] mark = refl
marked_more (m ∷ ms) mark = ap (λ (xs : List (Option ℕ × List ℕ)). (m.start, m.lengths) ∷ xs) (marked_more ms mark)

marks_go_on_of : {D : Type 0} → MarksGoOnOf D
marks_go_on_of = record {
  more = λ plan windows window marks h. lengths_more plan windows window ∙ ap (λ (xs : List (Option ℕ × List ℕ)). xs ++ (Some (window.number * plan.window), window.marked) ∷ []) h ∙ sym (marked_more marks (record { start = Some (window.number * plan.window); lengths = window.marked }));
  last = λ plan own marks h. ap (λ (xs : List (Option ℕ × List ℕ)). xs ++ (None, own.ended) ∷ []) h ∙ sym (marked_more marks (record { start = None; lengths = own.ended }));
}

pub marks_go_on : MarksGoOn
marks_go_on = record { control = marks_go_on_of; sender = marks_go_on_of }

-- ---- marks, as one bucket sees them

abbrev pair_at : ℕ → Option ℕ × List ℕ → Option ℕ × ℕ
pair_at b m = (m.0, slice_index_or m.1 b 0)

told_in : {D : Type 0} (calls : D → List Call) (plan : Plan) (b : ℕ) (ended : List ℕ) (after : List Shown) (windows : List (Window D))
    → (let own : ParticipantRun D = record { windows = windows; ended = ended; after = after } in marks_in plan (history_at calls b own) ≡ map (pair_at b) (lengths_told plan own))
told_in calls plan b ended after [] = refl
told_in calls plan b ended after (w ∷ ws) = ap (λ (ms : List (Option ℕ × ℕ)). (Some (w.number * plan.window), slice_index_or w.marked b 0) ∷ ms) (told_in calls plan b ended after ws)

columns : (b : ℕ) (marks : List Mark) → map (pair_at b) (lengths_marked marks) ≡ column b marks
columns b [] = refl
columns b (mark ∷ marks) = ap (λ (ms : List (Option ℕ × ℕ)). pair_at b (mark.start, mark.lengths) ∷ ms) (columns b marks)

marks_at : {D : Type 0} (calls : D → List Call) (plan : Plan) (b : ℕ) (marks : List Mark) (own : ParticipantRun D) → HasMarks plan marks own → marks_in plan (history_at calls b own) ≡ column b marks
marks_at calls plan b marks own h = told_in calls plan b own.ended own.after own.windows ∙ ap (map (pair_at b)) h ∙ columns b marks

-- ---- histories

history_is : {D : Type 0} (calls : D → List Call) (p b : ℕ) (plan : Plan) (own : ParticipantRun D) → b < plan.buckets → IsLedThrough calls p plan own → IsStampHistory p plan (history_at calls b own)
history_is calls p b plan own lt h = histories_of calls p plan own h.now h.windows h.ended b lt

openings : (plan : Plan) (b : ℕ) (windows : List (Window ControlDone)) → b < plan.buckets → AllByRecursion (IsOpened plan) windows → AllByRecursion (IsOpening plan) (map (stamp_window_at control_calls b) windows)
openings plan b [] lt h = tt
openings plan b (w ∷ ws) lt h = (h.0 b lt, openings plan b ws lt h.1)

senders_many : (plan : Plan) (e : Evidence) (b p : ℕ) (lists : List (List SendItem)) (owns : List (ParticipantRun PacketDone)) → AreSendersLed plan e p lists owns → length (map (history_at sender_calls b) owns) ≡ length lists
senders_many plan e b p [] [] h = refl
senders_many plan e b p [] (own ∷ owns) h = absurd h
senders_many plan e b p (items ∷ lists) [] h = absurd h
senders_many plan e b p (items ∷ lists) (own ∷ owns) h = ap suc (senders_many plan e b (p + 1) lists owns h.1)

senders_histories : (plan : Plan) (e : Evidence) (b p : ℕ) (lists : List (List SendItem)) (owns : List (ParticipantRun PacketDone)) → b < plan.buckets → AreSendersLed plan e p lists owns
    → AreStampHistories plan (slice_index_or e.journals b []) (slice_index_or e.turns b []) p (map (history_at sender_calls b) owns)
senders_histories plan e b p [] [] lt h = tt
senders_histories plan e b p [] (own ∷ owns) lt h = absurd h
senders_histories plan e b p (items ∷ lists) [] lt h = absurd h
senders_histories plan e b p (items ∷ lists) (own ∷ owns) lt h = ((history_is sender_calls p b plan own lt h.0.0.led, h.0.1 b lt), senders_histories plan e b (p + 1) lists owns lt h.1)

senders_marks : (plan : Plan) (e : Evidence) (b p : ℕ) (lists : List (List SendItem)) (owns : List (ParticipantRun PacketDone)) → AreSendersLed plan e p lists owns
    → AllByRecursion (λ (history : StampHistory). marks_in plan history ≡ column b e.marks) (map (history_at sender_calls b) owns)
senders_marks plan e b p [] [] h = tt
senders_marks plan e b p [] (own ∷ owns) h = absurd h
senders_marks plan e b p (items ∷ lists) [] h = absurd h
senders_marks plan e b p (items ∷ lists) (own ∷ owns) h = (marks_at sender_calls plan b e.marks own h.0.0.told, senders_marks plan e b (p + 1) lists owns h.1)

bucket_evidence : (plan : Plan) (e : Evidence) (b : ℕ) → b < plan.buckets → IsGathered plan e → IsBucketEvidence plan (column b e.marks) (bucket_at b e)
bucket_evidence plan e b lt h = record {
  participants = let many = senders_many plan e b 1 plan.senders e.senders h.senders in omega (arith, many);
  histories = ((history_is control_calls 0 b plan e.control lt h.control.led, h.control_tokens b lt), senders_histories plan e b 1 plan.senders e.senders lt h.senders);
  opens = openings plan b e.control.windows lt h.control.opened;
  marks = (marks_at control_calls plan b e.marks e.control h.control.told, senders_marks plan e b 1 plan.senders e.senders h.senders);
  whole = h.whole b lt;
}

-- ---- participants

sender_runs : (plan : Plan) (e : Evidence) (p : ℕ) (lists : List (List SendItem)) (owns : List (ParticipantRun PacketDone)) → AreSendersLed plan e p lists owns → AreSenderRuns plan e.journals p lists owns
sender_runs plan e p [] [] h = tt
sender_runs plan e p [] (own ∷ owns) h = absurd h
sender_runs plan e p (items ∷ lists) [] h = absurd h
sender_runs plan e p (items ∷ lists) (own ∷ owns) h = (
  record { items = h.0.0.items_are; windows = h.0.0.sender.in_window; done = h.0.0.sender.done; holds = h.0.0.sender.held; known = h.0.2 },
  sender_runs plan e (p + 1) lists owns h.1,
)

gathered_is_evidence : (plan : Plan) (e : Evidence) → IsGathered plan e → IsEvidence plan e
gathered_is_evidence plan e h = record {
  buckets = h.buckets;
  starts = h.starts;
  lengths = h.lengths;
  each_bucket = λ b lt. bucket_evidence plan e b lt h;
  counted = h.counted;
  counts = h.counts;
  control = h.control.run;
  senders = sender_runs plan e 1 plan.senders e.senders h.senders;
}

pub gathered_is_a_run : ShowsRun → GatheredIsARun
gathered_is_a_run shows plan e window some h = shows plan e window some (gathered_is_evidence plan e h)
