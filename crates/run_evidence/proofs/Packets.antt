-- Each packet of a sender has its cause, and has read within its bounds.
use Rattle.std.proofs.Common.{◌≡◌, ℕ, suc, ◌+◌, ◌*◌, ◌<◌, ◌≤◌, Bool, true, false, ◌||◌, not, if◌then◌else◌, List, [], ◌∷◌, ◌++◌, length, get_or, refl, sym, ◌∙◌, ap, subst, append_assoc, append-nil, arith, eq-eqb}
use Rattle.std.specs.List.{AllByRecursion}
use Rattle.std.specs.Prelude.{map, flat_map, ◌==◌, Option, Some, None, IfSome}
use Rattle.std.proofs.lemmas.Bool.{false≢true}
use Rattle.nb_base.specs.declared.key.Key.{Key}
use Rattle.nb_base.specs.declared.line.Line.{Line}
use Rattle.nb_base.specs.declared.record.Record.{Record}
use Rattle.nb_base.specs.declared.outcome.Outcome.{Outcome}
use Rattle.nb_base.specs.declared.outcome.Outcome.TheVariants as outcome
use Rattle.nb_base.specs.declared.host_line.Mark.{Mark}
use Rattle.nb_base.specs.declared.plan.Plan.{Plan}
use Rattle.nb_base.specs.declared.plan.SendItem.{SendItem}
use Rattle.nb_base.specs.Buckets.{bucket_of}
use Rattle.nb_journal.specs.Keys.{is_key}
use Rattle.nb_journal.specs.Accounts.{published, last_number}
use Rattle.nb_journal.proofs.Changes.{is_key-same}
use Rattle.nb_journal.proofs.Grows.{is_key-one}
use Rattle.neigh_run.specs.Windows.{window_of, own_length, next_length}
use Rattle.neigh_run.specs.Bounds.{Handled, number_at, known_number, IsBounded, is_first, is_inline}
use Rattle.neigh_run.specs.Threaded.{handled, each_packet, HasItsCause, HasReadInBounds}
use Rattle.run_evidence.specs.Tokens.{Shown, nothing_shown, Begins, Call, IsCall}
use Rattle.run_evidence.specs.Stamps.{StampWindow, AreCalls, AreStampWindows}
use Rattle.run_evidence.specs.Holds.{Hold, AreKnown}
use Rattle.run_evidence.specs.Evidence.{Window, ParticipantRun, PacketDone, sender_calls, all_done_items, in_bucket, shown_at, stamp_window_at, history_at, Evidence, column, run_of, IsPacketDone, ArePacketsDone, past_behind, LeavesBy, PacketsLeaveHold, is_named, WindowsLeaveHold, last_hold, IsSenderRun, IsEvidence}
use Rattle.run_evidence.specs.Laws.{ShowsCauses, ShowsBounds}
use Rattle.run_evidence.proofs.Lists.{begins_self, begins_trans, begins_length}
use Rattle.run_evidence.proofs.Histories.{calls_past, spans_past, call_left, call_place, spans_rise}
use Rattle.run_evidence.proofs.Marks.{pairs_from, first_told, second_told, own_length-told, next_length-told, Climbs, starts_of, marks_of, AreBefore, next_before, first_before, skips, here, first_late}
use Rattle.run_evidence.proofs.Lists.{all_map}
use Rattle.run_evidence.proofs.Numbers.{last_counted, counted_last, counted_all}
use Rattle.run_evidence.proofs.Windows.{history_climbs}
use Rattle.run_evidence.proofs.Reading.{Grows, read_grows, meets_grows, same_grows, known_back, Within, within_back, met_within, is_there, IsUpheld, upheld-nil, upheld-more, upheld-other, upheld-met, IsShownBehind, read_bounded, read_cause, read_upheld}
use Rattle.run_evidence.proofs.SenderRuns.{OwnHistories, outcomes, each_run, bucket_there}

-- ---- packets with what became of them

abbrev done_of : ℕ → PacketDone → Handled
done_of n done_item = record { n = n; at = done_item.item.at; key = done_item.item.key; outcome = done_item.outcome }

abbrev dones : ℕ → List PacketDone → List Handled
dones n [] = []
dones n (done_item ∷ done_items) = done_of n done_item ∷ dones (n + 1) done_items

dones-is : (n : ℕ) (done_items : List PacketDone) → handled n (map (λ (done_item : PacketDone). done_item.item) done_items) (map (λ (done_item : PacketDone). done_item.outcome) done_items) ≡ dones n done_items
dones-is n [] = refl
dones-is n (done_item ∷ done_items) = ap (λ ds. done_of n done_item ∷ ds) (dones-is (n + 1) done_items)

-- what holds of these packets and of those behind them
each_then : (P : List Handled → Handled → Type 0) (earlier xs ys : List Handled) → each_packet P earlier xs → each_packet P (earlier ++ xs) ys → each_packet P earlier (xs ++ ys)
each_then P earlier [] ys h g = subst (λ e. each_packet P e ys) (append-nil earlier) g
each_then P earlier (x ∷ xs) ys h g = (h.0, each_then P (earlier ++ x ∷ []) xs ys h.1 (subst (λ e. each_packet P e ys) (sym (append_assoc earlier (x ∷ []) xs)) g))

dones-append : (n : ℕ) (xs ys : List PacketDone) → dones n (xs ++ ys) ≡ dones n xs ++ dones (n + length xs) ys
dones-append n [] ys = ap (λ m. dones m ys) (plus n) where
  plus : (n : ℕ) → n ≡ n + 0
  plus n = omega arith
dones-append n (x ∷ xs) ys = ap (λ ds. done_of n x ∷ ds) (dones-append (n + 1) xs ys ∙ ap (λ m. dones (n + 1) xs ++ dones m ys) (plus n (length xs))) where
  plus : (n k : ℕ) → n + 1 + k ≡ n + suc k
  plus n k = omega arith

done_items_front : (plan : Plan) (p n : ℕ) (xs ys : List PacketDone) → ArePacketsDone plan p n (xs ++ ys) → ArePacketsDone plan p n xs × ArePacketsDone plan p (n + length xs) ys
done_items_front plan p n [] ys h = (tt, subst (λ m. ArePacketsDone plan p m ys) (plus n) h) where
  plus : (n : ℕ) → n ≡ n + 0
  plus n = omega arith
done_items_front plan p n (x ∷ xs) ys h =
    let rest = done_items_front plan p (n + 1) xs ys h.1 in
    ((h.0, rest.0), subst (λ m. ArePacketsDone plan p m ys) (plus n (length xs)) rest.1) where
      plus : (n k : ℕ) → n + 1 + k ≡ n + suc k
      plus n k = omega arith

-- what holds of the packets to each key holds of all
each_key : (Q : Key → List Handled → Handled → Type 0) (earlier ds : List Handled) → ((key : Key) → each_packet (λ e d. is_key d.key key ≡ true → Q key e d) earlier ds) → each_packet (λ e d. Q d.key e d) earlier ds
each_key Q earlier [] h = tt
each_key Q earlier (d ∷ ds) h = ((h d.key).0 (is_key-same d.key), each_key Q (earlier ++ d ∷ []) ds (λ key. (h key).1))

each_part : (P Q : List Handled → Handled → Type 0) (earlier ds : List Handled) → ((e : List Handled) (d : Handled) → P e d → Q e d) → each_packet P earlier ds → each_packet Q earlier ds
each_part P Q earlier [] f h = tt
each_part P Q earlier (d ∷ ds) f h = (f earlier d h.0, each_part P Q (earlier ++ d ∷ []) ds f h.1)

-- ---- a key's hold through a window

leaves_grows : (plan : Plan) (key : Key) (t : Bool) (h : Option Hold) (done_item : PacketDone) → LeavesBy t plan key h done_item → Grows h (done_item.holds key)
leaves_grows plan key true h done_item l = read_grows plan.params plan.host key (past_behind done_item.calls) h done_item.outcome (done_item.holds key) l
leaves_grows plan key false h done_item l = same_grows h (done_item.holds key) l

packets_known : (plan : Plan) (key : Key) (records : List Record) (h : Option Hold) (done_items : List PacketDone) (past : List Line) (told : ℕ) (named : Bool) (closed : Option Hold) → PacketsLeaveHold plan key h done_items past told named closed → AreKnown records closed → AreKnown records h
packets_known plan key records h [] past told named closed d k = known_back records h closed (meets_grows plan.params plan.host key past told named h closed d) k
packets_known plan key records h (done_item ∷ done_items) past told named closed d k =
    known_back records h (done_item.holds key) (leaves_grows plan key (is_key done_item.item.key key) h done_item d.0) (packets_known plan key records (done_item.holds key) done_items past told named closed d.1 k)

packets_within : (plan : Plan) (key : Key) (hi : ℕ) (h : Option Hold) (done_items : List PacketDone) (past : List Line) (told : ℕ) (closed : Option Hold) → PacketsLeaveHold plan key h done_items past told true closed → last_number plan.params plan.host past key ≤ hi → Within hi h
packets_within plan key hi h [] past told closed d le = met_within plan.params plan.host key past told hi h closed d le
packets_within plan key hi h (done_item ∷ done_items) past told closed d le =
    within_back hi h (done_item.holds key) (leaves_grows plan key (is_key done_item.item.key key) h done_item d.0) (packets_within plan key hi (done_item.holds key) done_items past told closed d.1 le)

windows_known : (plan : Plan) (key : Key) (records : List Record) (h : Option Hold) (windows : List (Window PacketDone)) → WindowsLeaveHold plan key h windows → AreKnown records (last_hold key h windows) → AreKnown records h
windows_known plan key records h [] r k = k
windows_known plan key records h (window ∷ windows) r k =
    known_back records h (window.opened_holds key)
    (meets_grows plan.params plan.host key (shown_at (bucket_of plan.buckets key) window.opened).past (get_or window.marked (bucket_of plan.buckets key) 0) (is_named key window.done_items) h (window.opened_holds key) r.0)
    (packets_known plan key records (window.opened_holds key) window.done_items (shown_at (bucket_of plan.buckets key) window.closed).past (get_or window.met (bucket_of plan.buckets key) 0) (is_named key window.done_items) (window.closed_holds key) r.1
    (windows_known plan key records (window.closed_holds key) windows r.2 k))

-- ---- a packet's call, as its key's bucket sees it

pub record Stepped (p : ℕ) (plan : Plan) (key : Key) (journal : List Line) (low : ℕ) (shown : Shown) (done_item : PacketDone) (rest : List Call) (met : ℕ) (closed : Shown) : Type 0 where
  pub next : Shown
  pub calls : AreCalls p plan.params next rest met closed
  pub past : Begins shown.past next.past
  pub behind : is_key done_item.item.key key ≡ true → IsShownBehind plan.params plan.host key journal low shown.past (past_behind done_item.calls) done_item.outcome next.past

or_here : (a b : Bool) → a ≡ true → (a || b) ≡ true
or_here true b e = refl
or_here false b e = absurd (false≢true e)

or_there : (a b : Bool) → b ≡ true → (a || b) ≡ true
or_there true b e = refl
or_there false b e = e

step : (p : ℕ) (plan : Plan) (key : Key) (journal : List Line) (mark n : ℕ) (shown : Shown) (done_item : PacketDone) (rest : List Call) (met : ℕ) (closed : Shown) → AreCalls p plan.params shown (in_bucket (bucket_of plan.buckets key) (done_item.calls ++ rest)) met closed
    → Begins closed.past journal → mark ≤ length shown.past → IsPacketDone plan p n done_item done_item.outcome → Stepped p plan key journal (number_at plan.params plan.host journal key mark) shown done_item (in_bucket (bucket_of plan.buckets key) rest) met closed
step p plan key journal mark n shown done_item rest met closed calls whole le done = by_outcome done_item.outcome refl done where
  b : ℕ
  b = bucket_of plan.buckets key

  stays : AreCalls p plan.params shown (in_bucket (bucket_of plan.buckets key) rest) met closed → (is_key done_item.item.key key ≡ true → IsShownBehind plan.params plan.host key journal (number_at plan.params plan.host journal key mark) shown.past (past_behind done_item.calls) done_item.outcome shown.past)
      → Stepped p plan key journal (number_at plan.params plan.host journal key mark) shown done_item (in_bucket (bucket_of plan.buckets key) rest) met closed
  stays cs behind = record { next = shown; calls = cs; past = begins_self shown.past; behind = behind }

  goes_on : (call : Call) → done_item.calls ≡ call ∷ [] → (t : Bool) → (call.bucket == bucket_of plan.buckets key) ≡ t → AreCalls p plan.params shown (if t then call ∷ in_bucket (bucket_of plan.buckets key) rest else in_bucket (bucket_of plan.buckets key) rest) met closed
      → (is_key done_item.item.key key ≡ true → call.bucket ≡ bucket_of plan.buckets key)
      → ((cs : IsCall p plan.params shown call) → AreCalls p plan.params call.after (in_bucket (bucket_of plan.buckets key) rest) met closed → is_key done_item.item.key key ≡ true → IsShownBehind plan.params plan.host key journal (number_at plan.params plan.host journal key mark) shown.past (past_behind done_item.calls) done_item.outcome call.after.past)
      → Stepped p plan key journal (number_at plan.params plan.host journal key mark) shown done_item (in_bucket (bucket_of plan.buckets key) rest) met closed
  goes_on call is true at cs same behind = record { next = call.after; calls = cs.1; past = call_left p plan.params shown call cs.0; behind = behind cs.0 cs.1 }
  goes_on call is false at cs same behind = stays cs (λ k. absurd (false≢true (sym at ∙ eq-eqb call.bucket (bucket_of plan.buckets key) (same k))))

  by_outcome : (o : Outcome) → done_item.outcome ≡ o → IsPacketDone plan p n done_item o → Stepped p plan key journal (number_at plan.params plan.host journal key mark) shown done_item (in_bucket (bucket_of plan.buckets key) rest) met closed
  by_outcome (outcome.Fast number header) e d =
      stays (subst (λ cs. AreCalls p plan.params shown (in_bucket (bucket_of plan.buckets key) (cs ++ rest)) met closed) d calls)
      (λ k. subst (λ o. IsShownBehind plan.params plan.host key journal (number_at plan.params plan.host journal key mark) shown.past (past_behind done_item.calls) o shown.past) (sym e) refl)
  by_outcome (outcome.Slow why place reply) e d =
      let call = d.call in
      goes_on call d.one (call.bucket == bucket_of plan.buckets key) refl (subst (λ cs. AreCalls p plan.params shown (in_bucket (bucket_of plan.buckets key) (cs ++ rest)) met closed) d.one calls)
      (λ k. d.bucket ∙ ap (bucket_of plan.buckets) (is_key-one done_item.item.key key k))
      (λ c cs k. subst (λ o. IsShownBehind plan.params plan.host key journal (number_at plan.params plan.host journal key mark) shown.past (past_behind done_item.calls) o call.after.past) (sym e)
      (let past = begins_trans call.after.past closed.past journal (calls_past p plan.params call.after (in_bucket (bucket_of plan.buckets key) rest) met closed cs) whole in
      let at = call_place p plan.params shown call c in
      let from = at.0 in
      let to = at.1 in
      let same_place = d.place_is in
      let is = ap past_behind d.one in (
        sym is,
        counted_all plan.params plan.host key call.after.past journal (place + 1) past (omega (arith, to, same_place)) ∙ ap (λ xs. last_number plan.params plan.host xs key) (sym is),
        subst (λ xs. number_at plan.params plan.host journal key mark ≤ last_number plan.params plan.host xs key) (sym is) (counted_last plan.params plan.host key call.after.past journal mark past (omega (arith, le, from, to))),
      )))

-- ---- the packets to a key

-- a packet to the key has read within its bounds, and has its cause
abbrev ReadsWell : Plan → List Mark → List Line → Key → List Handled → Handled → Type 0
ReadsWell plan marks journal key earlier done =
    IsBounded (published plan.params plan.host journal key)
    (number_at plan.params plan.host journal key (own_length plan marks (bucket_of plan.buckets key) done.at))
    (known_number plan.params plan.host journal key earlier)
    (number_at plan.params plan.host journal key (next_length plan marks (bucket_of plan.buckets key) done.at))
    done.outcome
    × (is_first done.outcome ≡ not (is_there key earlier)) × (is_inline done.outcome ≡ false)

abbrev ReadsIt : Plan → List Mark → List Line → Key → List Handled → Handled → Type 0
ReadsIt plan marks journal key earlier done = is_key done.key key ≡ true → ReadsWell plan marks journal key earlier done

-- what a window's marks are for a key's bucket
record IsWindow (plan : Plan) (marks : List Mark) (key : Key) (journal : List Line) (window mark next : ℕ) (closed : Shown) : Type 0 where
  pub own : (at : ℕ) → window_of plan at ≡ window → own_length plan marks (bucket_of plan.buckets key) at ≡ mark
  pub behind : (at : ℕ) → window_of plan at ≡ window → next_length plan marks (bucket_of plan.buckets key) at ≡ next
  pub top : last_number plan.params plan.host closed.past key ≤ number_at plan.params plan.host journal key next
  pub whole : Begins closed.past journal

record Packet (plan : Plan) (marks : List Mark) (journal : List Line) (key : Key) (mark : ℕ) (named : Bool) (earlier : List Handled) (done : Handled) (shown : List Line) (new : Option Hold) : Type 0 where
  pub reads : ReadsIt plan marks journal key earlier done
  pub upheld : IsUpheld plan.params plan.host key journal (earlier ++ done ∷ []) shown new
  pub low : named ≡ true → IfSome new (λ hold. number_at plan.params plan.host journal key mark ≤ hold.floor)

packet : (p : ℕ) (plan : Plan) (marks : List Mark) (key : Key) (journal : List Line) (window mark next n met : ℕ) (named : Bool) (shown closed : Shown) (closed_hold : Option Hold) (earlier : List Handled) (h : Option Hold) (done_item : PacketDone) (done_items : List PacketDone) (rest : List Call)
    → IsWindow plan marks key journal window mark next closed → AreKnown (published plan.params plan.host journal key) closed_hold
    → (s : Stepped p plan key journal (number_at plan.params plan.host journal key mark) shown done_item rest met closed)
    → PacketsLeaveHold plan key (done_item.holds key) done_items closed.past met named closed_hold
    → IsUpheld plan.params plan.host key journal earlier shown.past h → (named ≡ true → IfSome h (λ hold. number_at plan.params plan.host journal key mark ≤ hold.floor))
    → window_of plan done_item.item.at ≡ window
    → (t : Bool) → is_key done_item.item.key key ≡ t → (t ≡ true → named ≡ true) → LeavesBy t plan key h done_item
    → Packet plan marks journal key mark named earlier (done_of n done_item) s.next.past (done_item.holds key)
packet p plan marks key journal window mark next n met named shown closed closed_hold earlier h done_item done_items rest w known s holds u low at true k is l =
    let hi = number_at plan.params plan.host journal key next in
    let lo = number_at plan.params plan.host journal key mark in
    let within = packets_within plan key hi (done_item.holds key) done_items closed.past met closed_hold (subst (λ b. PacketsLeaveHold plan key (done_item.holds key) done_items closed.past met b closed_hold) (is refl) holds) w.top in
    let published = packets_known plan key (published plan.params plan.host journal key) (done_item.holds key) done_items closed.past met named closed_hold holds known in
    let bounded = read_bounded plan.params plan.host key journal earlier shown.past (past_behind done_item.calls) lo hi h done_item.outcome (done_item.holds key) l u (low (is refl)) within published in
    let cause = read_cause plan.params plan.host key (past_behind done_item.calls) h done_item.outcome (done_item.holds key) l in
    let after = read_upheld plan.params plan.host key journal earlier (done_of n done_item) shown.past (past_behind done_item.calls) s.next.past lo h done_item.outcome (done_item.holds key) refl k l u (low (is refl)) (s.behind k) in
    record {
      reads = λ same. (at_marks done_item.outcome (sym (w.own done_item.item.at at)) (sym (w.behind done_item.item.at at)) bounded, cause.0 ∙ ap not u.there, cause.1);
      upheld = after.0;
      low = λ t. after.1;
    }
  where
    at_marks : {own behind : ℕ} (o : Outcome) → mark ≡ own → next ≡ behind
        → IsBounded (published plan.params plan.host journal key) (number_at plan.params plan.host journal key mark) (known_number plan.params plan.host journal key earlier) (number_at plan.params plan.host journal key next) o
        → IsBounded (published plan.params plan.host journal key) (number_at plan.params plan.host journal key own) (known_number plan.params plan.host journal key earlier) (number_at plan.params plan.host journal key behind) o
    at_marks {own} {behind} o e f b =
        subst (λ m. IsBounded (published plan.params plan.host journal key) (number_at plan.params plan.host journal key m) (known_number plan.params plan.host journal key earlier) (number_at plan.params plan.host journal key behind) o) e
        (subst (λ m. IsBounded (published plan.params plan.host journal key) (number_at plan.params plan.host journal key mark) (known_number plan.params plan.host journal key earlier) (number_at plan.params plan.host journal key m) o) f b)
packet p plan marks key journal window mark next n met named shown closed closed_hold earlier h done_item done_items rest w known s holds u low at false k is l = record {
  reads = λ same. absurd (false≢true (sym k ∙ same));
  upheld = subst (IsUpheld plan.params plan.host key journal (earlier ++ done_of n done_item ∷ []) s.next.past) (sym l)
      (upheld-more plan.params plan.host key journal (earlier ++ done_of n done_item ∷ []) shown.past s.next.past h s.past (upheld-other plan.params plan.host key journal earlier (done_of n done_item) shown.past h k u));
  low = λ t. subst (λ (x : Option Hold). IfSome x (λ hold. number_at plan.params plan.host journal key mark ≤ hold.floor)) (sym l) (low t);
}

packets_bounded : (p : ℕ) (plan : Plan) (marks : List Mark) (key : Key) (journal : List Line) (window mark next met : ℕ) (named : Bool) (closed : Shown) (closed_hold : Option Hold)
    → IsWindow plan marks key journal window mark next closed → AreKnown (published plan.params plan.host journal key) closed_hold
    → (n : ℕ) (earlier : List Handled) (h : Option Hold) (shown : Shown) (done_items : List PacketDone)
    → AreCalls p plan.params shown (in_bucket (bucket_of plan.buckets key) (flat_map sender_calls done_items)) met closed → PacketsLeaveHold plan key h done_items closed.past met named closed_hold → ArePacketsDone plan p n done_items
    → (is_named key done_items ≡ true → named ≡ true) → IsUpheld plan.params plan.host key journal earlier shown.past h → (named ≡ true → IfSome h (λ hold. number_at plan.params plan.host journal key mark ≤ hold.floor))
    → mark ≤ length shown.past → AllByRecursion (λ (done_item : PacketDone). window_of plan done_item.item.at ≡ window) done_items
    → each_packet (ReadsIt plan marks journal key) earlier (dones n done_items) × IsUpheld plan.params plan.host key journal (earlier ++ dones n done_items) closed.past closed_hold
packets_bounded p plan marks key journal window mark next met named closed closed_hold w known n earlier h shown [] calls holds done sub u low le items = (
  tt,
  subst (λ e. IsUpheld plan.params plan.host key journal e closed.past closed_hold) (sym (append-nil earlier))
      (upheld-met plan.params plan.host key journal earlier shown.past closed.past met named h closed_hold calls.past calls.counted calls.seen w.whole holds u).0,
)
packets_bounded p plan marks key journal window mark next met named closed closed_hold w known n earlier h shown (done_item ∷ done_items) calls holds done sub u low le items =
    let s = step p plan key journal mark n shown done_item (flat_map sender_calls done_items) met closed calls w.whole le done.0 in
    let one = packet p plan marks key journal window mark next n met named shown closed closed_hold earlier h done_item done_items (in_bucket (bucket_of plan.buckets key) (flat_map sender_calls done_items)) w known s holds.1 u low items.0 (is_key done_item.item.key key) refl
    (λ k. sub (or_here (is_key done_item.item.key key) (is_named key done_items) k)) holds.0 in
    let more = begins_length shown.past s.next.past s.past in
    let rest = packets_bounded p plan marks key journal window mark next met named closed closed_hold w known (n + 1) (earlier ++ done_of n done_item ∷ []) (done_item.holds key) s.next done_items s.calls holds.1 done.1
    (λ k. sub (or_there (is_key done_item.item.key key) (is_named key done_items) k)) one.upheld one.low (omega (arith, le, more)) items.1 in
    ((one.reads, rest.0), subst (λ e. IsUpheld plan.params plan.host key journal e closed.past closed_hold) (append_assoc earlier (done_of n done_item ∷ []) (dones (n + 1) done_items)) rest.1)

windows_packets : (p : ℕ) (plan : Plan) (marks : List Mark) (key : Key) (journal : List Line) (ended : ℕ) (left : Shown) → Begins left.past journal
    → (n : ℕ) (earlier : List Handled) (h : Option Hold) (old : Shown) (before : List (Option ℕ × ℕ)) (windows : List (Window PacketDone))
    → AreStampWindows p plan old (map (stamp_window_at sender_calls (bucket_of plan.buckets key)) windows) ended left
    → column (bucket_of plan.buckets key) marks ≡ before ++ marks_of plan (map (stamp_window_at sender_calls (bucket_of plan.buckets key)) windows) ended
    → AreBefore (starts_of plan (map (stamp_window_at sender_calls (bucket_of plan.buckets key)) windows)) before → Climbs (starts_of plan (map (stamp_window_at sender_calls (bucket_of plan.buckets key)) windows))
    → WindowsLeaveHold plan key h windows → AreKnown (published plan.params plan.host journal key) (last_hold key h windows)
    → ArePacketsDone plan p n (all_done_items windows) → AllByRecursion (λ (window : Window PacketDone). AllByRecursion (λ (done_item : PacketDone). window_of plan done_item.item.at ≡ window.number) window.done_items) windows
    → IsUpheld plan.params plan.host key journal earlier old.past h
    → each_packet (ReadsIt plan marks journal key) earlier (dones n (all_done_items windows))
windows_packets p plan marks key journal ended left whole n earlier h old before [] spans split less climbs holds known done items u = tt
windows_packets p plan marks key journal ended left whole n earlier h old before (window ∷ windows) spans split less climbs holds known done items u =
    let parts = done_items_front plan p n window.done_items (all_done_items windows) done in
    let opened = upheld-met plan.params plan.host key journal earlier old.past span.opened.past span.mark (is_named key window.done_items) h (window.opened_holds key)
    spans.0.marked.past spans.0.marked.counted spans.0.marked.seen
    (begins_trans span.opened.past span.closed.past journal (calls_past p plan.params span.opened span.calls span.met span.closed spans.0.calls) closed_in) holds.0 u in
    let r = packets_bounded p plan marks key journal window.number span.mark (first_told (marks_of plan later ended)) span.met (is_named key window.done_items) span.closed (window.closed_holds key)
    is_window (windows_known plan key (published plan.params plan.host journal key) (window.closed_holds key) windows holds.2 known)
    n earlier (window.opened_holds key) span.opened window.done_items spans.0.calls holds.1 parts.0 (λ k. k) opened.0 opened.1 spans.0.marked.seen items.0 in
    let rest = windows_packets p plan marks key journal ended left whole (n + length window.done_items) (earlier ++ dones n window.done_items) (window.closed_holds key) span.closed (before ++ (Some start, span.mark) ∷ []) windows spans.1
    (split ∙ sym (append_assoc before ((Some start, span.mark) ∷ []) (marks_of plan later ended))) (next_before start span.mark (starts_of plan later) before climbs less) climbs.1 holds.2 known parts.1 items.1 r.1 in
    subst (each_packet (ReadsIt plan marks journal key) earlier) (sym (dones-append n window.done_items (all_done_items windows)))
    (each_then (ReadsIt plan marks journal key) earlier (dones n window.done_items) (dones (n + length window.done_items) (all_done_items windows)) r.0 rest)
  where
    b : ℕ
    b = bucket_of plan.buckets key

    span : StampWindow
    span = stamp_window_at sender_calls b window

    later : List StampWindow
    later = map (stamp_window_at sender_calls b) windows

    start : ℕ
    start = span.number * plan.window

    closed_in : Begins span.closed.past journal
    closed_in = begins_trans span.closed.past left.past journal (spans_past p plan span.closed later ended left spans.1) whole

    from : pairs_from start (column b marks) ≡ (Some start, span.mark) ∷ marks_of plan later ended
    from = ap (pairs_from start) split
        ∙ skips start before ((Some start, span.mark) ∷ marks_of plan later ended)
        (all_map (λ (m : Option ℕ × ℕ). IfSome m.0 (λ s. AllByRecursion (λ y. s < y) (start ∷ starts_of plan later))) (λ (m : Option ℕ × ℕ). IfSome m.0 (λ s. s < start)) before (λ m. first_before start (starts_of plan later) m.0) less)
        ∙ here start span.mark (marks_of plan later ended)

    at_window : (at : ℕ) → window_of plan at ≡ window.number → pairs_from (window_of plan at * plan.window) (column b marks) ≡ (Some start, span.mark) ∷ marks_of plan later ended
    at_window at w = ap (λ k. pairs_from (k * plan.window) (column b marks)) w ∙ from

    is_window : IsWindow plan marks key journal window.number span.mark (first_told (marks_of plan later ended)) span.closed
    is_window = record {
      own = λ at w. own_length-told plan marks b at ∙ ap first_told (at_window at w);
      behind = λ at w. next_length-told plan marks b at ∙ ap second_told (at_window at w);
      top = last_counted plan.params plan.host key span.closed.past journal (first_told (marks_of plan later ended)) closed_in (first_late plan (length span.closed.past) ended later (spans_rise p plan span.closed later ended left spans.1));
      whole = closed_in;
    }

-- ---- 5 and 6. all packets of a sender

run_packets : (plan : Plan) (e : Evidence) (p : ℕ) (items : List SendItem) (run : ParticipantRun PacketDone) → 0 < plan.window → 0 < plan.buckets → IsEvidence plan e → OwnHistories p plan e run → IsSenderRun plan e.journals p items run
    → each_packet (λ earlier done. ReadsWell plan e.marks (get_or e.journals (bucket_of plan.buckets done.key) []) done.key earlier done) [] (handled 1 items (outcomes run))
run_packets plan e p items run window some h own is =
    subst (λ (xs : List SendItem). each_packet (λ earlier done. ReadsWell plan e.marks (get_or e.journals (bucket_of plan.buckets done.key) []) done.key earlier done) [] (handled 1 xs (outcomes run))) is.items
    (subst (each_packet (λ earlier done. ReadsWell plan e.marks (get_or e.journals (bucket_of plan.buckets done.key) []) done.key earlier done) []) (sym (dones-is 1 (all_done_items run.windows)))
    (each_key (λ key earlier done. ReadsWell plan e.marks (get_or e.journals (bucket_of plan.buckets key) []) key earlier done) [] (dones 1 (all_done_items run.windows)) by_key)) where
      by_key : (key : Key) → each_packet (λ earlier done. is_key done.key key ≡ true → ReadsWell plan e.marks (get_or e.journals (bucket_of plan.buckets key) []) key earlier done) [] (dones 1 (all_done_items run.windows))
      by_key key =
          let b = bucket_of plan.buckets key in
          let lt = bucket_there plan.buckets key some in
          let history = history_at sender_calls b run in
          let marks = own.marks b lt in
          windows_packets p plan e.marks key (get_or e.journals b []) history.ended history.after (own.given b lt).past 1 [] None nothing_shown [] run.windows (own.is b lt) (sym marks) tt
          (history_climbs plan b e.marks history window h.starts marks) (is.holds key) (is.known key) is.done is.windows (upheld-nil plan.params plan.host key (get_or e.journals b []) [])

pub shows_bounds : ShowsBounds
shows_bounds plan e window some h = each_run (λ p items log. each_packet (λ earlier packet. HasReadInBounds plan (run_of plan e) earlier packet) [] (handled 1 items log)) plan e h
    (λ p items run own is.
    each_part (λ earlier done. ReadsWell plan e.marks (get_or e.journals (bucket_of plan.buckets done.key) []) done.key earlier done) (λ earlier packet. HasReadInBounds plan (run_of plan e) earlier packet) [] (handled 1 items (outcomes run))
    (λ earlier done r. r.0) (run_packets plan e p items run window some h own is))

pub shows_causes : ShowsCauses
shows_causes plan e window some h = each_run (λ p items log. each_packet (λ earlier packet. HasItsCause earlier packet) [] (handled 1 items log)) plan e h
    (λ p items run own is.
    each_part (λ earlier done. ReadsWell plan e.marks (get_or e.journals (bucket_of plan.buckets done.key) []) done.key earlier done) (λ earlier packet. HasItsCause earlier packet) [] (handled 1 items (outcomes run))
    (λ earlier done r. record { first = r.1; inline = r.2 }) (run_packets plan e p items run window some h own is))
