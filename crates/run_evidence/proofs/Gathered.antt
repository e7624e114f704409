-- Evidence goes on by one call, one item and one window.
use Rattle.std.proofs.Common.{◌≡◌, ℕ, zero, suc, ◌+◌, ◌<◌, Bool, true, false, if◌then◌else◌, List, [], ◌∷◌, ◌++◌, length, get_or, set, refl, sym, ◌∙◌, ap, subst, append-nil, arith, eq-eqb}
use Rattle.std.specs.List.{AllByRecursion}
use Rattle.std.specs.Prelude.{◌==◌, map, flat_map, replicate, Option, None, slice_index_or}
use Rattle.std.proofs.lemmas.Bool.{eqb-true, false≢true}
use Rattle.std.proofs.lemmas.List.{get_or-set_same, get_or-set_other}
use Rattle.std.proofs.lemmas.Grind.{flat_map-append}
use Rattle.nb_base.specs.declared.key.Key.{Key}
use Rattle.nb_base.specs.declared.params.Params.{Params}
use Rattle.nb_base.specs.declared.plan.Plan.{Plan}
use Rattle.nb_base.specs.Buckets.{bucket_of}
use Rattle.neigh_run.specs.Control.{HostState, turn, state_behind}
use Rattle.neigh_run.specs.Windows.{window_of}
use Rattle.run_evidence.specs.Tokens.{Shown, nothing_shown, Call, IsCall, IsMet}
use Rattle.run_evidence.specs.Stamps.{AreCalls, AreStampWindows}
use Rattle.run_evidence.specs.Holds.{Hold, MeetsHold}
use Rattle.run_evidence.specs.Evidence.{Window, ControlDone, PacketDone, control_calls, sender_calls, all_done_items, in_bucket, shown_at, stamp_window_at, IsControlDone, AreControlDone, IsPacketDone, ArePacketsDone, LeavesHold, PacketsLeaveHold, WindowsLeaveHold, is_named, last_hold}
use Rattle.run_evidence.specs.Growing.{StampsTo, OneMoreCall, HoldsTo, OneMorePacket, OneMoreItem, IsWindowOf, WindowsTo, OneMoreWindowOf, WindowsAreHistoriesOf, WindowsGoOn, OneMoreWindow}
use Rattle.run_evidence.proofs.Lists.{all_append}
use Rattle.run_evidence.proofs.SenderRuns.{all_in}

-- ---- calls

stamps_then : (p : ℕ) (params : Params) (old : List Shown) (xs : List Call) (mid : List Shown) (ys : List Call) (now : List Shown) → StampsTo p params old xs mid → StampsTo p params mid ys now → StampsTo p params old (xs ++ ys) now
stamps_then p params old [] mid ys now h g = subst (λ (s : List Shown). StampsTo p params s ys now) h g
stamps_then p params old (x ∷ xs) mid ys now h g = (h.0, stamps_then p params (set old x.bucket x.after) xs mid ys now h.1 g)

pub one_more_call : OneMoreCall
one_more_call p params old calls now call h c = stamps_then p params old calls now (call ∷ []) (set now call.bucket call.after) h (c, refl)

-- ---- packets

packets_more : (plan : Plan) (p n : ℕ) (done_items : List PacketDone) (done_item : PacketDone) → ArePacketsDone plan p n done_items → IsPacketDone plan p (n + length done_items) done_item done_item.outcome → ArePacketsDone plan p n (done_items ++ done_item ∷ [])
packets_more plan p n [] done_item h d = (subst (λ m. IsPacketDone plan p m done_item done_item.outcome) (plus n) d, tt) where
  plus : (n : ℕ) → n + 0 ≡ n
  plus n = omega arith
packets_more plan p n (x ∷ xs) done_item h d = (h.0, packets_more plan p (n + 1) xs done_item h.1 (subst (λ m. IsPacketDone plan p m done_item done_item.outcome) (plus n (length xs)) d)) where
  plus : (n k : ℕ) → n + suc k ≡ n + 1 + k
  plus n k = omega arith

holds_more : (plan : Plan) (key : Key) (old : Option Hold) (done_items : List PacketDone) (now : Option Hold) (done_item : PacketDone) → HoldsTo plan key old done_items now → LeavesHold plan key now done_item → HoldsTo plan key old (done_items ++ done_item ∷ []) (done_item.holds key)
holds_more plan key old [] now done_item h l = (subst (λ (x : Option Hold). LeavesHold plan key x done_item) h l, refl)
holds_more plan key old (x ∷ xs) now done_item h l = (h.0, holds_more plan key (x.holds key) xs now done_item h.1 l)

more_calls : {D : Type 0} (calls : D → List Call) (done_items : List D) (done_item : D) → flat_map calls (done_items ++ done_item ∷ []) ≡ flat_map calls done_items ++ calls done_item
more_calls calls done_items done_item = flat_map-append calls done_items (done_item ∷ []) ∙ ap (λ cs. flat_map calls done_items ++ cs) (append-nil (calls done_item))

pub one_more_packet : OneMorePacket
one_more_packet plan p n opened before done_items now holds done_item next h s = record {
  done = packets_more plan p n done_items done_item h.done s.done;
  stamps = subst (λ cs. StampsTo p plan.params opened cs next) (sym (more_calls sender_calls done_items done_item)) (stamps_then p plan.params opened (flat_map sender_calls done_items) now done_item.calls next h.stamps s.stamps);
  held = λ key. holds_more plan key (before key) done_items (holds key) done_item (h.held key) (s.left key);
}

-- ---- items

items_more : (plan : Plan) (s : HostState) (n : ℕ) (done_items : List ControlDone) (done_item : ControlDone) → AreControlDone plan s n done_items → IsControlDone plan (state_behind plan s n (map (λ (done_item : ControlDone). done_item.item) done_items)) (n + length done_items) done_item → AreControlDone plan s n (done_items ++ done_item ∷ [])
items_more plan s n [] done_item h d = (subst (λ m. IsControlDone plan s m done_item) (plus n) d, tt) where
  plus : (n : ℕ) → n + 0 ≡ n
  plus n = omega arith
items_more plan s n (x ∷ xs) done_item h d =
    (h.0, items_more plan (turn plan s n x.item).behind (n + 1) xs done_item h.1 (subst (λ m. IsControlDone plan (state_behind plan (turn plan s n x.item).behind (n + 1) (map (λ (done_item : ControlDone). done_item.item) xs)) m done_item) (plus n (length xs)) d)) where
      plus : (n k : ℕ) → n + suc k ≡ n + 1 + k
      plus n k = omega arith

pub one_more_item : OneMoreItem
one_more_item plan s n opened done_items now done_item next h d g = record {
  done = items_more plan s n done_items done_item h.done d;
  stamps = subst (λ cs. StampsTo 0 plan.params opened cs next) (sym (more_calls control_calls done_items done_item)) (stamps_then 0 plan.params opened (flat_map control_calls done_items) now done_item.calls next h.stamps g);
}

-- ---- windows

one_more_window_of : {D : Type 0} (calls : D → List Call) → OneMoreWindowOf calls
one_more_window_of calls p plan old [] now window h w = (subst (λ (s : List Shown). IsWindowOf calls p plan s window) h w, refl)
one_more_window_of calls p plan old (x ∷ xs) now window h w = (h.0, one_more_window_of calls p plan x.closed xs now window h.1 w)

-- a participant's calls, as one bucket sees them, and the meeting behind them
bucket_calls : (p b : ℕ) (params : Params) (old : List Shown) (calls : List Call) (now : List Shown) (met : ℕ) (closed : Shown) → StampsTo p params old calls now → IsMet p (shown_at b now) closed met [] → AreCalls p params (shown_at b old) (in_bucket b calls) met closed
bucket_calls p b params old [] now met closed h m = subst (λ (s : List Shown). IsMet p (shown_at b s) closed met []) h m
bucket_calls p b params old (c ∷ cs) now met closed h m = by_bucket (c.bucket == b) refl (bucket_calls p b params (set old c.bucket c.after) cs now met closed h.1 m) where
  by_bucket : (t : Bool) → (c.bucket == b) ≡ t → AreCalls p params (shown_at b (set old c.bucket c.after)) (in_bucket b cs) met closed → AreCalls p params (shown_at b old) (if t then c ∷ in_bucket b cs else in_bucket b cs) met closed
  by_bucket true e rest =
      let same = eqb-true c.bucket b e in
      let shown = ap (λ k. get_or (set old c.bucket c.after) k nothing_shown) (sym same) ∙ get_or-set_same old c.bucket c.after nothing_shown h.0.there in
      (subst (λ k. IsCall p params (shown_at k old) c) same h.0.is, subst (λ (s : Shown). AreCalls p params s (in_bucket b cs) met closed) shown rest)
  by_bucket false e rest =
      subst (λ (s : Shown). AreCalls p params s (in_bucket b cs) met closed) (get_or-set_other old c.bucket b c.after nothing_shown (λ same. false≢true (sym e ∙ eq-eqb c.bucket b (sym same)))) rest

stamps_size : (p : ℕ) (params : Params) (old : List Shown) (calls : List Call) (now : List Shown) → StampsTo p params old calls now → length now ≡ length old
stamps_size p params old [] now h = ap length h
stamps_size p params old (c ∷ cs) now h = stamps_size p params (set old c.bucket c.after) cs now h.1 ∙ same old c.bucket where
  same : (xs : List Shown) (i : ℕ) → length (set xs i c.after) ≡ length xs
  same [] i = refl
  same (x ∷ xs) zero = refl
  same (x ∷ xs) (suc i) = ap suc (same xs i)

bucket_windows : {D : Type 0} (calls : D → List Call) (p b : ℕ) (plan : Plan) (old : List Shown) (windows : List (Window D)) (now : List Shown) (ended : ℕ) (after : Shown)
    → b < length old → WindowsTo calls p plan old windows now → IsMet p (shown_at b now) after ended [] → AreStampWindows p plan (shown_at b old) (map (stamp_window_at calls b) windows) ended after
bucket_windows calls p b plan old [] now ended after lt h m = subst (λ (s : List Shown). IsMet p (shown_at b s) after ended []) h m
bucket_windows calls p b plan old (w ∷ ws) now ended after lt h m =
    let opened = h.0.opened.size in
    let size = stamps_size p plan.params w.opened (flat_map calls w.done_items) h.0.now h.0.stamps in
    let closed = h.0.closed.size in
    let met = h.0.closed.each b (omega (arith, lt, opened, size)) in (
      record {
        marked = h.0.opened.each b lt;
        calls = bucket_calls p b plan.params w.opened (flat_map calls w.done_items) h.0.now (slice_index_or w.met b 0) (shown_at b w.closed) h.0.stamps met;
        items = all_in (λ (call : Call). window_of plan call.entered.at ≡ w.number) b (flat_map calls w.done_items) h.0.items;
      },
      bucket_windows calls p b plan w.closed ws now ended after (omega (arith, lt, opened, size, closed)) h.1 m,
    )

windows_size : {D : Type 0} (calls : D → List Call) (p : ℕ) (plan : Plan) (old : List Shown) (windows : List (Window D)) (now : List Shown) → WindowsTo calls p plan old windows now → length now ≡ length old
windows_size calls p plan old [] now h = ap length h
windows_size calls p plan old (w ∷ ws) now h = windows_size calls p plan w.closed ws now h.1 ∙ h.0.closed.size ∙ stamps_size p plan.params w.opened (flat_map calls w.done_items) h.0.now h.0.stamps ∙ h.0.opened.size

blank_at : (n b : ℕ) → shown_at b (replicate n nothing_shown) ≡ nothing_shown
blank_at zero b = refl
blank_at (suc n) zero = refl
blank_at (suc n) (suc b) = blank_at n b

blank_size : (n : ℕ) → length (replicate n nothing_shown) ≡ n
blank_size zero = refl
blank_size (suc n) = ap suc (blank_size n)

pub histories_of : {D : Type 0} (calls : D → List Call) → WindowsAreHistoriesOf calls
histories_of calls p plan own now h m b lt =
    let first = blank_size plan.buckets in
    let size = windows_size calls p plan (replicate plan.buckets nothing_shown) own.windows now h in
    subst (λ (s : Shown). AreStampWindows p plan s (map (stamp_window_at calls b) own.windows) (slice_index_or own.ended b 0) (shown_at b own.after)) (blank_at plan.buckets b)
    (bucket_windows calls p b plan (replicate plan.buckets nothing_shown) own.windows now (slice_index_or own.ended b 0) (shown_at b own.after) (omega (arith, lt, first)) h (m.each b (omega (arith, lt, first, size))))

pub windows_go_on : WindowsGoOn
windows_go_on = record {
  control = one_more_window_of control_calls;
  sender = one_more_window_of sender_calls;
  control_ends = histories_of control_calls;
  sender_ends = histories_of sender_calls;
}

-- ---- a sender's windows

packets_then : (plan : Plan) (p n : ℕ) (xs ys : List PacketDone) → ArePacketsDone plan p n xs → ArePacketsDone plan p (n + length xs) ys → ArePacketsDone plan p n (xs ++ ys)
packets_then plan p n [] ys h g = subst (λ m. ArePacketsDone plan p m ys) (plus n) g where
  plus : (n : ℕ) → n + 0 ≡ n
  plus n = omega arith
packets_then plan p n (x ∷ xs) ys h g = (h.0, packets_then plan p (n + 1) xs ys h.1 (subst (λ m. ArePacketsDone plan p m ys) (plus n (length xs)) g)) where
  plus : (n k : ℕ) → n + suc k ≡ n + 1 + k
  plus n k = omega arith

-- the packets of a window and the barrier behind it
packets_leave : (plan : Plan) (key : Key) (old : Option Hold) (done_items : List PacketDone) (now : Option Hold) (shown : Shown) (told : ℕ) (named : Bool) (closed : Option Hold)
    → HoldsTo plan key old done_items now → MeetsHold plan.params plan.host key shown.past told named now closed → PacketsLeaveHold plan key old done_items shown.past told named closed
packets_leave plan key old [] now shown told named closed h m = subst (λ (x : Option Hold). MeetsHold plan.params plan.host key shown.past told named x closed) h m
packets_leave plan key old (x ∷ xs) now shown told named closed h m = (h.0, packets_leave plan key (x.holds key) xs now shown told named closed h.1 m)

windows_more : (plan : Plan) (key : Key) (old : Option Hold) (windows : List (Window PacketDone)) (window : Window PacketDone) → WindowsLeaveHold plan key old windows → WindowsLeaveHold plan key (last_hold key old windows) (window ∷ []) → WindowsLeaveHold plan key old (windows ++ window ∷ [])
windows_more plan key old [] window h g = g
windows_more plan key old (w ∷ ws) window h g = (h.0, h.1, windows_more plan key (w.closed_holds key) ws window h.2 g)

last_more : (key : Key) (old : Option Hold) (windows : List (Window PacketDone)) (window : Window PacketDone) → last_hold key old (windows ++ window ∷ []) ≡ window.closed_holds key
last_more key old [] window = refl
last_more key old (w ∷ ws) window = last_more key (w.closed_holds key) ws window

pub one_more_window : OneMoreWindow
one_more_window plan p windows holds window now sent h opened packets items closed = record {
  done = subst (ArePacketsDone plan p 1) (sym all) (packets_then plan p 1 (all_done_items windows) window.done_items h.done packets.done);
  in_window = all_append (λ (w : Window PacketDone). AllByRecursion (λ (done_item : PacketDone). window_of plan done_item.item.at ≡ w.number) w.done_items) windows (window ∷ []) h.in_window (items, tt);
  held = λ key. windows_more plan key None windows window (h.held key) (subst (λ (x : Option Hold). WindowsLeaveHold plan key x (window ∷ [])) (sym (h.now key)) (one key));
  now = λ key. last_more key None windows window;
} where
  all : all_done_items (windows ++ window ∷ []) ≡ all_done_items windows ++ window.done_items
  all = flat_map-append (λ (w : Window PacketDone). w.done_items) windows (window ∷ []) ∙ ap (λ ds. all_done_items windows ++ ds) (append-nil window.done_items)

  one : (key : Key) → WindowsLeaveHold plan key (holds key) (window ∷ [])
  one key = (
    opened key,
    packets_leave plan key (window.opened_holds key) window.done_items (sent key) (shown_at (bucket_of plan.buckets key) window.closed) (slice_index_or window.met (bucket_of plan.buckets key) 0) (is_named key window.done_items) (window.closed_holds key) (packets.held key) (closed key),
    tt,
  )
