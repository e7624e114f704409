-- How evidence is gathered: by one call, by one item and by one window at a time. Each record is what a loop knows so far, and each law says how that goes on by one round (this project's own).
use Rattle.std.specs.Prelude.{◌≡◌, ℕ, ◌+◌, ◌*◌, ◌<◌, Bool, List, [], ◌∷◌, ◌++◌, map, flat_map, length, replicate, Option, None, slice_set, slice_index_or}
use Rattle.std.specs.List.{AllByRecursion}
use Rattle.nb_base.specs.declared.key.Key.{Key}
use Rattle.nb_base.specs.declared.params.Params.{Params}
use Rattle.nb_base.specs.declared.plan.Plan.{Plan}
use Rattle.nb_base.specs.Buckets.{bucket_of}
use Rattle.bucket_stamps.specs.declared.view.Turn.{Turn}
use Rattle.neigh_run.specs.Control.{HostState, state_behind}
use Rattle.neigh_run.specs.Windows.{window_of}
use Rattle.run_evidence.specs.Tokens.{Shown, nothing_shown, Call, IsCall, IsMet, opening_turns}
use Rattle.run_evidence.specs.Stamps.{IsStampHistory}
use Rattle.run_evidence.specs.Holds.{Hold, MeetsHold}
use Rattle.run_evidence.specs.Evidence.{Window, ParticipantRun, ControlDone, PacketDone, control_calls, sender_calls, all_done_items, shown_at, history_at, IsControlDone, AreControlDone, IsPacketDone, ArePacketsDone, LeavesHold, WindowsLeaveHold, is_named, last_hold}

-- ---- calls

-- a call changes its bucket's stamp alone
pub record IsStampCall (p : ℕ) (params : Params) (old : List Shown) (call : Call) : Type 0 where
  pub there : call.bucket < length old
  pub is : IsCall p params (shown_at call.bucket old) call

-- calls led from what a participant's stamps showed to what they show now
abbrev pub StampsTo : ℕ → Params → List Shown → List Call → List Shown → Type 0
StampsTo p params old [] now = now ≡ old
StampsTo p params old (call ∷ calls) now = IsStampCall p params old call × StampsTo p params (slice_set old call.bucket call.after) calls now

abbrev pub OneMoreCall : Type 0
OneMoreCall = (p : ℕ) (params : Params) (old : List Shown) (calls : List Call) (now : List Shown) (call : Call) → StampsTo p params old calls now → IsStampCall p params now call → StampsTo p params old (calls ++ call ∷ []) (slice_set now call.bucket call.after)

-- ---- a sender's packets in a window

-- what one send tells: the packet of this number was done, its call if any was made, and the sender's holds went on
pub record IsSent (plan : Plan) (p n : ℕ) (old : List Shown) (holds : Key → Option Hold) (packet : PacketDone) (now : List Shown) : Type 0 where
  pub done : IsPacketDone plan p n packet packet.outcome
  pub stamps : StampsTo p plan.params old packet.calls now
  pub left : (key : Key) → LeavesHold plan key (holds key) packet

-- packets led from a key's hold to what it is now
abbrev pub HoldsTo : Plan → Key → Option Hold → List PacketDone → Option Hold → Type 0
HoldsTo plan key old [] now = now ≡ old
HoldsTo plan key old (packet ∷ packets) now = LeavesHold plan key old packet × HoldsTo plan key (packet.holds key) packets now

-- the packets so far, of which the first has this number, led from these stamps and holds to those
pub record PacketsTo (plan : Plan) (p n : ℕ) (opened : List Shown) (before : Key → Option Hold) (packets : List PacketDone) (now : List Shown) (holds : Key → Option Hold) : Type 0 where
  pub done : ArePacketsDone plan p n packets
  pub stamps : StampsTo p plan.params opened (flat_map sender_calls packets) now
  pub held : (key : Key) → HoldsTo plan key (before key) packets (holds key)

abbrev pub OneMorePacket : Type 0
OneMorePacket =
    (plan : Plan) (p n : ℕ) (opened : List Shown) (before : Key → Option Hold) (packets : List PacketDone) (now : List Shown) (holds : Key → Option Hold) (packet : PacketDone) (next : List Shown)
    → PacketsTo plan p n opened before packets now holds
    → IsSent plan p (n + length packets) now holds packet next
    → PacketsTo plan p n opened before (packets ++ packet ∷ []) next packet.holds

-- ---- participant 0's items in a window

-- the items so far, of which the first has this number, led from these stamps to those
pub record ItemsTo (plan : Plan) (s : HostState) (n : ℕ) (opened : List Shown) (done_items : List ControlDone) (now : List Shown) : Type 0 where
  pub done : AreControlDone plan s n done_items
  pub stamps : StampsTo 0 plan.params opened (flat_map control_calls done_items) now

abbrev pub OneMoreItem : Type 0
OneMoreItem =
    (plan : Plan) (s : HostState) (n : ℕ) (opened : List Shown) (done_items : List ControlDone) (now : List Shown) (done_item : ControlDone) (next : List Shown)
    → ItemsTo plan s n opened done_items now
    → IsControlDone plan (state_behind plan s n (map (λ (done_item : ControlDone). done_item.item) done_items)) (n + length done_items) done_item
    → StampsTo 0 plan.params now done_item.calls next
    → ItemsTo plan s n opened (done_items ++ done_item ∷ []) next

-- ---- windows

-- what a barrier tells of all stamps of a participant, with the lengths that it told, and the turns that it made in each bucket
pub record AreMet (p : ℕ) (old new : List Shown) (lengths : List ℕ) (made : ℕ → List Turn) : Type 0 where
  pub size : length new ≡ length old
  pub each : (b : ℕ) → b < length old → IsMet p (shown_at b old) (shown_at b new) (slice_index_or lengths b 0) (made b)

-- the turns that a barrier before a window makes for a participant in each bucket
abbrev pub opening : ℕ → Plan → ℕ → List ℕ → ℕ → List Turn
opening p plan window lengths b = opening_turns p (window * plan.window) (slice_index_or lengths b 0)

-- a window of a participant: the barrier before it, what it did, each in the window, and the barrier behind it
pub record IsWindowOf {D : Type 0} (calls : D → List Call) (p : ℕ) (plan : Plan) (old : List Shown) (window : Window D) : Type 0 where
  pub opened : AreMet p old window.opened window.marked (opening p plan window.number window.marked)
  pub now : List Shown
  pub stamps : StampsTo p plan.params window.opened (flat_map calls window.done_items) now
  pub closed : AreMet p now window.closed window.met (λ b. [])
  pub items : AllByRecursion (λ (call : Call). window_of plan call.entered.at ≡ window.number) (flat_map calls window.done_items)

-- windows led from what a participant's stamps showed to what they show now
abbrev pub WindowsTo : {D : Type 0} → (D → List Call) → ℕ → Plan → List Shown → List (Window D) → List Shown → Type 0
WindowsTo calls p plan old [] now = now ≡ old
WindowsTo calls p plan old (window ∷ windows) now = IsWindowOf calls p plan old window × WindowsTo calls p plan window.closed windows now

-- one window more, of either kind of participant
abbrev pub OneMoreWindowOf : {D : Type 0} → (D → List Call) → Type 0
OneMoreWindowOf {D} calls = (p : ℕ) (plan : Plan) (old : List Shown) (windows : List (Window D)) (now : List Shown) (window : Window D) → WindowsTo calls p plan old windows now → IsWindowOf calls p plan now window → WindowsTo calls p plan old (windows ++ window ∷ []) window.closed

-- all windows and the last mark are a history of each stamp
abbrev pub WindowsAreHistoriesOf : {D : Type 0} → (D → List Call) → Type 0
WindowsAreHistoriesOf {D} calls =
    (p : ℕ) (plan : Plan) (own : ParticipantRun D) (now : List Shown)
    → WindowsTo calls p plan (replicate plan.buckets nothing_shown) own.windows now
    → AreMet p now own.after own.ended (λ b. [])
    → (b : ℕ) → b < plan.buckets → IsStampHistory p plan (history_at calls b own)

-- what the windows of participant 0 and of the senders tell
pub record WindowsGoOn : Type 0 where
  pub control : OneMoreWindowOf control_calls
  pub sender : OneMoreWindowOf sender_calls
  pub control_ends : WindowsAreHistoriesOf control_calls
  pub sender_ends : WindowsAreHistoriesOf sender_calls

-- ---- a sender's holds, window by window

-- a barrier meets each named hold of a sender, with the past that the sender's stamp then shows and the length that it told
abbrev pub HoldsAreMet : Plan → List Shown → List ℕ → (Key → Bool) → (Key → Option Hold) → (Key → Option Hold) → Type 0
HoldsAreMet plan shown lengths named old new =
    (key : Key) → MeetsHold plan.params plan.host key (shown_at (bucket_of plan.buckets key) shown).past (slice_index_or lengths (bucket_of plan.buckets key) 0) (named key) (old key) (new key)

-- the windows so far of a sender: its packets, each in its window, and its holds now
pub record SenderTo (plan : Plan) (p : ℕ) (windows : List (Window PacketDone)) (holds : Key → Option Hold) : Type 0 where
  pub done : ArePacketsDone plan p 1 (all_done_items windows)
  pub in_window : AllByRecursion (λ (window : Window PacketDone). AllByRecursion (λ (packet : PacketDone). window_of plan packet.item.at ≡ window.number) window.done_items) windows
  pub held : (key : Key) → WindowsLeaveHold plan key None windows
  pub now : (key : Key) → last_hold key None windows ≡ holds key

-- one window more: the barrier before it names the keys that the sender sends to in it, its packets are done in it, and the barrier behind it names the same keys
abbrev pub OneMoreWindow : Type 0
OneMoreWindow =
    (plan : Plan) (p : ℕ) (windows : List (Window PacketDone)) (holds : Key → Option Hold) (window : Window PacketDone) (now : List Shown) (sent : Key → Option Hold)
    → SenderTo plan p windows holds
    → HoldsAreMet plan window.opened window.marked (λ key. is_named key window.done_items) holds window.opened_holds
    → PacketsTo plan p (1 + length (all_done_items windows)) window.opened window.opened_holds window.done_items now sent
    → AllByRecursion (λ (packet : PacketDone). window_of plan packet.item.at ≡ window.number) window.done_items
    → HoldsAreMet plan window.closed window.met (λ key. is_named key window.done_items) sent window.closed_holds
    → SenderTo plan p (windows ++ window ∷ []) window.closed_holds
