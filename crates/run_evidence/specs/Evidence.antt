-- What a run with a thread for each participant holds of its tokens' lists in the end, and what its calls say of them, one by one (this project's own).
use Rattle.std.specs.Prelude.{◌≡◌, ℕ, ◌+◌, ◌<◌, Bool, true, false, ◌==◌, List, [], ◌∷◌, map, filter, flat_map, length, Option, Some, None, slice_index_or}
use Rattle.std.specs.List.{AllByRecursion, AllZip, list_any}
use Rattle.nb_base.specs.declared.key.Key.{Key}
use Rattle.nb_base.specs.declared.line.Line.{Line}
use Rattle.nb_base.specs.declared.line.Reply.{Reply}
use Rattle.nb_base.specs.declared.outcome.Outcome.{Outcome}
use Rattle.nb_base.specs.declared.outcome.Outcome.TheVariants as outcome
use Rattle.nb_base.specs.declared.host_line.Mark.{Mark}
use Rattle.nb_base.specs.declared.host_line.Placed.{Placed}
use Rattle.nb_base.specs.declared.host_line.HostLine.{HostLine}
use Rattle.nb_base.specs.declared.plan.Mode.TheVariants as mode
use Rattle.nb_base.specs.declared.plan.Plan.{Plan}
use Rattle.nb_base.specs.declared.plan.SendItem.{SendItem}
use Rattle.nb_base.specs.declared.plan.ControlItem.{ControlItem}
use Rattle.nb_base.specs.Buckets.{bucket_of}
use Rattle.nb_journal.specs.Keys.{is_key}
use Rattle.nb_journal.specs.Accounts.{published}
use Rattle.bucket_stamps.specs.declared.view.Turn.{Turn}
use Rattle.change_order.specs.declared.part.Part.{Part}
use Rattle.change_order.specs.Counted.{AreCounted}
use Rattle.change_order.specs.Orders.{HasCounts}
use Rattle.journal_counts.specs.Counts.{counts_of}
use Rattle.neigh_run.specs.declared.run.Run.{Run}
use Rattle.neigh_run.specs.Control.{HostState, host_start, turn}
use Rattle.neigh_run.specs.Merged.{Entered, control_op, packet_op}
use Rattle.neigh_run.specs.Seen.{buckets_from}
use Rattle.neigh_run.specs.Windows.{window_of, mark_starts, length_at}
use Rattle.run_evidence.specs.Tokens.{Shown, nothing_shown, Call}
use Rattle.run_evidence.specs.Stamps.{StampWindow, StampHistory, BucketEvidence, IsBucketEvidence}
use Rattle.run_evidence.specs.Holds.{Hold, IsRead, MeetsHold, AreKnown}

-- ---- what a participant did, window by window

-- a window of a participant, by its number: the lengths that the barrier before it told (its mark), and what the participant's stamps, bucket by bucket, and its holds show behind that barrier;
-- the items that it did, in order; and the lengths that the barrier behind it told, and what stamps and holds show behind that one
pub record Window (D : Type 0) : Type 0 where
  pub number : ℕ
  pub marked : List ℕ
  pub opened : List Shown
  pub opened_holds : Key → Option Hold
  pub done_items : List D
  pub met : List ℕ
  pub closed : List Shown
  pub closed_holds : Key → Option Hold

-- all windows of a participant, the lengths at the last mark, and what its stamps show in the end
pub record ParticipantRun (D : Type 0) : Type 0 where
  pub windows : List (Window D)
  pub ended : List ℕ
  pub after : List Shown

-- an item of participant 0: the calls that it made, and the lines of the host's journal
pub record ControlDone : Type 0 where
  pub item : ControlItem
  pub calls : List Call
  pub lines : List HostLine

-- a packet of a sender: its outcome, the call that it made if any, and the sender's holds behind it
pub record PacketDone : Type 0 where
  pub item : SendItem
  pub outcome : Outcome
  pub calls : List Call
  pub holds : Key → Option Hold

-- the calls of either
abbrev pub control_calls : ControlDone → List Call
control_calls done = done.calls

abbrev pub sender_calls : PacketDone → List Call
sender_calls packet = packet.calls

-- the items of all windows, in order
abbrev pub all_done_items : {D : Type 0} → List (Window D) → List D
all_done_items windows = flat_map (λ window. window.done_items) windows

-- ---- as one bucket sees it

-- the calls of bucket b
abbrev pub in_bucket : ℕ → List Call → List Call
in_bucket b calls = filter (λ (call : Call). call.bucket == b) calls

-- what the stamp of bucket b shows
abbrev pub shown_at : ℕ → List Shown → Shown
shown_at b shown = slice_index_or shown b nothing_shown

-- a window as the stamp of bucket b saw it
abbrev pub stamp_window_at : {D : Type 0} → (D → List Call) → ℕ → Window D → StampWindow
stamp_window_at calls b window = record {
  number = window.number;
  mark = slice_index_or window.marked b 0;
  opened = shown_at b window.opened;
  calls = in_bucket b (flat_map calls window.done_items);
  met = slice_index_or window.met b 0;
  closed = shown_at b window.closed;
}

-- the history of that stamp
abbrev pub history_at : {D : Type 0} → (D → List Call) → ℕ → ParticipantRun D → StampHistory
history_at calls b own = record { windows = map (stamp_window_at calls b) own.windows; ended = slice_index_or own.ended b 0; after = shown_at b own.after }

-- ---- the evidence

-- what both kinds of participants did, the journals and their turns, the marks, and each bucket's changes and looks
pub record Evidence : Type 0 where
  pub control : ParticipantRun ControlDone
  pub senders : List (ParticipantRun PacketDone)
  pub journals : List (List Line)
  pub turns : List (List Turn)
  pub marks : List Mark
  pub parts : List Part

-- what bucket b's tokens tell together
abbrev pub bucket_at : ℕ → Evidence → BucketEvidence
bucket_at b e = record {
  journal = slice_index_or e.journals b [];
  turns = slice_index_or e.turns b [];
  histories = history_at control_calls b e.control ∷ map (history_at sender_calls b) e.senders;
}

-- a bucket's marks: their moments and their lengths of its journal
abbrev pub column : ℕ → List Mark → List (Option ℕ × ℕ)
column b marks = map (λ (mark : Mark). (mark.start, length_at b mark)) marks

-- the run that it is of
abbrev pub run_of : Plan → Evidence → Run
run_of plan e = record {
  mode = mode.Threads;
  plan = plan;
  journals = e.journals;
  host_lines = flat_map (λ (done : ControlDone). done.lines) (all_done_items e.control.windows);
  logs = map (λ (own : ParticipantRun PacketDone). map (λ (packet : PacketDone). packet.outcome) (all_done_items own.windows)) e.senders;
  marks = e.marks;
}

-- ---- participant 0's items

-- where a call's line stands, and its reply
abbrev pub placed_by : Call → Placed
placed_by call = record { bucket = call.bucket; place = call.place; reply = call.reply }

-- the operation was entered into each bucket that it goes to, in order
pub record AreEntered (plan : Plan) (entered : Entered) (calls : List Call) : Type 0 where
  pub buckets : map (λ (call : Call). call.bucket) calls ≡ buckets_from plan.buckets 0 plan.buckets entered.op
  pub each : AllByRecursion (λ (call : Call). call.entered ≡ entered) calls

-- an item's operation, if it brings one, was entered
abbrev pub IsEntered : Plan → Option Entered → List Call → Type 0
IsEntered plan None calls = calls ≡ []
IsEntered plan (Some entered) calls = AreEntered plan entered calls

-- an item of participant 0, done in the state that the items before have left: its operation was entered, and the host's journal has its lines, with the calls' places and replies
pub record IsControlDone (plan : Plan) (s : HostState) (n : ℕ) (done : ControlDone) : Type 0 where
  pub entered : IsEntered plan (control_op plan s n done.item) done.calls
  pub lines : done.lines ≡ (turn plan s n done.item).lines (map placed_by done.calls)

-- the items of participant 0 from number n on, one after another
abbrev pub AreControlDone : Plan → HostState → ℕ → List ControlDone → Type 0
AreControlDone plan s n [] = Unit {0}
AreControlDone plan s n (done ∷ more) = IsControlDone plan s n done × AreControlDone plan (turn plan s n done.item).behind (n + 1) more

-- participant 0 did its items, each in its window
pub record IsControlRun (plan : Plan) (own : ParticipantRun ControlDone) : Type 0 where
  pub items : map (λ (done : ControlDone). done.item) (all_done_items own.windows) ≡ plan.control
  pub done : AreControlDone plan host_start 1 (all_done_items own.windows)

-- ---- a sender's packets

-- a slow packet was entered into its key's bucket, and has the call's place and reply; a fast one made no call
pub record IsSlowDone (plan : Plan) (p n : ℕ) (item : SendItem) (calls : List Call) (place : ℕ) (reply : Reply) : Type 0 where
  pub call : Call
  pub one : calls ≡ call ∷ []
  pub bucket : call.bucket ≡ bucket_of plan.buckets item.key
  pub entered : call.entered ≡ packet_op p n item
  pub place_is : call.place ≡ place
  pub reply_is : call.reply ≡ reply

-- the packet of number n of sender p
abbrev pub IsPacketDone : Plan → ℕ → ℕ → PacketDone → Outcome → Type 0
IsPacketDone plan p n packet (outcome.Fast number header) = packet.calls ≡ []
IsPacketDone plan p n packet (outcome.Slow why place reply) = IsSlowDone plan p n packet.item packet.calls place reply

-- its packets from number n on
abbrev pub ArePacketsDone : Plan → ℕ → ℕ → List PacketDone → Type 0
ArePacketsDone plan p n [] = Unit {0}
ArePacketsDone plan p n (packet ∷ packets) = IsPacketDone plan p n packet packet.outcome × ArePacketsDone plan p (n + 1) packets

-- the lines that the stamp shows behind the call, if there was one
abbrev pub past_behind : List Call → List Line
past_behind [] = []
past_behind (call ∷ calls) = call.after.past

-- what a packet leaves of the hold of a key: that of its own key goes on by what it read, every other stays
abbrev pub LeavesBy : Bool → Plan → Key → Option Hold → PacketDone → Type 0
LeavesBy true plan key old packet = IsRead plan.params plan.host key (past_behind packet.calls) old packet.outcome (packet.holds key)
LeavesBy false plan key old packet = packet.holds key ≡ old

-- the same, by whether the packet goes to the key
abbrev pub LeavesHold : Plan → Key → Option Hold → PacketDone → Type 0
LeavesHold plan key old packet = LeavesBy (is_key packet.item.key key) plan key old packet

-- the packets of a window, and the barrier behind it, which names the key or doesn't
abbrev pub PacketsLeaveHold : Plan → Key → Option Hold → List PacketDone → List Line → ℕ → Bool → Option Hold → Type 0
PacketsLeaveHold plan key old [] past told named closed = MeetsHold plan.params plan.host key past told named old closed
PacketsLeaveHold plan key old (packet ∷ packets) past told named closed = LeavesHold plan key old packet × PacketsLeaveHold plan key (packet.holds key) packets past told named closed

-- the sender sends to the key in the window
abbrev pub is_named : Key → List PacketDone → Bool
is_named key packets = list_any (λ (packet : PacketDone). is_key packet.item.key key) packets

-- the windows: the barrier before each, its packets, and the barrier behind it
abbrev pub WindowsLeaveHold : Plan → Key → Option Hold → List (Window PacketDone) → Type 0
WindowsLeaveHold plan key old [] = Unit {0}
WindowsLeaveHold plan key old (window ∷ windows) =
    MeetsHold plan.params plan.host key (shown_at (bucket_of plan.buckets key) window.opened).past (slice_index_or window.marked (bucket_of plan.buckets key) 0) (is_named key window.done_items) old (window.opened_holds key)
    × PacketsLeaveHold plan key (window.opened_holds key) window.done_items (shown_at (bucket_of plan.buckets key) window.closed).past (slice_index_or window.met (bucket_of plan.buckets key) 0) (is_named key window.done_items) (window.closed_holds key)
    × WindowsLeaveHold plan key (window.closed_holds key) windows

-- the hold in the end
abbrev pub last_hold : Key → Option Hold → List (Window PacketDone) → Option Hold
last_hold key old [] = old
last_hold key old (window ∷ windows) = last_hold key (window.closed_holds key) windows

-- a sender did its items, each in its window, and its holds went on by its sends and by the barriers
pub record IsSenderRun (plan : Plan) (journals : List (List Line)) (p : ℕ) (list : List SendItem) (own : ParticipantRun PacketDone) : Type 0 where
  pub items : map (λ (packet : PacketDone). packet.item) (all_done_items own.windows) ≡ list
  pub windows : AllByRecursion (λ (window : Window PacketDone). AllByRecursion (λ (packet : PacketDone). window_of plan packet.item.at ≡ window.number) window.done_items) own.windows
  pub done : ArePacketsDone plan p 1 (all_done_items own.windows)
  pub holds : (key : Key) → WindowsLeaveHold plan key None own.windows
  pub known : (key : Key) → AreKnown (published plan.params plan.host (slice_index_or journals (bucket_of plan.buckets key) []) key) (last_hold key None own.windows)

-- each sender did, from p on
abbrev pub AreSenderRuns : Plan → List (List Line) → ℕ → List (List SendItem) → List (ParticipantRun PacketDone) → Type 0
AreSenderRuns plan journals p [] [] = Unit {0}
AreSenderRuns plan journals p [] (own ∷ others) = ⊥
AreSenderRuns plan journals p (items ∷ senders) [] = ⊥
AreSenderRuns plan journals p (items ∷ senders) (own ∷ others) = IsSenderRun plan journals p items own × AreSenderRuns plan journals (p + 1) senders others

-- what the calls of a run say, one by one
pub record IsEvidence (plan : Plan) (e : Evidence) : Type 0 where
  pub buckets : length e.journals ≡ plan.buckets
  pub starts : map (λ (mark : Mark). mark.start) e.marks ≡ mark_starts plan
  pub lengths : AllByRecursion (λ (mark : Mark). length mark.lengths ≡ plan.buckets) e.marks
  pub each_bucket : (b : ℕ) → b < plan.buckets → IsBucketEvidence plan (column b e.marks) (bucket_at b e)
  -- each bucket's changes and looks are those of its journal, and all of them are counted by one counter
  pub counted : AreCounted e.parts
  pub counts : AllZip HasCounts e.parts (map (counts_of plan.params) e.journals)
  pub control : IsControlRun plan e.control
  pub senders : AreSenderRuns plan e.journals 1 plan.senders e.senders
