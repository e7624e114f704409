-- What the ends of all loops and giving up all tokens tell together, which is evidence of a run (this project's own).
use Rattle.std.specs.Prelude.{◌≡◌, ℕ, ◌+◌, ◌*◌, ◌<◌, List, [], ◌∷◌, ◌++◌, map, length, take, replicate, Option, Some, None, slice_index_or}
use Rattle.std.specs.List.{AllByRecursion, AllZip}
use Rattle.nb_base.specs.declared.key.Key.{Key}
use Rattle.nb_base.specs.declared.line.Line.{Line}
use Rattle.nb_base.specs.declared.host_line.Mark.{Mark}
use Rattle.nb_base.specs.declared.plan.Plan.{Plan}
use Rattle.nb_base.specs.declared.plan.SendItem.{SendItem}
use Rattle.nb_base.specs.Buckets.{bucket_of}
use Rattle.nb_journal.specs.Accounts.{published}
use Rattle.bucket_stamps.specs.declared.view.Turn.{Turn}
use Rattle.change_order.specs.Counted.{AreCounted}
use Rattle.change_order.specs.Orders.{HasCounts}
use Rattle.journal_counts.specs.Counts.{counts_of}
use Rattle.neigh_run.specs.Control.{host_start, state_behind}
use Rattle.neigh_run.specs.Windows.{mark_starts}
use Rattle.neigh_run.specs.Threaded.{IsLawfulFrom, IsThreadedRun}
use Rattle.run_evidence.specs.Tokens.{Shown, nothing_shown, Call, IsGivenUp}
use Rattle.run_evidence.specs.Stamps.{IsWholeBucket}
use Rattle.run_evidence.specs.Holds.{Hold, AreKnown}
use Rattle.run_evidence.specs.Evidence.{Window, ParticipantRun, ControlDone, PacketDone, control_calls, sender_calls, all_done_items, shown_at, Evidence, run_of, last_hold, AreControlDone, IsControlRun}
use Rattle.run_evidence.specs.Growing.{ItemsTo, AreMet, WindowsTo, SenderTo}

-- ---- the ends of the loops

-- a participant's windows, and the last mark
pub record IsLedThrough {D : Type 0} (calls : D → List Call) (p : ℕ) (plan : Plan) (own : ParticipantRun D) : Type 0 where
  pub now : List Shown
  pub windows : WindowsTo calls p plan (replicate plan.buckets nothing_shown) own.windows now
  pub ended : AreMet p now own.after own.ended (λ b. [])

-- the lengths that a participant was told before its windows, each with the window's first moment
abbrev pub lengths_opened : {D : Type 0} → Plan → List (Window D) → List (Option ℕ × List ℕ)
lengths_opened {D} plan windows = map (λ (window : Window D). (Some (window.number * plan.window), window.marked)) windows

-- those that it was told in all: the last mark has no moment
abbrev pub lengths_told : {D : Type 0} → Plan → ParticipantRun D → List (Option ℕ × List ℕ)
lengths_told plan own = lengths_opened plan own.windows ++ (None, own.ended) ∷ []

-- the same of the marks
abbrev pub lengths_marked : List Mark → List (Option ℕ × List ℕ)
lengths_marked marks = map (λ (mark : Mark). (mark.start, mark.lengths)) marks

-- the participant was told the lengths that the marks have
abbrev pub HasMarks : {D : Type 0} → Plan → List Mark → ParticipantRun D → Type 0
HasMarks plan marks own = lengths_told plan own ≡ lengths_marked marks

-- the lines of each bucket that the barrier before a window counts are lawful from the window's first moment on
abbrev pub IsOpened : Plan → Window ControlDone → Type 0
IsOpened plan window = (b : ℕ) → b < plan.buckets → IsLawfulFrom plan.params (window.number * plan.window) (take (slice_index_or window.marked b 0) (shown_at b window.opened).past)

-- participant 0's loop: its windows, each opened by a barrier, and its items
pub record IsControlLed (plan : Plan) (marks : List Mark) (own : ParticipantRun ControlDone) : Type 0 where
  pub led : IsLedThrough control_calls 0 plan own
  pub told : HasMarks plan marks own
  pub opened : AllByRecursion (IsOpened plan) own.windows
  pub run : IsControlRun plan own

-- a sender's loop: its windows, its items, its packets and its holds
pub record IsSenderLed (plan : Plan) (marks : List Mark) (p : ℕ) (items : List SendItem) (own : ParticipantRun PacketDone) : Type 0 where
  pub led : IsLedThrough sender_calls p plan own
  pub told : HasMarks plan marks own
  pub items_are : map (λ (packet : PacketDone). packet.item) (all_done_items own.windows) ≡ items
  pub holds : Key → Option Hold
  pub sender : SenderTo plan p own.windows holds

-- ---- the loops

-- the windows so far of participant 0: its items, each in the state that those before have left, and the barriers before them
pub record ControlTo (plan : Plan) (windows : List (Window ControlDone)) : Type 0 where
  pub done : AreControlDone plan host_start 1 (all_done_items windows)
  pub opened : AllByRecursion (IsOpened plan) windows

-- one window more of participant 0
abbrev pub OneMoreControlWindow : Type 0
OneMoreControlWindow =
    (plan : Plan) (windows : List (Window ControlDone)) (window : Window ControlDone) (now : List Shown)
    → ControlTo plan windows
    → IsOpened plan window
    → ItemsTo plan (state_behind plan host_start 1 (map (λ (done : ControlDone). done.item) (all_done_items windows))) (1 + length (all_done_items windows)) window.opened window.done_items now
    → ControlTo plan (windows ++ window ∷ [])

-- the marks so far have the lengths that a participant was told
abbrev pub MarksTo : {D : Type 0} → Plan → List (Window D) → List Mark → Type 0
MarksTo plan windows marks = lengths_opened plan windows ≡ lengths_marked marks

-- one window more and its mark, and the mark at the end, of either kind of participant
pub record MarksGoOnOf (D : Type 0) : Type 0 where
  pub more : (plan : Plan) (windows : List (Window D)) (window : Window D) (marks : List Mark) → MarksTo plan windows marks → MarksTo plan (windows ++ window ∷ []) (marks ++ record { start = Some (window.number * plan.window); lengths = window.marked } ∷ [])
  pub last : (plan : Plan) (own : ParticipantRun D) (marks : List Mark) → MarksTo plan own.windows marks → HasMarks plan (marks ++ record { start = None; lengths = own.ended } ∷ []) own

pub record MarksGoOn : Type 0 where
  pub control : MarksGoOnOf ControlDone
  pub sender : MarksGoOnOf PacketDone

-- ---- giving up all tokens

-- a participant gives up its stamp of each bucket
abbrev pub GivesUp : {D : Type 0} → Plan → List (List Line) → List (List Turn) → ℕ → ParticipantRun D → Type 0
GivesUp plan journals turns p own = (b : ℕ) → b < plan.buckets → IsGivenUp p (slice_index_or journals b []) (slice_index_or turns b []) (shown_at b own.after)

-- a sender gives up its holds
abbrev pub GivesHoldsUp : Plan → List (List Line) → ParticipantRun PacketDone → Type 0
GivesHoldsUp plan journals own = (key : Key) → AreKnown (published plan.params plan.host (slice_index_or journals (bucket_of plan.buckets key) []) key) (last_hold key None own.windows)

-- the senders from p on: each loop, and what giving up its tokens tells
abbrev pub AreSendersLed : Plan → Evidence → ℕ → List (List SendItem) → List (ParticipantRun PacketDone) → Type 0
AreSendersLed plan e p [] [] = Unit {0}
AreSendersLed plan e p (items ∷ lists) (own ∷ owns) = (IsSenderLed plan e.marks p items own × GivesUp plan e.journals e.turns p own × GivesHoldsUp plan e.journals own) × AreSendersLed plan e (p + 1) lists owns
AreSendersLed plan e p _ _ = ⊥

-- ---- both together

-- the marks, the loops, and what giving up all tokens tells of the buckets and of the census
pub record IsGathered (plan : Plan) (e : Evidence) : Type 0 where
  -- the marks are those of the plan's windows, with a length for each bucket
  pub starts : map (λ (mark : Mark). mark.start) e.marks ≡ mark_starts plan
  pub lengths : AllByRecursion (λ (mark : Mark). length mark.lengths ≡ plan.buckets) e.marks
  -- the participants' loops, and their tokens
  pub control : IsControlLed plan e.marks e.control
  pub control_tokens : GivesUp plan e.journals e.turns 0 e.control
  pub senders : AreSendersLed plan e 1 plan.senders e.senders
  -- the buckets, and the census
  pub buckets : length e.journals ≡ plan.buckets
  pub whole : (b : ℕ) → b < plan.buckets → IsWholeBucket plan.params (length plan.senders + 1) (slice_index_or e.journals b []) (slice_index_or e.turns b [])
  pub counted : AreCounted e.parts
  pub counts : AllZip HasCounts e.parts (map (counts_of plan.params) e.journals)

-- what was gathered so is of a run of the plan with a thread for each participant
abbrev pub GatheredIsARun : Type 0
GatheredIsARun = (plan : Plan) (e : Evidence) → 0 < plan.window → 0 < plan.buckets → IsGathered plan e → IsThreadedRun plan (run_of plan e)
