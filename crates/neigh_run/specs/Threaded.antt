-- The runs of a plan with a thread for each participant, in nine clauses (this project's own).
use Rattle.std.specs.Prelude.{◌≡◌, ℕ, ◌+◌, ◌<◌, ◌≤◌, max, Bool, false, not, ◌==◌, if◌then◌else◌, List, [], ◌∷◌, ◌++◌, map, filter, length, Some, IfSome, take}
use Rattle.std.specs.Option.{option_map_or}
use Rattle.std.specs.List.{AllByRecursion, AllZip, list_any}
use Rattle.nb_base.specs.declared.params.Params.{Params}
use Rattle.nb_base.specs.declared.line.Line.{Line}
use Rattle.nb_base.specs.declared.outcome.Outcome.{Outcome}
use Rattle.nb_base.specs.declared.outcome.Outcome.TheVariants as outcome
use Rattle.nb_base.specs.declared.host_line.Mark.{Mark}
use Rattle.nb_base.specs.declared.plan.Mode.TheVariants as mode
use Rattle.nb_base.specs.declared.plan.Plan.{Plan}
use Rattle.nb_base.specs.declared.plan.SendItem.{SendItem}
use Rattle.nb_base.specs.Buckets.{bucket_of}
use Rattle.nb_journal.specs.Keys.{is_key}
use Rattle.nb_journal.specs.Lawful.{IsLawful, last_moment}
use Rattle.nb_journal.specs.Accounts.{published, own_lines}
use Rattle.change_order.specs.Orders.{HaveOneOrder}
use Rattle.journal_counts.specs.Counts.{counts_of}
use Rattle.neigh_run.specs.declared.run.Run.{Run}
use Rattle.neigh_run.specs.Control.{host_start}
use Rattle.nb_base.specs.Ids.{participant_of}
use Rattle.neigh_run.specs.Merged.{Entered, id_for, packet_op, goes_to, control_ops}
use Rattle.neigh_run.specs.Inline.{journal_at, placed_at, host_lines_of}
use Rattle.neigh_run.specs.Windows.{length_at, last_start, own_length, next_length, AreMarks}
use Rattle.neigh_run.specs.Bounds.{Handled, number_at, known_number, IsBounded, is_first, is_inline}

-- ---- a journal for each bucket, and a log for each sender

-- P holds of each of the journals of the buckets from b on, with the bucket's number
abbrev pub EachJournal : (ℕ → List Line → Type 0) → ℕ → List (List Line) → Type 0
EachJournal P b [] = Unit {0}
EachJournal P b (journal ∷ journals) = P b journal × EachJournal P (b + 1) journals

-- P holds of each of the senders from p on, with its number, its items and its log; there is a log for each
abbrev pub EachSender : (ℕ → List SendItem → List Outcome → Type 0) → ℕ → List (List SendItem) → List (List Outcome) → Type 0
EachSender P p [] [] = Unit {0}
EachSender P p [] (log ∷ logs) = ⊥
EachSender P p (items ∷ senders) [] = ⊥
EachSender P p (items ∷ senders) (log ∷ logs) = P p items log × EachSender P (p + 1) senders logs

-- ---- 2. beginnings of journals

-- the lines are lawful at the later of the moment and their last line's
abbrev pub IsLawfulFrom : Params → ℕ → List Line → Type 0
IsLawfulFrom p start lines = IsLawful p lines (max start (last_moment lines))

-- a bucket's lines up to each mark with a moment are lawful from that moment on, and its whole journal is so from the last one on
pub record IsLawfulAtMarks (p : Params) (marks : List Mark) (b : ℕ) (journal : List Line) : Type 0 where
  pub marked : AllByRecursion (λ (mark : Mark). IfSome mark.start (λ start. IsLawfulFrom p start (take (length_at b mark) journal))) marks
  pub whole : IsLawfulFrom p (last_start marks) journal

-- ---- 3. operations' lines

-- a line whose id names participant p
abbrev pub is_line_of : ℕ → Line → Bool
is_line_of p line = option_map_or (λ id. participant_of id == p) line.id false

-- a line with the lines before it, how many of which there are is its place
pub record Standing : Type 0 where
  pub past : List Line
  pub line : Line

-- participant p's lines among those behind the past
abbrev pub lines_of : ℕ → List Line → List Line → List Standing
lines_of p past [] = []
lines_of p past (line ∷ lines) = (if is_line_of p line then record { past = past; line = line } ∷ [] else []) ++ lines_of p (past ++ line ∷ []) lines

-- a line is that of an operation: it has its number and what it asks, it stands at the later of its item's moment and that of the last operation's line before it, and between the two marks of its item's window
pub record IsLineFor (plan : Plan) (marks : List Mark) (b : ℕ) (standing : Standing) (entered : Entered) : Type 0 where
  pub id : standing.line.id ≡ Some entered.id
  pub op : standing.line.op ≡ entered.op
  pub moment : standing.line.at ≡ max entered.at (last_moment (own_lines standing.past))
  pub behind : own_length plan marks b entered.at ≤ length standing.past
  pub before : length standing.past < next_length plan marks b entered.at

-- participant p's lines in bucket b's journal are those of these of its operations that go there, each once, in order
abbrev pub HasLinesFor : Plan → List Mark → ℕ → List Entered → ℕ → List Line → Type 0
HasLinesFor plan marks p operations b journal = AllZip (IsLineFor plan marks b) (lines_of p [] journal) (filter (λ entered. goes_to plan.buckets b entered.op) operations)

-- the sends of a sender's slow packets, of which the first item has this number
abbrev pub slow_ops : ℕ → ℕ → List SendItem → List Outcome → List Entered
slow_ops p n [] log = []
slow_ops p n (item ∷ items) [] = []
slow_ops p n (item ∷ items) (outcome.Fast number header ∷ log) = slow_ops p (n + 1) items log
slow_ops p n (item ∷ items) (outcome.Slow why place reply ∷ log) = packet_op p n item ∷ slow_ops p (n + 1) items log

-- the operations' lines of a bucket are participant 0's and the senders', and nobody else's
pub record HasItsLines (plan : Plan) (run : Run) (b : ℕ) (journal : List Line) : Type 0 where
  pub control : HasLinesFor plan run.marks 0 (control_ops plan host_start 1 plan.control) b journal
  pub senders : EachSender (λ p items log. HasLinesFor plan run.marks p (slow_ops p 1 items log) b journal) 1 plan.senders run.logs
  pub only : AllByRecursion (λ (line : Line). IfSome line.id (λ id. participant_of id ≤ length plan.senders)) journal

-- ---- 4. to 6. outcomes

-- a sender's packets with what became of them, of which the first has this number
abbrev pub handled : ℕ → List SendItem → List Outcome → List Handled
handled n [] log = []
handled n (item ∷ items) [] = []
handled n (item ∷ items) (o ∷ log) = record { n = n; at = item.at; key = item.key; outcome = o } ∷ handled (n + 1) items log

-- P holds of each packet with those before it
abbrev pub each_packet : (List Handled → Handled → Type 0) → List Handled → List Handled → Type 0
each_packet P earlier [] = Unit {0}
each_packet P earlier (packet ∷ rest) = P earlier packet × each_packet P (earlier ++ packet ∷ []) rest

-- P holds of each packet of each sender, with the sender's number and its earlier packets
abbrev pub EachPacket : (ℕ → List Handled → Handled → Type 0) → Plan → List (List Outcome) → Type 0
EachPacket P plan logs = EachSender (λ p items log. each_packet (P p) [] (handled 1 items log)) 1 plan.senders logs

-- 4. a slow packet has its line's place and reply
abbrev pub HasItsPlace : Plan → List (List Line) → ℕ → Handled → Outcome → Type 0
HasItsPlace plan journals p packet (outcome.Fast number header) = Unit {0}
HasItsPlace plan journals p packet (outcome.Slow why place reply) =
    let b = bucket_of plan.buckets packet.key in
    placed_at plan journals (id_for p packet.n) b ≡ record { bucket = b; place = place; reply = reply }

-- 5. the cause `First` is there exactly for a sender's first packet to a key, and `Inline` never is
pub record HasItsCause (earlier : List Handled) (packet : Handled) : Type 0 where
  pub first : is_first packet.outcome ≡ not (list_any (λ (other : Handled). is_key other.key packet.key) earlier)
  pub inline : is_inline packet.outcome ≡ false

-- 6. what a packet has read is of its key's cell, no older than its window and than what its sender had seen, and no newer than the next mark
abbrev pub HasReadInBounds : Plan → Run → List Handled → Handled → Type 0
HasReadInBounds plan run earlier packet =
    let b = bucket_of plan.buckets packet.key in
    let journal = journal_at run.journals b in
    IsBounded (published plan.params plan.host journal packet.key)
    (number_at plan.params plan.host journal packet.key (own_length plan run.marks b packet.at))
    (known_number plan.params plan.host journal packet.key earlier)
    (number_at plan.params plan.host journal packet.key (next_length plan run.marks b packet.at))
    packet.outcome

-- ---- 9. the end

-- no line stands behind the later of the last window's first moment and the last operation's moment
abbrev pub EndsWithOperations : List Mark → List Line → Type 0
EndsWithOperations marks journal = last_moment journal ≤ max (last_start marks) (last_moment (own_lines journal))

-- ---- runs

-- a run of the plan with a thread for each participant: a journal for each bucket, and for each sender a log with one outcome for each of its packets, in order
pub record IsThreadedRun (whole : Plan) (run : Run) : Type 0 where
  pub mode : run.mode ≡ mode.Threads
  pub plan : run.plan ≡ whole
  pub buckets : length run.journals ≡ whole.buckets
  pub logs : EachSender (λ p items log. length log ≡ length items) 1 whole.senders run.logs
  -- 1. a mark before each window that has items, and one at the end
  pub marks : AreMarks whole run.journals run.marks
  -- 2. journals are lawful, and so are their lines up to each mark
  pub lawful : EachJournal (IsLawfulAtMarks whole.params run.marks) 0 run.journals
  -- 3. operations' lines are those of the participants, each once, in order, in its window
  pub lines : EachJournal (HasItsLines whole run) 0 run.journals
  -- 4. slow packets have their lines' places and replies
  pub places : EachPacket (λ p earlier packet. HasItsPlace whole run.journals p packet packet.outcome) whole run.logs
  -- 5. causes
  pub causes : EachPacket (λ p earlier packet. HasItsCause earlier packet) whole run.logs
  -- 6. what was read is in its bounds
  pub bounds : EachPacket (λ p earlier packet. HasReadInBounds whole run earlier packet) whole run.logs
  -- 7. the host's journal, by participant 0's items and the journals
  pub host_lines : run.host_lines ≡ host_lines_of whole run.journals host_start 1 whole.control
  -- 8. there is one order of all changes, in which each line that looked has its place
  pub order : HaveOneOrder (map (counts_of whole.params) run.journals)
  -- 9. it ends with its operations
  pub ends : AllByRecursion (EndsWithOperations run.marks) run.journals
