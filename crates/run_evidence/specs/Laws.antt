-- The laws of evidence: what its calls say, one by one, makes it a run with a thread for each participant (this project's own).
use Rattle.std.specs.Prelude.{◌≡◌, ◌<◌, map, length}
use Rattle.std.specs.List.{AllByRecursion}
use Rattle.nb_base.specs.declared.plan.Plan.{Plan}
use Rattle.change_order.specs.Orders.{HaveOneOrder}
use Rattle.journal_counts.specs.Counts.{counts_of}
use Rattle.neigh_run.specs.Control.{host_start}
use Rattle.neigh_run.specs.Inline.{host_lines_of}
use Rattle.neigh_run.specs.Windows.{AreMarks}
use Rattle.neigh_run.specs.Threaded.{EachJournal, EachSender, IsLawfulAtMarks, HasItsLines, EachPacket, HasItsPlace, HasItsCause, HasReadInBounds, EndsWithOperations, IsThreadedRun}
use Rattle.run_evidence.specs.Evidence.{Evidence, run_of, IsEvidence}

-- what evidence of a plan makes of its run, where the window isn't empty and there is a bucket
abbrev pub Shows : (Plan → Evidence → Type 0) → Type 0
Shows P = (plan : Plan) (e : Evidence) → 0 < plan.window → 0 < plan.buckets → IsEvidence plan e → P plan e

-- a log for each sender, with one outcome for each of its packets
abbrev pub ShowsLogs : Type 0
ShowsLogs = Shows (λ plan e. EachSender (λ p items log. length log ≡ length items) 1 plan.senders (run_of plan e).logs)

-- 1. its marks
abbrev pub ShowsMarks : Type 0
ShowsMarks = Shows (λ plan e. AreMarks plan e.journals e.marks)

-- 2. lawful journals and beginnings
abbrev pub ShowsLawful : Type 0
ShowsLawful = Shows (λ plan e. EachJournal (IsLawfulAtMarks plan.params e.marks) 0 e.journals)

-- 3. operations' lines
abbrev pub ShowsLines : Type 0
ShowsLines = Shows (λ plan e. EachJournal (HasItsLines plan (run_of plan e)) 0 e.journals)

-- 4. places and replies of slow packets
abbrev pub ShowsPlaces : Type 0
ShowsPlaces = Shows (λ plan e. EachPacket (λ p earlier packet. HasItsPlace plan e.journals p packet packet.outcome) plan (run_of plan e).logs)

-- 5. causes
abbrev pub ShowsCauses : Type 0
ShowsCauses = Shows (λ plan e. EachPacket (λ p earlier packet. HasItsCause earlier packet) plan (run_of plan e).logs)

-- 6. bounds of what was read
abbrev pub ShowsBounds : Type 0
ShowsBounds = Shows (λ plan e. EachPacket (λ p earlier packet. HasReadInBounds plan (run_of plan e) earlier packet) plan (run_of plan e).logs)

-- 7. the host's journal
abbrev pub ShowsHostLines : Type 0
ShowsHostLines = Shows (λ plan e. (run_of plan e).host_lines ≡ host_lines_of plan e.journals host_start 1 plan.control)

-- 8. one order of all changes
abbrev pub ShowsOrder : Type 0
ShowsOrder = Shows (λ plan e. HaveOneOrder (map (counts_of plan.params) e.journals))

-- 9. no journal goes on behind the moment at which the last window begins and that of its last operation
abbrev pub ShowsEnds : Type 0
ShowsEnds = Shows (λ plan e. AllByRecursion (EndsWithOperations e.marks) e.journals)

-- all nine
abbrev pub ShowsRun : Type 0
ShowsRun = Shows (λ plan e. IsThreadedRun plan (run_of plan e))
