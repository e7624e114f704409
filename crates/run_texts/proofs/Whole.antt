-- A text tells its run: part by part, each journal before the host's lines, and these before the logs.
use Rattle.std.proofs.Common.{◌≡◌, ℕ, true, List, [], ◌∷◌, ◌++◌, length, map, refl, sym, ◌∙◌, ap, subst, arith}
use Rattle.std.specs.Prelude.{nat_le, Option, Some, None, IfSome, codes}
use Rattle.std.specs.List.{AllByRecursion}
use Rattle.std.proofs.lemmas.Bool.{and_parts}
use Rattle.std.proofs.lemmas.List.{append_cancel_left}
use Rattle.nb_base.specs.declared.time.OpId.{OpId}
use Rattle.nb_base.specs.declared.params.Params.{Params}
use Rattle.nb_base.specs.declared.line.Line.{Line}
use Rattle.nb_base.specs.declared.host_line.HostLine.{HostLine}
use Rattle.nb_base.specs.declared.plan.Plan.{Plan}
use Rattle.nb_base.specs.Name.{is_name}
use Rattle.nud_machine.specs.Asked.{greatest}
use Rattle.nb_journal.specs.Keys.{may_be_asked}
use Rattle.nb_journal.specs.Steps.{IsShort, IsStep, IsStepped}
use Rattle.nb_journal.proofs.Tests.{le_from}
use Rattle.text_codes.specs.Lines.{Words}
use Rattle.text_codes.proofs.Lacking.{Each-weaker}
use Rattle.neigh_run.specs.declared.run.Run.{Run}
use Rattle.neigh_run.specs.Control.{host_start}
use Rattle.neigh_run.specs.Inline.{host_lines_of}
use Rattle.neigh_run.specs.Spelling.{host_words}
use Rattle.neigh_run.specs.Entries.{proxy_words}
use Rattle.neigh_run.specs.Report.{head_words, bucket_lines, counted, host_line_words, sender_lines, mark_words, fates_words, table, proxies, report}
use Rattle.neigh_run.proofs.CleanRows.{texts_tell}
use Rattle.run_texts.specs.Told.{Small, ops_numbered, IsNamedLine, IsToldJournal, AreToldLogs, last_of}
use Rattle.run_texts.specs.Laws.{SawFew, ReportsTellToldRuns, TextsTellToldRuns}
use Rattle.run_texts.proofs.Lists.{each_line-all, heads}
use Rattle.run_texts.proofs.Rows.{IsTimed, IsNumbered, IsTimedJournal, IsNumberedJournal, buckets-tell}
use Rattle.run_texts.proofs.Journals.{journals-one}
use Rattle.run_texts.proofs.Outcomes.{senders-tell}
use Rattle.run_texts.proofs.Marks.{marks-tell}

-- ---- journals

small-number : (plan : Plan) (line : Line) (o : Option OpId) → IfSome o (λ id. (ops_numbered plan id ≡ line.op ∷ []) × Small id.0) → IfSome o (λ (id : OpId). Small id.0)
small-number plan line None h = tt
small-number plan line (Some id) h = h.1

numbered : (plan : Plan) (start : ℕ) (journal : List Line) → IsToldJournal plan start journal → IsNumberedJournal journal
numbered plan start journal h = Each-weaker (IsNamedLine plan) IsNumbered (λ l g. small-number plan l l.id g) journal h.named

-- a line of a run stands at a moment that its text tells
in_time : (p : Params) (past : List Line) (line : Line) → IsStep p past line → Small line.at
in_time p past line h = let le = le_from line.at greatest (and_parts (nat_le line.at greatest) (may_be_asked line.op) h.0).0 in omega (arith, le)

both-timed : (lines : List Line) → AllByRecursion (λ (l : Line). Small l.at) lines → AllByRecursion SawFew lines → AllByRecursion IsTimed lines
both-timed [] h g = tt
both-timed (l ∷ ls) h g = (record { at = h.0; seen = g.0 }, both-timed ls h.1 g.1)

-- what can be written has moments and numbers that their texts tell
timed : (p : Params) (js : List (List Line)) → AllByRecursion IsShort js → AllByRecursion (IsStepped p) js → AllByRecursion (AllByRecursion SawFew) js → AllByRecursion IsTimedJournal js
timed p [] short steps seen = tt
timed p (j ∷ js) short steps seen = ((few short.0, both-timed j (each_line-all (IsStep p) (λ (l : Line). Small l.at) [] j (in_time p) steps.0) seen.0), timed p js short.1 steps.1 seen.1) where
  few : IsShort j → Small (length j)
  few lt = omega (arith, lt)

-- ---- the report with its plan in place

-- what stands behind the marks
abbrev end_of : Run → List Words
end_of run = fates_words run ∷ (counted (codes "table" ∷ []) (table run) ++ (counted (codes "proxies" ∷ []) (map (proxy_words run.plan.host) (proxies run)) ++ (codes "end" ∷ []) ∷ []))

abbrev from_marks : Run → List Words
from_marks run = counted (codes "marks" ∷ []) (map mark_words run.marks) ++ end_of run

abbrev from_logs : Plan → Run → List Words
from_logs plan run = sender_lines 1 plan.senders run.logs ++ from_marks run

abbrev host_part : List HostLine → List Words
host_part lines = counted (codes "host" ∷ codes "lines" ∷ []) (map host_line_words lines)

abbrev from_host_lines : Plan → Run → List Words
from_host_lines plan run = host_part run.host_lines ++ from_logs plan run

abbrev from_journals : Plan → Run → List Words
from_journals plan run = bucket_lines plan 0 run.journals ++ from_host_lines plan run

parted : (run : Run) → report run ≡ head_words run ∷ host_words run.plan.host ∷ from_journals run.plan run
unfolding report
parted run = refl

with_plan : (plan : Plan) (run : Run) → run.plan ≡ plan → report run ≡ head_words run ∷ host_words run.plan.host ∷ from_journals plan run
with_plan plan run e = parted run ∙ ap (λ (p : Plan). head_words run ∷ host_words run.plan.host ∷ from_journals p run) e

behind_two : (a b x y : Words) (r s : List Words) → a ∷ b ∷ r ≡ x ∷ y ∷ s → r ≡ s
behind_two a b x y r s e = cc

-- ---- the whole

pub reports_tell : ReportsTellToldRuns
reports_tell mode starts plan run other range w h g same =
    let rows = sym (with_plan plan run h.plan) ∙ same ∙ with_plan plan other g.plan in
    let e0 = behind_two (head_words run) (host_words run.plan.host) (head_words other) (host_words other.plan.host) (from_journals plan run) (from_journals plan other) rows in
    let told = λ (js : List (List Line)). Each-weaker (IsToldJournal plan (last_of starts)) IsNumberedJournal (numbered plan (last_of starts)) js in
    let stamps = buckets-tell plan 0 run.journals other.journals (from_host_lines plan run) (from_host_lines plan other) (h.buckets ∙ sym g.buckets) (timed run.plan.params run.journals w.few w.steps w.seen) (told run.journals h.journals) (told other.journals g.journals) refl refl e0 in
    let journals = journals-one plan (last_of starts) run.journals other.journals range h.journals g.journals stamps.0 in
    let few = subst (AllByRecursion IsShort) journals w.few in
    let host_lines = h.host_lines ∙ ap (λ (js : List (List Line)). host_lines_of plan js host_start 1 plan.control) journals ∙ sym g.host_lines in
    let e1 = append_cancel_left (host_part run.host_lines) (from_logs plan run) (from_logs plan other) (stamps.1 ∙ ap (λ (ls : List HostLine). host_part ls ++ from_logs plan other) (sym host_lines)) in
    let logs = senders-tell plan run.journals 1 plan.senders run.logs other.logs (from_marks run) (from_marks other) (h.logs w.few) (subst (λ (js : List (List Line)). AreToldLogs plan js 1 plan.senders other.logs) (sym journals) (g.logs few)) e1 in
    let e2 = heads (codes "marks" ∷ _) (codes "marks" ∷ _) (map mark_words run.marks ++ end_of run) (map mark_words other.marks ++ end_of other) logs.1 in
    let marks = marks-tell run.marks other.marks (end_of run) (end_of other) (h.marks ∙ sym g.marks) (h.lengths w.few) (g.lengths few) e2.1 in
    same_run run other (h.mode_is ∙ sym g.mode_is) (h.plan ∙ sym g.plan) journals host_lines logs.0 marks.0
  where
    same_run : (run other : Run) → run.mode ≡ other.mode → run.plan ≡ other.plan → run.journals ≡ other.journals → run.host_lines ≡ other.host_lines → run.logs ≡ other.logs → run.marks ≡ other.marks → run ≡ other
    same_run run other mode plan journals host_lines logs marks = λ i. record { mode = mode i; plan = plan i; journals = journals i; host_lines = host_lines i; logs = logs i; marks = marks i }

pub texts_tell_told : TextsTellToldRuns
texts_tell_told mode starts plan run other range named w h g text = reports_tell mode starts plan run other range w h g (texts_tell run other (name run h.plan) (name other g.plan) text) where
  name : (r : Run) → r.plan ≡ plan → is_name r.plan.host.dev ≡ true
  name r e = subst (λ (p : Plan). is_name p.host.dev ≡ true) (sym e) named
