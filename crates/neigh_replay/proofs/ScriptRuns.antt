-- The inline run of a script's plan: what its report and its fates ask of it.
use Rattle.std.proofs.Common.{◌≡◌, ◌∙◌, ℕ, ◌+◌, ◌*◌, ◌<◌, ◌≤◌, ◌^◌, Bool, true, false, ◌&&◌, not, List, [], ◌∷◌, ◌++◌, length, Option, Some, None, refl, sym, ap, subst, arith}
use Rattle.std.specs.Prelude.{sum_by, unwrap_or, Result, Ok, Err, MatchResult}
use Rattle.std.specs.List.{list_all, list_any}
use Rattle.std.proofs.lemmas.Bool.{and_parts}
use Rattle.std.proofs.lemmas.List.{length-map}
use Rattle.std.proofs.lemmas.List.Sums.{sum_by-cons}
use Rattle.nb_base.specs.declared.op.Op.{Op}
use Rattle.nb_base.specs.Buckets.{is_bucket_count}
use Rattle.nb_base.specs.declared.plan.Plan.{Plan}
use Rattle.nb_base.specs.declared.plan.SendItem.{SendItem}
use Rattle.nb_base.specs.declared.plan.ControlItem.{ControlItem}
use Rattle.nb_base.specs.declared.plan.ControlItem.TheVariants as control
use Rattle.nb_journal.specs.Keys.{is_own, is_send, may_be_asked}
use Rattle.neigh_script.specs.declared.script.Script.{Script}
use Rattle.neigh_script.specs.Lines.{script_of}
use Rattle.neigh_script.specs.Limits as limits
use Rattle.neigh_run.specs.declared.run.Run.{Run}
use Rattle.neigh_run.specs.Inline.{IsInlineRun}
use Rattle.neigh_run.specs.Control.{HostState, host_start, turn}
use Rattle.neigh_run.specs.Merged.{Entered, control_ops, is_sending}
use Rattle.neigh_run.specs.Plan.{IsWithinLimits, AreSendLists, send_at, plan_of}
use Rattle.neigh_run.specs.Report.{sent_count, fast_count, dropped_count, waiting_count}
use Rattle.neigh_run.proofs.InlineFates.{inline_fates}
use Rattle.neigh_plan.specs.Inline.{most_lines, plan_bound, is_given_op, has_given_ops, IsEnterable}
use Rattle.neigh_plan.specs.Files.{plan_of_files}
use Rattle.pcap_records.specs.declared.capture.Rec.{Rec}
use Rattle.pcap_records.specs.Capture.{AreBounded}
use Rattle.neigh_plan.proofs.ScriptLimits.{script_buckets}
use Rattle.neigh_plan.proofs.ScriptBounds.{script_given, script_bound}
use Rattle.neigh_plan.proofs.FileBounds.{files_enterable}
use Rattle.neigh_run.proofs.Numbers.{own_op}
use Rattle.neigh_replay.specs.declared.failure.Failure.{Failure}
use Rattle.neigh_replay.specs.declared.failure.Failure.TheVariants.{Memory, ReadFault, WriteFault, TooLong, CaptureRefused, ScriptRefused, TooLarge}
use Rattle.neigh_replay.specs.Verdict.{HasRecords}
use Rattle.neigh_replay.specs.Failures.{RefusesCapture, RefusesScript, IsFilesPlan, IsPlansReport, RefusesPlan, IsReportOf, Refuses}

-- ---- how the parts meet

small_alone : (script : Script) (window buckets : ℕ) (capture : Option (List ℕ)) (records : List Rec) → limits.IsWithinLimits script → length script.items ≤ 131_072 → HasRecords capture records → capture ≡ None
    → plan_bound (plan_of_files (unwrap_or capture []) records script window buckets) < most_lines
small_alone script window buckets None records within few h e = subst (λ (rs : List Rec). plan_bound (plan_of_files [] rs script window buckets) < most_lines) (sym h) (script_bound script window buckets within few)
small_alone script window buckets (Some bytes) records within few h e = cc

-- the plan of what the files hold
pub files_plan : (window buckets : ℕ) (text : List ℕ) (capture : Option (List ℕ)) (records : List Rec) (script : Script) (plan : Plan) → is_bucket_count buckets ≡ true → HasRecords capture records → AreBounded (length (unwrap_or capture [])) records
    → script_of text ≡ Ok script → limits.IsWithinLimits script → length script.items ≤ 131_072 → plan ≡ plan_of_files (unwrap_or capture []) records script window buckets → IsFilesPlan window buckets text capture plan
files_plan window buckets text capture records script plan allowed captured bounded read within few is = record {
  made = record { records = records; captured = captured; script = script; read = read; planned = is };
  enterable = subst IsEnterable (sym is) (files_enterable (unwrap_or capture []) records script window buckets allowed within few bounded);
  small = λ none. subst (λ (p : Plan). plan_bound p < most_lines) (sym is) (small_alone script window buckets capture records within few captured none);
}

-- what refuses the capture refuses both
pub capture_refuses : (window buckets : ℕ) (text : List ℕ) (capture : Option (List ℕ)) (failure : Failure) → RefusesCapture capture failure → Refuses window buckets text capture failure
capture_refuses window buckets text capture Memory h = tt
capture_refuses window buckets text capture (ReadFault file) h = absurd h
capture_refuses window buckets text capture WriteFault h = absurd h
capture_refuses window buckets text capture (TooLong file) h = absurd h
capture_refuses window buckets text capture (CaptureRefused fail) h = h
capture_refuses window buckets text capture (ScriptRefused line why) h = absurd h
capture_refuses window buckets text capture TooLarge h = absurd h

-- and so does what refuses the script, behind a capture with records
pub script_refuses : (window buckets : ℕ) (text : List ℕ) (capture : Option (List ℕ)) (records : List Rec) (failure : Failure) → HasRecords capture records → RefusesScript text failure → Refuses window buckets text capture failure
script_refuses window buckets text capture records Memory captured h = tt
script_refuses window buckets text capture records (ReadFault file) captured h = absurd h
script_refuses window buckets text capture records WriteFault captured h = absurd h
script_refuses window buckets text capture records (TooLong file) captured h = absurd h
script_refuses window buckets text capture records (CaptureRefused fail) captured h = absurd h
script_refuses window buckets text capture records (ScriptRefused line why) captured h = (records, captured, h)
script_refuses window buckets text capture records TooLarge captured h = absurd h

-- what their plan comes to is what they come to
pub plan_gives : (window buckets : ℕ) (text : List ℕ) (capture : Option (List ℕ)) (plan : Plan) (r : Result (List ℕ) Failure) → IsFilesPlan window buckets text capture plan
    → MatchResult r (IsPlansReport plan) (RefusesPlan plan) → MatchResult r (IsReportOf window buckets text capture) (Refuses window buckets text capture)
plan_gives window buckets text capture plan (Ok report) is h = record { plan = plan; made = is.made; report_is = h }
plan_gives window buckets text capture plan (Err Memory) is h = tt
plan_gives window buckets text capture plan (Err (ReadFault file)) is h = absurd h
plan_gives window buckets text capture plan (Err WriteFault) is h = absurd h
plan_gives window buckets text capture plan (Err (TooLong file)) is h = absurd h
plan_gives window buckets text capture plan (Err (CaptureRefused fail)) is h = absurd h
plan_gives window buckets text capture plan (Err (ScriptRefused line why)) is h = absurd h
plan_gives window buckets text capture plan (Err TooLarge) is h = record { plan = plan; made = is; large = h }

-- ---- how many packets

not_false : (b : Bool) → not b ≡ true → b ≡ false
not_false false h = refl
not_false true h = cc

-- an operation that may be given is no packet
given_none : (o : Op) → is_given_op o ≡ true → is_send o ≡ false
given_none o h = not_false (is_send o) (and_parts (not (is_send o)) (may_be_asked o) (and_parts (is_own o) (not (is_send o) && may_be_asked o) h).1).0

quiet : (plan : Plan) (s : HostState) (n : ℕ) (items : List ControlItem) → list_all (λ (x : Entered). is_given_op x.op) (control_ops plan s n items) ≡ true → list_any is_sending items ≡ false
quiet plan s n [] h = refl
quiet plan s n (control.Neigh at o ∷ items) h =
    let behind = (turn plan s n (control.Neigh at o)).behind in
    let parts = and_parts (is_given_op o) (list_all (λ (x : Entered). is_given_op x.op) (control_ops plan behind (n + 1) items)) h in
    rw (given_none o parts.0) (quiet plan behind (n + 1) items parts.1)
quiet plan s n (control.Frame at bytes ∷ items) h = by_op (turn plan s n (control.Frame at bytes)).operation h (λ all. quiet plan (turn plan s n (control.Frame at bytes)).behind (n + 1) items all) where
  behind : HostState
  behind = (turn plan s n (control.Frame at bytes)).behind

  by_op : (o : Option Op) → list_all (λ (x : Entered). is_given_op x.op) (own_op (control.Frame at bytes) n o ++ control_ops plan behind (n + 1) items) ≡ true → (list_all (λ (x : Entered). is_given_op x.op) (control_ops plan behind (n + 1) items) ≡ true → list_any is_sending items ≡ false) → list_any is_sending items ≡ false
  by_op None all rest = rest all
  by_op (Some o) all rest = rest (and_parts (is_given_op o) (list_all (λ (x : Entered). is_given_op x.op) (control_ops plan behind (n + 1) items)) all).1
quiet plan s n (control.Proxy at key add ∷ items) h = quiet plan (turn plan s n (control.Proxy at key add)).behind (n + 1) items h

still : (plan : Plan) → has_given_ops plan ≡ true → list_any is_sending plan.control ≡ false
unfolding has_given_ops
still plan h = quiet plan host_start 1 plan.control h

all_few : (senders : List (List SendItem)) → AreSendLists senders → sum_by length senders ≤ length senders * 131_072
all_few [] h = omega arith
all_few (items ∷ senders) h =
    let here = subst (λ (n : ℕ). n ≤ 131_072) (length-map items send_at) h.0.list.few in
    let rest = all_few senders h.1 in
    let sum : sum_by length (items ∷ senders) ≡ length items + sum_by length senders = sum_by-cons length items senders in
    omega (arith, here, rest, sum)

-- the packets of a script's plan are fewer than 2^32, and so are those of its inline run
pub few_packets : (script : Script) (window buckets : ℕ) (plan : Plan) (run : Run) → 0 < buckets → plan ≡ plan_of script window buckets → limits.IsWithinLimits script → length script.items ≤ 131_072 → IsWithinLimits plan → IsInlineRun plan run
    → sent_count run + fast_count run + dropped_count run + waiting_count run < 2 ^ 32
few_packets script window buckets plan run some is within few plan_within inline =
    let given = subst (λ (p : Plan). has_given_ops p ≡ true) (sym is) (script_given script window buckets within) in
    let count = ap (λ (p : Plan). p.buckets) is ∙ script_buckets script window buckets in
    let law = inline_fates plan run (omega (arith, count, some)) (still plan given) inline in
    let all = all_few plan.senders plan_within.senders in
    let most = plan_within.few in
    omega (arith, law, all, most)
