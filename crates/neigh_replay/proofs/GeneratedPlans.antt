-- The plan of a generated input is that of its files, can be replayed, and isn't too large; its summary is one.
use Rattle.std.proofs.Common.{◌≡◌, ◌∙◌, ℕ, ◌<◌, ◌≤◌, List, [], ◌∷◌, length, refl, sym, ap, subst, arith}
use Rattle.std.specs.Prelude.{fold, Result, Ok}
use Rattle.std.proofs.Math.Nat.{div-le_of_le-mul}
use Rattle.nb_base.specs.Params.{default_params}
use Rattle.nb_base.specs.declared.params.Params.{Params}
use Rattle.nb_base.specs.declared.plan.Plan.{Plan}
use Rattle.pcap_records.specs.declared.capture.Rec.{Rec}
use Rattle.pcap_records.specs.declared.capture.Frame.{Frame}
use Rattle.pcap_records.specs.declared.fail.CaptureFail.{CaptureFail}
use Rattle.pcap_records.specs.Records as records
use Rattle.pcap_records.specs.Capture.{IsCapture, IsRefusal}
use Rattle.pcap_records.specs.Writing.{IsCaptureOf, written}
use Rattle.pcap_records.proofs.Bounds.{captures_are_bounded}
use Rattle.pcap_records.proofs.HeaderLaws.{IsBytes}
use Rattle.pcap_records.proofs.Unique.{one_capture, capture_or_refusal}
use Rattle.nb_journal.specs.Accounts.{line_bound}
use Rattle.neigh_script.specs.declared.script.Script.{Script}
use Rattle.neigh_run.specs.Merged.{merged}
use Rattle.neigh_run.specs.Plan.{plan_of}
use Rattle.neigh_run.proofs.OneRun.{runs_are_one}
use Rattle.neigh_report.specs.Summary.{summary_text}
use Rattle.generated_input.specs.Files.{frames_of, script_of}
use Rattle.generated_input.proofs.Measures.{has_frames, has_packets}
use Rattle.neigh_plan.specs.Inline.{most_lines, last_item_at, plan_bound, IsEnterable}
use Rattle.neigh_plan.specs.Files.{frame_of, with_item, plan_of_files}
use Rattle.neigh_plan.proofs.Items.{plan_of_files_is}
use Rattle.neigh_plan.proofs.FileBounds.{files_enterable}
use Rattle.neigh_plan.proofs.FileOps.{files_ops}
use Rattle.neigh_replay.specs.Generated.{met, plan_of_frames, generated_plan, GeneratedPlansAreOfTheirFiles, SummariesAreOne}

-- ---- its files

same_items : (bytes : List ℕ) (captured : List Rec) (plan : Plan) → fold (λ p r. with_item p (frame_of bytes r)) plan captured ≡ fold (λ p f. with_item p (met f)) plan (records.frames_of bytes captured)
same_items bytes [] plan = refl
same_items bytes (r ∷ captured) plan = same_items bytes captured (with_item plan (frame_of bytes r))

pub read_plan : (number : ℕ) (bytes : List ℕ) (captured : List Rec) → records.frames_of bytes captured ≡ frames_of number → plan_of_files bytes captured (script_of number) 50 1 ≡ generated_plan number
unfolding generated_plan
read_plan number bytes captured held = same_items bytes captured (plan_of (script_of number) 50 1) ∙ ap (λ (frames : List Frame). plan_of_frames frames (script_of number) 50 1) held

-- a capture that holds frames isn't refused, and what is read of it are these frames
pub never_refused : (bytes : List ℕ) (frames : List Frame) (fail : CaptureFail) → IsBytes bytes → IsCaptureOf bytes frames → IsRefusal bytes fail → ⊥
never_refused bytes frames fail fits (captured, is, held) refusal = capture_or_refusal bytes captured fail fits is refusal

pub read_frames : (bytes : List ℕ) (read : List Rec) → IsBytes bytes → IsCapture bytes read → (frames : List Frame) → IsCaptureOf bytes frames → records.frames_of bytes read ≡ frames
read_frames bytes read fits found frames (captured, is, held) = ap (records.frames_of bytes) (one_capture bytes read captured fits found is) ∙ held

-- a text that is read as two scripts is read as one
pub same_script : {E : Type 0} → (a b : Script) (r : Result Script E) → r ≡ Ok a → r ≡ Ok b → a ≡ b
same_script {E = E} a b r e f = let both : ◌≡◌ {A = Result Script E} (Ok a) (Ok b) = sym e ∙ f in cc

pub plans_of_files : GeneratedPlansAreOfTheirFiles
plans_of_files number capture text (captured, is, held) read = record { records = captured; captured = is; script = script_of number; read = read; planned = sym (read_plan number capture captured held) }

-- ---- its operations

few_items : (number : ℕ) → length (script_of number).items ≤ 131_072
few_items number = let many = (has_packets number).many in omega (arith, many)

enterable_by : (number : ℕ) → IsCaptureOf (written (frames_of number)) (frames_of number) → IsEnterable (generated_plan number)
enterable_by number (captured, is, held) =
    let bytes = written (frames_of number) in
    subst IsEnterable (read_plan number bytes captured held) (files_enterable bytes captured (script_of number) 50 1 refl (has_packets number).within (few_items number) (captures_are_bounded bytes captured is))

pub generated_enterable : (number : ℕ) → IsEnterable (generated_plan number)
generated_enterable number = enterable_by number (has_frames number).again

-- ---- its line bound

small_default : (operations moment : ℕ) → operations ≤ 30_000 → moment ≤ 2_592_000_000 → line_bound default_params operations moment < 4_194_304
small_default operations moment few le =
    let sweeps = div-le_of_le-mul 30_000 {m = moment} {n = 86_400} (omega (arith, le)) in
    omega (arith, few, sweeps)

default_for : (number : ℕ) (bytes : List ℕ) (captured : List Rec) → (plan_of_files bytes captured (script_of number) 50 1).params ≡ default_params
unfolding plan_of script_of
default_for number bytes captured = rw (plan_of_files_is bytes captured (script_of number) 50 1) refl

frames_long : (bytes : List ℕ) (captured : List Rec) → length (records.frames_of bytes captured) ≡ length captured
frames_long bytes [] = refl
frames_long bytes (r ∷ captured) = let rest = frames_long bytes captured in omega (arith, rest)

ops_by : (number : ℕ) → IsCaptureOf (written (frames_of number)) (frames_of number) → length (merged (generated_plan number)) ≤ 30_000
ops_by number (captured, is, held) =
    let bytes = written (frames_of number) in
    let few = files_ops bytes captured (script_of number) 50 1 in
    let packets = (has_packets number).many in
    let frames = (has_frames number).many in
    let long = sym (frames_long bytes captured) ∙ ap (λ (fs : List Frame). length fs) held in
    subst (λ (p : Plan). length (merged p) ≤ 30_000) (read_plan number bytes captured held) (omega (arith, few, packets, frames, long))

params_by : (number : ℕ) → IsCaptureOf (written (frames_of number)) (frames_of number) → (generated_plan number).params ≡ default_params
params_by number (captured, is, held) =
    subst (λ (p : Plan). p.params ≡ default_params) (read_plan number (written (frames_of number)) captured held) (default_for number (written (frames_of number)) captured)

pub generated_small : (number : ℕ) → plan_bound (generated_plan number) < most_lines
unfolding plan_bound
generated_small number =
    let plan = generated_plan number in
    let again = (has_frames number).again in
    subst (λ (p : Params). line_bound p (length (merged plan)) (last_item_at plan) < most_lines) (sym (params_by number again))
    (small_default (length (merged plan)) (last_item_at plan) (ops_by number again) (generated_enterable number).moments)

-- ---- its summary

pub one_summary : SummariesAreOne
one_summary number text other h k =
    h.spelled ∙ ap (summary_text number) (runs_are_one (generated_plan number) h.run k.run (generated_enterable number).params h.inline k.inline) ∙ sym k.spelled
