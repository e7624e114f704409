use Rattle.std.proofs.Common.{◌≡◌, ◌∙◌, ℕ, List, length, sym, ap, ap₂, subst}
use Rattle.std.proofs.lemmas.Result.{IfOk-weaker}
use Rattle.pcap_records.specs.Capture.{AreBounded}
use Rattle.pcap_records.specs.Writing.{IsCaptureOf}
use Rattle.neigh_script.specs.declared.script.Script.{Script}
use Rattle.neigh_script.specs.Lines as lines
use Rattle.neigh_plan.specs.Files.{plan_of_files}
use Rattle.generated_input.specs.Files.{frames_of, script_of}
use Rattle.neigh_replay.proofs.GeneratedPlans.{read_plan, same_script}
use Rattle.neigh_replay.proofs.generated.plan_from.Goals as goal

pub records_in-requires : goal.records_in-requires
records_in-requires c = (frames_of c.args.number, subst (λ (bytes : List ℕ). IsCaptureOf bytes (frames_of c.args.number)) (sym c.as_slice.ensures) c.in_ok-capture.ensures.capture_again)

pub script_in-requires : goal.script_in-requires
script_in-requires c = (script_of c.args.number, ap lines.script_of c.as_slice-2.ensures ∙ c.in_ok-capture.ensures.script_again)

pub plan-requires : goal.plan-requires
plan-requires c = subst (λ (bytes : List ℕ). AreBounded (length bytes) c.in_ok-records.records) (c.as_slice.ensures ∙ sym c.as_slice-3.ensures) c.in_ok-records.ensures.bounded

pub returns : goal.returns
returns c =
    let number = c.args.number in
    let again : IsCaptureOf c.as_slice.result.now (frames_of number) = subst (λ (bytes : List ℕ). IsCaptureOf bytes (frames_of number)) (sym c.as_slice.ensures) c.in_ok-capture.ensures.capture_again in
    let script_is : c.in_ok-script.script ≡ script_of number = same_script c.in_ok-script.script (script_of number) (lines.script_of c.as_slice-2.result.now) c.in_ok-script.ensures (ap lines.script_of c.as_slice-2.ensures ∙ c.in_ok-capture.ensures.script_again) in
    IfOk-weaker c.plan.result _ _
    (λ plan e. e ∙ ap₂ (λ (bytes : List ℕ) (script : Script). plan_of_files bytes c.in_ok-records.records script 50 1) (c.as_slice-3.ensures ∙ sym c.as_slice.ensures) script_is
    ∙ read_plan number c.as_slice.result.now c.in_ok-records.records (c.in_ok-records.ensures.held (frames_of number) again))
    c.plan.ensures.value
