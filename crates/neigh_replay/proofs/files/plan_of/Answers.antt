use Rattle.std.proofs.Common.{ℕ, List, ap, ◌∙◌}
use Rattle.neigh_plan.specs.Files.{plan_of_files}
use Rattle.neigh_replay.proofs.ScriptRuns.{files_plan}
use Rattle.neigh_replay.proofs.files.plan_of.Goals as goal

pub returns : goal.returns
returns c =
    files_plan c.args.window c.args.buckets c.args.text.now c.args.capture.now c.in_ok-records.records c.in_ok-script.script c.in_ok-plan.plan c.requires c.in_ok-records.ensures.records c.in_ok-records.ensures.bounded c.in_ok-script.ensures.script
    c.in_ok-script.ensures.within c.in_ok-script.ensures.few (c.in_ok-plan.ensures.value ∙ ap (λ (bytes : List ℕ). plan_of_files bytes c.in_ok-records.records c.in_ok-script.script c.args.window c.args.buckets) c.bytes_of.ensures)
