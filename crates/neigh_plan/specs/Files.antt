-- The plan of a script and a capture (this project's own).
use Rattle.std.specs.Prelude.{ℕ, nat_le, if◌then◌else◌, List, [], ◌∷◌, fold, take, drop}
use Rattle.nb_base.specs.declared.plan.Plan.{Plan}
use Rattle.nb_base.specs.declared.plan.ControlItem.{ControlItem}
use Rattle.nb_base.specs.declared.plan.ControlItem.TheVariants as control
use Rattle.pcap_records.specs.declared.capture.Rec.{Rec}
use Rattle.neigh_script.specs.declared.script.Script.{Script}
use Rattle.neigh_run.specs.Plan.{control_at, plan_of}

-- a record of a capture with these bytes is a frame that participant 0 meets at the record's moment
abbrev pub frame_of : List ℕ → Rec → ControlItem
frame_of bytes captured = control.Frame captured.at (take captured.len (drop captured.start bytes))

-- one more item in order of moment, behind those of its own moment
abbrev pub insert_item : ControlItem → List ControlItem → List ControlItem
insert_item x [] = x ∷ []
insert_item x (y ∷ ys) = if nat_le (control_at y) (control_at x) then y ∷ insert_item x ys else x ∷ y ∷ ys

-- the plan with one more item of participant 0
abbrev pub with_item : Plan → ControlItem → Plan
with_item plan item = record plan { control = insert_item item plan.control }

-- the plan of a script and of the records of a capture with these bytes: at equal moments participant 0's lines of the script go before its frames
abbrev pub plan_of_files : List ℕ → List Rec → Script → ℕ → ℕ → Plan
plan_of_files bytes records script window buckets = fold (λ plan captured. with_item plan (frame_of bytes captured)) (plan_of script window buckets) records
