-- The walk over a script's lines and a capture's records. It is no definition to believe: `plan` shows that it gives exactly the plan of the two files.
use Rattle.std.specs.Prelude.{ℕ, ◌+◌, ◌≤◌, Bool, true, false, List, [], ◌∷◌, map, fold}
use Rattle.nb_base.specs.declared.plan.ControlItem.{ControlItem}
use Rattle.pcap_records.specs.declared.capture.Rec.{Rec}
use Rattle.neigh_script.specs.declared.script.ScriptItem.{ScriptItem}
use Rattle.neigh_script.specs.declared.script.ScriptItem.TheVariants as item
use Rattle.neigh_run.specs.Plan.{control_of}
use Rattle.neigh_plan.specs.declared.planning.Step.{Step}
use Rattle.neigh_plan.specs.declared.planning.Step.TheVariants as step
use Rattle.neigh_plan.specs.Files.{frame_of, insert_item}

-- a line that sends a packet
abbrev pub is_sent : ScriptItem → Bool
is_sent (item.Neigh at o) = false
is_sent (item.Proxy at key add) = false
is_sent (item.Send at sender key payload) = true

-- the records lie within a file of this size, and no moment lies before the one before it, nor the first before this one
abbrev pub AreFit : ℕ → ℕ → List Rec → Type 0
AreFit size from [] = Unit {0}
AreFit size from (captured ∷ records) = (captured.start + captured.len ≤ size) × (from ≤ captured.at) × AreFit size captured.at records

abbrev pub frames_of : List ℕ → List Rec → List ControlItem
frames_of bytes records = map (frame_of bytes) records

-- more items, one after the other
unfoldable pub insert_items : List ControlItem → List ControlItem → List ControlItem
insert_items items more = fold (λ sorted x. insert_item x sorted) items more

-- the items of a step
abbrev pub step_items : List ℕ → Step → List ControlItem
step_items bytes (step.Line line) = control_of line.now
step_items bytes (step.Record captured) = frame_of bytes captured ∷ []

-- its record lies within the file
abbrev pub StepFits : ℕ → Step → Type 0
StepFits size (step.Line line) = Unit {0}
StepFits size (step.Record captured) = captured.start + captured.len ≤ size
