-- What a script asks of a run, and which plans keep its limits.
use Rattle.std.specs.Prelude.{ℕ, zero, suc, ◌+◌, ◌≤◌, map, Bool, true, false, ◌&&◌, ◌==◌, if◌then◌else◌, List, [], ◌∷◌, flat_map, length}
use Rattle.std.specs.Int.{IsInRange}
use Rattle.std.specs.List.{AllByRecursion}
use Rattle.nb_base.specs.declared.plan.Plan.{Plan}
use Rattle.nb_base.specs.declared.plan.SendItem.{SendItem}
use Rattle.nb_base.specs.declared.plan.ControlItem.{ControlItem}
use Rattle.nb_base.specs.declared.plan.ControlItem.TheVariants as control
use Rattle.neigh_script.specs.declared.script.Script.{Script}
use Rattle.neigh_script.specs.declared.script.ScriptItem.{ScriptItem}
use Rattle.neigh_script.specs.declared.script.ScriptItem.TheVariants as item
use Rattle.neigh_script.specs.Context.{at_of}
pub use Rattle.neigh_run.specs.Control.{control_at}

-- ---- the plan of a script (this project's own)

-- a line that operates on the table, or adds or deletes a proxy entry, is an item of participant 0
abbrev pub control_of : ScriptItem → List ControlItem
control_of (item.Neigh at o) = control.Neigh at o ∷ []
control_of (item.Proxy at key add) = control.Proxy at key add ∷ []
control_of (item.Send at sender key payload) = []

-- participant 0's items, in the order of their lines
abbrev pub control_items : List ScriptItem → List ControlItem
control_items items = flat_map control_of items

-- a line that sends a packet is an item of the sender that it names
abbrev pub sent_by : ℕ → ScriptItem → List SendItem
sent_by k (item.Neigh at o) = []
sent_by k (item.Proxy at key add) = []
sent_by k (item.Send at sender key payload) = if sender == k then record { at = at; key = key; payload = payload } ∷ [] else []

-- a sender's packets, in the order of their lines
abbrev pub sends_of : ℕ → List ScriptItem → List SendItem
sends_of k items = flat_map (sent_by k) items

-- the packets of so many senders, of which the first has this number
abbrev pub senders_from : ℕ → ℕ → List ScriptItem → List (List SendItem)
senders_from k zero items = []
senders_from k (suc n) items = sends_of k items ∷ senders_from (k + 1) n items

-- the plan of a script alone, with a window and a number of buckets; senders are counted from 1
unfoldable pub plan_of : Script → ℕ → ℕ → Plan
plan_of script window buckets = record {
  host = script.host;
  params = script.params;
  buckets = buckets;
  window = window;
  control = control_items script.items;
  senders = senders_from 1 script.senders script.items;
}

-- ---- plans within the limits of a script

-- no moment lies before the one before it, nor the first before this one
abbrev pub RisesFrom : ℕ → List ℕ → Type 0
RisesFrom m [] = Unit {0}
RisesFrom m (at ∷ moments) = (m ≤ at) × RisesFrom at moments

abbrev pub send_at : SendItem → ℕ
send_at item = item.at

-- the moments of a participant's items: by moment, and at most so many
pub record IsList (most : ℕ) (moments : List ℕ) : Type 0 where
  pub rises : RisesFrom 0 moments
  pub few : length moments ≤ most

-- the most lines of a script
abbrev pub most_script_lines : ℕ
most_script_lines = 131_072

-- participant 0 has lines of a script and records of a capture, of which there are at most 262,144
abbrev pub most_control_items : ℕ
most_control_items = 393_216

-- a packet has 1 to 1,500 bytes
abbrev pub IsPayload : List ℕ → Type 0
IsPayload payload = IsInRange 1 1_500 (length payload)

abbrev pub IsPacket : SendItem → Type 0
IsPacket item = IsPayload item.payload

-- a sender's packets
pub record IsSendList (items : List SendItem) : Type 0 where
  pub list : IsList most_script_lines (map send_at items)
  pub packets : AllByRecursion IsPacket items

-- of each sender
abbrev pub AreSendLists : List (List SendItem) → Type 0
AreSendLists [] = Unit {0}
AreSendLists (items ∷ senders) = IsSendList items × AreSendLists senders

-- each participant's items are by moment and no more than a script has lines, and participant 0's than it and a capture's records; there are at most 16 senders, and a packet has 1 to 1,500 bytes
pub record IsWithinLimits (plan : Plan) : Type 0 where
  pub control : IsList most_control_items (map control_at plan.control)
  pub senders : AreSendLists plan.senders
  pub few : length plan.senders ≤ 16

-- a line that sends has a payload of 1 to 1,500 bytes
abbrev pub IsSentPacket : ScriptItem → Type 0
IsSentPacket (item.Send at sender key payload) = IsPayload payload
IsSentPacket (item.Neigh at o) = Unit {0}
IsSentPacket (item.Proxy at key add) = Unit {0}

-- the items of a script are by moment and no more than it has lines, there are at most 16 senders, and each payload has 1 to 1,500 bytes
pub record IsScriptWithinLimits (script : Script) : Type 0 where
  pub items : IsList most_script_lines (map at_of script.items)
  pub packets : AllByRecursion IsSentPacket script.items
  pub few : script.senders ≤ 16
