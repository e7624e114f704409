-- The operations of a plan, in the order in which an inline run enters them.
use Rattle.std.specs.Prelude.{ℕ, ◌+◌, Bool, true, false, nat_le, ◌==◌, if◌then◌else◌, List, [], ◌∷◌, ◌++◌, fold, filter, length, sum_by, Option}
use Rattle.std.specs.Option.{option_map, option_map_or, option_to_list}
use Rattle.nb_base.specs.declared.time.OpId.{OpId}
use Rattle.nb_base.specs.declared.op.Op.{Op}
use Rattle.nb_base.specs.declared.op.Op.TheVariants as op
use Rattle.nb_base.specs.declared.plan.Plan.{Plan}
use Rattle.nb_base.specs.declared.plan.SendItem.{SendItem}
use Rattle.nb_base.specs.declared.plan.ControlItem.{ControlItem}
use Rattle.nb_base.specs.declared.plan.ControlItem.TheVariants as control
use Rattle.nb_base.specs.Buckets.{bucket_of}
use Rattle.nb_base.specs.Ids.{op_id}
use Rattle.nb_journal.specs.Keys.{key_of, is_send}
use Rattle.neigh_run.specs.Control.{HostState, host_start, turn, control_at}

-- an operation with its id and its item's moment
pub record Entered : Type 0 where
  pub at : ℕ
  pub id : OpId
  pub op : Op

-- the id of participant p's n-th item, counted from 1
abbrev pub id_for : ℕ → ℕ → OpId
id_for p n = op_id n p

-- the operation of participant 0's item of number n, in the state before it
abbrev pub control_op : Plan → HostState → ℕ → ControlItem → Option Entered
control_op plan s n item = option_map (λ o. record { at = control_at item; id = id_for 0 n; op = o }) (turn plan s n item).operation

-- the operations of participant 0's items, of which the first has this number
abbrev pub control_ops : Plan → HostState → ℕ → List ControlItem → List Entered
control_ops plan s n [] = []
control_ops plan s n (item ∷ items) = option_to_list (control_op plan s n item) ++ control_ops plan (turn plan s n item).behind (n + 1) items

-- the operation of a sender's packet of number n: to send so many bytes
abbrev pub packet_op : ℕ → ℕ → SendItem → Entered
packet_op p n item = record { at = item.at; id = id_for p n; op = op.Send item.key (length item.payload) }

-- the operations of a sender's packets, of which the first has this number
abbrev pub sender_ops : ℕ → ℕ → List SendItem → List Entered
sender_ops p n [] = []
sender_ops p n (item ∷ items) = packet_op p n item ∷ sender_ops p (n + 1) items

-- the operations of all senders, of which the first has this number
abbrev pub senders_ops : ℕ → List (List SendItem) → List Entered
senders_ops p [] = []
senders_ops p (items ∷ senders) = sender_ops p 1 items ++ senders_ops (p + 1) senders

-- one more operation in order of moment, behind those of its own moment
abbrev pub insert : Entered → List Entered → List Entered
insert x [] = x ∷ []
insert x (y ∷ ys) = if nat_le y.at x.at then y ∷ insert x ys else x ∷ y ∷ ys

-- in order of moment, and at equal moments as they were
abbrev pub by_moment : List Entered → List Entered
by_moment operations = fold (λ sorted x. insert x sorted) [] operations

-- participant 0 goes first at equal moments, then the senders by number
abbrev pub merged : Plan → List Entered
merged plan = by_moment (control_ops plan host_start 1 plan.control ++ senders_ops 1 plan.senders)

-- an operation without a key is applied to each bucket
abbrev pub goes_to : ℕ → ℕ → Op → Bool
goes_to buckets b o = option_map_or (λ key. bucket_of buckets key == b) (key_of o) true

-- a bucket's operations in merged order
abbrev pub merged_for : Plan → ℕ → List Entered
merged_for plan b = filter (λ entered. goes_to plan.buckets b entered.op) (merged plan)

-- ---- packets

-- how many packets the senders have
abbrev pub packet_count : Plan → ℕ
packet_count plan = sum_by length plan.senders

-- participant 0 sends a packet itself (no script asks for that)
abbrev pub is_sending : ControlItem → Bool
is_sending (control.Neigh at o) = is_send o
is_sending (control.Frame at bytes) = false
is_sending (control.Proxy at key add) = false
