-- What each script that a text says keeps, and what a written script is read as.
use Rattle.std.specs.Prelude.{◌≡◌, ℕ, ◌+◌, is_some, ◌≤◌, ◌<◌, ◌^◌, Bool, true, false, List, [], ◌∷◌, length, sum_by, Option, None, Some, IfSome, IsSomeAnd, Ok, ⊤}
use Rattle.std.specs.Int.{IsInRange}
use Rattle.std.specs.List.{AllByRecursion}
use Rattle.nb_base.specs.declared.mac.Mac.{Mac}
use Rattle.nb_base.specs.declared.key.Key.{Key}
use Rattle.nb_base.specs.declared.host.Host.{Host}
use Rattle.nb_base.specs.declared.nud.Nud.{Nud}
use Rattle.nb_base.specs.declared.nud.Nud.TheVariants as nud
use Rattle.nb_base.specs.declared.op.Op.{Op}
use Rattle.nb_base.specs.declared.op.Op.TheVariants as op
use Rattle.nb_base.specs.Name.{is_name}
use Rattle.nb_base.specs.Params.{InRange}
use Rattle.nb_base.specs.Address.{is_neighbour}
use Rattle.text_codes.specs.HexText.{AreBytes}
use Rattle.text_codes.specs.Codes.{IsInjective}
use Rattle.neigh_script.specs.declared.script.Script.{Script}
use Rattle.neigh_script.specs.declared.script.ScriptItem.{ScriptItem}
use Rattle.neigh_script.specs.declared.script.ScriptItem.TheVariants as item
use Rattle.neigh_script.specs.declared.context.Context.{Context}
use Rattle.neigh_script.specs.Context.{at_of, shows_in, behind}
use Rattle.neigh_script.specs.Fields.{earliest}
use Rattle.neigh_script.specs.Lines.{script_of}
use Rattle.neigh_script.specs.Written.{script_rows, script_text}

-- six bytes, as every link address of the type has them
abbrev pub IsLink : Mac → Type 0
IsLink mac = (length mac.0 ≡ 6) × AreBytes mac.0

-- a host as every value of the type is one: its link address has six bytes, its IP addresses 32 and 128 bits
pub record IsTypedHost (host : Host) : Type 0 where
  pub mac : IsLink host.mac
  pub ip4 : IfSome host.ip4 (λ n. n < 2 ^ 32)
  pub ip6 : IfSome host.ip6 (λ n. n < 2 ^ 128)

-- an operation as every value of the type is one: a link address that a script gives has six bytes
abbrev pub IsTypedOp : Op → Type 0
IsTypedOp (op.Add key mac nud) = IfSome mac IsLink
IsTypedOp (op.Change key mac nud) = IfSome mac IsLink
IsTypedOp (op.Replace key mac nud) = IfSome mac IsLink
IsTypedOp (op.Del key) = ⊤
IsTypedOp (op.Confirm key) = ⊤
IsTypedOp op.Show = ⊤
IsTypedOp op.Flush = ⊤
IsTypedOp (op.Send key len) = ⊤
IsTypedOp (op.Arp key mac make solicited) = ⊤
IsTypedOp (op.Ns key mac) = ⊤
IsTypedOp (op.Na key mac router solicited overrides) = ⊤
IsTypedOp (op.Timer key) = ⊤
IsTypedOp op.Sweep = ⊤
IsTypedOp (op.Collect key) = ⊤

-- an item as every value of the type is one: a payload consists of bytes
abbrev pub IsTypedItem : ScriptItem → Type 0
IsTypedItem (item.Neigh at o) = IsTypedOp o
IsTypedItem (item.Proxy at key add) = ⊤
IsTypedItem (item.Send at sender key payload) = AreBytes payload

-- a script as every value of the type is one
pub record IsTyped (s : Script) : Type 0 where
  pub host : IsTypedHost s.host
  pub items : AllByRecursion IsTypedItem s.items

-- a state that a script may give an entry
abbrev pub is_given_state : Nud → Bool
is_given_state nud.Permanent = true
is_given_state nud.Noarp = true
is_given_state nud.Reachable = true
is_given_state nud.Stale = true
is_given_state nud.None = false
is_given_state nud.Incomplete = false
is_given_state nud.Delay = false
is_given_state nud.Probe = false
is_given_state nud.Failed = false

abbrev pub IsGiven : Nud → Type 0
IsGiven nud = is_given_state nud ≡ true

-- an entry that a script may give: the key is a neighbour of the host, and the state may be given
abbrev pub IsEntry : Host → Key → Nud → Type 0
IsEntry host key nud = (is_neighbour host key ≡ true) × (is_given_state nud ≡ true)

-- an operation of a script, whose key is a neighbour of the host
abbrev pub IsOpWithin : Host → Op → Type 0
IsOpWithin host (op.Add key mac nud) = IsEntry host key nud
IsOpWithin host (op.Change key mac nud) = IsEntry host key nud
IsOpWithin host (op.Replace key mac nud) = IsEntry host key nud
IsOpWithin host (op.Del key) = is_neighbour host key ≡ true
IsOpWithin host (op.Confirm key) = is_neighbour host key ≡ true
IsOpWithin host op.Show = ⊤
IsOpWithin host op.Flush = ⊤
IsOpWithin host (op.Send key len) = ⊥
IsOpWithin host (op.Arp key mac make solicited) = ⊥
IsOpWithin host (op.Ns key mac) = ⊥
IsOpWithin host (op.Na key mac router solicited overrides) = ⊥
IsOpWithin host (op.Timer key) = ⊥
IsOpWithin host op.Sweep = ⊥
IsOpWithin host (op.Collect key) = ⊥

-- a packet of one of so many senders: the key is a neighbour of the host, and the payload 1 to 1,500 bytes
pub record IsSendWithin (host : Host) (senders sender : ℕ) (key : Key) (payload : List ℕ) : Type 0 where
  pub known : IsInRange 1 senders sender
  pub neighbour : is_neighbour host key ≡ true
  pub size : IsInRange 1 1_500 (length payload)

-- what an item says, behind its moment
abbrev pub IsSaidWithin : Host → ℕ → ScriptItem → Type 0
IsSaidWithin host senders (item.Neigh at o) = IsOpWithin host o
IsSaidWithin host senders (item.Proxy at key add) = is_neighbour host key ≡ true
IsSaidWithin host senders (item.Send at sender key payload) = IsSendWithin host senders sender key payload

-- an item whose moment is at most 30 days
abbrev pub IsItemWithin : Host → ℕ → ScriptItem → Type 0
IsItemWithin host senders item = (at_of item ≤ 2_592_000_000) × IsSaidWithin host senders item

-- no moment lies below this one or below that of the item before
abbrev pub AreInOrder : ℕ → List ScriptItem → Type 0
AreInOrder earliest [] = ⊤
AreInOrder earliest (item ∷ items) = (earliest ≤ at_of item) × AreInOrder (at_of item) items

-- the limits of a script: the host's device is a name, 1 to 16 senders, parameters in their ranges, items in the order of their moments, and at most 32 `show` lines
pub record IsWithinLimits (s : Script) : Type 0 where
  pub dev : is_name s.host.dev ≡ true
  pub senders : IsInRange 1 16 s.senders
  pub params : InRange s.params
  pub items : AllByRecursion (IsItemWithin s.host s.senders) s.items
  pub order : AreInOrder 0 s.items
  pub shows : sum_by shows_in s.items ≤ 32

-- a context keeps the limits: its host's device is a name, and its senders and its parameters are in range
pub record IsContextWithin (c : Context) : Type 0 where
  pub dev : IfSome c.host (λ host. is_name host.dev ≡ true)
  pub senders : IsInRange 1 16 c.senders
  pub params : InRange c.params

-- a line of the head leaves a context within the limits, and none stands below an item line
pub record IsHeadBehind (c next : Context) : Type 0 where
  pub within : IsContextWithin c → IsContextWithin next
  pub last : next.last ≡ c.last
  pub shows : next.shows ≡ c.shows
  pub above : is_some c.last ≡ true → next ≡ c

-- an item's line below others: the host's, at a moment that isn't below that of the item line before, and at most the 32nd `show`
pub record IsItemBehind (c : Context) (host : Host) (item : ScriptItem) : Type 0 where
  pub within : IsItemWithin host c.senders item
  pub later : earliest c.last ≤ at_of item
  pub few : c.shows ≤ 32 → c.shows + shows_in item ≤ 32

-- what a line leaves below others: a context of the head, or that behind an item of the host's
abbrev pub IsLineBehind : Context → Context → Option ScriptItem → Type 0
IsLineBehind c next None = IsHeadBehind c next
IsLineBehind c next (Some item) = (next ≡ behind c item) × IsSomeAnd c.host (λ host. IsItemBehind c host item)

-- the moment of the last item, or that one where there is none
abbrev pub last_at : ℕ → List ScriptItem → ℕ
last_at at [] = at
last_at at (item ∷ items) = last_at (at_of item) items

-- lines keep the limits, with the context and the items that they leave
pub record AreAbove (c : Context) (items : List ScriptItem) : Type 0 where
  pub within : IsContextWithin c
  pub none : is_some c.last ≡ false → items ≡ []
  pub each : IfSome c.host (λ host. AllByRecursion (IsItemWithin host c.senders) items)
  pub order : AreInOrder 0 items
  pub at : last_at 0 items ≡ earliest c.last
  pub counted : sum_by shows_in items ≡ c.shows
  pub few : c.shows ≤ 32

-- its written form has at most 131,072 lines
abbrev pub IsShort : Script → Type 0
IsShort s = length (script_rows s) ≤ 131_072

-- a script whose written form is read again
pub record IsReadable (s : Script) : Type 0 where
  pub typed : IsTyped s
  pub within : IsWithinLimits s
  pub short : IsShort s

-- a written script is read again
abbrev pub ScriptsAgain : Type 0
ScriptsAgain = (s : Script) → IsReadable s → script_of (script_text s) ≡ Ok s

-- two scripts with one text are one
abbrev pub TextsTellScripts : Type 0
TextsTellScripts = IsInjective IsReadable script_text
