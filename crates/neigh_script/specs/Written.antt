-- How a script is written.
use Rattle.std.specs.Prelude.{◌≡◌, ℕ, Bool, true, false, if◌then◌else◌, List, [], ◌∷◌, ◌++◌, map, Option, Some, None, codes, decimal}
use Rattle.nb_base.specs.declared.mac.Mac.{Mac}
use Rattle.nb_base.specs.declared.key.Key.{Key}
use Rattle.nb_base.specs.declared.key.Key.TheVariants.{V6}
use Rattle.nb_base.specs.declared.host.Host.{Host}
use Rattle.nb_base.specs.declared.params.Params.{Params}
use Rattle.nb_base.specs.declared.nud.Nud.{Nud}
use Rattle.nb_base.specs.declared.nud.Nud.TheVariants as nud
use Rattle.nb_base.specs.declared.op.Op.{Op}
use Rattle.nb_base.specs.declared.op.Op.TheVariants as op
use Rattle.nb_base.specs.Address.{mac_text, ip4_text, key_text}
use Rattle.text_codes.specs.Lines.{Words, text_of}
use Rattle.text_codes.specs.HexText.{hex_text}
use Rattle.neigh_script.specs.declared.parameter.Parameter.{Parameter}
use Rattle.neigh_script.specs.declared.script.Script.{Script}
use Rattle.neigh_script.specs.declared.script.ScriptItem.{ScriptItem}
use Rattle.neigh_script.specs.declared.script.ScriptItem.TheVariants as item
use Rattle.neigh_script.specs.Parameter.{parameters, parameter_name, value_in}

abbrev pub inet_words : Option ℕ → Words
inet_words None = []
inet_words (Some n) = codes "inet" ∷ ip4_text n ∷ []

abbrev pub inet6_words : Option ℕ → Words
inet6_words None = []
inet6_words (Some n) = codes "inet6" ∷ key_text (V6 n) ∷ []

-- `host dev NAME lladdr MAC [inet A4] [inet6 A6]`
unfoldable pub host_words : Host → Words
host_words h = codes "host" ∷ codes "dev" ∷ h.dev ∷ codes "lladdr" ∷ mac_text h.mac ∷ (inet_words h.ip4 ++ inet6_words h.ip6)

-- `senders N`
abbrev pub senders_words : ℕ → Words
senders_words senders = codes "senders" ∷ decimal senders ∷ []

-- `param NAME VALUE`
abbrev pub param_words : Params → Parameter → Words
param_words params p = codes "param" ∷ parameter_name p ∷ decimal (value_in params p) ∷ []

-- a state by its name in ip-neighbour(8); a script that is read gives one of the first four
abbrev pub state_word : Nud → List ℕ
state_word nud.Permanent = codes "permanent"
state_word nud.Noarp = codes "noarp"
state_word nud.Reachable = codes "reachable"
state_word nud.Stale = codes "stale"
state_word nud.None = codes "none"
state_word nud.Incomplete = codes "incomplete"
state_word nud.Delay = codes "delay"
state_word nud.Probe = codes "probe"
state_word nud.Failed = codes "failed"

abbrev pub device_words : Host → Words
device_words host = codes "dev" ∷ host.dev ∷ []

abbrev pub link_words : Option Mac → Words
link_words None = []
link_words (Some mac) = codes "lladdr" ∷ mac_text mac ∷ []

-- `neigh VERB ADDR [lladdr MAC] dev NAME nud STATE`
abbrev pub entry_words : Host → List ℕ → Key → Option Mac → Nud → Words
entry_words host verb key mac nud = codes "neigh" ∷ verb ∷ key_text key ∷ (link_words mac ++ (device_words host ++ (codes "nud" ∷ state_word nud ∷ [])))

-- an operation of a script behind its moment; no other operation stands in a script
unfoldable pub op_words : Host → Op → Words
op_words host (op.Add key mac nud) = entry_words host (codes "add") key mac nud
op_words host (op.Change key mac nud) = entry_words host (codes "change") key mac nud
op_words host (op.Replace key mac nud) = entry_words host (codes "replace") key mac nud
op_words host (op.Del key) = codes "neigh" ∷ codes "del" ∷ key_text key ∷ device_words host
op_words host (op.Confirm key) = codes "confirm" ∷ key_text key ∷ []
op_words host op.Show = codes "neigh" ∷ codes "show" ∷ device_words host
op_words host op.Flush = codes "neigh" ∷ codes "flush" ∷ device_words host
op_words host (op.Send key len) = []
op_words host (op.Arp key mac make solicited) = []
op_words host (op.Ns key mac) = []
op_words host (op.Na key mac router solicited overrides) = []
op_words host (op.Timer key) = []
op_words host op.Sweep = []
op_words host (op.Collect key) = []

-- `@MS`
abbrev pub moment_word : ℕ → List ℕ
moment_word at = codes "@" ++ decimal at

-- an item's line
unfoldable pub item_words : Host → ScriptItem → Words
item_words host (item.Neigh at o) = moment_word at ∷ op_words host o
item_words host (item.Proxy at key add) = moment_word at ∷ codes "neigh" ∷ (if add then codes "add" else codes "del") ∷ codes "proxy" ∷ key_text key ∷ device_words host
item_words host (item.Send at sender key payload) = moment_word at ∷ codes "send" ∷ decimal sender ∷ key_text key ∷ hex_text payload ∷ []

-- the lines of a script: the host, how many senders there are, every parameter in the order of the table, and the items
unfoldable pub script_rows : Script → List Words
script_rows s = host_words s.host ∷ senders_words s.senders ∷ (map (param_words s.params) parameters ++ map (item_words s.host) s.items)

-- the written form of a script: single spaces, LF behind each line, hexadecimal in lower case
unfoldable pub script_text : Script → List ℕ
script_text s = text_of (script_rows s)

-- an operation that may stand in a script
abbrev pub is_script_op : Op → Bool
is_script_op (op.Add key mac nud) = true
is_script_op (op.Change key mac nud) = true
is_script_op (op.Replace key mac nud) = true
is_script_op (op.Del key) = true
is_script_op (op.Confirm key) = true
is_script_op op.Show = true
is_script_op op.Flush = true
is_script_op (op.Send key len) = false
is_script_op (op.Arp key mac make solicited) = false
is_script_op (op.Ns key mac) = false
is_script_op (op.Na key mac router solicited overrides) = false
is_script_op (op.Timer key) = false
is_script_op op.Sweep = false
is_script_op (op.Collect key) = false

-- an item whose operation may stand in a script
abbrev pub is_script_item : ScriptItem → Bool
is_script_item (item.Neigh at o) = is_script_op o
is_script_item (item.Proxy at key add) = true
is_script_item (item.Send at sender key payload) = true

abbrev pub IsScriptItem : ScriptItem → Type 0
IsScriptItem item = is_script_item item ≡ true
