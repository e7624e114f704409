-- The forms of a script's lines, behind their first words.
use Rattle.std.specs.Prelude.{ℕ, Bool, true, false, ◌&&◌, not, if◌then◌else◌, nat_le, List, [], ◌∷◌, Option, Some, None, Result, Ok, Err, bytes_eq, codes, ⊤}
use Rattle.std.specs.Option.{is_some, unwrap_or}
use Rattle.nb_base.specs.declared.mac.Mac.{Mac}
use Rattle.nb_base.specs.declared.key.Key.{Key}
use Rattle.nb_base.specs.declared.host.Host.{Host}
use Rattle.nb_base.specs.declared.params.Params.{Params}
use Rattle.nb_base.specs.declared.nud.Nud.{Nud}
use Rattle.nb_base.specs.declared.nud.Nud.TheVariants as nud
use Rattle.nb_base.specs.declared.op.Op.TheVariants as op
use Rattle.neigh_script.specs.declared.why.ScriptWhy.{ScriptWhy}
use Rattle.neigh_script.specs.declared.why.ScriptWhy.TheVariants as why
use Rattle.neigh_script.specs.declared.script.ScriptItem.{ScriptItem}
use Rattle.neigh_script.specs.declared.script.ScriptItem.TheVariants as item
use Rattle.neigh_script.specs.declared.options.Options.{Options}
use Rattle.neigh_script.specs.Parameter.{with_value}
use Rattle.text_codes.specs.Lines.{Words}
use Rattle.neigh_script.specs.Reading.{◌>>=◌, word, field, taken, optional, last}
use Rattle.neigh_script.specs.Fields.{device_name, link, own_ip4, own_ip6, neighbour, own_device, state, sender_count, sender_of, parameter, value_of, payload}

-- `host dev NAME lladdr MAC [inet A4] [inet6 A6]`
unfoldable pub host_form : Words → Result Host ScriptWhy
host_form words = do
  w1 ← word (codes "dev") words
  dev ← field device_name w1
  w2 ← word (codes "lladdr") dev.1
  mac ← field link w2
  ip4 ← optional (codes "inet") own_ip4 mac.1
  ip6 ← optional (codes "inet6") own_ip6 ip4.1
  last (record { dev = dev.0; mac = mac.0; ip4 = ip4.0; ip6 = ip6.0 }) ip6.1

-- `senders N`
unfoldable pub senders_form : Words → Result ℕ ScriptWhy
senders_form words = do
  n ← field sender_count words
  last n.0 n.1

-- `param NAME VALUE`
unfoldable pub param_form : Params → Words → Result Params ScriptWhy
param_form params words = do
  name ← field parameter words
  value ← field (value_of name.0) name.1
  last (with_value name.0 value.0 params) value.1

-- `[dev NAME]` at the end of a line
unfoldable pub device_end : Host → Words → Result ⊤ ScriptWhy
device_end host words = do
  dev ← optional (codes "dev") (own_device host) words
  last tt dev.1

-- no option was met
abbrev pub no_options : Options
no_options = record { mac = None; dev = false; nud = None }

-- one option and its value: `lladdr MAC`, `dev NAME` or `nud STATE`, if it wasn't met yet
unfoldable pub option : Host → Options → List ℕ → List ℕ → Result Options ScriptWhy
option host met name value =
    if bytes_eq name (codes "lladdr") && not (is_some met.mac) then (link value >>= λ mac. Ok (record met { mac = Some mac }))
    else (if bytes_eq name (codes "dev") && not met.dev then (own_device host value >>= λ _. Ok (record met { dev = true }))
    else (if bytes_eq name (codes "nud") && not (is_some met.nud) then (state value >>= λ given. Ok (record met { nud = Some given }))
    else Err why.UnknownWord))

-- the options, each at most once, in any order; a name whose value is missing is unknown, whatever it is
unfoldable pub options : Host → Options → Words → Result Options ScriptWhy
options host met [] = Ok met
options host met (name ∷ []) = Err why.UnknownWord
options host met (name ∷ value ∷ words) = option host met name value >>= λ more. options host more words

-- `ADDR OPTS`: without `nud` the state is permanent
unfoldable pub entry_form : Host → Words → Result (Key × Option Mac × Nud) ScriptWhy
entry_form host words = do
  key ← field (neighbour host) words
  met ← options host no_options key.1
  Ok (key.0, met.mac, unwrap_or met.nud nud.Permanent)

-- `ADDR [dev NAME]`
unfoldable pub key_form : Host → Words → Result Key ScriptWhy
key_form host words = do
  key ← field (neighbour host) words
  end ← device_end host key.1
  Ok key.0

abbrev pub add_behind : Host → ℕ → Bool × Words → Result ScriptItem ScriptWhy
add_behind host at (true, words) = key_form host words >>= λ key. Ok (item.Proxy at key true)
add_behind host at (false, words) = entry_form host words >>= λ e. Ok (item.Neigh at (op.Add e.0 e.1 e.2))

-- `@MS neigh add ADDR OPTS`, or `@MS neigh add proxy ADDR [dev NAME]`
unfoldable pub add_form : Host → ℕ → Words → Result ScriptItem ScriptWhy
add_form host at words = add_behind host at (taken (codes "proxy") words)

-- `@MS neigh change ADDR OPTS`
unfoldable pub change_form : Host → ℕ → Words → Result ScriptItem ScriptWhy
change_form host at words = entry_form host words >>= λ e. Ok (item.Neigh at (op.Change e.0 e.1 e.2))

-- `@MS neigh replace ADDR OPTS`
unfoldable pub replace_form : Host → ℕ → Words → Result ScriptItem ScriptWhy
replace_form host at words = entry_form host words >>= λ e. Ok (item.Neigh at (op.Replace e.0 e.1 e.2))

abbrev pub del_behind : Host → ℕ → Bool × Words → Result ScriptItem ScriptWhy
del_behind host at (true, words) = key_form host words >>= λ key. Ok (item.Proxy at key false)
del_behind host at (false, words) = key_form host words >>= λ key. Ok (item.Neigh at (op.Del key))

-- `@MS neigh del ADDR [dev NAME]`, or `@MS neigh del proxy ADDR [dev NAME]`
unfoldable pub del_form : Host → ℕ → Words → Result ScriptItem ScriptWhy
del_form host at words = del_behind host at (taken (codes "proxy") words)

-- `@MS neigh show [dev NAME]`, at most 32 times
unfoldable pub show_form : ℕ → Host → ℕ → Words → Result ScriptItem ScriptWhy
show_form shows host at words = if nat_le 32 shows then Err why.TooMany else (device_end host words >>= λ _. Ok (item.Neigh at op.Show))

-- `@MS neigh flush [all] [dev NAME]`
unfoldable pub flush_form : Host → ℕ → Words → Result ScriptItem ScriptWhy
flush_form host at words = device_end host (taken (codes "all") words).1 >>= λ _. Ok (item.Neigh at op.Flush)

-- `@MS neigh` and its verb
unfoldable pub neigh_form : ℕ → Host → ℕ → Words → Result ScriptItem ScriptWhy
neigh_form shows host at [] = Err why.UnknownWord
neigh_form shows host at (verb ∷ words) =
    if bytes_eq verb (codes "add") then add_form host at words
    else (if bytes_eq verb (codes "change") then change_form host at words
    else (if bytes_eq verb (codes "replace") then replace_form host at words
    else (if bytes_eq verb (codes "del") then del_form host at words
    else (if bytes_eq verb (codes "show") then show_form shows host at words
    else (if bytes_eq verb (codes "flush") then flush_form host at words
    else Err why.UnknownWord)))))

-- `@MS confirm ADDR`
unfoldable pub confirm_form : Host → ℕ → Words → Result ScriptItem ScriptWhy
confirm_form host at words = do
  key ← field (neighbour host) words
  last (item.Neigh at (op.Confirm key.0)) key.1

-- `@MS send K ADDR HEX`
unfoldable pub send_form : ℕ → Host → ℕ → Words → Result ScriptItem ScriptWhy
send_form senders host at words = do
  sender ← field (sender_of senders) words
  key ← field (neighbour host) sender.1
  bytes ← field payload key.1
  last (item.Send at sender.0 key.0 bytes.0) bytes.1
