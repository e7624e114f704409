-- What a word is read as at its place, and its refusal.
use Rattle.std.specs.Prelude.{ℕ, ◌&&◌, ◌==◌, if◌then◌else◌, nat_le, List, [], ◌∷◌, length, Option, Some, None, Result, Ok, Err, bytes_eq, codes}
use Rattle.nb_base.specs.declared.mac.Mac.{Mac}
use Rattle.nb_base.specs.declared.key.Key.{Key}
use Rattle.nb_base.specs.declared.key.Key.TheVariants.{V4, V6}
use Rattle.nb_base.specs.declared.host.Host.{Host}
use Rattle.nb_base.specs.declared.nud.Nud.{Nud}
use Rattle.nb_base.specs.declared.nud.Nud.TheVariants as nud
use Rattle.nb_base.specs.Parts.{number_of}
use Rattle.nb_base.specs.Name.{name_of}
use Rattle.nb_base.specs.Address.{mac_of, key_of, is_neighbour}
use Rattle.neigh_script.specs.declared.why.ScriptWhy.{ScriptWhy}
use Rattle.neigh_script.specs.declared.why.ScriptWhy.TheVariants as why
use Rattle.neigh_script.specs.declared.parameter.Parameter.{Parameter}
use Rattle.neigh_script.specs.Parameter.{parameter_of, least, greatest}
use Rattle.neigh_script.specs.Reading.{or_refuse}
use Rattle.text_codes.specs.HexText.{hex_bytes_of}

-- the number, where it lies between these two
abbrev pub within : ℕ → ℕ → ScriptWhy → Option ℕ → Result ℕ ScriptWhy
within least greatest w None = Err w
within least greatest w (Some n) = if nat_le least n && nat_le n greatest then Ok n else Err w

-- a number between these two, of 1 to 10 decimal digits with leading zeros allowed
abbrev pub number_within : ℕ → ℕ → ScriptWhy → List ℕ → Result ℕ ScriptWhy
number_within least greatest w text = within least greatest w (number_of text)

-- the moment below which none may lie
abbrev pub earliest : Option ℕ → ℕ
earliest None = 0
earliest (Some at) = at

-- `@` and a number of milliseconds, at most 30 days and not below the item line before
abbrev pub moment : Option ℕ → List ℕ → Result ℕ ScriptWhy
moment before [] = Err why.BadMoment
moment before (b ∷ digits) = if b == 64 then number_within (earliest before) 2_592_000_000 why.BadMoment digits else Err why.BadMoment

-- a device name of the host
abbrev pub device_name : List ℕ → Result (List ℕ) ScriptWhy
device_name text = or_refuse why.UnknownWord (name_of text)

-- a link address
abbrev pub link : List ℕ → Result Mac ScriptWhy
link text = or_refuse why.BadLink (mac_of text)

abbrev pub ip4_in : Option Key → Result ℕ ScriptWhy
ip4_in None = Err why.BadAddress
ip4_in (Some (V4 n)) = Ok n
ip4_in (Some (V6 n)) = Err why.BadAddress

abbrev pub ip6_in : Option Key → Result ℕ ScriptWhy
ip6_in None = Err why.BadAddress
ip6_in (Some (V4 n)) = Err why.BadAddress
ip6_in (Some (V6 n)) = Ok n

-- an IPv4 address of the host
unfoldable pub own_ip4 : List ℕ → Result ℕ ScriptWhy
own_ip4 text = ip4_in (key_of text)

-- an IPv6 address of the host
unfoldable pub own_ip6 : List ℕ → Result ℕ ScriptWhy
own_ip6 text = ip6_in (key_of text)

abbrev pub neighbour_in : Host → Option Key → Result Key ScriptWhy
neighbour_in host None = Err why.BadAddress
neighbour_in host (Some key) = if is_neighbour host key then Ok key else Err why.BadAddress

-- an address that may be a neighbour's of the host
abbrev pub neighbour : Host → List ℕ → Result Key ScriptWhy
neighbour host text = neighbour_in host (key_of text)

-- the host's device
abbrev pub own_device : Host → List ℕ → Result (List ℕ) ScriptWhy
own_device host text = if bytes_eq text host.dev then Ok text else Err why.OtherDevice

-- a state that an entry may be given
abbrev pub state : List ℕ → Result Nud ScriptWhy
state text =
    if bytes_eq text (codes "permanent") then Ok nud.Permanent
    else (if bytes_eq text (codes "noarp") then Ok nud.Noarp
    else (if bytes_eq text (codes "reachable") then Ok nud.Reachable
    else (if bytes_eq text (codes "stale") then Ok nud.Stale
    else Err why.BadState)))

-- how many senders there are
abbrev pub sender_count : List ℕ → Result ℕ ScriptWhy
sender_count text = number_within 1 16 why.BadSender text

-- one of so many senders
abbrev pub sender_of : ℕ → List ℕ → Result ℕ ScriptWhy
sender_of senders text = number_within 1 senders why.BadSender text

-- a parameter's name
abbrev pub parameter : List ℕ → Result Parameter ScriptWhy
parameter text = or_refuse why.UnknownWord (parameter_of text)

-- a parameter's value
abbrev pub value_of : Parameter → List ℕ → Result ℕ ScriptWhy
value_of p text = number_within (least p) (greatest p) why.ParamRange text

abbrev pub payload_in : Option (List ℕ) → Result (List ℕ) ScriptWhy
payload_in None = Err why.BadPayload
payload_in (Some bytes) = if nat_le 1 (length bytes) && nat_le (length bytes) 1500 then Ok bytes else Err why.BadPayload

-- a payload is 1 to 1,500 bytes, two hexadecimal digits of either case for each
abbrev pub payload : List ℕ → Result (List ℕ) ScriptWhy
payload text = payload_in (hex_bytes_of text)
