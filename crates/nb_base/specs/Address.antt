-- Addresses, as texts, and which addresses are neighbours'.
use Rattle.std.specs.Prelude.{◌≡◌, ◌<◌, ◌^◌, ◌%◌, length, ℕ, Bool, false, ◌&&◌, not, ◌==◌, nat_lt, List, slice_index, map, Option, Some, None, decimal}
use Rattle.std.specs.Option.{option_map, option_or}
use Rattle.std.specs.Int.{w32, w128, to_be_bytes, from_be_bytes}
use Rattle.std.specs.List.{join_with_byte}
use Rattle.std.specs.Net.Addr.{segments_of}
use Rattle.std.specs.Net.Text.{hex_groups_text}
use Rattle.nb_base.specs.declared.mac.Mac.{Mac}
use Rattle.nb_base.specs.declared.key.Key.{Key}
use Rattle.nb_base.specs.declared.key.Key.TheVariants.{V4, V6}
use Rattle.nb_base.specs.declared.host.Host.{Host}
use Rattle.nb_base.specs.Ip6.{IsIp6Text, ip6_of}
use Rattle.nb_base.specs.Parts.{IsJoined, parts_spelled, hex_byte_of, octet_of, hex_pair}

-- a link address is spelled by six parts of one or two hexadecimal digits of either case joined by `:` (this project's own reading of the usual form)
abbrev pub IsMacText : List ℕ → Mac → Type 0
IsMacText text mac = IsJoined hex_byte_of 58 text mac.0 × (length mac.0 ≡ 6)

-- a group's address: the first byte is odd, whose lowest bit is the first that is sent (IEEE 802.3 section 3.2.3)
abbrev pub is_group_mac : Mac → Bool
is_group_mac mac = slice_index mac.0 0 % 2 == 1

-- the link address that a text spells
abbrev pub mac_of : List ℕ → Option Mac
mac_of text = option_map (λ bytes. record { 0 = bytes }) (parts_spelled hex_byte_of 6 58 text)

-- two lower-case digits for each byte, joined by `:`
abbrev pub mac_text : Mac → List ℕ
mac_text m = join_with_byte 58 (map hex_pair m.0)

-- an IPv4 address is spelled by four numbers from 0 to 255 without needless leading zeros joined by `.`, its most significant byte first (inet_pton(3), not inet_aton(3))
abbrev pub IsIp4Text : List ℕ → ℕ → Type 0
IsIp4Text text n = IsJoined octet_of 46 text (to_be_bytes w32 n) × (n < 2 ^ 32)

-- the IPv4 address that a text spells
abbrev pub ip4_of : List ℕ → Option ℕ
ip4_of text = option_map (from_be_bytes w32) (parts_spelled octet_of 4 46 text)

-- four decimal numbers joined by `.`
abbrev pub ip4_text : ℕ → List ℕ
ip4_text n = join_with_byte 46 (map decimal (to_be_bytes w32 n))

-- a key is spelled as an address of its family
abbrev pub IsKeyText : List ℕ → Key → Type 0
IsKeyText text (V4 n) = IsIp4Text text n
IsKeyText text (V6 n) = IsIp6Text text n

-- the key that a text spells
abbrev pub key_of : List ℕ → Option Key
key_of text = option_or (option_map V4 (ip4_of text)) (option_map V6 (ip6_of text))

-- the one written form; for IPv6 that of RFC 5952 section 4, always in hexadecimal groups
abbrev pub key_text : Key → List ℕ
key_text (V4 n) = ip4_text n
key_text (V6 n) = hex_groups_text (segments_of (to_be_bytes w128 n))

-- an IPv4 address may be a neighbour's unless it is the host's own, 0.0.0.0 (unspecified) or from 224.0.0.0 on (groups, reserved, broadcast), or the host has none
abbrev pub is_ip4_neighbour : Option ℕ → ℕ → Bool
is_ip4_neighbour None n = false
is_ip4_neighbour (Some own) n = not (n == own) && not (n == 0) && nat_lt n 0xe0000000

-- an IPv6 address may be a neighbour's unless it is the host's own, `::` (unspecified) or in ff00::/8 (groups), or the host has none
abbrev pub is_ip6_neighbour : Option ℕ → ℕ → Bool
is_ip6_neighbour None n = false
is_ip6_neighbour (Some own) n = not (n == own) && not (n == 0) && nat_lt n 0xff000000000000000000000000000000

-- whether the host may have a neighbour at the key's address (this project's own: the reserved IPv4 addresses from 240.0.0.0 on are excluded too)
abbrev pub is_neighbour : Host → Key → Bool
is_neighbour host (V4 n) = is_ip4_neighbour host.ip4 n
is_neighbour host (V6 n) = is_ip6_neighbour host.ip6 n
