-- The texts of IPv6 addresses.
use Rattle.std.specs.Prelude.{◌≡◌, ℕ, false, ◌==◌, if◌then◌else◌, List, Option, None}
use Rattle.std.specs.Option.{option_map}
use Rattle.std.specs.Int.{w128, from_be_bytes}
use Rattle.std.specs.List.{list_any}
use Rattle.std.specs.Net.Addr.{octets_of}
use Rattle.std.specs.Net.Grammar.{IsColonHex}
use Rattle.std.specs.Net.Reader.{read_ipv6, whole_value}

-- groups of 1 to 4 hexadecimal digits of either case joined by `:`, eight, or fewer with `::` once for one zero group or more (RFC 4291 section 2.2), are the number, its most significant byte first
pub record HasGroups (text : List ℕ) (n : ℕ) : Type 0 where
  pub segments : List ℕ
  pub groups : IsColonHex text segments
  pub value : n ≡ from_be_bytes w128 (octets_of segments)

-- an IPv6 address is spelled by such groups without a dotted tail (and a zone is no group)
pub record IsIp6Text (text : List ℕ) (n : ℕ) : Type 0 where
  pub spelled : HasGroups text n
  pub no_tail : list_any (λ b. b == 46) text ≡ false

-- the number of the groups that std's reader finds in the whole text
abbrev pub groups_value : List ℕ → Option ℕ
groups_value text = option_map (λ segments. from_be_bytes w128 (octets_of segments)) (whole_value (read_ipv6 text))

-- the IPv6 address that a text spells (`read_ip6` shows that it is exactly that of `IsIp6Text`)
abbrev pub ip6_of : List ℕ → Option ℕ
ip6_of text = if list_any (λ b. b == 46) text then None else groups_value text
