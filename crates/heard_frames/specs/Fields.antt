-- What a frame holds as a function of its bytes, field by field. It is no definition to believe: `read_content` shows that it is exactly what `Holds` says.
use Rattle.std.specs.Prelude.{ℕ, Bool, ◌&&◌, ◌==◌, not, nat_lt, if◌then◌else◌, List, length, take, drop, bytes_eq, Option, Some, None, Result, Ok, Err}
use Rattle.std.specs.Int.{w16, w32, from_be_bytes}
use Rattle.nb_base.specs.declared.mac.Mac.{Mac}
use Rattle.nb_base.specs.Address.{is_group_mac}
use Rattle.link_codec.specs.declared.arp.Arp.{Arp}
use Rattle.link_codec.specs.EtherTypes.{arp_type, ip6_type}
use Rattle.link_codec.specs.Arp.{arp_kind}
use Rattle.nd_codec.specs.declared.message.Nd.{Nd}
use Rattle.nd_codec.specs.declared.message.NdFail.{NdFail}
use Rattle.nd_codec.specs.declared.message.NdFail.TheVariants as fail
use Rattle.nd_codec.specs.Message.{read_of}
use Rattle.heard_frames.specs.declared.content.Content.{Content}
use Rattle.heard_frames.specs.declared.content.Content.TheVariants as content
use Rattle.heard_frames.specs.Content.{is_mac}

-- the address and the numbers at a place
abbrev pub mac_at : ℕ → List ℕ → Mac
mac_at place bytes = record { 0 = take 6 (drop place bytes) }

abbrev pub number_2_at : ℕ → List ℕ → ℕ
number_2_at place bytes = from_be_bytes w16 (take 2 (drop place bytes))

abbrev pub number_4_at : ℕ → List ℕ → ℕ
number_4_at place bytes = from_be_bytes w32 (take 4 (drop place bytes))

-- ---- ARP

abbrev pub arp_fields : List ℕ → Arp
arp_fields body = record { op = number_2_at 6 body; sha = mac_at 8 body; spa = number_4_at 14 body; tha = mac_at 18 body; tpa = number_4_at 24 body }

abbrev pub has_arp : List ℕ → Bool
has_arp body = not (nat_lt (length body) 28) && bytes_eq (take 6 body) arp_kind

unfoldable pub arp_of : List ℕ → Option Arp
arp_of body = if has_arp body then Some (arp_fields body) else None

abbrev pub arp_content : Mac → Option Arp → Content
arp_content dst None = content.BadArp
arp_content dst (Some packet) = content.Arp dst packet

-- ---- neighbour discovery

abbrev pub bad_content : NdFail → Content
bad_content fail.NotIcmp = content.Other
bad_content why = content.NdBad why

abbrev pub nd_content : Mac → Result Nd NdFail → Content
nd_content src (Ok message) = content.Nd src message
nd_content src (Err why) = bad_content why

-- ---- frames

abbrev pub body_content : Mac → Mac → ℕ → List ℕ → Content
body_content dst src ethertype body =
    if ethertype == arp_type then arp_content dst (arp_of body)
    else if ethertype == ip6_type then nd_content src (read_of body)
    else content.Other

unfoldable pub frame_content : Mac → Mac → Mac → ℕ → List ℕ → Content
frame_content own dst src ethertype body =
    if is_mac src own then content.Own
    else if not (is_mac dst own) && not (is_group_mac dst) then content.Foreign
    else body_content dst src ethertype body

unfoldable pub content_of : Mac → List ℕ → Content
content_of own bytes =
    if nat_lt (length bytes) 14 then content.Short
    else frame_content own (mac_at 0 bytes) (mac_at 6 bytes) (number_2_at 12 bytes) (drop 14 bytes)
