-- What a captured frame holds for a host, by the grammars of Ethernet, ARP and neighbour discovery, and its class
-- (RFC 894, RFC 826, RFC 4861 section 7.1; the classes and their order are this project's own).
use Rattle.std.specs.Prelude.{◌≡◌, ◌≢◌, ℕ, ◌<◌, Bool, true, false, List, length, bytes_eq, Ok, Err}
use Rattle.nb_base.specs.declared.mac.Mac.{Mac}
use Rattle.nb_base.specs.declared.host_line.Class.{Class}
use Rattle.nb_base.specs.declared.host_line.Class.TheVariants as class
use Rattle.nb_base.specs.Address.{is_group_mac}
use Rattle.link_codec.specs.declared.arp.Arp.{Arp}
use Rattle.link_codec.specs.Ethernet.{IsFrame}
use Rattle.link_codec.specs.EtherTypes.{arp_type, ip6_type}
use Rattle.link_codec.specs.Arp.{BeginsWithArp}
use Rattle.nd_codec.specs.declared.message.Nd.{Nd}
use Rattle.nd_codec.specs.declared.message.NdFail.{NdFail}
use Rattle.nd_codec.specs.declared.message.NdFail.TheVariants as fail
use Rattle.nd_codec.specs.Message.{read_of}
use Rattle.nd_codec.specs.Fail.{number_of}
use Rattle.heard_frames.specs.declared.content.Content.{Content}
use Rattle.heard_frames.specs.declared.content.Content.TheVariants as content

-- two link addresses are one
abbrev pub is_mac : Mac → Mac → Bool
is_mac a b = bytes_eq a.0 b.0

-- a frame that another host sent, to this one, whose link address is `own`, or to a group
pub record Reaches (own : Mac) (bytes : List ℕ) (dst src : Mac) (ethertype : ℕ) (body : List ℕ) : Type 0 where
  pub frame : IsFrame bytes dst src ethertype body
  pub from_another : src ≢ own
  pub to_host_or_group : dst ≢ own → is_group_mac dst ≡ true

-- what the bytes hold for the host with this link address
pub data Holds (own : Mac) (bytes : List ℕ) : Content → Type 0 where
  -- too few bytes for an Ethernet header
  short : length bytes < 14 → Holds own bytes content.Short
  -- the host sent the frame itself
  from_host : (dst : Mac) (ethertype : ℕ) (body : List ℕ) → IsFrame bytes dst own ethertype body → Holds own bytes content.Own
  -- another host sent it, to neither the host nor a group
  foreign : (dst src : Mac) (ethertype : ℕ) (body : List ℕ) → IsFrame bytes dst src ethertype body → src ≢ own → dst ≢ own → is_group_mac dst ≡ false
      → Holds own bytes content.Foreign
  -- of ARP's type, with an ARP packet
  arp : (dst src : Mac) (body : List ℕ) (packet : Arp) → Reaches own bytes dst src arp_type body → BeginsWithArp body packet → Holds own bytes (content.Arp dst packet)
  -- of ARP's type, with none
  bad_arp : (dst src : Mac) (body : List ℕ) → Reaches own bytes dst src arp_type body → ((packet : Arp) → BeginsWithArp body packet → ⊥) → Holds own bytes content.BadArp
  -- of IPv6's type, with a solicitation or an advertisement
  discovery : (dst src : Mac) (body : List ℕ) (message : Nd) → Reaches own bytes dst src ip6_type body → read_of body ≡ Ok message → Holds own bytes (content.Nd src message)
  -- of IPv6's type, with one that fails a check
  bad_discovery : (dst src : Mac) (body : List ℕ) (why : NdFail) → Reaches own bytes dst src ip6_type body → read_of body ≡ Err why → why ≢ fail.NotIcmp
      → Holds own bytes (content.NdBad why)
  -- of IPv6's type, with another packet
  other_packet : (dst src : Mac) (body : List ℕ) → Reaches own bytes dst src ip6_type body → read_of body ≡ Err fail.NotIcmp → Holds own bytes content.Other
  -- of another type
  other_type : (dst src : Mac) (ethertype : ℕ) (body : List ℕ) → Reaches own bytes dst src ethertype body → ethertype ≢ arp_type → ethertype ≢ ip6_type
      → Holds own bytes content.Other

-- the class of a frame, by what it holds
abbrev pub class_of : Content → Class
class_of content.Short = class.Short
class_of content.Own = class.Own
class_of content.Foreign = class.Foreign
class_of content.BadArp = class.BadArp
class_of (content.Arp dst packet) = class.Arp
class_of (content.NdBad why) = class.NdBad (number_of why)
class_of (content.Nd src message) = class.Nd
class_of content.Other = class.Other
