-- Frames of packets and of solicitations.
use Rattle.std.specs.Prelude.{ℕ, ◌-◌, ◌/◌, ◌%◌, List, [], ◌++◌, replicate, Option, unwrap_or, slice_get, option_and_then}
use Rattle.std.specs.Option.{option_map_or}
use Rattle.nb_base.specs.declared.mac.Mac.{Mac}
use Rattle.nb_base.specs.declared.key.Key.{Key}
use Rattle.nb_base.specs.declared.key.Key.TheVariants.{V4, V6}
use Rattle.nb_base.specs.declared.host.Host.{Host}
use Rattle.nb_base.specs.declared.time.OpId.{OpId}
use Rattle.nb_base.specs.declared.plan.Plan.{Plan}
use Rattle.nb_base.specs.declared.plan.SendItem.{SendItem}
use Rattle.link_codec.specs.declared.arp.Arp.{Arp}
use Rattle.link_codec.specs.Ethernet.{eth_bytes}
use Rattle.link_codec.specs.EtherTypes.{arp_type, ip6_type, type_for}
use Rattle.link_codec.specs.Groups.{everyone, group_mac}
use Rattle.link_codec.specs.Arp.{arp_bytes}
use Rattle.nd_codec.specs.Packet.{solicited_node}
use Rattle.nd_codec.specs.Spelling.{solicit_bytes}

-- ---- packets

-- a header from the host with the type of the key's family, and the payload without padding
abbrev pub frame_to : Host → Mac → SendItem → List ℕ
frame_to host mac item = eth_bytes mac host.mac (type_for item.key) ++ item.payload

-- the packet that an id names: of sender `id % 32`, the item of number `id / 32`, both counted from 1 (an id of participant 0, which is 0 there, is no packet's, and what is said of it means nothing)
abbrev pub packet_of : Plan → OpId → Option SendItem
packet_of plan id = option_and_then (λ items. slice_get items (id.0 / 32 - 1)) (slice_get plan.senders (id.0 % 32 - 1))

-- the frame of a packet that goes to the address
abbrev pub sent_frame : Plan → OpId → Mac → List ℕ
sent_frame plan id mac = option_map_or (frame_to plan.host mac) (packet_of plan id) []

-- ---- solicitations of IPv4 addresses (RFC 826; Linux, arp_solicit)

-- the address that a request leaves open
abbrev pub unknown : Mac
unknown = record { 0 = replicate 6 0 }

-- the host asks who has the address; a host without an IPv4 address gives 0 as its own, but it has no IPv4 neighbours
abbrev pub request_for : Host → ℕ → Arp
request_for host address = record { op = 1; sha = host.mac; spa = unwrap_or host.ip4 0; tha = unknown; tpa = address }

-- the frame in which the request goes from the host to a link address
abbrev pub request_frame : Host → Mac → ℕ → List ℕ
request_frame host mac address = eth_bytes mac host.mac arp_type ++ arp_bytes (request_for host address)

-- ---- solicitations of IPv6 addresses (RFC 4861 sections 4.3 and 7.2.2; Linux, ndisc_solicit)

-- the frame in which a neighbour solicitation for the address goes from the host to an IPv6 destination at a link address
-- it tells the host's link address; a host without an IPv6 address gives `::` as its own, but it has no IPv6 neighbours
abbrev pub neighbour_frame : Host → Mac → ℕ → ℕ → List ℕ
neighbour_frame host mac destination address = eth_bytes mac host.mac ip6_type ++ solicit_bytes (unwrap_or host.ip6 0) destination address host.mac

-- ---- solicitations of keys

-- an unresolved address is asked for among all that may have it: all hosts of the link by ARP, its solicited-node group by neighbour discovery
abbrev pub group_solicitation : Host → Key → List ℕ
group_solicitation host (V4 address) = request_frame host everyone address
group_solicitation host (V6 address) = neighbour_frame host (group_mac (solicited_node address)) (solicited_node address) address

-- a probe goes to the link address of the key's entry, by neighbour discovery to the key itself
abbrev pub unicast_solicitation : Host → Key → Mac → List ℕ
unicast_solicitation host (V4 address) mac = request_frame host mac address
unicast_solicitation host (V6 address) mac = neighbour_frame host mac address address
