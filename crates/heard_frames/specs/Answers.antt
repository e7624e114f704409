-- Requests for addresses, and the frames that answer them
-- (RFC 826, "Packet Reception"; RFC 4861 sections 7.2.3, 7.2.4 and 7.2.8; to which link address an answer goes is this project's own).
use Rattle.std.specs.Prelude.{ℕ, Bool, false, not, ◌&&◌, ◌==◌, if◌then◌else◌, List, ◌++◌, Option, Some, None, unwrap_or}
use Rattle.nb_base.specs.declared.mac.Mac.{Mac}
use Rattle.nb_base.specs.declared.key.Key.{Key}
use Rattle.nb_base.specs.declared.key.Key.TheVariants.{V4, V6}
use Rattle.nb_base.specs.declared.host.Host.{Host}
use Rattle.link_codec.specs.declared.arp.Arp.{Arp}
use Rattle.link_codec.specs.Ethernet.{eth_bytes}
use Rattle.link_codec.specs.EtherTypes.{arp_type, ip6_type}
use Rattle.link_codec.specs.Groups.{group_mac}
use Rattle.link_codec.specs.Arp.{arp_bytes}
use Rattle.nb_queues.specs.declared.request.ProxyRequest.{ProxyRequest}
use Rattle.nb_queues.specs.declared.request.ProxyRequest.TheVariants as request
use Rattle.nb_queues.specs.Proxies.{target_of}
use Rattle.nd_codec.specs.declared.message.Nd.TheVariants as nd
use Rattle.nd_codec.specs.Spelling.{advert_bytes}
use Rattle.heard_frames.specs.declared.content.Content.{Content}
use Rattle.heard_frames.specs.declared.content.Content.TheVariants as content

-- ---- requests

-- opcode 1 (RFC 826)
abbrev pub is_request : Arp → Bool
is_request packet = packet.op == 1

-- all nodes of the link, ff02::1 (RFC 4291 section 2.7.1)
abbrev pub all_nodes : ℕ
all_nodes = 0xff020000000000000000000000000001

-- the link address to which the answer to a solicitation goes: from `::` that of all nodes; else the one that it tells, or where it tells none its frame's source
abbrev pub solicitor_mac : Mac → ℕ → Option Mac → Mac
solicitor_mac src source lladdr = if source == 0 then group_mac all_nodes else unwrap_or lladdr src

-- the request that a frame makes: an ARP request is answered to its sender, a solicitation to its source
abbrev pub request_in : Content → Option ProxyRequest
request_in (content.Arp dst packet) = if is_request packet then Some (request.Arp packet.sha packet.spa packet.tpa) else None
request_in (content.Nd src (nd.Solicit source dest target lladdr)) = Some (request.Nd (solicitor_mac src source lladdr) source target)
request_in _ = None

-- an address is the host's
abbrev pub is_given : Option ℕ → ℕ → Bool
is_given None address = false
is_given (Some own) address = own == address

abbrev pub is_hosts : Host → Key → Bool
is_hosts host (V4 address) = is_given host.ip4 address
is_hosts host (V6 address) = is_given host.ip6 address

-- ---- answers

-- an ARP reply, opcode 2: from the host's link address and the address that was asked for, to the asker's two
abbrev pub reply_packet : Host → Mac → ℕ → ℕ → Arp
reply_packet host mac asker target = record { op = 2; sha = host.mac; spa = target; tha = mac; tpa = asker }

-- an advertisement goes to the asker, and to all nodes where that is `::`
abbrev pub advert_dest : ℕ → ℕ
advert_dest asker = if asker == 0 then all_nodes else asker

-- an advertisement of the address that was asked for, from the host's own address, with R clear and the host's link address as target option;
-- S is set where it goes to the asker alone, and O for the host's own address, but not for a proxied one
-- (a host without an IPv6 address gives `::` as its own, but it has no address to be asked for and no proxied ones)
abbrev pub advert_packet : Host → ℕ → ℕ → List ℕ
advert_packet host asker target =
    advert_bytes (unwrap_or host.ip6 0) (advert_dest asker) target (not (asker == 0)) (is_hosts host (V6 target)) host.mac

-- the frame that answers a request, from the host's link address
unfoldable pub answer_frame : Host → ProxyRequest → List ℕ
answer_frame host (request.Arp mac asker target) = eth_bytes mac host.mac arp_type ++ arp_bytes (reply_packet host mac asker target)
answer_frame host (request.Nd mac asker target) = eth_bytes mac host.mac ip6_type ++ advert_packet host asker target

-- a request for the host's own address is answered at once, whoever asks
abbrev pub reply_to : Host → Option ProxyRequest → Option (List ℕ)
reply_to host None = None
reply_to host (Some asked) = if is_hosts host (target_of asked) then Some (answer_frame host asked) else None

-- a request for another address waits where that is proxied
abbrev pub proxied : Host → (Key → Bool) → Option ProxyRequest → Option ProxyRequest
proxied host is_proxied None = None
proxied host is_proxied (Some asked) = if not (is_hosts host (target_of asked)) && is_proxied (target_of asked) then Some asked else None
