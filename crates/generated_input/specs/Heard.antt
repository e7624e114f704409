-- The records of a generated capture: what the host hears of 200 neighbours (this project's own).
use Rattle.std.specs.Prelude.{ℕ, ◌+◌, ◌*◌, ◌%◌, ◌==◌, Bool, true, false, List, [], ◌∷◌, ◌++◌, map, replicate, Some, None, codes}
use Rattle.std.specs.List.{range_with_len}
use Rattle.nb_base.specs.declared.mac.Mac.{Mac}
use Rattle.nb_base.specs.declared.host.Host.{Host}
use Rattle.link_codec.specs.declared.arp.Arp.{Arp}
use Rattle.link_codec.specs.Arp.{arp_bytes}
use Rattle.link_codec.specs.Ethernet.{eth_bytes}
use Rattle.link_codec.specs.EtherTypes.{arp_type}
use Rattle.link_codec.specs.Groups.{everyone}
use Rattle.pcap_records.specs.declared.capture.Frame.{Frame}
use Rattle.generated_input.specs.Draws.{draw, neighbour}

-- 10.0.0.2
abbrev pub host_ip4 : ℕ
host_ip4 = 0x0a000002

-- 02:00:00:00:00:02
abbrev pub host_mac : Mac
host_mac = record { 0 = 2 ∷ 0 ∷ 0 ∷ 0 ∷ 0 ∷ 2 ∷ [] }

-- the host, at its device eth0
abbrev pub host : Host
host = record { dev = codes "eth0"; mac = host_mac; ip4 = Some host_ip4; ip6 = None }

-- 10.0.1.d
abbrev pub neighbour_ip4 : ℕ → ℕ
neighbour_ip4 d = 0x0a000100 + d

-- 02:00:00:00:03:d
abbrev pub neighbour_mac : ℕ → Mac
neighbour_mac d = record { 0 = 2 ∷ 0 ∷ 0 ∷ 0 ∷ 3 ∷ d ∷ [] }

-- the neighbour asks for the host's link address, which it doesn't know yet (RFC 826)
abbrev pub request : ℕ → Arp
request d = record { op = 1; sha = neighbour_mac d; spa = neighbour_ip4 d; tha = record { 0 = replicate 6 0 }; tpa = host_ip4 }

-- the neighbour answers the host
abbrev pub reply : ℕ → Arp
reply d = record { op = 2; sha = neighbour_mac d; spa = neighbour_ip4 d; tha = host_mac; tpa = host_ip4 }

-- a packet's frame, without padding
abbrev pub frame_to : Mac → Arp → List ℕ
frame_to dst arp = eth_bytes dst arp.sha arp_type ++ arp_bytes arp

-- a request goes to everyone, and a reply to the host
abbrev pub heard_bytes : Bool → ℕ → List ℕ
heard_bytes true d = frame_to everyone (request d)
heard_bytes false d = frame_to host_mac (reply d)

-- record i, counted from 0, at 10 i: one draw says whose it is, and a second whether it is a request, in one case of four
abbrev pub heard_by : ℕ → ℕ → ℕ → Frame
heard_by i first second = record { at = 10 * i; bytes = heard_bytes (second % 4 == 0) (neighbour first) }

-- two draws for each record
abbrev pub heard_at : ℕ → ℕ → Frame
heard_at x i = heard_by i (draw (2 * i) x) (draw (2 * i + 1) x)

-- the first n records
unfoldable pub heard : ℕ → ℕ → List Frame
heard n x = map (heard_at x) (range_with_len 0 n)
