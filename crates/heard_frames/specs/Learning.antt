-- What the host learns of its neighbours from a frame: the operation on the table
-- (RFC 826, "Packet Reception"; RFC 4861 sections 7.2.3 and 7.2.5; that only neighbours are learnt is this project's own).
use Rattle.std.specs.Prelude.{ℕ, Bool, ◌&&◌, ◌||◌, ◌==◌, if◌then◌else◌, Option, Some, None}
use Rattle.nb_base.specs.declared.mac.Mac.{Mac}
use Rattle.nb_base.specs.declared.key.Key.TheVariants.{V4, V6}
use Rattle.nb_base.specs.declared.host.Host.{Host}
use Rattle.nb_base.specs.declared.op.Op.{Op}
use Rattle.nb_base.specs.declared.op.Op.TheVariants as op
use Rattle.nb_base.specs.Address.{is_neighbour}
use Rattle.link_codec.specs.declared.arp.Arp.{Arp}
use Rattle.nd_codec.specs.declared.message.Nd.{Nd}
use Rattle.nd_codec.specs.declared.message.Nd.TheVariants as nd
use Rattle.heard_frames.specs.declared.content.Content.{Content}
use Rattle.heard_frames.specs.declared.content.Content.TheVariants as content
use Rattle.heard_frames.specs.Content.{is_mac}
use Rattle.heard_frames.specs.Answers.{is_request, is_hosts}

-- opcode 2 (RFC 826)
abbrev pub is_reply : Arp → Bool
is_reply packet = packet.op == 2

-- a request or a reply tells its sender's link address, where that is a neighbour; a request for the host's address makes an entry, and a reply to the host is a solicited one
abbrev pub arp_op : Host → Mac → Arp → Option Op
arp_op host dst packet =
    if (is_request packet || is_reply packet) && is_neighbour host (V4 packet.spa)
    then Some (op.Arp (V4 packet.spa) packet.sha (is_request packet && is_hosts host (V4 packet.tpa)) (is_reply packet && is_mac dst host.mac))
    else None

-- a solicitation for the host's address tells its source's link address, where it has one and its source is a neighbour
abbrev pub solicit_op : Host → ℕ → ℕ → Option Mac → Option Op
solicit_op host source target None = None
solicit_op host source target (Some mac) = if is_hosts host (V6 target) && is_neighbour host (V6 source) then Some (op.Ns (V6 source) mac) else None

-- an advertisement tells of its target, where that is a neighbour
abbrev pub advert_op : Host → ℕ → Bool → Bool → Bool → Option Mac → Option Op
advert_op host target router solicited overrides lladdr =
    if is_neighbour host (V6 target) then Some (op.Na (V6 target) lladdr router solicited overrides) else None

abbrev pub nd_op : Host → Nd → Option Op
nd_op host (nd.Solicit source dest target lladdr) = solicit_op host source target lladdr
nd_op host (nd.Advert source dest target router solicited overrides lladdr) = advert_op host target router solicited overrides lladdr

-- the operation on the table that a frame brings
abbrev pub op_in : Host → Content → Option Op
op_in host (content.Arp dst packet) = arp_op host dst packet
op_in host (content.Nd src message) = nd_op host message
op_in host _ = None
