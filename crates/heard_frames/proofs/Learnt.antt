-- The operation of a frame tells of a neighbour.
use Rattle.std.proofs.Common.{◌≡◌, ℕ, Bool, true, false, ◌&&◌, ◌||◌, if◌then◌else◌, List, Option, Some, None, refl}
use Rattle.std.specs.Prelude.{IfSome}
use Rattle.nb_base.specs.declared.mac.Mac.{Mac}
use Rattle.nb_base.specs.declared.key.Key.{Key}
use Rattle.nb_base.specs.declared.key.Key.TheVariants.{V4, V6}
use Rattle.nb_base.specs.declared.host.Host.{Host}
use Rattle.nb_base.specs.declared.op.Op.{Op}
use Rattle.nb_base.specs.declared.op.Op.TheVariants as op
use Rattle.nb_base.specs.Address.{is_neighbour}
use Rattle.link_codec.specs.declared.arp.Arp.{Arp}
use Rattle.nd_codec.specs.declared.message.Nd.{Nd}
use Rattle.nd_codec.specs.declared.message.Nd.TheVariants as nd
use Rattle.heard_frames.specs.declared.content.Content.{Content}
use Rattle.heard_frames.specs.declared.content.Content.TheVariants as content
use Rattle.heard_frames.specs.Content.{is_mac}
use Rattle.heard_frames.specs.Fields.{content_of}
use Rattle.heard_frames.specs.Answers.{is_request, is_hosts}
use Rattle.heard_frames.specs.Learning.{is_reply, arp_op, solicit_op, advert_op, op_in}
use Rattle.heard_frames.specs.Heard.{heard_of}

-- it tells of a neighbour's link address by an ARP packet, a solicitation or an advertisement
pub data IsTold (host : Host) : Op → Type 0 where
  by_arp : (key : Key) (mac : Mac) (make solicited : Bool) → is_neighbour host key ≡ true → IsTold host (op.Arp key mac make solicited)
  by_solicitation : (key : Key) (mac : Mac) → is_neighbour host key ≡ true → IsTold host (op.Ns key mac)
  by_advert : (key : Key) (mac : Option Mac) (router solicited overrides : Bool) → is_neighbour host key ≡ true → IsTold host (op.Na key mac router solicited overrides)

arp-told : (host : Host) (dst : Mac) (packet : Arp) → IfSome (arp_op host dst packet) (IsTold host)
arp-told host dst packet = by_test (is_request packet || is_reply packet) (is_neighbour host (V4 packet.spa)) refl where
  told : Op
  told = op.Arp (V4 packet.spa) packet.sha (is_request packet && is_hosts host (V4 packet.tpa)) (is_reply packet && is_mac dst host.mac)

  by_test : (a b : Bool) → is_neighbour host (V4 packet.spa) ≡ b → IfSome (if a && b then Some told else None) (IsTold host)
  by_test true true e = by_arp (V4 packet.spa) packet.sha (is_request packet && is_hosts host (V4 packet.tpa)) (is_reply packet && is_mac dst host.mac) e
  by_test true false e = tt
  by_test false b e = tt

solicit-told : (host : Host) (source target : ℕ) (lladdr : Option Mac) → IfSome (solicit_op host source target lladdr) (IsTold host)
solicit-told host source target None = tt
solicit-told host source target (Some mac) = by_test (is_hosts host (V6 target)) (is_neighbour host (V6 source)) refl where
  by_test : (a b : Bool) → is_neighbour host (V6 source) ≡ b → IfSome (if a && b then Some (op.Ns (V6 source) mac) else None) (IsTold host)
  by_test true true e = by_solicitation (V6 source) mac e
  by_test true false e = tt
  by_test false b e = tt

advert-told : (host : Host) (target : ℕ) (router solicited overrides : Bool) (lladdr : Option Mac) → IfSome (advert_op host target router solicited overrides lladdr) (IsTold host)
advert-told host target router solicited overrides lladdr = by_test (is_neighbour host (V6 target)) refl where
  by_test : (b : Bool) → is_neighbour host (V6 target) ≡ b → IfSome (if b then Some (op.Na (V6 target) lladdr router solicited overrides) else None) (IsTold host)
  by_test true e = by_advert (V6 target) lladdr router solicited overrides e
  by_test false e = tt

op-told : (host : Host) (held : Content) → IfSome (op_in host held) (IsTold host)
op-told host content.Short = tt
op-told host content.Own = tt
op-told host content.Foreign = tt
op-told host content.BadArp = tt
op-told host (content.Arp dst packet) = arp-told host dst packet
op-told host (content.NdBad why) = tt
op-told host (content.Nd src (nd.Solicit source dest target lladdr)) = solicit-told host source target lladdr
op-told host (content.Nd src (nd.Advert source dest target router solicited overrides lladdr)) = advert-told host target router solicited overrides lladdr
op-told host content.Other = tt

pub heard-told : (host : Host) (is_proxied : Key → Bool) (bytes : List ℕ) → IfSome (heard_of host is_proxied bytes).op (IsTold host)
unfolding heard_of
heard-told host is_proxied bytes = op-told host (content_of host.mac bytes)
