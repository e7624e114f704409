use Rattle.link_codec.proofs.Packets.{BeginsWithArp-taken}
use Rattle.link_codec.proofs.arp.read_fields.Goals as goal

pub returns : goal.returns
returns c =
    BeginsWithArp-taken _ c.args.fields.now c.take_u16-op.result.1.now c.take_mac.result.1.now c.take_u32-spa.result.1.now c.take_mac-2.result.1.now c.take_u32-tpa.result.1.now
    c.take_u16-op.ensures.front c.take_mac.ensures.front c.take_u32-spa.ensures.front c.take_mac-2.ensures.front c.take_u32-tpa.ensures.front
    c.take_u16-op.ensures.fits c.take_mac.ensures.size c.take_u32-spa.ensures.fits c.take_mac-2.ensures.size c.take_u32-tpa.ensures.fits
