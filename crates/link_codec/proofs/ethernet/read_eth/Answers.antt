use Rattle.link_codec.proofs.Frames.{IsFrame-taken, IsFrame-one}
use Rattle.link_codec.proofs.ethernet.read_eth.Goals as goal

pub returns-clause-only : goal.returns-clause-only
returns-clause-only c = λ dst src ethertype body h.
    IsFrame-one c.args.bytes.now c.take_mac.result.0 c.take_mac-2.result.0 dst src c.take_u16-ethertype.result.0 ethertype c.take_u16-ethertype.result.1.now body
    (IsFrame-taken c.take_mac.result.0 c.take_mac-2.result.0 c.take_u16-ethertype.result.0 c.args.bytes.now c.take_mac.result.1.now c.take_mac-2.result.1.now c.take_u16-ethertype.result.1.now
    c.take_mac.ensures.front c.take_mac-2.ensures.front c.take_u16-ethertype.ensures.front c.take_mac.ensures.size c.take_mac-2.ensures.size c.take_u16-ethertype.ensures.fits)
    h
