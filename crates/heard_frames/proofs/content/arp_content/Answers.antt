use Rattle.std.proofs.Common.{sym, ap, arith}
use Rattle.heard_frames.specs.Fields.{arp_content}
use Rattle.heard_frames.proofs.Packets.{arp_of-some, arp_of-none}
use Rattle.heard_frames.proofs.content.arp_content.Goals as goal

pub returns-in-Some : goal.returns-in-Some
returns-in-Some c = sym (ap (arp_content c.args.dst) (arp_of-some c.args.body.now c.in-Some.packet (λ i. omega (arith, c.type_inv.body i)) c.in-Some.ensures.found))

pub returns-in-None : goal.returns-in-None
returns-in-None c = sym (ap (arp_content c.args.dst) (arp_of-none c.args.body.now (λ i. omega (arith, c.type_inv.body i)) (λ packet begins. let some = c.in-None.ensures.only packet begins in absurd cc)))
