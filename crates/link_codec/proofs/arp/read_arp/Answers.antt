use Rattle.std.proofs.Common.{ap, rules, arith, Some}
use Rattle.std.proofs.lemmas.Grind.{common_steps}
use Rattle.link_codec.specs.declared.arp.Arp.{Arp}
use Rattle.link_codec.specs.Arp.{BeginsWithArp}
use Rattle.link_codec.proofs.Packets.{BeginsWithArp-one}
use Rattle.link_codec.proofs.arp.read_arp.Goals as goal

pub returns-then-eq-clause-only : goal.returns-then-eq-clause-only
returns-then-eq-clause-only c =
    let found : BeginsWithArp c.args.body.now c.read_fields.result = first_of (search rules, grind (arith, common_steps)) in
    λ arp h. ap (λ (x : Arp). Some x) (BeginsWithArp-one c.args.body.now c.read_fields.result arp found h)
