use Rattle.std.proofs.Common.{arith}
use Rattle.std.proofs.lemmas.Grind.{common_steps}
use Rattle.nb_base.proofs.Octets.{ip4_text-again}
use Rattle.nb_base.proofs.key.write_ip4.Goals as goal

pub returns-clause-again : goal.returns-clause-again
returns-clause-again c = ip4_text-again _ c.args.address (grind (arith, common_steps)) c.ranges.address.fits
