use Rattle.std.proofs.Common.{arith}
use Rattle.std.proofs.lemmas.Grind.{common_steps}
use Rattle.nb_base.proofs.HexBytes.{mac_text-again}
use Rattle.nb_base.proofs.mac.write_bytes.Goals as goal

pub returns-clause-again : goal.returns-clause-again
returns-clause-again c =
    mac_text-again _ (record { 0 = c.args.bytes.now }) (grind (arith, common_steps)) c.told-bytes c.fits-bytes
