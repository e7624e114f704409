use Rattle.std.proofs.Common.{◌∙◌}
use Rattle.nb_base.proofs.Octets.{ip4_found, ip4_of-only}
use Rattle.nb_base.proofs.key.read_ip4.Goals as goal

pub returns-in_err-bytes-clause-only : goal.returns-in_err-bytes-clause-only
returns-in_err-bytes-clause-only c = λ n h. c.from_residual.ensures ∙ (rw (← c.in_err-bytes.ensures) at (ip4_of-only c.args.text.now n h))

pub returns-clause-found : goal.returns-clause-found
returns-clause-found c = ip4_found c.args.text.now c.in_ok-bytes.bytes c.from_be_bytes.result c.in_ok-bytes.ensures c.from_be_bytes.ensures

pub returns-clause-only : goal.returns-clause-only
returns-clause-only c = λ n h. rw c.from_be_bytes.ensures (rw (← c.in_ok-bytes.ensures) at (ip4_of-only c.args.text.now n h))
