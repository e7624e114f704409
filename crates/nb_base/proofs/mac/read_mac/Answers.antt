use Rattle.std.proofs.Common.{sym, ◌∙◌}
use Rattle.nb_base.specs.Parts.{hex_byte_of}
use Rattle.nb_base.proofs.Joined.{found_parts}
use Rattle.nb_base.proofs.HexBytes.{mac_of-only}
use Rattle.nb_base.proofs.mac.read_mac.Goals as goal

pub returns-in_err-bytes-clause-only : goal.returns-in_err-bytes-clause-only
returns-in_err-bytes-clause-only c = λ mac h. c.from_residual.ensures ∙ (rw (← c.in_err-bytes.ensures) at (mac_of-only c.args.text.now mac h))

pub returns-clause-found : goal.returns-clause-found
returns-clause-found c = found_parts hex_byte_of 6 58 c.args.text.now c.in_ok-bytes.bytes (sym c.in_ok-bytes.ensures)

pub returns-clause-only : goal.returns-clause-only
returns-clause-only c = λ mac h. rw (← c.in_ok-bytes.ensures) at (mac_of-only c.args.text.now mac h)
