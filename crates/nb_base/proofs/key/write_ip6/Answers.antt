use Rattle.std.proofs.Common.{◌≡◌, arith, ◌∙◌}
use Rattle.std.proofs.lemmas.Grind.{common_steps}
use Rattle.std.specs.Net.Text.{hex_groups_text}
use Rattle.nb_base.specs.Written.{groups_of}
use Rattle.nb_base.proofs.Written.{hex_groups_text-written, hex_groups_text-one, hex_groups_text-again}
use Rattle.nb_base.proofs.key.write_ip6.Goals as goal

pub returns-clause-written : goal.returns-clause-written
returns-clause-written c = hex_groups_text-written _ c.args.address (grind (arith, common_steps))

pub returns-clause-again : goal.returns-clause-again
returns-clause-again c = hex_groups_text-again _ c.args.address (grind (arith, common_steps)) c.ranges.address.fits

pub returns-clause-only : goal.returns-clause-only
returns-clause-only c = λ other h.
    let text : c.from_vec.result ≡ hex_groups_text (groups_of c.args.address) = grind (arith, common_steps) in
    text ∙ hex_groups_text-one other c.args.address h
