use Rattle.std.proofs.Common.{◌∙◌, ap, arith}
use Rattle.nd_codec.specs.Message.{read_of}
use Rattle.nd_codec.specs.Spelling.{link_option}
use Rattle.nd_codec.proofs.Written.{solicit-again, link_fits}
use Rattle.nd_codec.proofs.writing.write_solicit.Goals as goal

pub returns-clause-again : goal.returns-clause-again
returns-clause-again c = λ some apart.
    ap read_of c.write_packet.ensures.bytes
    ∙ solicit-again c.args.source c.args.dest c.args.target (link_option 1 c.args.lladdr.now) (omega arith) (omega arith) (omega arith) (link_fits 1 c.args.lladdr.now c.write_packet.ensures.address) some apart
