use Rattle.std.proofs.Common.{◌∙◌, ap, arith}
use Rattle.nd_codec.specs.Message.{read_of}
use Rattle.nd_codec.specs.Spelling.{packet_bytes, link_option}
use Rattle.nd_codec.proofs.Written.{advert-again, link_fits}
use Rattle.nd_codec.proofs.writing.write_advert.Goals as goal

pub returns-clause-again : goal.returns-clause-again
returns-clause-again c = λ apart alone.
    ap read_of c.write_packet.ensures.bytes
    ∙ ap (λ f. read_of (packet_bytes c.args.source c.args.dest 136 f c.args.target (link_option 2 c.args.lladdr.now))) c.flags.ensures
    ∙ advert-again c.args.source c.args.dest c.args.target c.args.solicited c.args.overrides (link_option 2 c.args.lladdr.now) (omega arith) (omega arith) (omega arith) (link_fits 2 c.args.lladdr.now c.write_packet.ensures.address) apart alone
