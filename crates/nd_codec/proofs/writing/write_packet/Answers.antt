use Rattle.nd_codec.proofs.Written.{packet_written}
use Rattle.nd_codec.proofs.writing.write_packet.Goals as goal

pub returns-clause-bytes : goal.returns-clause-bytes
returns-clause-bytes c =
    packet_written c.args.source c.args.dest c.args.body.now.kind c.args.body.now.flags c.args.body.now.target c.args.body.now.option c.args.body.now.lladdr _ _ _ _
    c.write_message.ensures.address c.write_header.ensures c.write_message.ensures.bytes c.checksum-sum.ensures c.put_checksum.ensures
