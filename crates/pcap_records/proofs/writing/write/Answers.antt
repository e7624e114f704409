use Rattle.pcap_records.proofs.Written.{is_written}
use Rattle.pcap_records.proofs.writing.write.Goals as goal

pub returns-clause-again : goal.returns-clause-again
returns-clause-again c = is_written c.write_records.result c.args.frames.now c.requires c.write_records.ensures
