use Rattle.pcap_records.proofs.Written.{frame_at}
use Rattle.pcap_records.proofs.writing.write_records.Goals as goal

pub put_record-requires : goal.put_record-requires
put_record-requires c = rw c.frame-item.is (frame_at c.args.frames.now c.requires c.loop-frame.frame-index _ c.loop-frame-test.true)
