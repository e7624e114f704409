use Rattle.pcap_records.proofs.Bounds.{captures_are_bounded}
use Rattle.pcap_records.proofs.laws.captures_are_bounded.Goals as goal

pub returns : goal.returns
returns c = captures_are_bounded
