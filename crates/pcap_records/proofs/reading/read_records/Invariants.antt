use Rattle.std.proofs.Common.{◌≡◌, ◌-◌, ◌+◌, ◌≤◌, length}
use Rattle.pcap_records.specs.Reading.{with_front, records_from, start_clock}
use Rattle.pcap_records.proofs.reading.read_records.Given as goal

abbrev pub invariant-loop-rest : goal.invariant-loop-rest
invariant-loop-rest l = record {
  within : l.place + length l.rest ≡ 24 + length l.bytes;
  few : length l.records ≤ 262144;
  reads : with_front l.records (records_from l.form (262144 - length l.records) l.clock l.place l.rest) ≡ records_from l.form 262144 start_clock 24 l.bytes;
}

abbrev pub decreases-loop-rest : goal.decreases-loop-rest
decreases-loop-rest l = length l.rest
