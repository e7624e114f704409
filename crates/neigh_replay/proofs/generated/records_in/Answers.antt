use Rattle.std.proofs.Common.{rules, arith}
use Rattle.pcap_records.specs.Capture.{IsCapture, IsRefusal}
use Rattle.neigh_replay.proofs.GeneratedPlans.{never_refused, read_frames}
use Rattle.neigh_replay.proofs.generated.records_in.Goals as goal

pub unreachable-requires : goal.unreachable-requires
unreachable-requires c =
    let refusal : IsRefusal c.args.bytes.now c.in-Err.field-0 = search rules in
    never_refused c.args.bytes.now c.requires.0 c.in-Err.field-0 (λ i. omega (arith, c.type_inv.bytes i)) c.requires.1 refusal

pub returns-in-Ok-clause-held : goal.returns-in-Ok-clause-held
returns-in-Ok-clause-held c =
    let found : IsCapture c.args.bytes.now c.in-Ok.records = search rules in
    read_frames c.args.bytes.now c.in-Ok.records (λ i. omega (arith, c.type_inv.bytes i)) found
