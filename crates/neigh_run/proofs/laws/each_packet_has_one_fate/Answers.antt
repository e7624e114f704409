use Rattle.neigh_run.proofs.PacketFates.{one_fate_for_each}
use Rattle.neigh_run.proofs.FateCounts.{inline_counted}
use Rattle.neigh_run.proofs.laws.each_packet_has_one_fate.Goals as goal

pub returns-clause-one : goal.returns-clause-one
returns-clause-one c = one_fate_for_each

pub returns-clause-counted : goal.returns-clause-counted
returns-clause-counted c = inline_counted
