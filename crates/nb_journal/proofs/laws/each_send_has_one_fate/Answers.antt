use Rattle.nb_journal.proofs.Fates.{one_fate_each}
use Rattle.nb_journal.proofs.laws.each_send_has_one_fate.Goals as goal

pub returns : goal.returns
returns c = one_fate_each
