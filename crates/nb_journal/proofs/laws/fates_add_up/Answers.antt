use Rattle.nb_journal.proofs.FatesTotal.{fates_sum}
use Rattle.nb_journal.proofs.laws.fates_add_up.Goals as goal

pub returns : goal.returns
returns c = fates_sum
