use Rattle.nb_journal.proofs.Promises.{cut_in_two}
use Rattle.nb_journal.proofs.laws.sweeps_cut_in_two.Goals as goal

pub returns : goal.returns
returns c = cut_in_two
