use Rattle.nb_journal.proofs.Bound.{lawful_in_bound, broken_off_in_bound}
use Rattle.nb_journal.proofs.laws.journals_stay_in_bound.Goals as goal

pub returns-clause-lawful : goal.returns-clause-lawful
returns-clause-lawful c = lawful_in_bound

pub returns-clause-broken_off : goal.returns-clause-broken_off
returns-clause-broken_off c = broken_off_in_bound
