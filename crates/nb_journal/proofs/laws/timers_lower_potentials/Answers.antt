use Rattle.nb_journal.proofs.Potential.{potential-most}
use Rattle.nb_journal.proofs.Promises.{timers_lower}
use Rattle.nb_journal.proofs.laws.timers_lower_potentials.Goals as goal

pub returns-clause-lower : goal.returns-clause-lower
returns-clause-lower c = timers_lower

pub returns-clause-small : goal.returns-clause-small
returns-clause-small c = potential-most
