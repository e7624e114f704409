use Rattle.nb_journal.proofs.Promises.{publish_states}
use Rattle.nb_journal.proofs.laws.cells_publish_states.Goals as goal

pub returns : goal.returns
returns c = publish_states
