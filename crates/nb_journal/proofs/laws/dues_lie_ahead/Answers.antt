use Rattle.nb_journal.proofs.Promises.{dues_ahead}
use Rattle.nb_journal.proofs.laws.dues_lie_ahead.Goals as goal

pub returns : goal.returns
returns c = dues_ahead
