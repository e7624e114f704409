use Rattle.nb_journal.proofs.Stepped.{orderly_stepped}
use Rattle.nb_journal.proofs.laws.orderly_journals_are_stepped.Goals as goal

pub returns : goal.returns
returns c = orderly_stepped
