use Rattle.nb_journal.proofs.Appends.{lawful-nil}
use Rattle.nb_journal.proofs.Passes.{goes_on}
use Rattle.nb_journal.proofs.laws.lawful_goes_on.Goals as goal

pub returns-clause-empty : goal.returns-clause-empty
returns-clause-empty c = lawful-nil

pub returns-clause-operation : goal.returns-clause-operation
returns-clause-operation c = goes_on
