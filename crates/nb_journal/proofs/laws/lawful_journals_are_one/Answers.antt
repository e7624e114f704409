use Rattle.nb_journal.proofs.Unique.{lawful_are_one}
use Rattle.nb_journal.proofs.laws.lawful_journals_are_one.Goals as goal

pub returns : goal.returns
returns c = lawful_are_one
