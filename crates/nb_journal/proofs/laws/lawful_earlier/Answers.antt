use Rattle.nb_journal.proofs.Appends.{lawful-lesser}
use Rattle.nb_journal.proofs.laws.lawful_earlier.Goals as goal

pub returns : goal.returns
returns c = lawful-lesser
