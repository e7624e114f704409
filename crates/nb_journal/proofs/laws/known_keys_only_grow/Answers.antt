use Rattle.nb_journal.proofs.Grows.{known_keys-grow, rank_of-stays}
use Rattle.nb_journal.proofs.laws.known_keys_only_grow.Goals as goal

pub returns-clause-grow : goal.returns-clause-grow
returns-clause-grow c = known_keys-grow

pub returns-clause-stay : goal.returns-clause-stay
returns-clause-stay c = rank_of-stays
