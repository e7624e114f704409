use Rattle.std.proofs.Common.{sym}
use Rattle.nb_journal.proofs.Folds.{known_keys-snoc}
use Rattle.journal_fold.proofs.known.make_known.Goals as goal

pub returns-in-Some-clause-keys : goal.returns-in-Some-clause-keys
returns-in-Some-clause-keys c = rw (known_keys-snoc c.args.past.now c.args.line.now, sym c.made_known.ensures, c.in-Some.is, ← c.requires.keys) c.add_key.ensures.keys

pub returns-in-None-clause-keys : goal.returns-in-None-clause-keys
returns-in-None-clause-keys c = rw (known_keys-snoc c.args.past.now c.args.line.now, sym c.made_known.ensures, c.in-None.is) c.requires.keys
