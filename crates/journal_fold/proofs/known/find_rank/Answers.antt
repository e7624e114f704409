use Rattle.std.proofs.Common.{◌∙◌}
use Rattle.journal_fold.proofs.Equal.{has_equal, rank_found}
use Rattle.journal_fold.proofs.known.find_rank.Goals as goal

pub returns-clause-there : goal.returns-clause-there
returns-clause-there c = rank_found c.args.keys.now.keys c.args.key.now c.get_index_of.result c.get_index_of.ensures.index

pub returns-clause-known : goal.returns-clause-known
returns-clause-known c = c.get_index_of.ensures.found ∙ has_equal c.args.keys.now.keys c.args.key.now
